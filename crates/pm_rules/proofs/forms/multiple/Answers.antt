use Rattle.pm_linform.proofs.Bounds.{zero_room}
use Rattle.pm_rules.proofs.forms.multiple.Goals as goal

pub sum-requires-clause-first : goal.sum-requires-clause-first
sum-requires-clause-first c = zero_room c.zero.result c.zero.ensures
