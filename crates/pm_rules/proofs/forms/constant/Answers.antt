use Rattle.pm_linform.proofs.Bounds.{zero_room}
use Rattle.pm_rules.proofs.Terms.{lit_is, seen_constant}
use Rattle.pm_rules.proofs.forms.constant.Goals as goal

pub shifted-requires : goal.shifted-requires
shifted-requires c = zero_room c.zero.result c.zero.ensures

pub returns : goal.returns
returns c = lit_is c.args.z c.zero.result c.shifted.result c.zero.ensures (seen_constant c.args.z c.zero.result c.shifted.result c.ranges.z c.shifted.ensures)
