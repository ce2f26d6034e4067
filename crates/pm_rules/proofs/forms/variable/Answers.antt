use Rattle.pm_linform.proofs.Bounds.{zero_room}
use Rattle.pm_rules.proofs.Terms.{var_is}
use Rattle.pm_rules.proofs.forms.variable.Goals as goal

pub add_var-requires-clause-room : goal.add_var-requires-clause-room
add_var-requires-clause-room c = zero_room c.zero-form.result c.zero-form.ensures

pub returns : goal.returns
returns c = var_is c.args.i c.zero-form.result c.add_var.new.self c.zero-form.ensures c.add_var.ensures
