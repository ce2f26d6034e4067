use Rattle.std.proofs.Common.{◌∙◌}
use Rattle.pm_basic.proofs.Placed.{others_found, others_all}
use Rattle.pm_basic.proofs.generalizing.names_but.Goals as goal

pub returns-in_default : goal.returns-in_default
returns-in_default c = c.in_ok-copied.ensures ∙ others_all c.args.name.now c.args.vars.now c.in_default.ensures.place

pub returns : goal.returns
returns c = others_found c.args.name.now c.args.vars.now c.in_ok-names.names c.in-Some.place c.in-Some.ensures.place c.in_ok-names.ensures
