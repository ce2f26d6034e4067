use Rattle.pm_classes.proofs.Combined.{apart_done}
use Rattle.std.proofs.Common.{rules, ◌≡◌}
use Rattle.pm_logic.specs.declared.formula.Formula.TheViews as view
use Rattle.pm_classes.proofs.combining.apart.Goals as goal

pub returns : goal.returns
returns c = let is : c.in_ok-formula.formula ≡ view.Sep c.args.a.now c.args.b.now = search rules in apart_done c.args.vars c.args.a.now c.args.b.now c.in_ok-formula.formula c.in_ok-proof.proof is c.in_ok-proof.ensures
