use Rattle.std.proofs.Common.{rules, ◌≡◌}
use Rattle.pm_logic.specs.declared.formula.Formula.TheViews as view
use Rattle.pm_star.proofs.Leveling.{right_done}
use Rattle.pm_star.proofs.levels.to_right.Goals as goal

pub returns : goal.returns
returns c =
    let is : c.in_ok-right.right ≡ view.Sep c.args.x.now c.args.halves.right = search rules in
    right_done c.args.vars c.args.x.now c.args.halves c.conclusion.result.now c.in_ok-step.step c.fill-proof.result c.in_ok-right.right c.conclusion.ensures c.requires is c.in_ok-step.ensures c.fill-proof.ensures.extends
