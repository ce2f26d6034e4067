use Rattle.std.proofs.Common.{rules, ◌≡◌}
use Rattle.pm_logic.specs.declared.formula.Formula.TheViews as view
use Rattle.pm_star.proofs.Leveling.{both_done}
use Rattle.pm_star.proofs.levels.to_both.Goals as goal

pub returns : goal.returns
returns c =
    let left : c.in_ok-left.left ≡ view.Sep c.args.x.now c.args.halves.left = search rules in
    let right : c.in_ok-right.right ≡ view.Sep c.args.x.now c.args.halves.right = search rules in
    both_done c.args.vars c.args.x.now c.args.halves c.conclusion.result.now c.in_ok-step.step c.fill-proof.result c.in_ok-left.left c.in_ok-right.right c.conclusion.ensures c.requires.halved left right c.in_ok-step.ensures c.fill-proof.ensures.extends
