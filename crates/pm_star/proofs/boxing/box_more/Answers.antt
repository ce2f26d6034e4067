use Rattle.std.proofs.Common.{rules, ◌≡◌}
use Rattle.pm_logic.specs.declared.formula.Formula.TheViews as view
use Rattle.pm_star.proofs.UnderBox.{more_done}
use Rattle.pm_star.proofs.boxing.box_more.Goals as goal

pub returns : goal.returns
returns c =
    let made : c.in_ok-part.part ≡ view.Sep c.args.x.now c.args.inner.part = search rules in
    more_done c.args.vars c.args.x.now c.args.inner c.conclusion.result.now c.in_ok-step.step c.fill-proof.result c.in_ok-part.part c.conclusion.ensures c.requires.boxed made c.in_ok-step.ensures c.fill-proof.ensures.extends
