use Rattle.std.proofs.Common.{refl, ◌≡◌}
use Rattle.pm_logic.specs.declared.formula.Formula.TheVariants as formula
use Rattle.pm_logic.specs.declared.formula.Formula.TheViews as view
use Rattle.pm_logic.specs.declared.formula.Pure.TheVariants as pure
use Rattle.pm_logic.specs.Substitution.{opened_of}
use Rattle.pm_schemes.proofs.Showing.{rewritten}
use Rattle.pm_schemes.proofs.facts.rewrite.Goals as goal

pub returns : goal.returns
returns c =
    let left : c.in_ok-left.left ≡ view.And (formula.Pure (pure.Eq c.args.s.now c.args.t.now)) (opened_of c.args.template.now c.args.s.now) = rw (c.in_ok-left.ensures, c.in_ok-opened.ensures, c.in_ok-copy_term.ensures, c.in_ok-copy_term-2.ensures) refl in
    rewritten c.args.vars c.args.template.now c.in_ok-template.template c.in_ok-left.left c.in_ok-right.right c.args.s.now c.args.t.now c.in_ok-proof.proof c.requires.levels c.in_ok-template.ensures left c.in_ok-right.ensures c.in_ok-proof.ensures.tree
