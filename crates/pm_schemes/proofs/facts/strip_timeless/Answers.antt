use Rattle.std.proofs.Common.{refl, ◌≡◌}
use Rattle.pm_logic.specs.declared.formula.Formula.TheVariants as formula
use Rattle.pm_logic.specs.declared.formula.Formula.TheViews as view
use Rattle.pm_logic.specs.declared.formula.Pure.TheVariants as pure
use Rattle.pm_rules.specs.declared.rules.Rule.TheVariants.{Timeless}
use Rattle.pm_proof.specs.Trees.{Axiom, entail}
use Rattle.pm_schemes.proofs.Showing.{timeless}
use Rattle.pm_schemes.proofs.facts.strip_timeless.Goals as goal

pub returns : goal.returns
returns c =
    let is : c.in_ok-proof.proof ≡ Axiom Timeless (entail c.args.vars (view.Later c.args.p.now) (view.Or (view.Later (formula.Pure pure.False)) c.args.p.now)) = rw (c.in_ok-proof.ensures.tree, c.in_ok-left.ensures, c.in_ok-right.ensures, c.in_ok-never.ensures, c.in_ok-copy.ensures, c.in_ok-copy-2.ensures) refl in
    timeless c.args.vars c.args.p.now c.in_ok-proof.proof c.requires is
