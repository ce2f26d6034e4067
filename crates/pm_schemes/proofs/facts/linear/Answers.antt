use Rattle.std.proofs.Common.{rules, ◌≡◌}
use Rattle.pm_logic.specs.declared.formula.Formula.TheVariants as formula
use Rattle.pm_rules.specs.declared.rules.Rule.TheVariants.{Linear}
use Rattle.pm_proof.specs.Trees.{Axiom, entail}
use Rattle.pm_schemes.proofs.Showing.{shown}
use Rattle.pm_schemes.proofs.facts.linear.Goals as goal

pub returns : goal.returns
returns c =
    let is : c.in_ok-proof.proof ≡ Axiom (Linear c.args.first c.args.second) (entail c.args.vars (formula.Pure c.args.facts.now) (formula.Pure c.args.goal.now)) = rw (c.in_ok-proof.ensures.tree, c.in_ok-copy_pure.ensures, c.in_ok-copy_pure-2.ensures) (search rules) in
    shown c.args.vars c.args.first c.args.second c.args.facts.now c.args.goal.now c.in_ok-proof.proof c.requires.facts c.requires.few c.requires.shown is
