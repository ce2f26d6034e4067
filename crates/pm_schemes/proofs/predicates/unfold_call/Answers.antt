use Rattle.std.proofs.Common.{rules, ◌≡◌}
use Rattle.pm_logic.specs.declared.formula.Formula.TheVariants as formula
use Rattle.pm_logic.specs.Scope.{body_of}
use Rattle.pm_logic.specs.Substitution.{subst_of}
use Rattle.pm_rules.specs.declared.rules.Rule.TheVariants.{Unfold}
use Rattle.pm_proof.specs.Trees.{Axiom, entail}
use Rattle.pm_schemes.proofs.Bodies.{unfolded}
use Rattle.pm_schemes.proofs.predicates.unfold_call.Goals as goal

pub returns : goal.returns
returns c =
    let is : c.in_ok-proof.proof ≡ Axiom Unfold (entail c.args.vars (formula.Call c.args.pred c.args.args) (subst_of (body_of c.args.preds.now.list c.args.pred) c.args.args)) = rw (c.in_ok-proof.ensures.tree, c.in_ok-right.ensures) (search rules) in
    unfolded c.args.vars c.args.preds.now c.args.pred c.args.args c.in_ok-proof.proof c.requires.there is
