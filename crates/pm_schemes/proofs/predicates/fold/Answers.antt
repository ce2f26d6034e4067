use Rattle.std.proofs.Common.{rules, ◌≡◌}
use Rattle.pm_logic.specs.declared.formula.Formula.TheVariants as formula
use Rattle.pm_logic.specs.Scope.{body_of}
use Rattle.pm_logic.specs.Substitution.{subst_of}
use Rattle.pm_rules.specs.declared.rules.Rule.TheVariants.{Fold}
use Rattle.pm_proof.specs.Trees.{Axiom, entail}
use Rattle.pm_schemes.proofs.Bodies.{folded}
use Rattle.pm_schemes.proofs.predicates.fold.Goals as goal

pub returns : goal.returns
returns c =
    let is : c.in_ok-proof.proof ≡ Axiom Fold (entail c.args.vars (subst_of (body_of c.args.preds.now.list c.args.pred) c.args.args) (formula.Call c.args.pred c.args.args)) = rw (c.in_ok-proof.ensures.tree, c.in_ok-left.ensures) (search rules) in
    folded c.args.vars c.args.preds.now c.args.pred c.args.args c.in_ok-proof.proof c.requires.there is
