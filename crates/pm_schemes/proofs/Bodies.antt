-- The rules of predicates are met, also where the table has more at its end.
use Rattle.std.proofs.Common.{ℕ, zero, suc, ◌<◌, ◌≡◌, List, [], ◌∷◌, ◌++◌, length, refl, sym, ap, ◌∙◌, arith, length-append, ◌+◌}
use Rattle.pm_logic.specs.declared.formula.Term.{Term}
use Rattle.pm_logic.specs.declared.formula.Formula.TheVariants.{Call}
use Rattle.pm_logic.specs.declared.formula.Pred.{Pred}
use Rattle.pm_logic.specs.declared.formula.Preds.{Preds}
use Rattle.pm_logic.specs.Scope.{body_of}
use Rattle.pm_logic.specs.Substitution.{subst_of}
use Rattle.pm_rules.specs.declared.rules.Rule.TheVariants.{Fold, Unfold}
use Rattle.pm_rules.specs.Rules.{RuleOk}
use Rattle.pm_rules.specs.Rows.{HasArguments, HasBracket}
use Rattle.pm_rules.specs.Equations.{IsFold}
use Rattle.pm_proof.specs.Trees.{Tree, Axiom, entail, side_depth}
use Rattle.pm_proof.specs.Valid.{ArgumentsFit}
use Rattle.pm_proof.specs.Known.{From, IsAmong, Proves}
use Rattle.pm_schemes.proofs.Leaves.{leaf}

body_kept : (xs ys : List Pred) (p : ℕ) → p < length xs → body_of (xs ++ ys) p ≡ body_of xs p
body_kept [] ys p h = absurd (omega arith)
body_kept (x ∷ xs) ys zero h = refl
body_kept (x ∷ xs) ys (suc p) h = body_kept xs ys p (omega arith)

folds : (base preds : Preds) (p : ℕ) (args : List Term) → p < length base.list → IsAmong (From base) preds → IsFold preds (subst_of (body_of base.list p) args) (Call p args)
folds base preds p args there among =
    let n : length preds.list ≡ length base.list + length among.0 = ap length among.1 ∙ length-append base.list among.0 in
    record {
      p = p;
      there = omega (arith, n);
      args = args;
      body_is = ap (λ f. subst_of f args) (sym (ap (λ l. body_of l p) among.1 ∙ body_kept base.list among.0 p there));
      call_is = refl;
    }

fold_ok : (base preds : Preds) (k p : ℕ) (args : List Term) → p < length base.list → IsAmong (From base) preds → RuleOk preds Fold [] (entail k (subst_of (body_of base.list p) args) (Call p args))
unfolding HasArguments HasBracket
fold_ok base preds k p args there among = record { premises = refl; variables = tt; arguments = tt; shape = folds base preds p args there among; bracket = tt }

pub folded : (k : ℕ) (base : Preds) (p : ℕ) (args : List Term) (t : Tree) → p < length base.list → t ≡ Axiom Fold (entail k (subst_of (body_of base.list p) args) (Call p args)) → Proves (From base) (entail k (subst_of (body_of base.list p) args) (Call p args)) [] 1 (side_depth (entail k (subst_of (body_of base.list p) args) (Call p args))) k t
unfolding ArgumentsFit
folded k base p args t there is = leaf (From base) Fold (entail k (subst_of (body_of base.list p) args) (Call p args)) t is (λ preds among. fold_ok base preds k p args there among) (λ preds s. tt)

unfold_ok : (base preds : Preds) (k p : ℕ) (args : List Term) → p < length base.list → IsAmong (From base) preds → RuleOk preds Unfold [] (entail k (Call p args) (subst_of (body_of base.list p) args))
unfolding HasArguments HasBracket
unfold_ok base preds k p args there among = record { premises = refl; variables = tt; arguments = tt; shape = folds base preds p args there among; bracket = tt }

pub unfolded : (k : ℕ) (base : Preds) (p : ℕ) (args : List Term) (t : Tree) → p < length base.list → t ≡ Axiom Unfold (entail k (Call p args) (subst_of (body_of base.list p) args)) → Proves (From base) (entail k (Call p args) (subst_of (body_of base.list p) args)) [] 1 (side_depth (entail k (Call p args) (subst_of (body_of base.list p) args))) k t
unfolding ArgumentsFit
unfolded k base p args t there is = leaf (From base) Unfold (entail k (Call p args) (subst_of (body_of base.list p) args)) t is (λ preds among. unfold_ok base preds k p args there among) (λ preds s. tt)
