-- Pure formulas.
use Rattle.std.proofs.Common.{◌⊎◌, ⊎_elim, ◌≤ℤ◌, ◌<ℤ◌, arith, ℕ, List, ◌∷◌, ℤ, length, inl, inr, subst}
use Rattle.std.proofs.lemmas.Int.{ints, by_lt_z}
use lib.IntN.{ℤ_discrete}
use Rattle.pm_logic.specs.declared.formula.Formula.{Formula}
use Rattle.pm_logic.specs.declared.formula.Formula.TheVariants.{Pure as Fact}
use Rattle.pm_logic.specs.declared.formula.Preds.{Preds}
use Rattle.pm_logic.specs.declared.formula.Pure.{Pure}
use Rattle.pm_logic.specs.declared.formula.Pure.TheVariants.{True, False, Eq, Le, Lt}
use Rattle.pm_logic.specs.declared.formula.Term.{Term}
use Rattle.pm_logic.specs.Trees.{And, Or, both, either, nope}
use Rattle.pm_logic.specs.Substitution.{opened_of}
use Rattle.pm_logic.specs.Values.{eval, Holds}
use Rattle.pm_model.specs.Forcing.{Forced, bodies}
use Rattle.pm_model.specs.Entailment.{IsTrueEntailment}
use Rattle.pm_model.proofs.Values.{forced_opened}

decided : {A : Type 0} → Dec A → A ⊎ ¬ A
decided (yes a) = inl a
decided (no n) = inr n

not_lt : (x y : ℤ) → y ≤ℤ x → ¬ (x <ℤ y)
not_lt x y h k = omega (arith, ints)

not_le : (x y : ℤ) → y <ℤ x → ¬ (x ≤ℤ y)
not_le x y h k = omega (arith, ints)

-- a pure formula holds or doesn't
pub decide : (env : List ℤ) (a : Pure) → Holds env a ⊎ ¬ Holds env a
decide env True = inl tt
decide env False = inr (λ h. h)
decide env (Eq s t) = decided (ℤ_discrete (eval env s) (eval env t))
decide env (Lt s t) = by_lt_z (eval env s) (eval env t) (λ h. inl h) (λ h. inr (not_lt (eval env s) (eval env t) h))
decide env (Le s t) = by_lt_z (eval env t) (eval env s) (λ h. inr (not_le (eval env s) (eval env t) h)) (λ h. inl h)
decide env (both a b) = ⊎_elim (λ p. ⊎_elim (λ q. inl (p, q)) (λ q. inr (λ h. q h.1)) (decide env b)) (λ p. inr (λ h. p h.0)) (decide env a)
decide env (either a b) = ⊎_elim (λ p. inl (inl p)) (λ p. ⊎_elim (λ q. inl (inr q)) (λ q. inr (λ h. ⊎_elim p q h)) (decide env b)) (decide env a)
decide env (nope a) = ⊎_elim (λ p. inr (λ h. h p)) (λ p. inl p) (decide env a)

pub pure_and_true : (preds : Preds) (k : ℕ) (a b : Pure) → IsTrueEntailment preds k (Fact (both a b)) (And (Fact a) (Fact b))
pure_and_true preds k a b = record { holds = λ env len n r h. h }

pub and_pure_true : (preds : Preds) (k : ℕ) (a b : Pure) → IsTrueEntailment preds k (And (Fact a) (Fact b)) (Fact (both a b))
and_pure_true preds k a b = record { holds = λ env len n r h. h }

pub pure_or_true : (preds : Preds) (k : ℕ) (a b : Pure) → IsTrueEntailment preds k (Fact (either a b)) (Or (Fact a) (Fact b))
pure_or_true preds k a b = record { holds = λ env len n r h. h }

pub or_pure_true : (preds : Preds) (k : ℕ) (a b : Pure) → IsTrueEntailment preds k (Or (Fact a) (Fact b)) (Fact (either a b))
or_pure_true preds k a b = record { holds = λ env len n r h. h }

pub not_true : (preds : Preds) (k : ℕ) (a : Pure) → IsTrueEntailment preds k (And (Fact a) (Fact (nope a))) (Fact False)
not_true preds k a = record { holds = λ env len n r h. h.1 h.0 }

pub em_true : (preds : Preds) (k : ℕ) (x : Formula) (a : Pure) → IsTrueEntailment preds k x (Or (Fact a) (Fact (nope a)))
em_true preds k x a = record { holds = λ env len n r h. decide env a }

pub rewrite_true : (preds : Preds) (k : ℕ) (x : Formula) (s t : Term) → IsTrueEntailment preds k (And (Fact (Eq s t)) (opened_of x s)) (opened_of x t)
rewrite_true preds k x s t = record {
  holds = λ env len n r h.
      let b = bodies preds.list in
      let all = length preds.list in
      let a = (forced_opened b all x s env n all r).0 h.1 in
      (forced_opened b all x t env n all r).1 (subst (λ z. Forced b all x (z ∷ env) n all r) h.0 a);
}
