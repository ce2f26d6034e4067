-- Entailment itself, the propositional connectives and the quantifiers.
use Rattle.std.proofs.Common.{◌≡◌, ℕ, suc, ◌≤◌, List, [], ◌∷◌, ℤ, length, ⊎_elim, inl, inr, refl, ap, ◌∙◌, le_refl}
use Rattle.pm_logic.specs.declared.formula.Formula.{Formula}
use Rattle.pm_logic.specs.declared.formula.Formula.TheVariants.{Pure as Fact}
use Rattle.pm_logic.specs.declared.formula.Preds.{Preds}
use Rattle.pm_logic.specs.declared.formula.Pure.TheVariants.{True, False}
use Rattle.pm_logic.specs.declared.formula.Term.{Term}
use Rattle.pm_logic.specs.Trees.{And, Or, Imp, All, Ex}
use Rattle.pm_logic.specs.Substitution.{subst_of, shift_of, opened_of}
use Rattle.pm_logic.specs.Values.{eval, evals}
use Rattle.pm_model.specs.Resource.{Res, Extends}
use Rattle.pm_model.specs.Forcing.{Forces, bodies}
use Rattle.pm_model.specs.Entailment.{IsTrueEntailment}
use Rattle.pm_model.proofs.Joins.{extends_refl}
use Rattle.pm_model.proofs.Steps.{forced_monotone}
use Rattle.pm_model.proofs.Agree.{bodies_monotone}
use Rattle.pm_model.proofs.Values.{forced_subst, forced_shift, forced_opened}

-- what is forced is forced at each smaller step by each larger resource
pub grown : (preds : Preds) (x : Formula) (env : List ℤ) (n m b : ℕ) (r s : Res) → m ≤ n → Extends r s → Forces preds env n b r x → Forces preds env m b s x
grown preds x env n m b r s le e h = forced_monotone (bodies preds.list) (length preds.list) (bodies_monotone preds.list) x env n m b r s le e h

pub refl_true : (preds : Preds) (k : ℕ) (x : Formula) → IsTrueEntailment preds k x x
refl_true preds k x = record { holds = λ env len n r h. h }

pub trans_true : (preds : Preds) (k : ℕ) (x y z : Formula) → IsTrueEntailment preds k x y → IsTrueEntailment preds k y z → IsTrueEntailment preds k x z
trans_true preds k x y z f g = record { holds = λ env len n r h. g.holds env len n r (f.holds env len n r h) }

length_evals : (env : List ℤ) (sigma : List Term) → length (evals env sigma) ≡ length sigma
length_evals env [] = refl
length_evals env (t ∷ sigma) = ap suc (length_evals env sigma)

pub inst_true : (preds : Preds) (k m : ℕ) (sigma : List Term) (x y : Formula) → length sigma ≡ m → IsTrueEntailment preds m x y → IsTrueEntailment preds k (subst_of x sigma) (subst_of y sigma)
inst_true preds k m sigma x y e f = record {
  holds = λ env len n r h.
      let b = bodies preds.list in
      let all = length preds.list in
      let a = f.holds (evals env sigma) (length_evals env sigma ∙ e) n r ((forced_subst b all x sigma env n all r).0 h) in
      (forced_subst b all y sigma env n all r).1 a;
}

pub true_true : (preds : Preds) (k : ℕ) (x : Formula) → IsTrueEntailment preds k x (Fact True)
true_true preds k x = record { holds = λ env len n r h. tt }

pub false_true : (preds : Preds) (k : ℕ) (x : Formula) → IsTrueEntailment preds k (Fact False) x
false_true preds k x = record { holds = λ env len n r h. absurd h }

pub and_l_true : (preds : Preds) (k : ℕ) (x y : Formula) → IsTrueEntailment preds k (And x y) x
and_l_true preds k x y = record { holds = λ env len n r h. h.0 }

pub and_r_true : (preds : Preds) (k : ℕ) (x y : Formula) → IsTrueEntailment preds k (And x y) y
and_r_true preds k x y = record { holds = λ env len n r h. h.1 }

pub and_i_true : (preds : Preds) (k : ℕ) (x y z : Formula) → IsTrueEntailment preds k x y → IsTrueEntailment preds k x z → IsTrueEntailment preds k x (And y z)
and_i_true preds k x y z f g = record { holds = λ env len n r h. (f.holds env len n r h, g.holds env len n r h) }

pub or_l_true : (preds : Preds) (k : ℕ) (x y : Formula) → IsTrueEntailment preds k x (Or x y)
or_l_true preds k x y = record { holds = λ env len n r h. inl h }

pub or_r_true : (preds : Preds) (k : ℕ) (x y : Formula) → IsTrueEntailment preds k y (Or x y)
or_r_true preds k x y = record { holds = λ env len n r h. inr h }

pub or_e_true : (preds : Preds) (k : ℕ) (x y z : Formula) → IsTrueEntailment preds k x z → IsTrueEntailment preds k y z → IsTrueEntailment preds k (Or x y) z
or_e_true preds k x y z f g = record { holds = λ env len n r h. ⊎_elim (λ a. f.holds env len n r a) (λ a. g.holds env len n r a) h }

pub imp_i_true : (preds : Preds) (k : ℕ) (x y z : Formula) → IsTrueEntailment preds k (And x y) z → IsTrueEntailment preds k x (Imp y z)
imp_i_true preds k x y z f = record {
  holds = λ env len n r h m le s e hy.
      f.holds env len m s (grown preds x env n m (length preds.list) r s le e h, hy);
}

pub imp_e_true : (preds : Preds) (k : ℕ) (x y z : Formula) → IsTrueEntailment preds k x (Imp y z) → IsTrueEntailment preds k (And x y) z
imp_e_true preds k x y z f = record { holds = λ env len n r h. f.holds env len n r h.0 n (le_refl n) r (extends_refl r) h.1 }

pub all_i_true : (preds : Preds) (k : ℕ) (x y : Formula) → IsTrueEntailment preds (suc k) (shift_of x) y → IsTrueEntailment preds k x (All y)
all_i_true preds k x y f = record {
  holds = λ env len n r h z.
      f.holds (z ∷ env) (ap suc len) n r ((forced_shift (bodies preds.list) (length preds.list) x z env n (length preds.list) r).1 h);
}

pub all_e_true : (preds : Preds) (k : ℕ) (x : Formula) (t : Term) → IsTrueEntailment preds k (All x) (opened_of x t)
all_e_true preds k x t = record {
  holds = λ env len n r h. (forced_opened (bodies preds.list) (length preds.list) x t env n (length preds.list) r).1 (h (eval env t));
}

pub ex_i_true : (preds : Preds) (k : ℕ) (x : Formula) (t : Term) → IsTrueEntailment preds k (opened_of x t) (Ex x)
ex_i_true preds k x t = record {
  holds = λ env len n r h. (eval env t, (forced_opened (bodies preds.list) (length preds.list) x t env n (length preds.list) r).0 h);
}

pub ex_e_true : (preds : Preds) (k : ℕ) (x y : Formula) → IsTrueEntailment preds (suc k) x (shift_of y) → IsTrueEntailment preds k (Ex x) y
ex_e_true preds k x y f = record {
  holds = λ env len n r h.
      let (z, hx) = h in
      (forced_shift (bodies preds.list) (length preds.list) y z env n (length preds.list) r).0 (f.holds (z ∷ env) (ap suc len) n r hx);
}
