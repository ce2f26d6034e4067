-- Scope after substitution, shift, opening and abstraction, and shift and opening as substitutions.
use Rattle.std.specs.Prelude.{◌≡◌, ℕ, zero, suc, List, [], ◌∷◌, length}
use Rattle.pm_logic.specs.declared.formula.Term.{Term}
use Rattle.pm_logic.specs.declared.formula.Term.TheVariants.{Var}
use Rattle.pm_logic.specs.declared.formula.Formula.{Formula}
use Rattle.pm_logic.specs.declared.formula.Pred.{Pred}
use Rattle.pm_logic.specs.Scope.{TermScoped, TermsScoped, ScopedIn, CallsFit}
use Rattle.pm_logic.specs.Substitution.{subst_of, shift_of, opened_of}
use Rattle.pm_logic.specs.Abstraction.{abstract_of}

-- the k variables from index i on
abbrev pub vars_from : ℕ → ℕ → List Term
vars_from i zero = []
vars_from i (suc k) = Var i ∷ vars_from (suc i) k

-- What is given of scoped formulas and terms is scoped, and calls that fit the table still do.
pub record ScopeIsKept : Type 0 where
  pub subst_scoped : (k : ℕ) (f : Formula) (sigma : List Term) → ScopedIn (length sigma) f → TermsScoped k sigma → ScopedIn k (subst_of f sigma)
  pub shift_scoped : (k : ℕ) (f : Formula) → ScopedIn k f → ScopedIn (suc k) (shift_of f)
  pub opened_scoped : (k : ℕ) (body : Formula) (t : Term) → ScopedIn (suc k) body → TermScoped k t → ScopedIn k (opened_of body t)
  pub abstract_scoped : (k : ℕ) (f : Formula) (s : Term) → ScopedIn k f → ScopedIn (suc k) (abstract_of f s)
  pub subst_fits : (preds : List Pred) (f : Formula) (sigma : List Term) → CallsFit preds f → CallsFit preds (subst_of f sigma)
  pub shift_fits : (preds : List Pred) (f : Formula) → CallsFit preds f → CallsFit preds (shift_of f)
  pub opened_fits : (preds : List Pred) (body : Formula) (t : Term) → CallsFit preds body → CallsFit preds (opened_of body t)
  pub abstract_fits : (preds : List Pred) (f : Formula) (s : Term) → CallsFit preds f → CallsFit preds (abstract_of f s)

-- Shift is the substitution of the variables from index 1 on, and opening that of the term and the variables from index 0 on.
pub record AreSubstitutions : Type 0 where
  pub shift : (k : ℕ) (f : Formula) → ScopedIn k f → shift_of f ≡ subst_of f (vars_from 1 k)
  pub opening : (k : ℕ) (body : Formula) (t : Term) → ScopedIn (suc k) body → opened_of body t ≡ subst_of body (t ∷ vars_from 0 k)
