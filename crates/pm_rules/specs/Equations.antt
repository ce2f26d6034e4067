-- The relations of the rows whose formulas are computed, by the names of the rules: letters, and the sides as equations.
use Rattle.std.specs.Prelude.{◌≡◌, ℕ, ◌+◌, ◌<◌, List, [], ◌∷◌, length}
use Rattle.pm_logic.specs.declared.formula.Term.{Term}
use Rattle.pm_logic.specs.declared.formula.Term.TheVariants.{Var}
use Rattle.pm_logic.specs.declared.formula.Pure.{Pure}
use Rattle.pm_logic.specs.declared.formula.Pure.TheViews as pure_view
use Rattle.pm_logic.specs.declared.formula.Pure.TheVariants.{True, False, Eq}
use Rattle.pm_logic.specs.declared.formula.Formula.{Formula}
use Rattle.pm_logic.specs.declared.formula.Formula.TheViews as view
use Rattle.pm_logic.specs.declared.formula.Formula.TheVariants.{Pure as Fact, Pts, Call}
use Rattle.pm_logic.specs.declared.formula.Preds.{Preds}
use Rattle.pm_logic.specs.declared.formula.TheConstants.{UNIT}
use Rattle.pm_logic.specs.Classes.{IsTimeless}
use Rattle.pm_logic.specs.Scope.{body_of}
use Rattle.pm_logic.specs.Substitution.{raised, subst_of, shift_of, opened_of}

-- P ⊢ Q / P[σ] ⊢ Q[σ]
pub record IsInst (sigma : List Term) (left1 right1 left right : Formula) : Type 0 where
  pub left_is : left ≡ subst_of left1 sigma
  pub right_is : right ≡ subst_of right1 sigma

-- ∀ B ⊢ B[t]
pub record IsAllE (t : Term) (left right : Formula) : Type 0 where
  pub b : Formula
  pub left_is : left ≡ view.All b
  pub right_is : right ≡ opened_of b t

-- B[t] ⊢ ∃ B
pub record IsExI (t : Term) (left right : Formula) : Type 0 where
  pub b : Formula
  pub left_is : left ≡ opened_of b t
  pub right_is : right ≡ view.Ex b

-- f1 ∧ (f2 ∧ … ∧ True)
abbrev pub all_of : List Pure → Pure
all_of [] = True
all_of (f ∷ fs) = pure_view.And f (all_of fs)

unfoldable pub IsFacts : Pure → Type 0
IsFacts p = (fs : List Pure) × (p ≡ all_of fs)

-- ⌜f1 ∧ (f2 ∧ … ∧ True)⌝ ⊢ ⌜g⌝
pub record IsLinear (left right : Formula) : Type 0 where
  pub p : Pure
  pub g : Pure
  pub facts : IsFacts p
  pub left_is : left ≡ Fact p
  pub right_is : right ≡ Fact g

-- ⌜s = t⌝ ∧ B[s] ⊢ B[t]
pub record IsRewrite (b left right : Formula) : Type 0 where
  pub s : Term
  pub t : Term
  pub left_is : left ≡ view.And (Fact (Eq s t)) (opened_of b s)
  pub right_is : right ≡ opened_of b t

-- l↦{a+b}v ⊢ l↦{a}v ∗ l↦{b}v
pub record IsPtsSplit (whole parts : Formula) : Type 0 where
  pub l : Term
  pub v : Term
  pub a : ℕ
  pub b : ℕ
  pub whole_is : whole ≡ Pts l (a + b) v
  pub parts_are : parts ≡ view.Sep (Pts l a v) (Pts l b v)

-- l↦{a}v ∗ l↦{b}v ⊢ l↦{a+b}v
abbrev pub IsPtsJoin : Formula → Formula → Type 0
IsPtsJoin parts whole = IsPtsSplit whole parts

-- l↦{a}v ∗ l↦{b}w ⊢ ⌜v = w⌝
pub record IsPtsAgree (left right : Formula) : Type 0 where
  pub l : Term
  pub v : Term
  pub w : Term
  pub a : ℕ
  pub b : ℕ
  pub left_is : left ≡ view.Sep (Pts l a v) (Pts l b w)
  pub right_is : right ≡ Fact (Eq v w)

-- l↦{a}v ∗ l↦{b}w ⊢ ⌜False⌝
pub record IsPtsOver (left right : Formula) : Type 0 where
  pub l : Term
  pub v : Term
  pub w : Term
  pub a : ℕ
  pub b : ℕ
  pub left_is : left ≡ view.Sep (Pts l a v) (Pts l b w)
  pub right_is : right ≡ Fact False

-- l↦v ⊢ |==> l↦w, both whole
pub record IsPtsWrite (left right : Formula) : Type 0 where
  pub l : Term
  pub v : Term
  pub w : Term
  pub left_is : left ≡ Pts l UNIT v
  pub right_is : right ≡ view.Upd (Pts l UNIT w)

-- v↑
unfoldable pub IsRaised : Term → Type 0
IsRaised u = (v : Term) × (u ≡ raised v)

-- index 0 ↦ v↑, whole
pub record IsFresh (f : Formula) : Type 0 where
  pub v : Term
  pub is : f ≡ Pts (Var 0) UNIT (raised v)

-- P ⊢ |==> ∃ (index 0 ↦ v↑)
pub record IsPtsNew (right : Formula) : Type 0 where
  pub f : Formula
  pub fresh : IsFresh f
  pub right_is : right ≡ view.Upd (view.Ex f)

-- body p[args] ⊢ p(args), of a predicate of the table
pub record IsFold (preds : Preds) (body call : Formula) : Type 0 where
  pub p : ℕ
  pub there : p < length preds.list
  pub args : List Term
  pub body_is : body ≡ subst_of (body_of preds.list p) args
  pub call_is : call ≡ Call p args

-- p(args) ⊢ body p[args]
abbrev pub IsUnfold : Preds → Formula → Formula → Type 0
IsUnfold preds call body = IsFold preds body call

-- ---- brackets; that of `Linear` is in Linear

-- l↦{a}v ∗ m↦{b}w with a + b > UNIT
pub record IsOverfull (left : Formula) : Type 0 where
  pub l : Term
  pub m : Term
  pub v : Term
  pub w : Term
  pub a : ℕ
  pub b : ℕ
  pub left_is : left ≡ view.Sep (Pts l a v) (Pts m b w)
  pub over : UNIT < a + b

-- ▷P with P timeless
pub record IsLaterTimeless (left : Formula) : Type 0 where
  pub p : Formula
  pub left_is : left ≡ view.Later p
  pub timeless : IsTimeless p

-- ---- what the code tests

abbrev pub IsNoEquation : Formula → Type 0
IsNoEquation f = (s t : Term) → f ≡ Fact (Eq s t) → ⊥

-- the two rows with a shifted letter by their sides
-- k+1 | P↑ ⊢ B / P ⊢ ∀ B
pub record IsGeneralized (left1 right1 left right : Formula) : Type 0 where
  pub b : Formula
  pub left1_is : left1 ≡ shift_of left
  pub right1_is : right1 ≡ b
  pub right_is : right ≡ view.All b

-- k+1 | B ⊢ Q↑ / ∃ B ⊢ Q
pub record IsEliminated (left1 right1 left right : Formula) : Type 0 where
  pub b : Formula
  pub left1_is : left1 ≡ b
  pub right1_is : right1 ≡ shift_of right
  pub left_is : left ≡ view.Ex b
