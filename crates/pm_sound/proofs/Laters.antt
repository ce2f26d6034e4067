-- Later.
use Rattle.std.proofs.Common.{ℕ, zero, suc, List, ℤ, pos, length, inl, le_refl, le_trans, le_of_lt, lt-suc_self}
use Rattle.pm_logic.specs.declared.formula.Formula.{Formula}
use Rattle.pm_logic.specs.declared.formula.Preds.{Preds}
use Rattle.pm_logic.specs.Trees.{Sep, And, Or, Imp, All, Ex, Later}
use Rattle.pm_model.specs.Resource.{Res, core}
use Rattle.pm_model.specs.Forcing.{Forced, Forces, Bodies, bodies}
use Rattle.pm_model.specs.Entailment.{IsTrueEntailment}
use Rattle.pm_model.proofs.Joins.{extends_refl}
use Rattle.pm_model.proofs.Core.{core_joins}
use Rattle.pm_sound.proofs.Connectives.{grown}

-- ---- at step 0 what stands under a later holds; at any other it is the formula one step before

mono_at : (body : Bodies) (all : ℕ) (x y : Formula) (env : List ℤ) (n b : ℕ) (r : Res) → ((m : ℕ) → Forced body all x env m all r → Forced body all y env m all r) → Forced body all (Later x) env n b r → Forced body all (Later y) env n b r
mono_at body all x y env zero b r f h = tt
mono_at body all x y env (suc n) b r f h = f n h

intro_at : (preds : Preds) (x : Formula) (env : List ℤ) (n : ℕ) (r : Res) → Forces preds env n (length preds.list) r x → Forces preds env n (length preds.list) r (Later x)
intro_at preds x env zero r h = tt
intro_at preds x env (suc n) r h = grown preds x env (suc n) n (length preds.list) r r (le_of_lt (lt-suc_self n)) (extends_refl r) h

sep_at : (body : Bodies) (all : ℕ) (x y : Formula) (env : List ℤ) (n b : ℕ) (r : Res) → Forced body all (Later (Sep x y)) env n b r → Forced body all (Sep (Later x) (Later y)) env n b r
sep_at body all x y env zero b r h = (core r, r, core_joins r, tt, tt)
sep_at body all x y env (suc n) b r h = h

of_seps_at : (body : Bodies) (all : ℕ) (x y : Formula) (env : List ℤ) (n b : ℕ) (r : Res) → Forced body all (Sep (Later x) (Later y)) env n b r → Forced body all (Later (Sep x y)) env n b r
of_seps_at body all x y env zero b r h = tt
of_seps_at body all x y env (suc n) b r h = h

and_at : (body : Bodies) (all : ℕ) (x y : Formula) (env : List ℤ) (n b : ℕ) (r : Res) → Forced body all (And (Later x) (Later y)) env n b r → Forced body all (Later (And x y)) env n b r
and_at body all x y env zero b r h = tt
and_at body all x y env (suc n) b r h = h

or_at : (body : Bodies) (all : ℕ) (x y : Formula) (env : List ℤ) (n b : ℕ) (r : Res) → Forced body all (Later (Or x y)) env n b r → Forced body all (Or (Later x) (Later y)) env n b r
or_at body all x y env zero b r h = inl tt
or_at body all x y env (suc n) b r h = h

all_at : (body : Bodies) (all : ℕ) (x : Formula) (env : List ℤ) (n b : ℕ) (r : Res) → Forced body all (All (Later x)) env n b r → Forced body all (Later (All x)) env n b r
all_at body all x env zero b r h = tt
all_at body all x env (suc n) b r h = h

ex_at : (body : Bodies) (all : ℕ) (x : Formula) (env : List ℤ) (n b : ℕ) (r : Res) → Forced body all (Later (Ex x)) env n b r → Forced body all (Ex (Later x)) env n b r
ex_at body all x env zero b r h = (pos 0, tt)
ex_at body all x env (suc n) b r h = h

-- by induction on the step
loeb_at : (body : Bodies) (all : ℕ) (x : Formula) (env : List ℤ) (r : Res) (n : ℕ) → Forced body all (Imp (Later x) x) env n all r → Forced body all x env n all r
loeb_at body all x env r zero h = h 0 (le_refl 0) r (extends_refl r) tt
loeb_at body all x env r (suc n) h = h (suc n) (le_refl (suc n)) r (extends_refl r) (loeb_at body all x env r n (λ m le. h m (le_trans le (le_of_lt (lt-suc_self n)))))

-- ---- the rules

pub later_mono_true : (preds : Preds) (k : ℕ) (x y : Formula) → IsTrueEntailment preds k x y → IsTrueEntailment preds k (Later x) (Later y)
later_mono_true preds k x y f = record { holds = λ env len n r h. mono_at (bodies preds.list) (length preds.list) x y env n (length preds.list) r (λ m a. f.holds env len m r a) h }

pub later_intro_true : (preds : Preds) (k : ℕ) (x : Formula) → IsTrueEntailment preds k x (Later x)
later_intro_true preds k x = record { holds = λ env len n r h. intro_at preds x env n r h }

pub loeb_true : (preds : Preds) (k : ℕ) (x : Formula) → IsTrueEntailment preds k (Imp (Later x) x) x
loeb_true preds k x = record { holds = λ env len n r h. loeb_at (bodies preds.list) (length preds.list) x env r n h }

pub later_sep_true : (preds : Preds) (k : ℕ) (x y : Formula) → IsTrueEntailment preds k (Later (Sep x y)) (Sep (Later x) (Later y))
later_sep_true preds k x y = record { holds = λ env len n r h. sep_at (bodies preds.list) (length preds.list) x y env n (length preds.list) r h }

pub sep_later_true : (preds : Preds) (k : ℕ) (x y : Formula) → IsTrueEntailment preds k (Sep (Later x) (Later y)) (Later (Sep x y))
sep_later_true preds k x y = record { holds = λ env len n r h. of_seps_at (bodies preds.list) (length preds.list) x y env n (length preds.list) r h }

pub later_and_true : (preds : Preds) (k : ℕ) (x y : Formula) → IsTrueEntailment preds k (And (Later x) (Later y)) (Later (And x y))
later_and_true preds k x y = record { holds = λ env len n r h. and_at (bodies preds.list) (length preds.list) x y env n (length preds.list) r h }

pub later_or_true : (preds : Preds) (k : ℕ) (x y : Formula) → IsTrueEntailment preds k (Later (Or x y)) (Or (Later x) (Later y))
later_or_true preds k x y = record { holds = λ env len n r h. or_at (bodies preds.list) (length preds.list) x y env n (length preds.list) r h }

pub later_all_true : (preds : Preds) (k : ℕ) (x : Formula) → IsTrueEntailment preds k (All (Later x)) (Later (All x))
later_all_true preds k x = record { holds = λ env len n r h. all_at (bodies preds.list) (length preds.list) x env n (length preds.list) r h }

pub later_ex_true : (preds : Preds) (k : ℕ) (x : Formula) → IsTrueEntailment preds k (Later (Ex x)) (Ex (Later x))
later_ex_true preds k x = record { holds = λ env len n r h. ex_at (bodies preds.list) (length preds.list) x env n (length preds.list) r h }
