-- Calls of predicates, and timeless formulas.
use Rattle.std.proofs.Common.{ℕ, zero, suc, ◌≤◌, ◌<◌, List, [], ◌∷◌, ℤ, length, inl, inr, le_trans, le_of_lt, arith}
use Rattle.pm_logic.specs.declared.formula.Formula.{Formula}
use Rattle.pm_logic.specs.declared.formula.Formula.TheVariants.{Pure as Fact, Pts, Call}
use Rattle.pm_logic.specs.declared.formula.Pred.{Pred}
use Rattle.pm_logic.specs.declared.formula.Preds.{Preds}
use Rattle.pm_logic.specs.declared.formula.Pure.TheVariants.{False}
use Rattle.pm_logic.specs.declared.formula.Term.{Term}
use Rattle.pm_logic.specs.Trees.{Sep, Wand, And, Or, Imp, All, Ex, Later, Pers, Upd}
use Rattle.pm_logic.specs.Classes.{IsTimeless}
use Rattle.pm_logic.specs.Guard.{CallsBelow, IsGuarded}
use Rattle.pm_logic.specs.Scope.{CallFits, body_of}
use Rattle.pm_logic.specs.Substitution.{subst_of}
use Rattle.pm_logic.specs.Values.{evals}
use Rattle.pm_model.specs.Resource.{Res, core}
use Rattle.pm_model.specs.Forcing.{Forced, Bodies, bodies}
use Rattle.pm_model.specs.Entailment.{IsTrueEntailment}
use Rattle.pm_model.proofs.Agree.{body_row}
use Rattle.pm_model.proofs.Bounds.{forced_bound}
use Rattle.pm_model.proofs.Values.{forced_subst}

-- ---- calls

-- what is below a bound is below each greater one
calls_up : (b c : ℕ) → b ≤ c → (x : Formula) → CallsBelow b x → CallsBelow c x
unfolding CallsBelow
calls_up b c le (Fact a) h = tt
calls_up b c le (Pts l u v) h = tt
calls_up b c le (Sep x y) h = (calls_up b c le x h.0, calls_up b c le y h.1)
calls_up b c le (Wand x y) h = (calls_up b c le x h.0, calls_up b c le y h.1)
calls_up b c le (And x y) h = (calls_up b c le x h.0, calls_up b c le y h.1)
calls_up b c le (Or x y) h = (calls_up b c le x h.0, calls_up b c le y h.1)
calls_up b c le (Imp x y) h = (calls_up b c le x h.0, calls_up b c le y h.1)
calls_up b c le (All x) h = calls_up b c le x h
calls_up b c le (Ex x) h = calls_up b c le x h
calls_up b c le (Later x) h = tt
calls_up b c le (Pers x) h = calls_up b c le x h
calls_up b c le (Upd x) h = calls_up b c le x h
calls_up b c le (Call p args) h = le_trans h le

-- a call that fits names a predicate of the table
pub call_named : (preds : List Pred) (p n : ℕ) → CallFits preds p n → p < length preds
call_named [] p n h = absurd h
call_named (q ∷ preds) zero n h = omega arith
call_named (q ∷ preds) (suc p) n h = let a = call_named preds p n h in omega arith

pub fold_true : (preds : Preds) (k : ℕ) (p : ℕ) (args : List Term) → IsGuarded preds.list → p < length preds.list → IsTrueEntailment preds k (subst_of (body_of preds.list p) args) (Call p args)
fold_true preds k p args g lt = record {
  holds = λ env len n r h.
      let all = length preds.list in
      let x = body_of preds.list p in
      let a = (forced_subst (bodies preds.list) all x args env n all r).0 h in
      (lt, (body_row preds.list n p (evals env args) r).1 (forced_bound (bodies preds.list) all x (evals env args) n all p r (calls_up p all (le_of_lt lt) x (g p lt)) (g p lt) a));
}

pub unfold_true : (preds : Preds) (k : ℕ) (p : ℕ) (args : List Term) → IsGuarded preds.list → IsTrueEntailment preds k (Call p args) (subst_of (body_of preds.list p) args)
unfold_true preds k p args g = record {
  holds = λ env len n r h.
      let all = length preds.list in
      let x = body_of preds.list p in
      let (lt, hb) = h in
      let a = forced_bound (bodies preds.list) all x (evals env args) n p all r (g p lt) (calls_up p all (le_of_lt lt) x (g p lt)) ((body_row preds.list n p (evals env args) r).0 hb) in
      (forced_subst (bodies preds.list) all x args env n all r).1 a;
}

-- ---- timeless formulas

-- the step doesn't matter
any_step : (body : Bodies) (all : ℕ) (x : Formula) → IsTimeless x → (env : List ℤ) (n m b : ℕ) (r : Res) → Forced body all x env n b r → Forced body all x env m b r
unfolding IsTimeless
any_step body all (Fact a) t env n m b r h = h
any_step body all (Pts l u v) t env n m b r h = h
any_step body all (Sep x y) t env n m b r (r1, r2, j, hx, hy) = (r1, r2, j, any_step body all x t.0 env n m b r1 hx, any_step body all y t.1 env n m b r2 hy)
any_step body all (And x y) t env n m b r h = (any_step body all x t.0 env n m b r h.0, any_step body all y t.1 env n m b r h.1)
any_step body all (Or x y) t env n m b r (inl h) = inl (any_step body all x t.0 env n m b r h)
any_step body all (Or x y) t env n m b r (inr h) = inr (any_step body all y t.1 env n m b r h)
any_step body all (All x) t env n m b r h = λ z. any_step body all x t (z ∷ env) n m b r (h z)
any_step body all (Ex x) t env n m b r h = (h.0, any_step body all x t (h.0 ∷ env) n m b r h.1)
any_step body all (Pers x) t env n m b r h = any_step body all x t env n m b (core r) h
any_step body all (Wand x y) t env n m b r h = absurd t
any_step body all (Imp x y) t env n m b r h = absurd t
any_step body all (Later x) t env n m b r h = absurd t
any_step body all (Upd x) t env n m b r h = absurd t
any_step body all (Call p args) t env n m b r h = absurd t

timeless_at : (body : Bodies) (all : ℕ) (x : Formula) → IsTimeless x → (env : List ℤ) (n b : ℕ) (r : Res) → Forced body all (Later x) env n all r → Forced body all (Or (Later (Fact False)) x) env n all r
timeless_at body all x t env zero b r h = inl tt
timeless_at body all x t env (suc n) b r h = inr (any_step body all x t env n (suc n) all r h)

pub timeless_true : (preds : Preds) (k : ℕ) (x : Formula) → IsTimeless x → IsTrueEntailment preds k (Later x) (Or (Later (Fact False)) x)
timeless_true preds k x t = record { holds = λ env len n r h. timeless_at (bodies preds.list) (length preds.list) x t env n (length preds.list) r h }
