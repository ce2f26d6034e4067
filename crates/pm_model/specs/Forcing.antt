-- When a formula is forced: in an environment, at a step, with a bound on calls, by a resource.
use Rattle.std.specs.Prelude.{◌≡◌, ℕ, zero, suc, ◌+◌, ◌*◌, ◌<◌, ◌≤◌, List, ◌∷◌, length, ◌⊎◌, ℤ}
use Rattle.pm_logic.specs.declared.formula.Formula.{Formula}
use Rattle.pm_logic.specs.declared.formula.Formula.TheVariants.{Pure as Fact, Pts, Call}
use Rattle.pm_logic.specs.declared.formula.Pred.{Pred}
use Rattle.pm_logic.specs.declared.formula.Preds.{Preds}
use Rattle.pm_logic.specs.Trees.{Sep, Wand, And, Or, Imp, All, Ex, Later, Pers, Upd}
use Rattle.pm_logic.specs.Values.{eval, evals, Holds}
use Rattle.pm_logic.specs.Scope.{body_of}
use Rattle.pm_model.specs.Resource.{Content, Empty, Has, Res, Joins, Extends, core}

-- at least u units with the value v
abbrev pub HasAtLeast : Content → ℕ → ℤ → Type 0
HasAtLeast Empty u v = ⊥
HasAtLeast (Has w x) u v = (u ≤ w) × (x ≡ v)

-- the step is 0, or the claim holds at the step before
abbrev pub AtStepBefore : ℕ → (ℕ → Type 0) → Type 0
AtStepBefore zero claim = Unit {0}
AtStepBefore (suc n) claim = claim n

-- when the body of a predicate, with the predicate's number as the bound, is forced: by step, predicate, values of the arguments and resource
abbrev pub Bodies : Type 1
Bodies = ℕ → ℕ → List ℤ → Res → Type 0

-- the table: at these meanings of the bodies and the full bound `all`, a formula is forced in env at step n with bound b by r
abbrev pub Forced : Bodies → ℕ → Formula → List ℤ → ℕ → ℕ → Res → Type 0
Forced body all (Fact a) env n b r = Holds env a
Forced body all (Pts l u v) env n b r = HasAtLeast (r.at (eval env l)) u (eval env v)
Forced body all (Sep x y) env n b r = (r1 : Res) × (r2 : Res) × Joins r1 r2 r × Forced body all x env n b r1 × Forced body all y env n b r2
Forced body all (Wand x y) env n b r = (m : ℕ) → m ≤ n → (s c : Res) → Joins r s c → Forced body all x env m b s → Forced body all y env m b c
Forced body all (And x y) env n b r = Forced body all x env n b r × Forced body all y env n b r
Forced body all (Or x y) env n b r = Forced body all x env n b r ⊎ Forced body all y env n b r
Forced body all (Imp x y) env n b r = (m : ℕ) → m ≤ n → (s : Res) → Extends r s → Forced body all x env m b s → Forced body all y env m b s
Forced body all (All x) env n b r = (z : ℤ) → Forced body all x (z ∷ env) n b r
Forced body all (Ex x) env n b r = (z : ℤ) × Forced body all x (z ∷ env) n b r
Forced body all (Later x) env n b r = AtStepBefore n (λ m. Forced body all x env m all r)
Forced body all (Pers x) env n b r = Forced body all x env n b (core r)
Forced body all (Upd x) env n b r = (f c : Res) → Joins f r c → (s : Res) × (d : Res) × Joins f s d × Forced body all x env n b s
Forced body all (Call p args) env n b r = (p < b) × body n p (evals env args) r

-- the meanings of the bodies, where calls go at most k deep
unfoldable pub bodies_to : List Pred → ℕ → Bodies
bodies_to preds zero n p vals r = ⊥
bodies_to preds (suc k) n p vals r = Forced (bodies_to preds k) (length preds) (body_of preds p) vals n p r

-- the meanings of the bodies: a call goes to a smaller step, or to a smaller predicate at the same step
unfoldable pub bodies : List Pred → Bodies
bodies preds n p vals r = bodies_to preds (suc (n * length preds + p)) n p vals r

abbrev pub Forces : Preds → List ℤ → ℕ → ℕ → Res → Formula → Type 0
Forces preds env n b r x = Forced (bodies preds.list) (length preds.list) x env n b r
