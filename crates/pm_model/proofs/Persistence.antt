-- What is persistent by its form is forced by the core wherever it is forced.
use Rattle.std.proofs.Common.{ℕ, zero, suc, ◌≤◌, List, ◌∷◌, length, ℤ, inl, inr, le_refl}
use Rattle.pm_logic.specs.declared.formula.Formula.{Formula}
use Rattle.pm_logic.specs.declared.formula.Formula.TheVariants.{Pure as Fact, Pts, Call}
use Rattle.pm_logic.specs.Trees.{Sep, Wand, And, Or, Imp, All, Ex, Later, Pers, Upd}
use Rattle.pm_logic.specs.Classes.{IsPersistent}
use Rattle.pm_model.specs.Resource.{Res, Extends, core}
use Rattle.pm_model.specs.Forcing.{Bodies, Forced, AtStepBefore}
use Rattle.pm_model.proofs.Joins.{joins_comm, extends_left}
use Rattle.pm_model.proofs.Core.{core_joins, core_grows, core_within}
use Rattle.pm_model.proofs.Steps.{IsMonotone, forced_monotone}

before_by_core : (n : ℕ) (c d : ℕ → Type 0) → ((i : ℕ) → c i → d i) → AtStepBefore n c → AtStepBefore n d
before_by_core zero c d f h = tt
before_by_core (suc n) c d f h = f n h

pub by_core : (body : Bodies) (all : ℕ) → IsMonotone body → (x : Formula) (env : List ℤ) (n b : ℕ) (r : Res) → IsPersistent x → Forced body all x env n b r → Forced body all x env n b (core r)
unfolding IsPersistent
by_core body all mono (Fact a) env n b r p h = h
by_core body all mono (Pts l u v) env n b r p h = absurd p
by_core body all mono (Sep x y) env n b r p (r1, r2, j, hx, hy) =
    let x_core = forced_monotone body all mono x env n n b (core r1) (core r) (le_refl n) (core_grows (extends_left j)) (by_core body all mono x env n b r1 p.0 hx) in
    let x_twice = forced_monotone body all mono x env n n b (core r) (core (core r)) (le_refl n) (core_within r) x_core in
    let y_core = forced_monotone body all mono y env n n b (core r2) (core r) (le_refl n) (core_grows (extends_left (joins_comm j))) (by_core body all mono y env n b r2 p.1 hy) in
    (core (core r), core r, core_joins (core r), x_twice, y_core)
by_core body all mono (Wand x y) env n b r p h = absurd p
by_core body all mono (And x y) env n b r p h = (by_core body all mono x env n b r p.0 h.0, by_core body all mono y env n b r p.1 h.1)
by_core body all mono (Or x y) env n b r p (inl h) = inl (by_core body all mono x env n b r p.0 h)
by_core body all mono (Or x y) env n b r p (inr h) = inr (by_core body all mono y env n b r p.1 h)
by_core body all mono (Imp x y) env n b r p h = absurd p
by_core body all mono (All x) env n b r p h = λ z. by_core body all mono x (z ∷ env) n b r p (h z)
by_core body all mono (Ex x) env n b r p h = (h.0, by_core body all mono x (h.0 ∷ env) n b r p h.1)
by_core body all mono (Later x) env n b r p h = before_by_core n _ _ (λ m g. by_core body all mono x env m all r p g) h
by_core body all mono (Pers x) env n b r p h = forced_monotone body all mono x env n n b (core r) (core (core r)) (le_refl n) (core_within r) h
by_core body all mono (Upd x) env n b r p h = absurd p
by_core body all mono (Call q args) env n b r p h = absurd p
