-- Which meanings of the bodies a formula looks at. So the bodies' meanings don't depend on how deep calls may go.
use Rattle.std.proofs.Common.{ℕ, zero, suc, ◌+◌, ◌*◌, ◌<◌, ◌≤◌, List, ◌∷◌, length, ℤ, ◌⊎◌, ◌↔◌, inl, inr, le_refl, le_trans, mul-le-mul_right, arith}
use Rattle.pm_logic.specs.declared.formula.Formula.{Formula}
use Rattle.pm_logic.specs.declared.formula.Formula.TheVariants.{Pure as Fact, Pts, Call}
use Rattle.pm_logic.specs.declared.formula.Pred.{Pred}
use Rattle.pm_logic.specs.Trees.{Sep, Wand, And, Or, Imp, All, Ex, Later, Pers, Upd}
use Rattle.pm_logic.specs.Values.{evals}
use Rattle.pm_logic.specs.Scope.{body_of}
use Rattle.pm_model.specs.Resource.{Res, core}
use Rattle.pm_model.specs.Forcing.{Bodies, Forced, bodies_to, bodies}
use Rattle.pm_model.proofs.Steps.{IsMonotone, forced_monotone}

-- a smaller predicate at no greater step, or any predicate at a smaller step
abbrev IsLower : ℕ → ℕ → ℕ → ℕ → ℕ → Type 0
IsLower all n b m p = ((m ≤ n) × (p < b)) ⊎ ((m < n) × (p < all))

abbrev Agrees : Bodies → Bodies → ℕ → ℕ → ℕ → Type 0
Agrees body other all n b = (m p : ℕ) (vals : List ℤ) (r : Res) → IsLower all n b m p → body m p vals r ↔ other m p vals r

flipped : (body other : Bodies) (all n b : ℕ) → Agrees body other all n b → Agrees other body all n b
flipped body other all n b a m p vals r low = let e = a m p vals r low in (e.1, e.0)

lower_at : (all n b k m p : ℕ) → k ≤ n → IsLower all k b m p → IsLower all n b m p
lower_at all n b k m p le (inl h) = inl (le_trans h.0 le, h.1)
lower_at all n b k m p le (inr h) = inr (le_trans h.0 le, h.1)

lower_before : (all n b m p : ℕ) → IsLower all n all m p → IsLower all (suc n) b m p
lower_before all n b m p (inl h) = inr (omega arith, h.1)
lower_before all n b m p (inr h) = inr (omega arith, h.1)

pub forced_along : (body other : Bodies) (all n b : ℕ) → Agrees body other all n b → (x : Formula) (env : List ℤ) (r : Res) → Forced body all x env n b r → Forced other all x env n b r
forced_along body other all n b a (Fact c) env r h = h
forced_along body other all n b a (Pts l u v) env r h = h
forced_along body other all n b a (Sep x y) env r (r1, r2, j, hx, hy) = (r1, r2, j, forced_along body other all n b a x env r1 hx, forced_along body other all n b a y env r2 hy)
forced_along body other all n b a (Wand x y) env r h = λ m le s c j hx.
    let am : Agrees body other all m b = λ k p vals t low. a k p vals t (lower_at all n b m k p le low) in
    forced_along body other all m b am y env c (h m le s c j (forced_along other body all m b (flipped body other all m b am) x env s hx))
forced_along body other all n b a (And x y) env r h = (forced_along body other all n b a x env r h.0, forced_along body other all n b a y env r h.1)
forced_along body other all n b a (Or x y) env r (inl h) = inl (forced_along body other all n b a x env r h)
forced_along body other all n b a (Or x y) env r (inr h) = inr (forced_along body other all n b a y env r h)
forced_along body other all n b a (Imp x y) env r h = λ m le s e hx.
    let am : Agrees body other all m b = λ k p vals t low. a k p vals t (lower_at all n b m k p le low) in
    forced_along body other all m b am y env s (h m le s e (forced_along other body all m b (flipped body other all m b am) x env s hx))
forced_along body other all n b a (All x) env r h = λ z. forced_along body other all n b a x (z ∷ env) r (h z)
forced_along body other all n b a (Ex x) env r h = (h.0, forced_along body other all n b a x (h.0 ∷ env) r h.1)
forced_along body other all zero b a (Later x) env r h = tt
forced_along body other all (suc n) b a (Later x) env r h = forced_along body other all n all (λ k p vals t low. a k p vals t (lower_before all n b k p low)) x env r h
forced_along body other all n b a (Pers x) env r h = forced_along body other all n b a x env (core r) h
forced_along body other all n b a (Upd x) env r h = λ f c j.
    let (s, d, k, g) = h f c j in
    (s, d, k, forced_along body other all n b a x env s g)
forced_along body other all n b a (Call p args) env r h = (h.0, (a n p (evals env args) r (inl (le_refl n, h.0))).0 h.1)

rank_falls : (all n b m p : ℕ) → IsLower all n b m p → m * all + p < n * all + b
rank_falls all n b m p (inl h) = let a : m * all ≤ n * all = mul-le-mul_right all h.0 in omega arith
rank_falls all n b m p (inr h) = let a : suc m * all ≤ n * all = mul-le-mul_right all h.0 in omega arith

-- calls deep enough
bodies_same : (preds : List Pred) (k l n p : ℕ) (vals : List ℤ) (r : Res) → n * length preds + p < k → n * length preds + p < l → bodies_to preds k n p vals r ↔ bodies_to preds l n p vals r
unfolding bodies_to
bodies_same preds zero l n p vals r lt lt' = absurd (omega arith)
bodies_same preds (suc k) zero n p vals r lt lt' = absurd (omega arith)
bodies_same preds (suc k) (suc l) n p vals r lt lt' =
    let a : Agrees (bodies_to preds k) (bodies_to preds l) (length preds) n p = λ m q vs s low. let f = rank_falls (length preds) n p m q low in bodies_same preds k l m q vs s (omega arith) (omega arith) in
    (forced_along (bodies_to preds k) (bodies_to preds l) (length preds) n p a (body_of preds p) vals r, forced_along (bodies_to preds l) (bodies_to preds k) (length preds) n p (flipped (bodies_to preds k) (bodies_to preds l) (length preds) n p a) (body_of preds p) vals r)

deep_enough : (preds : List Pred) (n p : ℕ) → Agrees (bodies_to preds (n * length preds + p)) (bodies preds) (length preds) n p
unfolding bodies
deep_enough preds n p m q vals r low = let f = rank_falls (length preds) n p m q low in bodies_same preds (n * length preds + p) (suc (m * length preds + q)) m q vals r f (omega arith)

-- the row of calls: a body's meaning is that of its formula, with the predicate as the bound
pub body_row : (preds : List Pred) (n p : ℕ) (vals : List ℤ) (r : Res) → bodies preds n p vals r ↔ Forced (bodies preds) (length preds) (body_of preds p) vals n p r
unfolding bodies bodies_to
body_row preds n p vals r =
    let k = n * length preds + p in
    let a = deep_enough preds n p in
    (forced_along (bodies_to preds k) (bodies preds) (length preds) n p a (body_of preds p) vals r, forced_along (bodies preds) (bodies_to preds k) (length preds) n p (flipped (bodies_to preds k) (bodies preds) (length preds) n p a) (body_of preds p) vals r)

bodies_to_monotone : (preds : List Pred) (k : ℕ) → IsMonotone (bodies_to preds k)
unfolding bodies_to
bodies_to_monotone preds zero n m p vals r s le e h = absurd h
bodies_to_monotone preds (suc k) n m p vals r s le e h = forced_monotone (bodies_to preds k) (length preds) (bodies_to_monotone preds k) (body_of preds p) vals n m p r s le e h

pub bodies_monotone : (preds : List Pred) → IsMonotone (bodies preds)
unfolding bodies
bodies_monotone preds n m p vals r s le e h =
    let a : m * length preds ≤ n * length preds = mul-le-mul_right (length preds) le in
    let k = suc (n * length preds + p) in
    (bodies_same preds k (suc (m * length preds + p)) m p vals s (omega arith) (omega arith)).0 (bodies_to_monotone preds k n m p vals r s le e h)
