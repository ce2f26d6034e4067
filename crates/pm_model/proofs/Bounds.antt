-- The bound matters only to calls that stand under no later.
use Rattle.std.proofs.Common.{ℕ, List, ◌∷◌, ℤ, inl, inr}
use Rattle.pm_logic.specs.declared.formula.Formula.{Formula}
use Rattle.pm_logic.specs.declared.formula.Formula.TheVariants.{Pure as Fact, Pts, Call}
use Rattle.pm_logic.specs.Trees.{Sep, Wand, And, Or, Imp, All, Ex, Later, Pers, Upd}
use Rattle.pm_logic.specs.Guard.{CallsBelow}
use Rattle.pm_model.specs.Resource.{Res, core}
use Rattle.pm_model.specs.Forcing.{Bodies, Forced}

pub forced_bound : (body : Bodies) (all : ℕ) (x : Formula) (env : List ℤ) (n b c : ℕ) (r : Res) → CallsBelow b x → CallsBelow c x → Forced body all x env n b r → Forced body all x env n c r
unfolding CallsBelow
forced_bound body all (Fact a) env n b c r p q h = h
forced_bound body all (Pts l u v) env n b c r p q h = h
forced_bound body all (Sep x y) env n b c r p q (r1, r2, j, hx, hy) = (r1, r2, j, forced_bound body all x env n b c r1 p.0 q.0 hx, forced_bound body all y env n b c r2 p.1 q.1 hy)
forced_bound body all (Wand x y) env n b c r p q h = λ m le s d j hx. forced_bound body all y env m b c d p.1 q.1 (h m le s d j (forced_bound body all x env m c b s q.0 p.0 hx))
forced_bound body all (And x y) env n b c r p q h = (forced_bound body all x env n b c r p.0 q.0 h.0, forced_bound body all y env n b c r p.1 q.1 h.1)
forced_bound body all (Or x y) env n b c r p q (inl h) = inl (forced_bound body all x env n b c r p.0 q.0 h)
forced_bound body all (Or x y) env n b c r p q (inr h) = inr (forced_bound body all y env n b c r p.1 q.1 h)
forced_bound body all (Imp x y) env n b c r p q h = λ m le s e hx. forced_bound body all y env m b c s p.1 q.1 (h m le s e (forced_bound body all x env m c b s q.0 p.0 hx))
forced_bound body all (All x) env n b c r p q h = λ z. forced_bound body all x (z ∷ env) n b c r p q (h z)
forced_bound body all (Ex x) env n b c r p q h = (h.0, forced_bound body all x (h.0 ∷ env) n b c r p q h.1)
forced_bound body all (Later x) env n b c r p q h = h
forced_bound body all (Pers x) env n b c r p q h = forced_bound body all x env n b c (core r) p q h
forced_bound body all (Upd x) env n b c r p q h = λ f d j.
    let (s, e, k, g) = h f d j in
    (s, e, k, forced_bound body all x env n b c s p q g)
forced_bound body all (Call i args) env n b c r p q h = (q, h.1)
