-- What is forced stays forced at smaller steps and by larger resources.
use Rattle.std.proofs.Common.{ℕ, zero, suc, ◌≤◌, List, ◌∷◌, ℤ, inl, inr, le_refl, le_trans, le_of_suc-le-suc, arith}
use Rattle.pm_logic.specs.declared.formula.Formula.{Formula}
use Rattle.pm_logic.specs.declared.formula.Formula.TheVariants.{Pure as Fact, Pts, Call}
use Rattle.pm_logic.specs.Trees.{Sep, Wand, And, Or, Imp, All, Ex, Later, Pers, Upd}
use Rattle.pm_logic.specs.Values.{eval, evals}
use Rattle.pm_model.specs.Resource.{Res, Extends, core}
use Rattle.pm_model.specs.Forcing.{Bodies, Forced, AtStepBefore}
use Rattle.pm_model.proofs.Joins.{joins_assoc, joins_assoc_left, joins_swap, extends_refl, extends_trans, extends_left, extends_has}
use Rattle.pm_model.proofs.Core.{core_grows}

abbrev pub IsMonotone : Bodies → Type 0
IsMonotone body = (n m p : ℕ) (vals : List ℤ) (r s : Res) → m ≤ n → Extends r s → body n p vals r → body m p vals s

before : (n m : ℕ) (c d : ℕ → Type 0) → m ≤ n → ((i j : ℕ) → j ≤ i → c i → d j) → AtStepBefore n c → AtStepBefore m d
before n zero c d le f h = tt
before zero (suc m) c d le f h = absurd (omega arith)
before (suc n) (suc m) c d le f h = f n m (le_of_suc-le-suc le) h

pub forced_monotone : (body : Bodies) (all : ℕ) → IsMonotone body → (x : Formula) (env : List ℤ) (n m b : ℕ) (r s : Res) → m ≤ n → Extends r s → Forced body all x env n b r → Forced body all x env m b s
forced_monotone body all mono (Fact a) env n m b r s le e h = h
forced_monotone body all mono (Pts l u v) env n m b r s le e h = extends_has (eval env l) u (eval env v) e h
forced_monotone body all mono (Sep x y) env n m b r s le e (r1, r2, j, hx, hy) =
    let (r2t, p, q) = joins_assoc j e.joins in
    (r1, r2t, q, forced_monotone body all mono x env n m b r1 r1 le (extends_refl r1) hx, forced_monotone body all mono y env n m b r2 r2t le (extends_left p) hy)
forced_monotone body all mono (Wand x y) env n m b r s le e h = λ k k_le t c j hx.
    let (rt, p, q) = joins_swap e.joins j in
    forced_monotone body all mono y env k k b rt c (le_refl k) (extends_left q) (h k (le_trans k_le le) t rt p hx)
forced_monotone body all mono (And x y) env n m b r s le e h = (forced_monotone body all mono x env n m b r s le e h.0, forced_monotone body all mono y env n m b r s le e h.1)
forced_monotone body all mono (Or x y) env n m b r s le e (inl h) = inl (forced_monotone body all mono x env n m b r s le e h)
forced_monotone body all mono (Or x y) env n m b r s le e (inr h) = inr (forced_monotone body all mono y env n m b r s le e h)
forced_monotone body all mono (Imp x y) env n m b r s le e h = λ k k_le t st hx. h k (le_trans k_le le) t (extends_trans e st) hx
forced_monotone body all mono (All x) env n m b r s le e h = λ z. forced_monotone body all mono x (z ∷ env) n m b r s le e (h z)
forced_monotone body all mono (Ex x) env n m b r s le e h = (h.0, forced_monotone body all mono x (h.0 ∷ env) n m b r s le e h.1)
forced_monotone body all mono (Later x) env n m b r s le e h = before n m _ _ le (λ i j j_le g. forced_monotone body all mono x env i j all r s j_le e g) h
forced_monotone body all mono (Pers x) env n m b r s le e h = forced_monotone body all mono x env n m b (core r) (core s) le (core_grows e) h
forced_monotone body all mono (Upd x) env n m b r s le e h = λ f c j.
    let (fr, p, q) = joins_assoc_left e.joins j in
    let (s', d, k, g) = h f fr p in
    (s', d, k, forced_monotone body all mono x env n m b s' s' le (extends_refl s') g)
forced_monotone body all mono (Call p args) env n m b r s le e h = (h.0, mono n m p (evals env args) r s le e h.1)
