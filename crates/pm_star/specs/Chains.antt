-- Proofs one after another, a part that is put in at a place, and stars that entail their own box.
use Rattle.std.specs.Prelude.{◌≡◌, ℕ, suc, ◌+◌, ◌-◌, ◌*◌, ◌≤◌, max, List, [], ◌∷◌, ◌++◌, length, take, drop, insert}
use Rattle.pm_logic.specs.declared.formula.Formula.{Formula}
use Rattle.pm_logic.specs.declared.formula.Formula.TheViews as view
use Rattle.pm_logic.specs.declared.formula.Preds.{Preds}
use Rattle.pm_goal.specs.Left.{star_onto}
use Rattle.pm_rules.specs.declared.rules.Entail.{Entail}
use Rattle.pm_proof.specs.Trees.{Tree, entail, conclusion, holes_of, rules, depth, variables}
use Rattle.pm_proof.specs.Valid.{Valid, IsScoped}
use Rattle.pm_proof.specs.Known.{Tables, Every, ScopedWhere, Proves, Extends}
use Rattle.pm_star.specs.Stars.{part_at, without}
use Rattle.pm_star.specs.Levels.{Around, left_side, right_side}
use Rattle.pm_star.specs.declared.beside.Beside.{Beside}

-- ---- one proof after another

-- from the left side of the first to the right side of the second
abbrev pub across : Tree → Tree → Entail
across a b = entail (conclusion a).vars (left_side a) (right_side b)

-- the proof has the holes of both, is valid and scoped wherever both are, has one rule more than both, and is no deeper and no
-- wider than the deeper and the wider one
pub record Follows (a b t : Tree) : Type 0 where
  pub concludes : conclusion t ≡ across a b
  pub holes : holes_of t ≡ holes_of a ++ holes_of b
  pub valid : (preds : Preds) → Valid preds a → Valid preds b → Valid preds t
  pub scoped : (preds : Preds) → IsScoped preds a → IsScoped preds b → IsScoped preds t
  pub size : rules t ≡ rules a + rules b + 1
  pub shallow : depth t ≤ max (depth a) (depth b)
  pub narrow : variables t ≤ max (variables a) (variables b)

-- a proof that was built, after one that was built; where the two meet is scoped where what is proved and the holes are
abbrev pub ChainProves : Tree → Tree → Tree → Type 0
ChainProves a b t = (on : Tables) (hs gs : List Entail) (n m d k : ℕ) → Proves on (conclusion a) hs n d k a → Proves on (conclusion b) gs m d k b → ScopedWhere (across a b) (hs ++ gs) (conclusion a) → Proves on (across a b) (hs ++ gs) (n + m + 1) d k t

-- a proof that is handed in, behind one that was built
abbrev pub ChainExtends : Tree → Tree → Tree → Type 0
ChainExtends a b t = (n d k : ℕ) → Proves Every (conclusion a) [] n d k a → Extends b (across a b) (n + 1) d k t

-- a proof that is handed in, before one that was built
abbrev pub ChainContinues : Tree → Tree → Tree → Type 0
ChainContinues a b t = (n d k : ℕ) → Proves Every (conclusion b) [] n d k b → Extends a (across a b) (n + 1) d k t

-- ---- a part at another place

-- the part at place i at place j, the others in their order
abbrev pub moved : List Formula → ℕ → ℕ → List Formula
moved fs i j = insert (without fs i) j (part_at fs i)

-- two parts in place of the one at place i
abbrev pub paired : List Formula → ℕ → Formula → Formula → List Formula
paired fs i p q = take i fs ++ p ∷ q ∷ drop (suc i) fs

-- one in place of those at place i and the next one
abbrev pub joined : List Formula → ℕ → Formula → List Formula
joined fs i f = take i fs ++ f ∷ drop (suc (suc i)) fs

-- ---- what is known on the way

-- the proof is one of part ∗ a ⊢ its right side
abbrev pub IsSunk : ℕ → Formula → Beside → Type 0
IsSunk k a h = conclusion h.proof ≡ entail k (view.Sep h.part a) (right_side h.proof)

-- past one part
pub record IsPast (k : ℕ) (a x : Formula) (h g : Beside) : Type 0 where
  pub part : g.part ≡ view.Sep x h.part
  pub known : Around k 4 h.proof (view.Sep (view.Sep x h.part) a) (view.Sep x (right_side h.proof)) g.proof

-- past the parts from place i on
pub record IsPastAll (k : ℕ) (a : Formula) (fs : List Formula) (i : ℕ) (h g : Beside) : Type 0 where
  pub within : i ≤ length fs
  pub part : g.part ≡ star_onto (drop i fs) h.part
  pub known : Around k (4 * (length fs - i)) h.proof (view.Sep (star_onto (drop i fs) h.part) a) (star_onto (drop i fs) (right_side h.proof)) g.proof

-- the proof is one of its left side ⊢ □ part
abbrev pub IsBoxed : ℕ → Beside → Type 0
IsBoxed k h = conclusion h.proof ≡ entail k (left_side h.proof) (view.Pers h.part)

-- one part more, under the box too
pub record IsBoxedMore (k : ℕ) (x : Formula) (h g : Beside) : Type 0 where
  pub part : g.part ≡ view.Sep x h.part
  pub known : Around k 19 h.proof (view.Sep x (left_side h.proof)) (view.Pers (view.Sep x h.part)) g.proof

-- the parts from place i on more
pub record IsBoxedAll (k : ℕ) (fs : List Formula) (i : ℕ) (h g : Beside) : Type 0 where
  pub within : i ≤ length fs
  pub part : g.part ≡ star_onto (drop i fs) h.part
  pub known : Around k (19 * (length fs - i)) h.proof (star_onto (drop i fs) (left_side h.proof)) (view.Pers (star_onto (drop i fs) h.part)) g.proof
