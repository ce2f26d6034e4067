-- Moves one part at a time.
use Rattle.std.specs.Prelude.{Bool, true, false, ℕ, ◌+◌, ◌*◌, ◌-◌, ◌≡◌, ◌≤◌, ◌⊎◌, List, [], length, drop}
use Rattle.pm_logic.specs.declared.formula.Pure.{Pure}
use Rattle.pm_logic.specs.declared.formula.Formula.{Formula}
use Rattle.pm_logic.specs.declared.formula.Formula.TheVariants.{Pure as Assert}
use Rattle.pm_logic.specs.declared.formula.Formula.TheViews as view
use Rattle.pm_goal.specs.Left.{star_onto}
use Rattle.pm_proof.specs.Trees.{Tree, entail, conclusion}
use Rattle.pm_proof.specs.Known.{Extends}
use Rattle.pm_star.specs.Stars.{room, left_more, right_more, lefts, rights}
use Rattle.pm_star.specs.declared.side.Side.{Side}
use Rattle.pm_star.specs.declared.side.Side.TheVariants as side
use Rattle.pm_star.specs.declared.levels.Halves.{Halves}

-- a part that may be used any number of times
abbrev pub IsShared : Formula → Type 0
IsShared f = ((p : Pure) × (f ≡ Assert p)) ⊎ ((a : Formula) × (f ≡ view.Pers a))

-- around a proof of l ⊢ r, one of this, with at most n rules more
abbrev pub Around : ℕ → ℕ → Tree → Formula → Formula → Tree → Type 0
Around k n by l r t = Extends by (entail k l r) n (room l r) k t

abbrev pub left_side : Tree → Formula
left_side t = (conclusion t).left

abbrev pub right_side : Tree → Formula
right_side t = (conclusion t).right

-- what the halves say they prove
abbrev pub IsHalved : ℕ → Halves → Type 0
IsHalved k h = conclusion h.proof ≡ entail k (left_side h.proof) (view.Sep h.left h.right)

-- a part more, on its side
pub record IsLevel (k : ℕ) (x : Formula) (z : Side) (a b : Halves) : Type 0 where
  pub left : b.left ≡ star_onto (left_more z x []) a.left
  pub right : b.right ≡ star_onto (right_more z x []) a.right
  pub known : Around k 30 a.proof (view.Sep x (left_side a.proof)) (view.Sep b.left b.right) b.proof

-- the two halves for each other
pub record IsTurned (k : ℕ) (a b : Halves) : Type 0 where
  pub left : b.left ≡ a.right
  pub right : b.right ≡ a.left
  pub known : Around k 2 a.proof (left_side a.proof) (view.Sep b.left b.right) b.proof

abbrev pub across : Side → Side
across side.Left = side.Right
across side.Right = side.Left
across side.Both = side.Both

-- the sides, or those across from them
abbrev pub facing : Bool → (ℕ → Side) → ℕ → Side
facing true sides = λ i. across (sides i)
facing false sides = sides

-- the parts from place i on, each on its side
pub record IsDealt (k : ℕ) (side : ℕ → Side) (fs : List Formula) (i : ℕ) (a b : Halves) : Type 0 where
  pub within : i ≤ length fs
  pub left : b.left ≡ star_onto (lefts side i (drop i fs)) a.left
  pub right : b.right ≡ star_onto (rights side i (drop i fs)) a.right
  pub known : Around k (30 * (length fs - i)) a.proof (star_onto (drop i fs) (left_side a.proof)) (view.Sep b.left b.right) b.proof

-- all the parts, each on its side, whichever way they were walked
pub record IsSplit (k : ℕ) (side : ℕ → Side) (fs : List Formula) (a b : Halves) : Type 0 where
  pub left : b.left ≡ star_onto (lefts side 0 fs) a.left
  pub right : b.right ≡ star_onto (rights side 0 fs) a.right
  pub known : Around k (30 * length fs + 4) a.proof (star_onto fs (left_side a.proof)) (view.Sep b.left b.right) b.proof

-- the same behind the parts from place i on
pub record IsBehind (k : ℕ) (fs : List Formula) (i : ℕ) (by t : Tree) : Type 0 where
  pub within : i ≤ length fs
  pub known : Around k (2 * (length fs - i)) by (star_onto (drop i fs) (left_side by)) (star_onto (drop i fs) (right_side by)) t
