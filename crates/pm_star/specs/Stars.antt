-- Flat stars, and what a move makes of one.
use Rattle.std.specs.Prelude.{◌≡◌, ℕ, suc, ◌+◌, ◌*◌, ◌<◌, ◌⊎◌, cond, nat_lt, ◌==◌, Some, option_map, List, [], ◌∷◌, ◌++◌, length, get_or, slice_get, remove}
use Rattle.std.specs.List.{list_any}
use Rattle.pm_logic.specs.declared.formula.Formula.{Formula}
use Rattle.pm_logic.specs.declared.formula.Formula.TheVariants.{Pure as Assert}
use Rattle.pm_logic.specs.declared.formula.Formula.TheViews as view
use Rattle.pm_logic.specs.declared.formula.Pure.TheVariants as pure
use Rattle.pm_goal.specs.declared.goal.Goal.{Goal}
use Rattle.pm_goal.specs.declared.work.Held.{Held}
use Rattle.pm_goal.specs.declared.work.Work.{Work}
use Rattle.pm_goal.specs.declared.work.Kind.TheVariants as kind
use Rattle.pm_goal.specs.Left.{star_onto, facts, hyps_as, hyps, held_parts}
use Rattle.pm_proof.specs.Trees.{Tree, entail, side_depth}
use Rattle.pm_proof.specs.Known.{Proves, Extends, Every}
use Rattle.pm_star.specs.declared.side.Side.{Side}
use Rattle.pm_star.specs.declared.side.Side.TheVariants as side

-- nested to the right and ending in truth
abbrev pub star : List Formula → Formula
star fs = star_onto fs (Assert pure.True)

-- the parts that may be used any number of times
abbrev pub shared : Goal → List Formula
shared goal = facts goal.pures ++ hyps_as kind.Int goal.ints

-- the parts of a goal's star, whose places are counted from 0
abbrev pub parts : Goal → List Formula
parts goal = shared goal ++ hyps goal.spats

-- those in hand stand behind
abbrev pub work_parts : Work → List Formula
work_parts work = parts work.goal ++ held_parts work.held

-- the place of a part of the goal that may be used any number of times, or of an intuitionistic one in hand
abbrev pub MayRepeat : Work → ℕ → Type 0
MayRepeat work place = (place < length (shared work.goal)) ⊎ ((i : ℕ) × (place ≡ length (parts work.goal) + i) × (option_map (λ (h : Held). h.kind) (slice_get work.held i) ≡ Some kind.Int))

abbrev pub part_at : List Formula → ℕ → Formula
part_at fs i = get_or fs i (Assert pure.True)

-- ---- what a star becomes

abbrev pub without : List Formula → ℕ → List Formula
without fs i = remove fs i

abbrev pub in_front : List Formula → ℕ → List Formula
in_front fs i = part_at fs i ∷ without fs i

abbrev pub duplicated : List Formula → ℕ → List Formula
duplicated fs i = part_at fs i ∷ fs

-- where the part at a place goes: the first n to both sides, those at the listed places to the left, all others to the right
abbrev pub side_at : ℕ → List ℕ → ℕ → Side
side_at n listed i = cond (nat_lt i n) side.Both (cond (list_any (λ j. j == i) listed) side.Left side.Right)

abbrev pub left_more : Side → Formula → List Formula → List Formula
left_more side.Left f fs = f ∷ fs
left_more side.Right f fs = fs
left_more side.Both f fs = f ∷ fs

abbrev pub right_more : Side → Formula → List Formula → List Formula
right_more side.Left f fs = fs
right_more side.Right f fs = f ∷ fs
right_more side.Both f fs = f ∷ fs

-- the parts that go to the left, in order, the first of all having the place i
abbrev pub lefts : (ℕ → Side) → ℕ → List Formula → List Formula
lefts side i [] = []
lefts side i (f ∷ fs) = left_more (side i) f (lefts side (suc i) fs)

-- the parts that go to the right
abbrev pub rights : (ℕ → Side) → ℕ → List Formula → List Formula
rights side i [] = []
rights side i (f ∷ fs) = right_more (side i) f (rights side (suc i) fs)

-- one star entails two, among which its parts are dealt
abbrev pub dealt : ℕ → List ℕ → List Formula → Formula
dealt n listed fs = view.Sep (star (lefts (side_at n listed) 0 fs)) (star (rights (side_at n listed) 0 fs))

-- ---- what a move's proof is

-- how deep a proof of l ⊢ r may go
abbrev pub room : Formula → Formula → ℕ
room l r = side_depth (entail 0 l r) + 8

-- a proof, in k variables, that a star of n parts entails r, without holes
abbrev pub Moves : ℕ → ℕ → Formula → Formula → Tree → Type 0
Moves k n l r t = Proves Every (entail k l r) [] (100 * (n + 1)) (room l r) k t

-- the same around a proof that is handed in
abbrev pub MovesBy : Tree → ℕ → ℕ → Formula → Formula → Tree → Type 0
MovesBy by k n l r t = Extends by (entail k l r) (100 * (n + 1)) (room l r) k t
