-- Framing: what is left of the conclusion Q once a hypothesis R is taken out of it.
use Rattle.std.specs.Prelude.{ℕ, ◌-◌, ◌&&◌, ◌||◌, nat_lt, if◌then◌else◌, Option, Some, None, option_and_then}
use Rattle.std.specs.Bool.{then_some}
use Rattle.pm_logic.specs.declared.formula.Term.{Term}
use Rattle.pm_logic.specs.declared.formula.Pure.TheVariants.{True}
use Rattle.pm_logic.specs.declared.formula.Formula.{Formula}
use Rattle.pm_logic.specs.declared.formula.Formula.TheVariants.{Pure as Fact, Pts, Call}
use Rattle.pm_logic.specs.Trees.{Sep, Wand, And, Or, Imp, All, Ex, Later, Pers, Upd}
use Rattle.pm_logic.specs.Abstraction.{term_eq}
use Rattle.pm_logic.specs.Substitution.{shift_of}
use Rattle.pm_goal.specs.Find.{first_of_two}
use Rattle.pm_table.specs.Equality.{formula_eq}
use Rattle.pm_table.specs.Basic.{is_truth}
use Rattle.pm_table.specs.Modalities.{under_later}

abbrev pub truth : Formula
truth = Fact True

-- ---- the node Q above the rests of its parts, where a part has one; it is simplified once where such a rest is truth

-- A ∗ B: what is left of A where A has a rest, and else what is left of B; where that is truth, the other side
unfoldable pub star : Formula → Formula → Option Formula → Option Formula → Option Formula
star a b (Some l) r = Some (if is_truth l then b else Sep l b)
star a b None (Some r) = Some (if is_truth r then a else Sep a r)
star a b None None = None

-- A ∧ B: what is left of each side that has a rest; where that is truth, the other side or what is left of it
unfoldable pub conjunction : Formula → Formula → Option Formula → Option Formula → Option Formula
conjunction a b (Some l) (Some r) = Some (if is_truth l then r else if is_truth r then l else And l r)
conjunction a b (Some l) None = Some (if is_truth l then b else And l b)
conjunction a b None (Some r) = Some (if is_truth r then a else And a r)
conjunction a b None None = None

-- A ∨ B: likewise; where what is left of a side is truth, truth
unfoldable pub disjunction : Formula → Formula → Option Formula → Option Formula → Option Formula
disjunction a b (Some l) (Some r) = Some (if is_truth l || is_truth r then truth else Or l r)
disjunction a b (Some l) None = Some (if is_truth l then truth else Or l b)
disjunction a b None (Some r) = Some (if is_truth r then truth else Or a r)
disjunction a b None None = None

-- a node with one part that is framed: where what is left of that is truth, truth
unfoldable pub above : (Formula → Formula) → Option Formula → Option Formula
above node (Some a) = Some (if is_truth a then truth else node a)
above node None = None

-- ---- the entries

-- Q is R: truth
unfoldable pub whole : Formula → Formula → Option Formula
whole r q = then_some (formula_eq r q) truth

-- R is l↦{a}v, Q is l↦{b}v, a < b: l↦{b-a}v
unfoldable pub fewer_units : Formula → Term → ℕ → Term → Option Formula
fewer_units (Pts k a w) l b v = then_some (term_eq k l && term_eq w v && nat_lt a b) (Pts l (b - a) v)
fewer_units _ l b v = None

infixr 3 ◌or◌
abbrev pub ◌or◌ : Option Formula → Option Formula → Option Formula
x or y = first_of_two x y

-- the rest by the first entry that applies
unfoldable pub frame : Formula → Formula → Option Formula
frame r (Pts l b v) = whole r (Pts l b v) or fewer_units r l b v
frame r (Sep a b) = whole r (Sep a b) or star a b (frame r a) (frame r b)
frame r (And a b) = whole r (And a b) or conjunction a b (frame r a) (frame r b)
frame r (Or a b) = whole r (Or a b) or disjunction a b (frame r a) (frame r b)
frame r (Ex a) = whole r (Ex a) or above (λ x. Ex x) (frame (shift_of r) a)
frame r (All a) = whole r (All a) or above (λ x. All x) (frame (shift_of r) a)
frame r (Later a) = whole r (Later a) or above (λ x. Later x) (option_and_then (λ r0. frame r0 a) (under_later r) or frame r a)
frame r (Upd a) = whole r (Upd a) or above (λ x. Upd x) (frame r a)
frame r (Wand a b) = whole r (Wand a b) or above (λ x. Wand a x) (frame r b)
-- nothing else has an entry but the first
frame r (Fact p) = whole r (Fact p)
frame r (Imp a b) = whole r (Imp a b)
frame r (Pers a) = whole r (Pers a)
frame r (Call p args) = whole r (Call p args)
