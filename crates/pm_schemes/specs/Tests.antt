-- The test that each step of a derivation over letters fits its rule, and that no letter comes in besides.
use Rattle.std.specs.Prelude.{ℕ, suc, ◌==◌, Bool, true, false, ◌&&◌, ◌||◌, cond, List, [], ◌∷◌, ◌++◌, slice_index_or}
use Rattle.pm_rules.specs.declared.rules.Rule.{Rule}
use Rattle.pm_rules.specs.declared.rules.Rule.TheVariants.{Inst, AllE, ExI, Linear, Rewrite, Timeless}
use Rattle.pm_rules.specs.declared.pattern.Unary.{Unary}
use Rattle.pm_rules.specs.declared.pattern.Unary.TheVariants as o
use Rattle.pm_rules.specs.declared.pattern.Binary.{Binary}
use Rattle.pm_rules.specs.declared.pattern.Binary.TheVariants as t
use Rattle.pm_rules.specs.PureShapes as pure
use Rattle.pm_rules.specs.PureShapes.{PureShape}
use Rattle.pm_rules.specs.Shapes as shape
use Rattle.pm_rules.specs.Shapes.{Shape, Sequent}
use Rattle.pm_rules.specs.Rows.{Row, Shapes, Computed, row}
use Rattle.pm_schemes.specs.Sketches.{Sketch, Gap, Axiom, One, Two, claim, gaps}

-- ---- equal shapes

abbrev pub same_unary : Unary → Unary → Bool
same_unary o.All o.All = true
same_unary o.Ex o.Ex = true
same_unary o.Later o.Later = true
same_unary o.Pers o.Pers = true
same_unary o.Upd o.Upd = true
same_unary _ _ = false

abbrev pub same_binary : Binary → Binary → Bool
same_binary t.Sep t.Sep = true
same_binary t.Wand t.Wand = true
same_binary t.And t.And = true
same_binary t.Or t.Or = true
same_binary t.Imp t.Imp = true
same_binary _ _ = false

abbrev pub same_pure_shape : PureShape → PureShape → Bool
same_pure_shape (pure.Letter i) (pure.Letter j) = i == j
same_pure_shape pure.True pure.True = true
same_pure_shape pure.False pure.False = true
same_pure_shape (pure.And a b) (pure.And c d) = same_pure_shape a c && same_pure_shape b d
same_pure_shape (pure.Or a b) (pure.Or c d) = same_pure_shape a c && same_pure_shape b d
same_pure_shape (pure.Not a) (pure.Not b) = same_pure_shape a b
same_pure_shape _ _ = false

abbrev pub same_shape : Shape → Shape → Bool
same_shape (shape.Letter i) (shape.Letter j) = i == j
same_shape (shape.Pure a) (shape.Pure b) = same_pure_shape a b
same_shape (shape.One u a) (shape.One v b) = same_unary u v && same_shape a b
same_shape (shape.Two u a b) (shape.Two v c d) = same_binary u v && same_shape a c && same_shape b d
same_shape _ _ = false

-- ---- what the letters of a row stand for: the shapes that a step has at their places, of which the first is tried

abbrev pub found : ℕ → Shape → Shape → List Shape
found i (shape.Letter j) x = cond (i == j) (x ∷ []) []
found i (shape.One u a) (shape.One v b) = found i a b
found i (shape.Two u a b) (shape.Two v c d) = found i a c ++ found i b d
found i _ _ = []

abbrev pub found_within : ℕ → PureShape → PureShape → List PureShape
found_within i (pure.Letter j) x = cond (i == j) (x ∷ []) []
found_within i (pure.And a b) (pure.And c d) = found_within i a c ++ found_within i b d
found_within i (pure.Or a b) (pure.Or c d) = found_within i a c ++ found_within i b d
found_within i (pure.Not a) (pure.Not b) = found_within i a b
found_within i _ _ = []

abbrev pub found_pure : ℕ → Shape → Shape → List PureShape
found_pure i (shape.Pure a) (shape.Pure b) = found_within i a b
found_pure i (shape.One u a) (shape.One v b) = found_pure i a b
found_pure i (shape.Two u a b) (shape.Two v c d) = found_pure i a c ++ found_pure i b d
found_pure i _ _ = []

abbrev pub found_in : ℕ → List Sequent → List Sequent → List Shape
found_in i [] cs = []
found_in i (x ∷ xs) [] = []
found_in i (x ∷ xs) (c ∷ cs) = found i x.left c.left ++ found i x.right c.right ++ found_in i xs cs

abbrev pub found_pure_in : ℕ → List Sequent → List Sequent → List PureShape
found_pure_in i [] cs = []
found_pure_in i (x ∷ xs) [] = []
found_pure_in i (x ∷ xs) (c ∷ cs) = found_pure i x.left c.left ++ found_pure i x.right c.right ++ found_pure_in i xs cs

-- shapes in place of the letters of a row
pub record Guess : Type 0 where
  pub formula : ℕ → Shape
  pub pure : ℕ → PureShape

abbrev pub guess : List Sequent → List Sequent → Guess
guess xs cs = record { formula = λ i. slice_index_or (found_in i xs cs) 0 (shape.Pure pure.True); pure = λ i. slice_index_or (found_pure_in i xs cs) 0 pure.True }

-- ---- whether the row's shape at these is the step's

abbrev pub meets_pure : (ℕ → PureShape) → PureShape → PureShape → Bool
meets_pure g (pure.Letter i) c = same_pure_shape (g i) c
meets_pure g pure.True pure.True = true
meets_pure g pure.False pure.False = true
meets_pure g (pure.And a b) (pure.And c d) = meets_pure g a c && meets_pure g b d
meets_pure g (pure.Or a b) (pure.Or c d) = meets_pure g a c && meets_pure g b d
meets_pure g (pure.Not a) (pure.Not b) = meets_pure g a b
meets_pure g _ _ = false

abbrev pub meets : Guess → Shape → Shape → Bool
meets g (shape.Letter i) c = same_shape (g.formula i) c
meets g (shape.Pure a) (shape.Pure b) = meets_pure g.pure a b
meets g (shape.One u a) (shape.One v b) = same_unary u v && meets g a b
meets g (shape.Two u a b) (shape.Two v c d) = same_binary u v && meets g a c && meets g b d
meets g _ _ = false

abbrev pub sides_meet : Guess → Sequent → Sequent → Bool
sides_meet g x c = meets g x.left c.left && meets g x.right c.right

abbrev pub all_meet : Guess → List Sequent → List Sequent → Bool
all_meet g [] [] = true
all_meet g (x ∷ xs) (c ∷ cs) = sides_meet g x c && all_meet g xs cs
all_meet g _ _ = false

-- ---- whether a step fits its rule

-- a rule that takes and asks nothing besides
abbrev pub is_bare : Rule → Bool
is_bare (Inst sigma) = false
is_bare (AllE t) = false
is_bare (ExI t) = false
is_bare (Linear c d) = false
is_bare (Rewrite b) = false
is_bare Timeless = false
is_bare _ = true

unfoldable pub fits_row : Row → List Sequent → Sequent → Bool
fits_row (Shapes n more given x) gs c = more == 0 && sides_meet (guess (x ∷ given) (c ∷ gs)) x c && all_meet (guess (x ∷ given) (c ∷ gs)) given gs
fits_row (Computed n count holds) gs c = false

abbrev pub fits : Rule → List Sequent → Sequent → Bool
fits r gs c = is_bare r && fits_row (row r) gs c

-- and whether each does
abbrev pub each_fits : Sketch → Bool
each_fits (Gap c) = true
each_fits (Axiom r c) = fits r [] c
each_fits (One r c a) = fits r (claim a ∷ []) c && each_fits a
each_fits (Two r c a b) = fits r (claim a ∷ claim b ∷ []) c && each_fits a && each_fits b

-- ---- whether the steps speak of nothing that stands neither in what is derived nor in a gap

-- a letter, shifted or not, or one of the pure ones, that stands under so many binders
pub data Use : Type 0 where
  Plain : ℕ → ℕ → Use
  Shifted : ℕ → ℕ → Use
  Pure : ℕ → ℕ → Use

abbrev pub same_use : Use → Use → Bool
same_use (Plain d i) (Plain e j) = d == e && i == j
same_use (Shifted d i) (Shifted e j) = d == e && i == j
same_use (Pure d i) (Pure e j) = d == e && i == j
same_use _ _ = false

-- the binders over what stands under the sign, where so many are over the sign
abbrev pub below : Unary → ℕ → ℕ
below o.All d = suc d
below o.Ex d = suc d
below o.Later d = d
below o.Pers d = d
below o.Upd d = d

abbrev pub pure_uses : ℕ → PureShape → List Use
pure_uses d (pure.Letter i) = Pure d i ∷ []
pure_uses d pure.True = []
pure_uses d pure.False = []
pure_uses d (pure.And a b) = pure_uses d a ++ pure_uses d b
pure_uses d (pure.Or a b) = pure_uses d a ++ pure_uses d b
pure_uses d (pure.Not a) = pure_uses d a

-- the letters of the shape, which stands under d binders itself
abbrev pub uses : ℕ → Shape → List Use
uses d (shape.Letter i) = Plain d i ∷ []
uses d (shape.Shifted i) = Shifted d i ∷ []
uses d (shape.Pure a) = pure_uses d a
uses d (shape.One u a) = uses (below u d) a
uses d (shape.Two u a b) = uses d a ++ uses d b

abbrev pub sides_uses : Sequent → List Use
sides_uses c = uses 0 c.left ++ uses 0 c.right

abbrev pub uses_of_all : List Sequent → List Use
uses_of_all [] = []
uses_of_all (c ∷ cs) = sides_uses c ++ uses_of_all cs

-- the letters of the steps
abbrev pub uses_in : Sketch → List Use
uses_in (Gap c) = []
uses_in (Axiom r c) = sides_uses c
uses_in (One r c a) = sides_uses c ++ uses_in a
uses_in (Two r c a b) = sides_uses c ++ uses_in a ++ uses_in b

-- those of what is derived, and of the gaps
abbrev pub uses_stated : Sketch → List Use
uses_stated x = sides_uses (claim x) ++ uses_of_all (gaps x)

abbrev pub is_among : Use → List Use → Bool
is_among u [] = false
is_among u (v ∷ vs) = same_use u v || is_among u vs

abbrev pub are_among : List Use → List Use → Bool
are_among [] vs = true
are_among (u ∷ us) vs = is_among u vs && are_among us vs

-- ---- whether each step fits its rule, and each of its letters stands in what is derived or in a gap

unfoldable pub passes : Sketch → Bool
passes x = each_fits x && are_among (uses_in x) (uses_stated x)
