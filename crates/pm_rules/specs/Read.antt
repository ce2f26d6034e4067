-- The shapes and rows that the code's static data stand for.
use Rattle.std.specs.Prelude.{ℕ, List, [], ◌∷◌}
use Rattle.pm_logic.specs.declared.formula.Preds.{Preds}
use Rattle.pm_rules.specs.declared.pattern.Letter.{Letter}
use Rattle.pm_rules.specs.declared.pattern.Letter.TheVariants as letter
use Rattle.pm_rules.specs.declared.pattern.PureLetter.{PureLetter}
use Rattle.pm_rules.specs.declared.pattern.PureLetter.TheVariants as pure_letter
use Rattle.pm_rules.specs.declared.pattern.PurePattern.{PurePattern}
use Rattle.pm_rules.specs.declared.pattern.PurePattern.TheVariants as pure
use Rattle.pm_rules.specs.declared.pattern.Pattern.{Pattern}
use Rattle.pm_rules.specs.declared.pattern.Pattern.TheVariants as pattern
use Rattle.pm_rules.specs.declared.pattern.Sides.{Sides}
use Rattle.pm_rules.specs.declared.table.Premises.{Premises}
use Rattle.pm_rules.specs.declared.table.Premises.TheVariants as count
use Rattle.pm_rules.specs.declared.table.Row as code
use Rattle.pm_rules.specs.declared.table.Row.TheVariants as variant
use Rattle.pm_rules.specs.declared.rules.Entail.{Entail}
use Rattle.pm_rules.specs.declared.given.Given.{Given}
use Rattle.pm_rules.specs.declared.given.Given.TheVariants as given
use Rattle.pm_rules.specs.PureShapes as pure_shape
use Rattle.pm_rules.specs.Shapes as shape
use Rattle.pm_rules.specs.Shapes.{Sequent}
use Rattle.pm_rules.specs.Notation.{◌⊢◌, All, Ex, P, Q, B, P↑, Q↑}
use Rattle.pm_rules.specs.Rows.{Row, Shapes, Computed, under, Frame, Shaped, Counted, frame}

abbrev pub place : Letter → ℕ
place letter.First = 0
place letter.Second = 1
place letter.Third = 2
place letter.Fourth = 3

abbrev pub pure_place : PureLetter → ℕ
pure_place pure_letter.First = 0
pure_place pure_letter.Second = 1

abbrev pub pure_shape_of : PurePattern → pure_shape.PureShape
pure_shape_of (pure.Letter l) = pure_shape.Letter (pure_place l)
pure_shape_of pure.True = pure_shape.True
pure_shape_of pure.False = pure_shape.False
pure_shape_of (pure.And' _ a _ b) = pure_shape.And (pure_shape_of a) (pure_shape_of b)
pure_shape_of (pure.Or' _ a _ b) = pure_shape.Or (pure_shape_of a) (pure_shape_of b)
pure_shape_of (pure.Not' _ a) = pure_shape.Not (pure_shape_of a)

abbrev pub shape_of : Pattern → shape.Shape
shape_of (pattern.Letter l) = shape.Letter (place l)
shape_of (pattern.Pure a) = shape.Pure (pure_shape_of a.now)
shape_of (pattern.One' o _ a) = shape.One o (shape_of a)
shape_of (pattern.Two' o _ a _ b) = shape.Two o (shape_of a) (shape_of b)

abbrev pub sequent_of : Sides → Sequent
sequent_of c = record { left = shape_of c.left; right = shape_of c.right }

abbrev pub sequents_of : Premises → List Sequent
sequents_of count.Zero = []
sequents_of (count.One a) = sequent_of a ∷ []
sequents_of (count.Two a b) = sequent_of a ∷ sequent_of b ∷ []

-- a static row has all of a row but its relation
abbrev pub frame_of : code.Row → Frame
frame_of (variant.Shapes n given c) = Shaped n 0 (sequents_of given) (sequent_of c)
frame_of (variant.AllIntro n) = frame (under n (P↑ ⊢ B) (P ⊢ All B))
frame_of (variant.ExElim n) = frame (under n (B ⊢ Q↑) (Ex B ⊢ Q))
frame_of (variant.Computed n many) = Counted n many

-- the relation of a row, which one of shapes doesn't have
abbrev pub HasEquations : Row → Preds → List Entail → Entail → Type 0
HasEquations (Shapes n more given c) preds ps e = ⊥
HasEquations (Computed n count holds) preds ps e = holds preds ps e

-- the premises that are handed in
abbrev pub given_of : Given → List Entail
given_of given.Zero = []
given_of (given.One p) = p.now ∷ []
given_of (given.Two p q) = p.now ∷ q.now ∷ []
