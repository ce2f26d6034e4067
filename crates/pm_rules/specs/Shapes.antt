-- Shapes: formulas over letters.
use Rattle.std.specs.Prelude.{ℕ}
use Rattle.pm_logic.specs.declared.formula.Pure as P
use Rattle.pm_logic.specs.declared.formula.Formula.{Formula}
use Rattle.pm_logic.specs.declared.formula.Formula.TheViews as view
use Rattle.pm_logic.specs.declared.formula.Formula.TheVariants.{Pure as Fact}
use Rattle.pm_logic.specs.Substitution.{shift_of}
use Rattle.pm_rules.specs.declared.pattern.Unary.{Unary}
use Rattle.pm_rules.specs.declared.pattern.Unary.TheVariants as unary
use Rattle.pm_rules.specs.declared.pattern.Binary.{Binary}
use Rattle.pm_rules.specs.declared.pattern.Binary.TheVariants as binary
use Rattle.pm_rules.specs.PureShapes.{PureShape, pure_instance}

pub data Shape : Type 0 where
  Letter : ℕ → Shape
  Shifted : ℕ → Shape
  Pure : PureShape → Shape
  One : Unary → Shape → Shape
  Two : Binary → Shape → Shape → Shape

-- what the letters stand for
pub record Letters : Type 0 where
  pub formula : ℕ → Formula
  pub pure : ℕ → P.Pure

-- the formula under the sign
abbrev pub one : Unary → Formula → Formula
one unary.All f = view.All f
one unary.Ex f = view.Ex f
one unary.Later f = view.Later f
one unary.Pers f = view.Pers f
one unary.Upd f = view.Upd f

-- the formulas under the sign
abbrev pub two : Binary → Formula → Formula → Formula
two binary.Sep f g = view.Sep f g
two binary.Wand f g = view.Wand f g
two binary.And f g = view.And f g
two binary.Or f g = view.Or f g
two binary.Imp f g = view.Imp f g

-- the formula of a shape; a shifted letter has each free index one higher
abbrev pub instance : Letters → Shape → Formula
instance s (Letter i) = s.formula i
instance s (Shifted i) = shift_of (s.formula i)
instance s (Pure a) = Fact (pure_instance s.pure a)
instance s (One o a) = one o (instance s a)
instance s (Two o a b) = two o (instance s a) (instance s b)

-- the two sides of an entailment
pub record Sequent : Type 0 where
  pub left : Shape
  pub right : Shape
