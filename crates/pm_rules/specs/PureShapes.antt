-- Shapes of pure formulas: pure formulas over letters.
use Rattle.std.specs.Prelude.{ℕ}
use Rattle.pm_logic.specs.declared.formula.Pure.{Pure}
use Rattle.pm_logic.specs.declared.formula.Pure.TheViews as view
use Rattle.pm_logic.specs.declared.formula.Pure.TheVariants as pure

pub data PureShape : Type 0 where
  Letter : ℕ → PureShape
  True : PureShape
  False : PureShape
  And : PureShape → PureShape → PureShape
  Or : PureShape → PureShape → PureShape
  Not : PureShape → PureShape

-- the pure formula of a shape, where each letter stands for a pure formula
abbrev pub pure_instance : (ℕ → Pure) → PureShape → Pure
pure_instance s (Letter i) = s i
pure_instance s True = pure.True
pure_instance s False = pure.False
pure_instance s (And a b) = view.And (pure_instance s a) (pure_instance s b)
pure_instance s (Or a b) = view.Or (pure_instance s a) (pure_instance s b)
pure_instance s (Not a) = view.Not (pure_instance s a)
