-- Formulas with a sign at the top.
use Rattle.std.specs.Prelude.{◌≡◌, Option, None, Some}
use Rattle.pm_logic.specs.declared.formula.Formula.{Formula}
use Rattle.pm_rules.specs.declared.pattern.Unary.{Unary}
use Rattle.pm_rules.specs.declared.pattern.Binary.{Binary}
use Rattle.pm_rules.specs.Shapes.{one, two}

-- the operand, where the formula stands under the sign
abbrev pub IsOperand : Unary → Formula → Option Formula → Type 0
IsOperand o f None = (a : Formula) → f ≡ one o a → ⊥
IsOperand o f (Some a) = f ≡ one o a

abbrev pub NotTwo : Binary → Formula → Type 0
NotTwo o f = (a b : Formula) → f ≡ two o a b → ⊥
