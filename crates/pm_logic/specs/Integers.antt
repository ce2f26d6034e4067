-- Which trees have integers of 64 bits alone.
use Rattle.std.specs.Prelude.{ℕ, ◌<◌, ◌^◌, ℤ, pos, negsuc, List, [], ◌∷◌}
use Rattle.pm_logic.specs.declared.formula.Term.{Term}
use Rattle.pm_logic.specs.declared.formula.Term.TheVariants.{Lit, Var}
use Rattle.pm_logic.specs.declared.formula.Pure.{Pure}
use Rattle.pm_logic.specs.declared.formula.Pure.TheVariants.{True, False, Eq, Le, Lt}
use Rattle.pm_logic.specs.declared.formula.Formula.{Formula}
use Rattle.pm_logic.specs.declared.formula.Formula.TheVariants.{Pure as Fact, Pts, Call}
use Rattle.pm_logic.specs.Trees.{add, sub, neg, scale, both, either, nope, Sep, Wand, And, Or, Imp, All, Ex, Later, Pers, Upd}

-- the number is -2^63 to 2^63 - 1
abbrev pub IsI64 : ℤ → Type 0
IsI64 (pos n) = n < 2 ^ 63
IsI64 (negsuc n) = n < 2 ^ 63

unfoldable pub TermIsI64 : Term → Type 0
TermIsI64 (Lit z) = IsI64 z
TermIsI64 (Var i) = Unit {0}
TermIsI64 (add s t) = TermIsI64 s × TermIsI64 t
TermIsI64 (sub s t) = TermIsI64 s × TermIsI64 t
TermIsI64 (neg t) = TermIsI64 t
TermIsI64 (scale z t) = IsI64 z × TermIsI64 t

unfoldable pub TermsAreI64 : List Term → Type 0
TermsAreI64 [] = Unit {0}
TermsAreI64 (t ∷ ts) = TermIsI64 t × TermsAreI64 ts

unfoldable pub PureIsI64 : Pure → Type 0
PureIsI64 True = Unit {0}
PureIsI64 False = Unit {0}
PureIsI64 (Eq s t) = TermIsI64 s × TermIsI64 t
PureIsI64 (Le s t) = TermIsI64 s × TermIsI64 t
PureIsI64 (Lt s t) = TermIsI64 s × TermIsI64 t
PureIsI64 (both a b) = PureIsI64 a × PureIsI64 b
PureIsI64 (either a b) = PureIsI64 a × PureIsI64 b
PureIsI64 (nope a) = PureIsI64 a

unfoldable pub FormulaIsI64 : Formula → Type 0
FormulaIsI64 (Fact a) = PureIsI64 a
FormulaIsI64 (Sep a b) = FormulaIsI64 a × FormulaIsI64 b
FormulaIsI64 (Wand a b) = FormulaIsI64 a × FormulaIsI64 b
FormulaIsI64 (And a b) = FormulaIsI64 a × FormulaIsI64 b
FormulaIsI64 (Or a b) = FormulaIsI64 a × FormulaIsI64 b
FormulaIsI64 (Imp a b) = FormulaIsI64 a × FormulaIsI64 b
FormulaIsI64 (All a) = FormulaIsI64 a
FormulaIsI64 (Ex a) = FormulaIsI64 a
FormulaIsI64 (Later a) = FormulaIsI64 a
FormulaIsI64 (Pers a) = FormulaIsI64 a
FormulaIsI64 (Upd a) = FormulaIsI64 a
FormulaIsI64 (Pts l u v) = TermIsI64 l × TermIsI64 v
FormulaIsI64 (Call q args) = TermsAreI64 args
