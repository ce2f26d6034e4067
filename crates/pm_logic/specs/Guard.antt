-- Which bodies call only earlier predicates, but for calls under a later.
use Rattle.std.specs.Prelude.{ℕ, ◌<◌, List, length}
use Rattle.pm_logic.specs.declared.formula.Formula.{Formula}
use Rattle.pm_logic.specs.declared.formula.Formula.TheVariants.{Pure as Fact, Pts, Call}
use Rattle.pm_logic.specs.declared.formula.Pred.{Pred}
use Rattle.pm_logic.specs.Trees.{Sep, Wand, And, Or, Imp, All, Ex, Later, Pers, Upd}
use Rattle.pm_logic.specs.Scope.{body_of}

-- each call that stands under no later names a predicate below p
unfoldable pub CallsBelow : ℕ → Formula → Type 0
CallsBelow p (Fact a) = Unit {0}
CallsBelow p (Sep a b) = CallsBelow p a × CallsBelow p b
CallsBelow p (Wand a b) = CallsBelow p a × CallsBelow p b
CallsBelow p (And a b) = CallsBelow p a × CallsBelow p b
CallsBelow p (Or a b) = CallsBelow p a × CallsBelow p b
CallsBelow p (Imp a b) = CallsBelow p a × CallsBelow p b
CallsBelow p (All a) = CallsBelow p a
CallsBelow p (Ex a) = CallsBelow p a
CallsBelow p (Later a) = Unit {0}
CallsBelow p (Pers a) = CallsBelow p a
CallsBelow p (Upd a) = CallsBelow p a
CallsBelow p (Pts l u v) = Unit {0}
CallsBelow p (Call q args) = q < p

-- in each body, calls that stand under no later name predicates below the body's own
abbrev pub IsGuarded : List Pred → Type 0
IsGuarded preds = (p : ℕ) → p < length preds → CallsBelow p (body_of preds p)
