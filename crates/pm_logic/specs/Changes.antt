-- A change of each term of a formula, by the number of binders that it stands under.
use Rattle.std.specs.Prelude.{ℕ, suc, map}
use Rattle.pm_logic.specs.declared.formula.Term.{Term}
use Rattle.pm_logic.specs.declared.formula.Pure.{Pure}
use Rattle.pm_logic.specs.declared.formula.Pure.TheVariants.{True, False, Eq, Le, Lt}
use Rattle.pm_logic.specs.declared.formula.Formula.{Formula}
use Rattle.pm_logic.specs.declared.formula.Formula.TheVariants.{Pure as Fact, Pts, Call}
use Rattle.pm_logic.specs.Trees.{both, either, nope, Sep, Wand, And, Or, Imp, All, Ex, Later, Pers, Upd}

unfoldable pub changed_pure : (Term → Term) → Pure → Pure
changed_pure c True = True
changed_pure c False = False
changed_pure c (Eq s t) = Eq (c s) (c t)
changed_pure c (Le s t) = Le (c s) (c t)
changed_pure c (Lt s t) = Lt (c s) (c t)
changed_pure c (both a b) = both (changed_pure c a) (changed_pure c b)
changed_pure c (either a b) = either (changed_pure c a) (changed_pure c b)
changed_pure c (nope a) = nope (changed_pure c a)

-- the formula, which stands under d binders itself, after the change
unfoldable pub changed : (ℕ → Term → Term) → ℕ → Formula → Formula
changed c d (Fact a) = Fact (changed_pure (c d) a)
changed c d (Sep a b) = Sep (changed c d a) (changed c d b)
changed c d (Wand a b) = Wand (changed c d a) (changed c d b)
changed c d (And a b) = And (changed c d a) (changed c d b)
changed c d (Or a b) = Or (changed c d a) (changed c d b)
changed c d (Imp a b) = Imp (changed c d a) (changed c d b)
changed c d (All a) = All (changed c (suc d) a)
changed c d (Ex a) = Ex (changed c (suc d) a)
changed c d (Later a) = Later (changed c d a)
changed c d (Pers a) = Pers (changed c d a)
changed c d (Upd a) = Upd (changed c d a)
changed c d (Pts l u v) = Pts (c d l) u (c d v)
changed c d (Call q args) = Call q (map (c d) args)
