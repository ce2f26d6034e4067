-- Pure formulas and formulas with the connective of another.
use Rattle.pm_logic.specs.declared.formula.Term.{Term}
use Rattle.pm_logic.specs.declared.formula.Pure.{Pure}
use Rattle.pm_logic.specs.declared.formula.Pure.TheVariants.{Eq, Le, Lt}
use Rattle.pm_logic.specs.declared.formula.Formula.{Formula}
use Rattle.pm_logic.specs.Trees.{both, either, Sep, Wand, And, Or, Imp, All, Ex, Later, Pers, Upd}

unfoldable pub HasTwoParts : Formula → Type 0
HasTwoParts (Sep a b) = Unit {0}
HasTwoParts (Wand a b) = Unit {0}
HasTwoParts (And a b) = Unit {0}
HasTwoParts (Or a b) = Unit {0}
HasTwoParts (Imp a b) = Unit {0}
HasTwoParts _ = ⊥

unfoldable pub HasOnePart : Formula → Type 0
HasOnePart (All a) = Unit {0}
HasOnePart (Ex a) = Unit {0}
HasOnePart (Later a) = Unit {0}
HasOnePart (Pers a) = Unit {0}
HasOnePart (Upd a) = Unit {0}
HasOnePart _ = ⊥

-- the two formulas under the connective of the first, where that has two parts
unfoldable pub paired : Formula → Formula → Formula → Formula
paired (Sep a b) x y = Sep x y
paired (Wand a b) x y = Wand x y
paired (And a b) x y = And x y
paired (Or a b) x y = Or x y
paired (Imp a b) x y = Imp x y
paired f x y = f

-- the formula under the quantifier or modality of the first, where that has one part
unfoldable pub single : Formula → Formula → Formula
single (All a) x = All x
single (Ex a) x = Ex x
single (Later a) x = Later x
single (Pers a) x = Pers x
single (Upd a) x = Upd x
single f x = f

unfoldable pub IsComparison : Pure → Type 0
IsComparison (Eq s t) = Unit {0}
IsComparison (Le s t) = Unit {0}
IsComparison (Lt s t) = Unit {0}
IsComparison _ = ⊥

unfoldable pub IsJoined : Pure → Type 0
IsJoined (both a b) = Unit {0}
IsJoined (either a b) = Unit {0}
IsJoined _ = ⊥

-- the comparison of the first, between the two terms
unfoldable pub compared : Pure → Term → Term → Pure
compared (Eq s t) x y = Eq x y
compared (Le s t) x y = Le x y
compared (Lt s t) x y = Lt x y
compared p x y = p

-- the conjunction or disjunction of the two, whichever the first is
unfoldable pub joined : Pure → Pure → Pure → Pure
joined (both a b) x y = both x y
joined (either a b) x y = either x y
joined p x y = p
