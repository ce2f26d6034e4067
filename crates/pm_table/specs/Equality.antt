-- Whether trees are equal, as what computes can ask it.
use Rattle.std.specs.Prelude.{Bool, true, false, ◌&&◌, nat_eq, List, [], ◌∷◌}
use Rattle.pm_logic.specs.declared.formula.Term.{Term}
use Rattle.pm_logic.specs.declared.formula.Pure.{Pure}
use Rattle.pm_logic.specs.declared.formula.Pure.TheVariants.{True, False, Eq, Le, Lt}
use Rattle.pm_logic.specs.declared.formula.Formula.{Formula}
use Rattle.pm_logic.specs.declared.formula.Formula.TheVariants.{Pure as Assert, Pts, Call}
use Rattle.pm_logic.specs.Trees.{both, either, nope, Sep, Wand, And, Or, Imp, All, Ex, Later, Pers, Upd}
use Rattle.pm_logic.specs.Abstraction.{term_eq}

unfoldable pub terms_eq : List Term → List Term → Bool
terms_eq [] [] = true
terms_eq (s ∷ ss) (t ∷ ts) = term_eq s t && terms_eq ss ts
terms_eq _ _ = false

unfoldable pub pure_eq : Pure → Pure → Bool
pure_eq True True = true
pure_eq False False = true
pure_eq (Eq a b) (Eq s t) = term_eq a s && term_eq b t
pure_eq (Le a b) (Le s t) = term_eq a s && term_eq b t
pure_eq (Lt a b) (Lt s t) = term_eq a s && term_eq b t
pure_eq (both a b) (both p q) = pure_eq a p && pure_eq b q
pure_eq (either a b) (either p q) = pure_eq a p && pure_eq b q
pure_eq (nope a) (nope p) = pure_eq a p
pure_eq _ _ = false

unfoldable pub formula_eq : Formula → Formula → Bool
formula_eq (Assert p) (Assert q) = pure_eq p q
formula_eq (Sep a b) (Sep c d) = formula_eq a c && formula_eq b d
formula_eq (Wand a b) (Wand c d) = formula_eq a c && formula_eq b d
formula_eq (And a b) (And c d) = formula_eq a c && formula_eq b d
formula_eq (Or a b) (Or c d) = formula_eq a c && formula_eq b d
formula_eq (Imp a b) (Imp c d) = formula_eq a c && formula_eq b d
formula_eq (All a) (All c) = formula_eq a c
formula_eq (Ex a) (Ex c) = formula_eq a c
formula_eq (Later a) (Later c) = formula_eq a c
formula_eq (Pers a) (Pers c) = formula_eq a c
formula_eq (Upd a) (Upd c) = formula_eq a c
formula_eq (Pts l u v) (Pts m w x) = term_eq l m && nat_eq u w && term_eq v x
formula_eq (Call q ss) (Call r ts) = nat_eq q r && terms_eq ss ts
formula_eq _ _ = false
