-- Which formulas are taken as persistent, and which as timeless.
use Rattle.pm_logic.specs.declared.formula.Formula.{Formula}
use Rattle.pm_logic.specs.declared.formula.Formula.TheVariants.{Pure as Fact, Pts, Call}
use Rattle.pm_logic.specs.Trees.{Sep, Wand, And, Or, Imp, All, Ex, Later, Pers, Upd}

-- pure, under a persistence modality, or made of persistent parts by and, or, star, quantifiers or later
unfoldable pub IsPersistent : Formula → Type 0
IsPersistent (Fact a) = Unit {0}
IsPersistent (Sep a b) = IsPersistent a × IsPersistent b
IsPersistent (Wand a b) = ⊥
IsPersistent (And a b) = IsPersistent a × IsPersistent b
IsPersistent (Or a b) = IsPersistent a × IsPersistent b
IsPersistent (Imp a b) = ⊥
IsPersistent (All a) = IsPersistent a
IsPersistent (Ex a) = IsPersistent a
IsPersistent (Later a) = IsPersistent a
IsPersistent (Pers a) = Unit {0}
IsPersistent (Upd a) = ⊥
IsPersistent (Pts l u v) = ⊥
IsPersistent (Call q args) = ⊥

-- pure, a points-to, or made of timeless parts by and, or, star, quantifiers or persistence
unfoldable pub IsTimeless : Formula → Type 0
IsTimeless (Fact a) = Unit {0}
IsTimeless (Sep a b) = IsTimeless a × IsTimeless b
IsTimeless (Wand a b) = ⊥
IsTimeless (And a b) = IsTimeless a × IsTimeless b
IsTimeless (Or a b) = IsTimeless a × IsTimeless b
IsTimeless (Imp a b) = ⊥
IsTimeless (All a) = IsTimeless a
IsTimeless (Ex a) = IsTimeless a
IsTimeless (Later a) = ⊥
IsTimeless (Pers a) = IsTimeless a
IsTimeless (Upd a) = ⊥
IsTimeless (Pts l u v) = Unit {0}
IsTimeless (Call q args) = ⊥
