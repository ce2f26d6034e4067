-- The class table: one equation for each form of formula that a class has an entry for, and `None` for all others.
--
-- Where an entry is one of the parts, the sign stands before each part of what is under it.
use Rattle.std.specs.Prelude.{ℕ, ◌+◌, ◌/◌, ◌%◌, ◌==◌, nat_lt, ◌||◌, cond, Option, None, Some, option_map}
use Rattle.pm_logic.specs.declared.formula.Term.{Term}
use Rattle.pm_logic.specs.declared.formula.Pure as P
use Rattle.pm_logic.specs.declared.formula.Pure.TheVariants.{False, Eq}
use Rattle.pm_logic.specs.declared.formula.Pure.TheViews as pure
use Rattle.pm_logic.specs.declared.formula.Formula.{Formula}
use Rattle.pm_logic.specs.declared.formula.Formula.TheVariants.{Pure as Fact, Pts}
use Rattle.pm_logic.specs.declared.formula.Formula.TheViews as view
use Rattle.pm_logic.specs.declared.formula.TheConstants.{UNIT}
use Rattle.pm_logic.specs.Trees.{both, either, Sep, Wand, And, Or, Imp, All, Ex, Later, Pers, Upd}
use Rattle.pm_logic.specs.Abstraction.{term_eq}
use Rattle.pm_classes.specs.Persistence.{is_persistent}

-- ---- entries

pub record Parts : Type 0 where
  pub first : Formula
  pub second : Formula

abbrev pub parts : Formula → Formula → Parts
parts a b = record { first = a; second = b }

abbrev pub Sign : Type 0
Sign = Formula → Formula

-- the sign before each part
abbrev pub under : Sign → Parts → Parts
under sign p = parts (sign p.first) (sign p.second)

abbrev pub each_under : Sign → Option Parts → Option Parts
each_under sign entry = option_map (under sign) entry

-- of two entries the one that both make
abbrev pub of_both : (P.Pure → P.Pure → P.Pure) → Option P.Pure → Option P.Pure → Option P.Pure
of_both sign (Some p) (Some q) = Some (sign p q)
of_both sign (Some p) None = None
of_both sign None o = None

-- ---- the table

-- □ f ⊢ □ a ∗ □ b
unfoldable pub into_and : Formula → Option Parts
into_and (Sep a b) = Some (parts a b)
into_and (And a b) = Some (parts a b)
into_and (Fact (both p q)) = Some (parts (Fact p) (Fact q))
into_and (Later a) = each_under view.Later (into_and a)
into_and (Pers a) = each_under view.Pers (into_and a)
into_and _ = None

abbrev pub half : Term → ℕ → Term → Formula
half l u v = Pts l (u / 2) v

-- f ⊢ a ∗ b
unfoldable pub into_sep : Formula → Option Parts
into_sep (Sep a b) = Some (parts a b)
into_sep (Fact (both p q)) = Some (parts (Fact p) (Fact q))
into_sep (And a b) = cond (is_persistent a || is_persistent b) (Some (parts a b)) None
into_sep (Pts l u v) = cond (u % 2 == 0) (Some (parts (half l u v) (half l u v))) None
into_sep (Later a) = each_under view.Later (into_sep a)
into_sep (Pers a) = each_under view.Pers (into_and a)
into_sep _ = None

-- f ⊢ a ∨ b
unfoldable pub into_or : Formula → Option Parts
into_or (Or a b) = Some (parts a b)
into_or (Fact (either p q)) = Some (parts (Fact p) (Fact q))
into_or (Later a) = each_under view.Later (into_or a)
into_or (Pers a) = each_under view.Pers (into_or a)
into_or _ = None

-- f ⊢ ∃ b
unfoldable pub into_exist : Formula → Option Formula
into_exist (Ex b) = Some b
into_exist (Later a) = option_map view.Later (into_exist a)
into_exist (Pers a) = option_map view.Pers (into_exist a)
into_exist _ = None

-- f ⊢ ∀ b
unfoldable pub into_forall : Formula → Option Formula
into_forall (All b) = Some b
into_forall (Later a) = option_map view.Later (into_forall a)
into_forall (Pers a) = option_map view.Pers (into_forall a)
into_forall _ = None

-- f ⊢ a -∗ b
unfoldable pub into_wand : Formula → Option Parts
into_wand (Wand a b) = Some (parts a b)
into_wand (Imp a b) = cond (is_persistent a) (Some (parts a b)) None
into_wand (Later a) = each_under view.Later (into_wand a)
into_wand (Pers a) = into_wand a
into_wand _ = None

-- f ⊢ ⌜p⌝
unfoldable pub into_pure : Formula → Option P.Pure
into_pure (Fact p) = Some p
into_pure (Sep a b) = of_both pure.And (into_pure a) (into_pure b)
into_pure (And a b) = of_both pure.And (into_pure a) (into_pure b)
into_pure (Or a b) = of_both pure.Or (into_pure a) (into_pure b)
into_pure (Pers a) = into_pure a
into_pure (Upd a) = into_pure a
into_pure _ = None

-- ⌜p⌝ ⊢ f
unfoldable pub from_pure : Formula → Option P.Pure
from_pure (Fact p) = Some p
from_pure (Sep a b) = of_both pure.And (from_pure a) (from_pure b)
from_pure (And a b) = of_both pure.And (from_pure a) (from_pure b)
from_pure (Or a b) = of_both pure.Or (from_pure a) (from_pure b)
from_pure (Pers a) = from_pure a
from_pure (Later a) = from_pure a
from_pure (Upd a) = from_pure a
from_pure _ = None

-- f ⊢ □ g
unfoldable pub into_persistent : Formula → Option Formula
into_persistent (Pers g) = Some g
into_persistent f = cond (is_persistent f) (Some f) None

-- ---- combination

-- l ↦{a} v and l ↦{b} w together
abbrev pub together : Term → ℕ → Term → ℕ → Term → Formula
together l a v b w = cond (nat_lt UNIT (a + b)) (Fact False) (cond (term_eq v w) (Pts l (a + b) v) (view.Sep (Fact (Eq v w)) (Pts l (a + b) v)))

-- a ∗ b ⊢ g
unfoldable pub combine : Formula → Formula → Formula
combine (Pts l a v) (Pts m b w) = cond (term_eq l m) (together l a v b w) (view.Sep (Pts l a v) (Pts m b w))
combine a b = view.Sep a b
