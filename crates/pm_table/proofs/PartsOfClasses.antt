-- Each entry of a class is a part of its formula.
use Rattle.std.proofs.Common.{◌%◌, ◌==◌, ◌||◌, cond, Bool, true, false, Option, None, Some, option_map}
use Rattle.pm_logic.specs.declared.formula.Formula.{Formula}
use Rattle.pm_logic.specs.declared.formula.Formula.TheVariants.{Pure as Assert, Pts}
use Rattle.pm_logic.specs.declared.formula.Formula.TheViews as view
use Rattle.pm_logic.specs.declared.formula.Formula.TheBlock as block
use denote.Hole.Carrier as carrier
use Rattle.pm_logic.specs.Trees.{both, either, Sep, And, Or, Ex, Later, Pers}
use Rattle.pm_classes.specs.Classes.{Parts, parts, each_under, half, into_sep, into_and, into_or, into_exist, into_persistent}
use Rattle.pm_classes.specs.Persistence.{is_persistent}
use Rattle.pm_table.specs.Parts as part
use Rattle.pm_table.specs.Parts.{IsPart}

abbrev pub PartsOf : Formula → Option Parts → Type 0
PartsOf f None = Unit {0}
PartsOf f (Some p) = IsPart p.first f × IsPart p.second f

abbrev pub PartOf : Formula → Option Formula → Type 0
PartOf f None = Unit {0}
PartOf f (Some g) = IsPart g f

-- a sign as code writes it
view_later : (a b : Formula) → IsPart a b → IsPart (view.Later a) (Later b)
unfolding block.shape-the_row-Formula-0 block.hidden-the_row-Formula-0 carrier.hidden
view_later a b h = part.under_later h

view_pers : (a b : Formula) → IsPart a b → IsPart (view.Pers a) (Pers b)
unfolding block.shape-the_row-Formula-0 block.hidden-the_row-Formula-0 carrier.hidden
view_pers a b h = part.under_box h

each_later : (f : Formula) (o : Option Parts) → PartsOf f o → PartsOf (Later f) (each_under view.Later o)
each_later f None h = tt
each_later f (Some p) h = (view_later p.first f h.0, view_later p.second f h.1)

each_pers : (f : Formula) (o : Option Parts) → PartsOf f o → PartsOf (Pers f) (each_under view.Pers o)
each_pers f None h = tt
each_pers f (Some p) h = (view_pers p.first f h.0, view_pers p.second f h.1)

one_later : (f : Formula) (o : Option Formula) → PartOf f o → PartOf (Later f) (option_map view.Later o)
one_later f None h = tt
one_later f (Some g) h = view_later g f h

one_pers : (f : Formula) (o : Option Formula) → PartOf f o → PartOf (Pers f) (option_map view.Pers o)
one_pers f None h = tt
one_pers f (Some g) h = view_pers g f h

pub parts_if : (f : Formula) (b : Bool) (p : Parts) → IsPart p.first f → IsPart p.second f → PartsOf f (cond b (Some p) None)
parts_if f true p h g = (h, g)
parts_if f false p h g = tt

one_if : (f : Formula) (b : Bool) (g : Formula) → IsPart g f → PartOf f (cond b (Some g) None)
one_if f true g h = h
one_if f false g h = tt

pub of_and : (f : Formula) → PartsOf f (into_and f)
unfolding into_and
of_and (Sep a b) = (part.sep_left a b, part.sep_right a b)
of_and (And a b) = (part.and_left a b, part.and_right a b)
of_and (Assert (both p q)) = (part.both_left p q, part.both_right p q)
of_and (Later a) = each_later a (into_and a) (of_and a)
of_and (Pers a) = each_pers a (into_and a) (of_and a)
of_and _ = tt

pub of_sep : (f : Formula) → PartsOf f (into_sep f)
unfolding into_sep
of_sep (Sep a b) = (part.sep_left a b, part.sep_right a b)
of_sep (Assert (both p q)) = (part.both_left p q, part.both_right p q)
of_sep (And a b) = parts_if (And a b) (is_persistent a || is_persistent b) (parts a b) (part.and_left a b) (part.and_right a b)
of_sep (Pts l u v) = parts_if (Pts l u v) (u % 2 == 0) (parts (half l u v) (half l u v)) (part.half l u v) (part.half l u v)
of_sep (Later a) = each_later a (into_sep a) (of_sep a)
of_sep (Pers a) = each_pers a (into_and a) (of_and a)
of_sep _ = tt

pub of_or : (f : Formula) → PartsOf f (into_or f)
unfolding into_or
of_or (Or a b) = (part.or_left a b, part.or_right a b)
of_or (Assert (either p q)) = (part.either_left p q, part.either_right p q)
of_or (Later a) = each_later a (into_or a) (of_or a)
of_or (Pers a) = each_pers a (into_or a) (of_or a)
of_or _ = tt

pub of_exist : (f : Formula) → PartOf f (into_exist f)
unfolding into_exist
of_exist (Ex b) = part.ex_body b
of_exist (Later a) = one_later a (into_exist a) (of_exist a)
of_exist (Pers a) = one_pers a (into_exist a) (of_exist a)
of_exist _ = tt

pub of_persistent : (f : Formula) → PartOf f (into_persistent f)
unfolding into_persistent
of_persistent (Pers g) = part.unboxed g
of_persistent f = one_if f (is_persistent f) f (part.itself f)
