-- Entries are no larger than their formulas.
use Rattle.std.proofs.Common.{ℕ, ◌%◌, ◌==◌, ◌||◌, cond, Bool, true, false, Option, None, Some, arith, subst}
use Rattle.std.specs.Prelude.{option_map}
use Rattle.pm_logic.specs.declared.formula.Term.{Term}
use Rattle.pm_logic.specs.declared.formula.Pure as P
use Rattle.pm_logic.specs.declared.formula.Pure.TheViews as pure
use Rattle.pm_logic.specs.declared.formula.Formula.{Formula}
use Rattle.pm_logic.specs.declared.formula.Formula.TheVariants.{Pure as Fact, Pts}
use Rattle.pm_logic.specs.declared.formula.Formula.TheViews as view
use Rattle.pm_logic.specs.Trees.{both, either, Sep, Wand, And, Or, Imp, All, Ex, Later, Pers, Upd}
use Rattle.pm_logic.specs.Size.{pure_depth, depth_of, pure_nodes, nodes_of}
use Rattle.pm_logic.proofs.Sizes.{depth_both, depth_either, nodes_both, nodes_either}
use Rattle.pm_classes.specs.Classes.{Parts, parts, each_under, of_both, half, into_sep, into_and, into_or, into_exist, into_forall, into_wand, into_pure, from_pure, into_persistent}
use Rattle.pm_classes.specs.Persistence.{is_persistent}
use Rattle.pm_classes.specs.Laws.{NoLarger, EntriesAreNoLarger}
use Rattle.pm_classes.proofs.Sizes.{depth_later, depth_pers, nodes_later, nodes_pers}

abbrev AreSmall : Formula → Option Parts → Type 0
AreSmall f None = Unit {0}
AreSmall f (Some p) = NoLarger f p.first × NoLarger f p.second

abbrev IsSmall : Formula → Option Formula → Type 0
IsSmall f None = Unit {0}
IsSmall f (Some g) = NoLarger f g

abbrev IsSmallPure : Formula → Option P.Pure → Type 0
IsSmallPure f None = Unit {0}
IsSmallPure f (Some p) = NoLarger f (Fact p)

later_small : (a x : Formula) → NoLarger a x → NoLarger (Later a) (view.Later x)
unfolding nodes_of depth_of
later_small a x s = record { nodes = omega (arith, s.nodes, nodes_later x); levels = omega (arith, s.levels, depth_later x) }

pers_small : (a x : Formula) → NoLarger a x → NoLarger (Pers a) (view.Pers x)
unfolding nodes_of depth_of
pers_small a x s = record { nodes = omega (arith, s.nodes, nodes_pers x); levels = omega (arith, s.levels, depth_pers x) }

wider_later : (a x : Formula) → NoLarger a x → NoLarger (Later a) x
unfolding nodes_of depth_of
wider_later a x s = record { nodes = omega (arith, s.nodes); levels = omega (arith, s.levels) }

wider_pers : (a x : Formula) → NoLarger a x → NoLarger (Pers a) x
unfolding nodes_of depth_of
wider_pers a x s = record { nodes = omega (arith, s.nodes); levels = omega (arith, s.levels) }

wider_upd : (a x : Formula) → NoLarger a x → NoLarger (Upd a) x
unfolding nodes_of depth_of
wider_upd a x s = record { nodes = omega (arith, s.nodes); levels = omega (arith, s.levels) }

each_later : (a : Formula) (o : Option Parts) → AreSmall a o → AreSmall (Later a) (each_under view.Later o)
each_later a None s = tt
each_later a (Some p) s = (later_small a p.first s.0, later_small a p.second s.1)

each_pers : (a : Formula) (o : Option Parts) → AreSmall a o → AreSmall (Pers a) (each_under view.Pers o)
each_pers a None s = tt
each_pers a (Some p) s = (pers_small a p.first s.0, pers_small a p.second s.1)

one_later : (a : Formula) (o : Option Formula) → IsSmall a o → IsSmall (Later a) (option_map view.Later o)
one_later a None s = tt
one_later a (Some g) s = later_small a g s

one_pers : (a : Formula) (o : Option Formula) → IsSmall a o → IsSmall (Pers a) (option_map view.Pers o)
one_pers a None s = tt
one_pers a (Some g) s = pers_small a g s

parts_if : (f : Formula) (b : Bool) (p : Parts) → NoLarger f p.first × NoLarger f p.second → AreSmall f (cond b (Some p) None)
parts_if f true p s = s
parts_if f false p s = tt

one_if : (f : Formula) (b : Bool) (g : Formula) → NoLarger f g → IsSmall f (cond b (Some g) None)
one_if f true g s = s
one_if f false g s = tt

itself : (f : Formula) → NoLarger f f
itself f = record { nodes = omega arith; levels = omega arith }

of_sep : (a b : Formula) → NoLarger (Sep a b) a × NoLarger (Sep a b) b
unfolding nodes_of depth_of
of_sep a b = (record { nodes = omega arith; levels = omega arith }, record { nodes = omega arith; levels = omega arith })

of_wand : (a b : Formula) → NoLarger (Wand a b) a × NoLarger (Wand a b) b
unfolding nodes_of depth_of
of_wand a b = (record { nodes = omega arith; levels = omega arith }, record { nodes = omega arith; levels = omega arith })

of_and : (a b : Formula) → NoLarger (And a b) a × NoLarger (And a b) b
unfolding nodes_of depth_of
of_and a b = (record { nodes = omega arith; levels = omega arith }, record { nodes = omega arith; levels = omega arith })

of_or : (a b : Formula) → NoLarger (Or a b) a × NoLarger (Or a b) b
unfolding nodes_of depth_of
of_or a b = (record { nodes = omega arith; levels = omega arith }, record { nodes = omega arith; levels = omega arith })

of_imp : (a b : Formula) → NoLarger (Imp a b) a × NoLarger (Imp a b) b
unfolding nodes_of depth_of
of_imp a b = (record { nodes = omega arith; levels = omega arith }, record { nodes = omega arith; levels = omega arith })

of_all : (a : Formula) → NoLarger (All a) a
unfolding nodes_of depth_of
of_all a = record { nodes = omega arith; levels = omega arith }

of_ex : (a : Formula) → NoLarger (Ex a) a
unfolding nodes_of depth_of
of_ex a = record { nodes = omega arith; levels = omega arith }

of_pers : (a : Formula) → NoLarger (Pers a) a
unfolding nodes_of depth_of
of_pers a = record { nodes = omega arith; levels = omega arith }

of_pts : (l : Term) (u : ℕ) (v : Term) → NoLarger (Pts l u v) (half l u v)
unfolding nodes_of depth_of
of_pts l u v = record { nodes = omega arith; levels = omega arith }

of_facts : (p q : P.Pure) → NoLarger (Fact (both p q)) (Fact p) × NoLarger (Fact (both p q)) (Fact q)
unfolding nodes_of depth_of pure_nodes pure_depth
of_facts p q = (record { nodes = omega arith; levels = omega arith }, record { nodes = omega arith; levels = omega arith })

of_either : (p q : P.Pure) → NoLarger (Fact (either p q)) (Fact p) × NoLarger (Fact (either p q)) (Fact q)
unfolding nodes_of depth_of pure_nodes pure_depth
of_either p q = (record { nodes = omega arith; levels = omega arith }, record { nodes = omega arith; levels = omega arith })

-- ---- class by class

and_small : (f : Formula) → AreSmall f (into_and f)
unfolding into_and
and_small (Sep a b) = of_sep a b
and_small (And a b) = of_and a b
and_small (Fact (both p q)) = of_facts p q
and_small (Later a) = each_later a (into_and a) (and_small a)
and_small (Pers a) = each_pers a (into_and a) (and_small a)
and_small _ = tt

sep_small : (f : Formula) → AreSmall f (into_sep f)
unfolding into_sep
sep_small (Sep a b) = of_sep a b
sep_small (Fact (both p q)) = of_facts p q
sep_small (And a b) = parts_if (And a b) (is_persistent a || is_persistent b) (parts a b) (of_and a b)
sep_small (Pts l u v) = parts_if (Pts l u v) (u % 2 == 0) (parts (half l u v) (half l u v)) (of_pts l u v, of_pts l u v)
sep_small (Later a) = each_later a (into_sep a) (sep_small a)
sep_small (Pers a) = each_pers a (into_and a) (and_small a)
sep_small _ = tt

or_small : (f : Formula) → AreSmall f (into_or f)
unfolding into_or
or_small (Or a b) = of_or a b
or_small (Fact (either p q)) = of_either p q
or_small (Later a) = each_later a (into_or a) (or_small a)
or_small (Pers a) = each_pers a (into_or a) (or_small a)
or_small _ = tt

exist_small : (f : Formula) → IsSmall f (into_exist f)
unfolding into_exist
exist_small (Ex a) = of_ex a
exist_small (Later a) = one_later a (into_exist a) (exist_small a)
exist_small (Pers a) = one_pers a (into_exist a) (exist_small a)
exist_small _ = tt

forall_small : (f : Formula) → IsSmall f (into_forall f)
unfolding into_forall
forall_small (All a) = of_all a
forall_small (Later a) = one_later a (into_forall a) (forall_small a)
forall_small (Pers a) = one_pers a (into_forall a) (forall_small a)
forall_small _ = tt

parts_wider : (a : Formula) (o : Option Parts) → AreSmall a o → AreSmall (Pers a) o
parts_wider a None s = tt
parts_wider a (Some p) s = (wider_pers a p.first s.0, wider_pers a p.second s.1)

wand_small : (f : Formula) → AreSmall f (into_wand f)
unfolding into_wand
wand_small (Wand a b) = of_wand a b
wand_small (Imp a b) = parts_if (Imp a b) (is_persistent a) (parts a b) (of_imp a b)
wand_small (Later a) = each_later a (into_wand a) (wand_small a)
wand_small (Pers a) = parts_wider a (into_wand a) (wand_small a)
wand_small _ = tt

two_sep : (a b : Formula) (o r : Option P.Pure) → IsSmallPure a o → IsSmallPure b r → IsSmallPure (Sep a b) (of_both pure.And o r)
unfolding nodes_of depth_of
two_sep a b (Some p) (Some q) s t = record { nodes = omega (arith, s.nodes, t.nodes, nodes_both p q); levels = omega (arith, s.levels, t.levels, depth_both p q) }
two_sep a b (Some p) None s t = tt
two_sep a b None r s t = tt

two_and : (a b : Formula) (o r : Option P.Pure) → IsSmallPure a o → IsSmallPure b r → IsSmallPure (And a b) (of_both pure.And o r)
unfolding nodes_of depth_of
two_and a b (Some p) (Some q) s t = record { nodes = omega (arith, s.nodes, t.nodes, nodes_both p q); levels = omega (arith, s.levels, t.levels, depth_both p q) }
two_and a b (Some p) None s t = tt
two_and a b None r s t = tt

two_or : (a b : Formula) (o r : Option P.Pure) → IsSmallPure a o → IsSmallPure b r → IsSmallPure (Or a b) (of_both pure.Or o r)
unfolding nodes_of depth_of
two_or a b (Some p) (Some q) s t = record { nodes = omega (arith, s.nodes, t.nodes, nodes_either p q); levels = omega (arith, s.levels, t.levels, depth_either p q) }
two_or a b (Some p) None s t = tt
two_or a b None r s t = tt

same_pers : (a : Formula) (o : Option P.Pure) → IsSmallPure a o → IsSmallPure (Pers a) o
same_pers a None s = tt
same_pers a (Some p) s = wider_pers a (Fact p) s

same_later : (a : Formula) (o : Option P.Pure) → IsSmallPure a o → IsSmallPure (Later a) o
same_later a None s = tt
same_later a (Some p) s = wider_later a (Fact p) s

same_upd : (a : Formula) (o : Option P.Pure) → IsSmallPure a o → IsSmallPure (Upd a) o
same_upd a None s = tt
same_upd a (Some p) s = wider_upd a (Fact p) s

of_small : (f : Formula) → IsSmallPure f (into_pure f)
unfolding into_pure
of_small (Fact p) = itself (Fact p)
of_small (Sep a b) = two_sep a b (into_pure a) (into_pure b) (of_small a) (of_small b)
of_small (And a b) = two_and a b (into_pure a) (into_pure b) (of_small a) (of_small b)
of_small (Or a b) = two_or a b (into_pure a) (into_pure b) (of_small a) (of_small b)
of_small (Pers a) = same_pers a (into_pure a) (of_small a)
of_small (Upd a) = same_upd a (into_pure a) (of_small a)
of_small _ = tt

to_small : (f : Formula) → IsSmallPure f (from_pure f)
unfolding from_pure
to_small (Fact p) = itself (Fact p)
to_small (Sep a b) = two_sep a b (from_pure a) (from_pure b) (to_small a) (to_small b)
to_small (And a b) = two_and a b (from_pure a) (from_pure b) (to_small a) (to_small b)
to_small (Or a b) = two_or a b (from_pure a) (from_pure b) (to_small a) (to_small b)
to_small (Pers a) = same_pers a (from_pure a) (to_small a)
to_small (Later a) = same_later a (from_pure a) (to_small a)
to_small (Upd a) = same_upd a (from_pure a) (to_small a)
to_small _ = tt

persistent_small : (f : Formula) → IsSmall f (into_persistent f)
unfolding into_persistent
persistent_small (Pers g) = of_pers g
persistent_small f = one_if f (is_persistent f) f (itself f)

pub no_larger : EntriesAreNoLarger
no_larger = record {
  sep = λ f p is. subst (AreSmall f) is (sep_small f);
  and_ = λ f p is. subst (AreSmall f) is (and_small f);
  or_ = λ f p is. subst (AreSmall f) is (or_small f);
  exist = λ f g is. subst (IsSmall f) is (exist_small f);
  forall_ = λ f g is. subst (IsSmall f) is (forall_small f);
  wand = λ f p is. subst (AreSmall f) is (wand_small f);
  pure_of = λ f p is. subst (IsSmallPure f) is (of_small f);
  of_pure = λ f p is. subst (IsSmallPure f) is (to_small f);
  persistent = λ f g is. subst (IsSmall f) is (persistent_small f);
}
