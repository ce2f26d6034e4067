-- Entries are scoped where their formulas are.
use Rattle.std.proofs.Common.{ℕ, suc, ◌/◌, ◌≡◌, ◌≤◌, ◌%◌, ◌==◌, ◌||◌, cond, Bool, true, false, Option, None, Some, inl, inr, refl, arith, subst}
use Rattle.std.proofs.lemmas.Bool.{eqb-true}
use Rattle.std.specs.Prelude.{option_map}
use Rattle.pm_logic.specs.declared.formula.Term.{Term}
use Rattle.pm_logic.specs.declared.formula.Pure as P
use Rattle.pm_logic.specs.declared.formula.Pure.TheViews as pure
use Rattle.pm_logic.specs.declared.formula.Formula.{Formula}
use Rattle.pm_logic.specs.declared.formula.Formula.TheVariants.{Pure as Fact, Pts}
use Rattle.pm_logic.specs.declared.formula.Formula.TheViews as view
use Rattle.pm_logic.specs.declared.formula.Preds.{Preds}
use Rattle.pm_logic.specs.Trees.{both, either, Sep, Wand, And, Or, Imp, All, Ex, Later, Pers, Upd}
use Rattle.pm_logic.specs.Scope.{PureScoped, ScopedIn, CallsFit, Scoped}
use Rattle.pm_logic.proofs.Scopes.{both_scoped, either_scoped, modal_scoped_in, modal_fit, pure_scoped_in_to, pure_scoped_in_from, pure_fit, pts_scoped_in_to, pts_scoped_in_from, pts_fit_to, pts_fit_from}
use Rattle.pm_classes.specs.Classes.{Parts, parts, each_under, of_both, half, into_sep, into_and, into_or, into_exist, into_forall, into_wand, into_pure, from_pure, into_persistent}
use Rattle.pm_classes.specs.Persistence.{is_persistent}
use Rattle.pm_classes.specs.Laws.{EntriesAreScoped}

abbrev AreScoped : Preds → ℕ → Option Parts → Type 0
AreScoped preds k None = Unit {0}
AreScoped preds k (Some p) = Scoped preds k p.first × Scoped preds k p.second

abbrev IsScoped : Preds → ℕ → Option Formula → Type 0
IsScoped preds k None = Unit {0}
IsScoped preds k (Some g) = Scoped preds k g

abbrev IsPureScoped : Preds → ℕ → Option P.Pure → Type 0
IsPureScoped preds k None = Unit {0}
IsPureScoped preds k (Some p) = Scoped preds k (Fact p)

-- ---- formulas and their parts

abbrev Both : Preds → ℕ → Formula → Formula → Type 0
Both preds k a b = Scoped preds k a × Scoped preds k b

of_sep : (preds : Preds) (k : ℕ) (a b : Formula) → Scoped preds k (Sep a b) → Both preds k a b
unfolding ScopedIn CallsFit
of_sep preds k a b s = (record { indices = s.indices.0; calls = s.calls.0 }, record { indices = s.indices.1; calls = s.calls.1 })

of_wand : (preds : Preds) (k : ℕ) (a b : Formula) → Scoped preds k (Wand a b) → Both preds k a b
unfolding ScopedIn CallsFit
of_wand preds k a b s = (record { indices = s.indices.0; calls = s.calls.0 }, record { indices = s.indices.1; calls = s.calls.1 })

of_and : (preds : Preds) (k : ℕ) (a b : Formula) → Scoped preds k (And a b) → Both preds k a b
unfolding ScopedIn CallsFit
of_and preds k a b s = (record { indices = s.indices.0; calls = s.calls.0 }, record { indices = s.indices.1; calls = s.calls.1 })

of_or : (preds : Preds) (k : ℕ) (a b : Formula) → Scoped preds k (Or a b) → Both preds k a b
unfolding ScopedIn CallsFit
of_or preds k a b s = (record { indices = s.indices.0; calls = s.calls.0 }, record { indices = s.indices.1; calls = s.calls.1 })

of_imp : (preds : Preds) (k : ℕ) (a b : Formula) → Scoped preds k (Imp a b) → Both preds k a b
unfolding ScopedIn CallsFit
of_imp preds k a b s = (record { indices = s.indices.0; calls = s.calls.0 }, record { indices = s.indices.1; calls = s.calls.1 })

of_all : (preds : Preds) (k : ℕ) (a : Formula) → Scoped preds k (All a) → Scoped preds (suc k) a
unfolding ScopedIn CallsFit
of_all preds k a s = record { indices = s.indices; calls = s.calls }

of_ex : (preds : Preds) (k : ℕ) (a : Formula) → Scoped preds k (Ex a) → Scoped preds (suc k) a
unfolding ScopedIn CallsFit
of_ex preds k a s = record { indices = s.indices; calls = s.calls }

of_later : (preds : Preds) (k : ℕ) (a : Formula) → Scoped preds k (Later a) → Scoped preds k a
unfolding ScopedIn CallsFit
of_later preds k a s = record { indices = s.indices; calls = s.calls }

of_pers : (preds : Preds) (k : ℕ) (a : Formula) → Scoped preds k (Pers a) → Scoped preds k a
unfolding ScopedIn CallsFit
of_pers preds k a s = record { indices = s.indices; calls = s.calls }

of_upd : (preds : Preds) (k : ℕ) (a : Formula) → Scoped preds k (Upd a) → Scoped preds k a
unfolding ScopedIn CallsFit
of_upd preds k a s = record { indices = s.indices; calls = s.calls }

fact : (preds : Preds) (k : ℕ) (p : P.Pure) → PureScoped k p → Scoped preds k (Fact p)
fact preds k p s = record { indices = pure_scoped_in_from k p s; calls = pure_fit preds.list p }

of_fact : (preds : Preds) (k : ℕ) (p : P.Pure) → Scoped preds k (Fact p) → PureScoped k p
of_fact preds k p s = pure_scoped_in_to k p s.indices

of_facts : (preds : Preds) (k : ℕ) (p q : P.Pure) → Scoped preds k (Fact (both p q)) → Both preds k (Fact p) (Fact q)
unfolding ScopedIn PureScoped
of_facts preds k p q s = (fact preds k p s.indices.0, fact preds k q s.indices.1)

of_either : (preds : Preds) (k : ℕ) (p q : P.Pure) → Scoped preds k (Fact (either p q)) → Both preds k (Fact p) (Fact q)
unfolding ScopedIn PureScoped
of_either preds k p q s = (fact preds k p s.indices.0, fact preds k q s.indices.1)

later : (preds : Preds) (k : ℕ) (x : Formula) → Scoped preds k x → Scoped preds k (view.Later x)
later preds k x s = record { indices = modal_scoped_in k (view.Later x) x (inl refl) s.indices; calls = modal_fit preds.list (view.Later x) x (inl refl) s.calls }

pers : (preds : Preds) (k : ℕ) (x : Formula) → Scoped preds k x → Scoped preds k (view.Pers x)
pers preds k x s = record { indices = modal_scoped_in k (view.Pers x) x (inr (inl refl)) s.indices; calls = modal_fit preds.list (view.Pers x) x (inr (inl refl)) s.calls }

-- ---- entries under signs

each_later : (preds : Preds) (k : ℕ) (o : Option Parts) → AreScoped preds k o → AreScoped preds k (each_under view.Later o)
each_later preds k None s = tt
each_later preds k (Some p) s = (later preds k p.first s.0, later preds k p.second s.1)

each_pers : (preds : Preds) (k : ℕ) (o : Option Parts) → AreScoped preds k o → AreScoped preds k (each_under view.Pers o)
each_pers preds k None s = tt
each_pers preds k (Some p) s = (pers preds k p.first s.0, pers preds k p.second s.1)

one_later : (preds : Preds) (k : ℕ) (o : Option Formula) → IsScoped preds k o → IsScoped preds k (option_map view.Later o)
one_later preds k None s = tt
one_later preds k (Some g) s = later preds k g s

one_pers : (preds : Preds) (k : ℕ) (o : Option Formula) → IsScoped preds k o → IsScoped preds k (option_map view.Pers o)
one_pers preds k None s = tt
one_pers preds k (Some g) s = pers preds k g s

parts_if : (preds : Preds) (k : ℕ) (b : Bool) (p : Parts) → (b ≡ true → Both preds k p.first p.second) → AreScoped preds k (cond b (Some p) None)
parts_if preds k true p s = s refl
parts_if preds k false p s = tt

one_if : (preds : Preds) (k : ℕ) (b : Bool) (g : Formula) → Scoped preds k g → IsScoped preds k (cond b (Some g) None)
one_if preds k true g s = s
one_if preds k false g s = tt

half_within : (u : ℕ) → u % 2 ≡ 0 → 1 ≤ u → (1 ≤ u / 2) × (u / 2 ≤ u)
half_within u even some = (omega (arith, even, some), omega arith)

of_half : (preds : Preds) (k : ℕ) (l : Term) (u : ℕ) (v : Term) → u % 2 ≡ 0 → Scoped preds k (Pts l u v) → Scoped preds k (half l u v)
of_half preds k l u v even s =
    let fit = pts_fit_to preds.list l u v s.calls in
    let terms = pts_scoped_in_to k l u v s.indices in
    let within = half_within u even fit.0 in
    record { indices = pts_scoped_in_from k l (u / 2) v terms.0 terms.1; calls = pts_fit_from preds.list l (u / 2) v within.0 (omega (arith, within.1, fit.1)) }

-- ---- class by class

and_scoped : (preds : Preds) (k : ℕ) (f : Formula) → Scoped preds k f → AreScoped preds k (into_and f)
unfolding into_and
and_scoped preds k (Sep a b) s = of_sep preds k a b s
and_scoped preds k (And a b) s = of_and preds k a b s
and_scoped preds k (Fact (both p q)) s = of_facts preds k p q s
and_scoped preds k (Later a) s = each_later preds k (into_and a) (and_scoped preds k a (of_later preds k a s))
and_scoped preds k (Pers a) s = each_pers preds k (into_and a) (and_scoped preds k a (of_pers preds k a s))
and_scoped preds k _ s = tt

sep_scoped : (preds : Preds) (k : ℕ) (f : Formula) → Scoped preds k f → AreScoped preds k (into_sep f)
unfolding into_sep
sep_scoped preds k (Sep a b) s = of_sep preds k a b s
sep_scoped preds k (Fact (both p q)) s = of_facts preds k p q s
sep_scoped preds k (And a b) s = parts_if preds k (is_persistent a || is_persistent b) (parts a b) (λ t. of_and preds k a b s)
sep_scoped preds k (Pts l u v) s = parts_if preds k (u % 2 == 0) (parts (half l u v) (half l u v)) (λ t. let h = of_half preds k l u v (eqb-true (u % 2) 0 t) s in (h, h))
sep_scoped preds k (Later a) s = each_later preds k (into_sep a) (sep_scoped preds k a (of_later preds k a s))
sep_scoped preds k (Pers a) s = each_pers preds k (into_and a) (and_scoped preds k a (of_pers preds k a s))
sep_scoped preds k _ s = tt

or_scoped : (preds : Preds) (k : ℕ) (f : Formula) → Scoped preds k f → AreScoped preds k (into_or f)
unfolding into_or
or_scoped preds k (Or a b) s = of_or preds k a b s
or_scoped preds k (Fact (either p q)) s = of_either preds k p q s
or_scoped preds k (Later a) s = each_later preds k (into_or a) (or_scoped preds k a (of_later preds k a s))
or_scoped preds k (Pers a) s = each_pers preds k (into_or a) (or_scoped preds k a (of_pers preds k a s))
or_scoped preds k _ s = tt

exist_scoped : (preds : Preds) (k : ℕ) (f : Formula) → Scoped preds k f → IsScoped preds (suc k) (into_exist f)
unfolding into_exist
exist_scoped preds k (Ex a) s = of_ex preds k a s
exist_scoped preds k (Later a) s = one_later preds (suc k) (into_exist a) (exist_scoped preds k a (of_later preds k a s))
exist_scoped preds k (Pers a) s = one_pers preds (suc k) (into_exist a) (exist_scoped preds k a (of_pers preds k a s))
exist_scoped preds k _ s = tt

forall_scoped : (preds : Preds) (k : ℕ) (f : Formula) → Scoped preds k f → IsScoped preds (suc k) (into_forall f)
unfolding into_forall
forall_scoped preds k (All a) s = of_all preds k a s
forall_scoped preds k (Later a) s = one_later preds (suc k) (into_forall a) (forall_scoped preds k a (of_later preds k a s))
forall_scoped preds k (Pers a) s = one_pers preds (suc k) (into_forall a) (forall_scoped preds k a (of_pers preds k a s))
forall_scoped preds k _ s = tt

wand_scoped : (preds : Preds) (k : ℕ) (f : Formula) → Scoped preds k f → AreScoped preds k (into_wand f)
unfolding into_wand
wand_scoped preds k (Wand a b) s = of_wand preds k a b s
wand_scoped preds k (Imp a b) s = parts_if preds k (is_persistent a) (parts a b) (λ t. of_imp preds k a b s)
wand_scoped preds k (Later a) s = each_later preds k (into_wand a) (wand_scoped preds k a (of_later preds k a s))
wand_scoped preds k (Pers a) s = wand_scoped preds k a (of_pers preds k a s)
wand_scoped preds k _ s = tt

two_both : (preds : Preds) (k : ℕ) (o r : Option P.Pure) → IsPureScoped preds k o → IsPureScoped preds k r → IsPureScoped preds k (of_both pure.And o r)
two_both preds k (Some p) (Some q) s t = fact preds k (pure.And p q) (both_scoped k p q (of_fact preds k p s) (of_fact preds k q t))
two_both preds k (Some p) None s t = tt
two_both preds k None r s t = tt

two_either : (preds : Preds) (k : ℕ) (o r : Option P.Pure) → IsPureScoped preds k o → IsPureScoped preds k r → IsPureScoped preds k (of_both pure.Or o r)
two_either preds k (Some p) (Some q) s t = fact preds k (pure.Or p q) (either_scoped k p q (of_fact preds k p s) (of_fact preds k q t))
two_either preds k (Some p) None s t = tt
two_either preds k None r s t = tt

of_scoped : (preds : Preds) (k : ℕ) (f : Formula) → Scoped preds k f → IsPureScoped preds k (into_pure f)
unfolding into_pure
of_scoped preds k (Fact p) s = s
of_scoped preds k (Sep a b) s = let h = of_sep preds k a b s in two_both preds k (into_pure a) (into_pure b) (of_scoped preds k a h.0) (of_scoped preds k b h.1)
of_scoped preds k (And a b) s = let h = of_and preds k a b s in two_both preds k (into_pure a) (into_pure b) (of_scoped preds k a h.0) (of_scoped preds k b h.1)
of_scoped preds k (Or a b) s = let h = of_or preds k a b s in two_either preds k (into_pure a) (into_pure b) (of_scoped preds k a h.0) (of_scoped preds k b h.1)
of_scoped preds k (Pers a) s = of_scoped preds k a (of_pers preds k a s)
of_scoped preds k (Upd a) s = of_scoped preds k a (of_upd preds k a s)
of_scoped preds k _ s = tt

to_scoped : (preds : Preds) (k : ℕ) (f : Formula) → Scoped preds k f → IsPureScoped preds k (from_pure f)
unfolding from_pure
to_scoped preds k (Fact p) s = s
to_scoped preds k (Sep a b) s = let h = of_sep preds k a b s in two_both preds k (from_pure a) (from_pure b) (to_scoped preds k a h.0) (to_scoped preds k b h.1)
to_scoped preds k (And a b) s = let h = of_and preds k a b s in two_both preds k (from_pure a) (from_pure b) (to_scoped preds k a h.0) (to_scoped preds k b h.1)
to_scoped preds k (Or a b) s = let h = of_or preds k a b s in two_either preds k (from_pure a) (from_pure b) (to_scoped preds k a h.0) (to_scoped preds k b h.1)
to_scoped preds k (Pers a) s = to_scoped preds k a (of_pers preds k a s)
to_scoped preds k (Later a) s = to_scoped preds k a (of_later preds k a s)
to_scoped preds k (Upd a) s = to_scoped preds k a (of_upd preds k a s)
to_scoped preds k _ s = tt

persistent_scoped : (preds : Preds) (k : ℕ) (f : Formula) → Scoped preds k f → IsScoped preds k (into_persistent f)
unfolding into_persistent
persistent_scoped preds k (Pers g) s = of_pers preds k g s
persistent_scoped preds k f s = one_if preds k (is_persistent f) f s

pub scoped : EntriesAreScoped
scoped = record {
  sep = λ preds k f p is s. subst (AreScoped preds k) is (sep_scoped preds k f s);
  and_ = λ preds k f p is s. subst (AreScoped preds k) is (and_scoped preds k f s);
  or_ = λ preds k f p is s. subst (AreScoped preds k) is (or_scoped preds k f s);
  exist = λ preds k f g is s. subst (IsScoped preds (suc k)) is (exist_scoped preds k f s);
  forall_ = λ preds k f g is s. subst (IsScoped preds (suc k)) is (forall_scoped preds k f s);
  wand = λ preds k f p is s. subst (AreScoped preds k) is (wand_scoped preds k f s);
  pure_of = λ preds k f p is s. subst (IsPureScoped preds k) is (of_scoped preds k f s);
  of_pure = λ preds k f p is s. subst (IsPureScoped preds k) is (to_scoped preds k f s);
  persistent = λ preds k f g is s. subst (IsScoped preds k) is (persistent_scoped preds k f s);
}
