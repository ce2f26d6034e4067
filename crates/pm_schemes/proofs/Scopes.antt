-- Where the formulas of shapes are scoped.
use Rattle.std.proofs.Common.{ℕ, zero, suc, ◌≡◌, ◌⊎◌, inl, inr, true, ◌==◌, List, [], ◌∷◌, ◌++◌, map, refl, sym, ap, subst, ◌∙◌, add-one}
use Rattle.std.proofs.lemmas.Bool.{eqb-true, and_parts, or_cases}
use Rattle.std.specs.List.{AllByRecursion}
use Rattle.pm_logic.specs.declared.formula.Formula.{Formula}
use Rattle.pm_logic.specs.declared.formula.Formula.TheViews as view
use Rattle.pm_logic.specs.declared.formula.Preds.{Preds}
use Rattle.pm_logic.specs.Scope.{PureScoped, ScopedIn, CallsFit, Scoped}
use Rattle.pm_logic.specs.Substitution.{shift_of}
use Rattle.pm_logic.proofs.Scopes.{scoped_both, both_scoped, scoped_either, either_scoped, scoped_not, not_scoped, true_scoped, false_scoped, scoped_in_sep, sep_scoped_in, scoped_in_wand, wand_scoped_in, scoped_in_and, and_scoped_in, scoped_in_or, or_scoped_in, scoped_in_imp, imp_scoped_in, scoped_in_quantified, quantified_scoped_in, scoped_in_modal, modal_scoped_in, pure_scoped_in_to, pure_scoped_in_from, fit_sep, sep_fit, fit_wand, wand_fit, fit_and, and_fit, fit_or, or_fit, fit_imp, imp_fit, fit_quantified, quantified_fit, fit_modal, modal_fit, pure_fit}
use Rattle.pm_rules.specs.declared.pattern.Unary.{Unary}
use Rattle.pm_rules.specs.declared.pattern.Unary.TheVariants as o
use Rattle.pm_rules.specs.declared.pattern.Binary.{Binary}
use Rattle.pm_rules.specs.declared.pattern.Binary.TheVariants as t
use Rattle.pm_rules.specs.PureShapes as pure
use Rattle.pm_rules.specs.PureShapes.{PureShape, pure_instance}
use Rattle.pm_rules.specs.Shapes as shape
use Rattle.pm_rules.specs.Shapes.{Shape, Letters, Sequent, instance, one, two}
use Rattle.pm_proof.specs.Valid.{EntailScoped}
use Rattle.pm_schemes.specs.Sketches.{entail_of}
use Rattle.pm_schemes.specs.Tests.{Use, Plain, Shifted, Pure, same_use, below, pure_uses, uses, sides_uses, uses_of_all, is_among, are_among}

-- k variables and those of d binders
abbrev pub widened : ℕ → ℕ → ℕ
widened zero k = k
widened (suc d) k = suc (widened d k)

pub one_scoped : (preds : Preds) (d k : ℕ) (u : Unary) (f : Formula) → Scoped preds (widened (below u d) k) f → Scoped preds (widened d k) (one u f)
one_scoped preds d k o.All f s = record { indices = quantified_scoped_in (widened d k) (view.All f) f (inl refl) (rw add-one s.indices); calls = quantified_fit preds.list (view.All f) f (inl refl) s.calls }
one_scoped preds d k o.Ex f s = record { indices = quantified_scoped_in (widened d k) (view.Ex f) f (inr refl) (rw add-one s.indices); calls = quantified_fit preds.list (view.Ex f) f (inr refl) s.calls }
one_scoped preds d k o.Later f s = record { indices = modal_scoped_in (widened d k) (view.Later f) f (inl refl) s.indices; calls = modal_fit preds.list (view.Later f) f (inl refl) s.calls }
one_scoped preds d k o.Pers f s = record { indices = modal_scoped_in (widened d k) (view.Pers f) f (inr (inl refl)) s.indices; calls = modal_fit preds.list (view.Pers f) f (inr (inl refl)) s.calls }
one_scoped preds d k o.Upd f s = record { indices = modal_scoped_in (widened d k) (view.Upd f) f (inr (inr refl)) s.indices; calls = modal_fit preds.list (view.Upd f) f (inr (inr refl)) s.calls }

pub scoped_one : (preds : Preds) (d k : ℕ) (u : Unary) (f : Formula) → Scoped preds (widened d k) (one u f) → Scoped preds (widened (below u d) k) f
scoped_one preds d k o.All f s = record { indices = rw add-one at (scoped_in_quantified (widened d k) (view.All f) f (inl refl) s.indices); calls = fit_quantified preds.list (view.All f) f (inl refl) s.calls }
scoped_one preds d k o.Ex f s = record { indices = rw add-one at (scoped_in_quantified (widened d k) (view.Ex f) f (inr refl) s.indices); calls = fit_quantified preds.list (view.Ex f) f (inr refl) s.calls }
scoped_one preds d k o.Later f s = record { indices = scoped_in_modal (widened d k) (view.Later f) f (inl refl) s.indices; calls = fit_modal preds.list (view.Later f) f (inl refl) s.calls }
scoped_one preds d k o.Pers f s = record { indices = scoped_in_modal (widened d k) (view.Pers f) f (inr (inl refl)) s.indices; calls = fit_modal preds.list (view.Pers f) f (inr (inl refl)) s.calls }
scoped_one preds d k o.Upd f s = record { indices = scoped_in_modal (widened d k) (view.Upd f) f (inr (inr refl)) s.indices; calls = fit_modal preds.list (view.Upd f) f (inr (inr refl)) s.calls }

pub two_scoped : (preds : Preds) (k : ℕ) (u : Binary) (f g : Formula) → Scoped preds k f → Scoped preds k g → Scoped preds k (two u f g)
two_scoped preds k t.Sep f g s r = record { indices = sep_scoped_in k f g s.indices r.indices; calls = sep_fit preds.list f g s.calls r.calls }
two_scoped preds k t.Wand f g s r = record { indices = wand_scoped_in k f g s.indices r.indices; calls = wand_fit preds.list f g s.calls r.calls }
two_scoped preds k t.And f g s r = record { indices = and_scoped_in k f g s.indices r.indices; calls = and_fit preds.list f g s.calls r.calls }
two_scoped preds k t.Or f g s r = record { indices = or_scoped_in k f g s.indices r.indices; calls = or_fit preds.list f g s.calls r.calls }
two_scoped preds k t.Imp f g s r = record { indices = imp_scoped_in k f g s.indices r.indices; calls = imp_fit preds.list f g s.calls r.calls }

parts_scoped : (preds : Preds) (k : ℕ) (f g : Formula) → ScopedIn k f × ScopedIn k g → CallsFit preds.list f × CallsFit preds.list g → Scoped preds k f × Scoped preds k g
parts_scoped preds k f g p q = (record { indices = p.0; calls = q.0 }, record { indices = p.1; calls = q.1 })

pub scoped_two : (preds : Preds) (k : ℕ) (u : Binary) (f g : Formula) → Scoped preds k (two u f g) → Scoped preds k f × Scoped preds k g
scoped_two preds k t.Sep f g s = parts_scoped preds k f g (scoped_in_sep k f g s.indices) (fit_sep preds.list f g s.calls)
scoped_two preds k t.Wand f g s = parts_scoped preds k f g (scoped_in_wand k f g s.indices) (fit_wand preds.list f g s.calls)
scoped_two preds k t.And f g s = parts_scoped preds k f g (scoped_in_and k f g s.indices) (fit_and preds.list f g s.calls)
scoped_two preds k t.Or f g s = parts_scoped preds k f g (scoped_in_or k f g s.indices) (fit_or preds.list f g s.calls)
scoped_two preds k t.Imp f g s = parts_scoped preds k f g (scoped_in_imp k f g s.indices) (fit_imp preds.list f g s.calls)

-- ---- what the letters of a shape stand for, and the shape

abbrev pub UseScoped : Preds → ℕ → Letters → Use → Type 0
UseScoped preds k s (Plain d i) = Scoped preds (widened d k) (s.formula i)
UseScoped preds k s (Shifted d i) = Scoped preds (widened d k) (shift_of (s.formula i))
UseScoped preds k s (Pure d i) = PureScoped (widened d k) (s.pure i)

abbrev pub AreScoped : Preds → ℕ → Letters → List Use → Type 0
AreScoped preds k s us = AllByRecursion (UseScoped preds k s) us

pub join_scoped : (preds : Preds) (k : ℕ) (s : Letters) (us vs : List Use) → AreScoped preds k s us → AreScoped preds k s vs → AreScoped preds k s (us ++ vs)
join_scoped preds k s [] vs h g = g
join_scoped preds k s (u ∷ us) vs h g = (h.0, join_scoped preds k s us vs h.1 g)

pub scoped_join : (preds : Preds) (k : ℕ) (s : Letters) (us vs : List Use) → AreScoped preds k s (us ++ vs) → AreScoped preds k s us × AreScoped preds k s vs
scoped_join preds k s [] vs h = (tt, h)
scoped_join preds k s (u ∷ us) vs h = let r = scoped_join preds k s us vs h.1 in ((h.0, r.0), r.1)

pure_uses_scoped : (preds : Preds) (k d : ℕ) (s : Letters) (x : PureShape) → PureScoped (widened d k) (pure_instance s.pure x) → AreScoped preds k s (pure_uses d x)
pure_uses_scoped preds k d s (pure.Letter i) h = (h, tt)
pure_uses_scoped preds k d s pure.True h = tt
pure_uses_scoped preds k d s pure.False h = tt
pure_uses_scoped preds k d s (pure.And a b) h =
    let r = scoped_both (widened d k) (pure_instance s.pure a) (pure_instance s.pure b) h in
    join_scoped preds k s (pure_uses d a) (pure_uses d b) (pure_uses_scoped preds k d s a r.0) (pure_uses_scoped preds k d s b r.1)
pure_uses_scoped preds k d s (pure.Or a b) h =
    let r = scoped_either (widened d k) (pure_instance s.pure a) (pure_instance s.pure b) h in
    join_scoped preds k s (pure_uses d a) (pure_uses d b) (pure_uses_scoped preds k d s a r.0) (pure_uses_scoped preds k d s b r.1)
pure_uses_scoped preds k d s (pure.Not a) h = pure_uses_scoped preds k d s a (scoped_not (widened d k) (pure_instance s.pure a) h)

scoped_pure_uses : (preds : Preds) (k d : ℕ) (s : Letters) (x : PureShape) → AreScoped preds k s (pure_uses d x) → PureScoped (widened d k) (pure_instance s.pure x)
scoped_pure_uses preds k d s (pure.Letter i) h = h.0
scoped_pure_uses preds k d s pure.True h = true_scoped (widened d k)
scoped_pure_uses preds k d s pure.False h = false_scoped (widened d k)
scoped_pure_uses preds k d s (pure.And a b) h =
    let r = scoped_join preds k s (pure_uses d a) (pure_uses d b) h in
    both_scoped (widened d k) (pure_instance s.pure a) (pure_instance s.pure b) (scoped_pure_uses preds k d s a r.0) (scoped_pure_uses preds k d s b r.1)
scoped_pure_uses preds k d s (pure.Or a b) h =
    let r = scoped_join preds k s (pure_uses d a) (pure_uses d b) h in
    either_scoped (widened d k) (pure_instance s.pure a) (pure_instance s.pure b) (scoped_pure_uses preds k d s a r.0) (scoped_pure_uses preds k d s b r.1)
scoped_pure_uses preds k d s (pure.Not a) h = not_scoped (widened d k) (pure_instance s.pure a) (scoped_pure_uses preds k d s a h)

pub uses_scoped : (preds : Preds) (k d : ℕ) (s : Letters) (x : Shape) → Scoped preds (widened d k) (instance s x) → AreScoped preds k s (uses d x)
uses_scoped preds k d s (shape.Letter i) h = (h, tt)
uses_scoped preds k d s (shape.Shifted i) h = (h, tt)
uses_scoped preds k d s (shape.Pure a) h = pure_uses_scoped preds k d s a (pure_scoped_in_to (widened d k) (pure_instance s.pure a) h.indices)
uses_scoped preds k d s (shape.One u a) h = uses_scoped preds k (below u d) s a (scoped_one preds d k u (instance s a) h)
uses_scoped preds k d s (shape.Two u a b) h =
    let r = scoped_two preds (widened d k) u (instance s a) (instance s b) h in
    join_scoped preds k s (uses d a) (uses d b) (uses_scoped preds k d s a r.0) (uses_scoped preds k d s b r.1)

pub scoped_uses : (preds : Preds) (k d : ℕ) (s : Letters) (x : Shape) → AreScoped preds k s (uses d x) → Scoped preds (widened d k) (instance s x)
scoped_uses preds k d s (shape.Letter i) h = h.0
scoped_uses preds k d s (shape.Shifted i) h = h.0
scoped_uses preds k d s (shape.Pure a) h = record { indices = pure_scoped_in_from (widened d k) (pure_instance s.pure a) (scoped_pure_uses preds k d s a h); calls = pure_fit preds.list (pure_instance s.pure a) }
scoped_uses preds k d s (shape.One u a) h = one_scoped preds d k u (instance s a) (scoped_uses preds k (below u d) s a h)
scoped_uses preds k d s (shape.Two u a b) h =
    let r = scoped_join preds k s (uses d a) (uses d b) h in
    two_scoped preds (widened d k) u (instance s a) (instance s b) (scoped_uses preds k d s a r.0) (scoped_uses preds k d s b r.1)

pub sides_uses_scoped : (preds : Preds) (k : ℕ) (s : Letters) (c : Sequent) → EntailScoped preds (entail_of k s c) → AreScoped preds k s (sides_uses c)
sides_uses_scoped preds k s c h = join_scoped preds k s (uses 0 c.left) (uses 0 c.right) (uses_scoped preds k 0 s c.left h.0) (uses_scoped preds k 0 s c.right h.1)

pub scoped_sides_uses : (preds : Preds) (k : ℕ) (s : Letters) (c : Sequent) → AreScoped preds k s (sides_uses c) → EntailScoped preds (entail_of k s c)
scoped_sides_uses preds k s c h =
    let r = scoped_join preds k s (uses 0 c.left) (uses 0 c.right) h in
    (scoped_uses preds k 0 s c.left r.0, scoped_uses preds k 0 s c.right r.1)

pub all_uses_scoped : (preds : Preds) (k : ℕ) (s : Letters) (cs : List Sequent) → AllByRecursion (EntailScoped preds) (map (entail_of k s) cs) → AreScoped preds k s (uses_of_all cs)
all_uses_scoped preds k s [] h = tt
all_uses_scoped preds k s (c ∷ cs) h = join_scoped preds k s (sides_uses c) (uses_of_all cs) (sides_uses_scoped preds k s c h.0) (all_uses_scoped preds k s cs h.1)

-- ---- letters among others

use_same : (x y : Use) → same_use x y ≡ true → x ≡ y
use_same (Plain d i) (Plain e j) h = let hs = and_parts (d == e) (i == j) h in ap (λ z. Plain z i) (eqb-true d e hs.0) ∙ ap (Plain e) (eqb-true i j hs.1)
use_same (Shifted d i) (Shifted e j) h = let hs = and_parts (d == e) (i == j) h in ap (λ z. Shifted z i) (eqb-true d e hs.0) ∙ ap (Shifted e) (eqb-true i j hs.1)
use_same (Pure d i) (Pure e j) h = let hs = and_parts (d == e) (i == j) h in ap (λ z. Pure z i) (eqb-true d e hs.0) ∙ ap (Pure e) (eqb-true i j hs.1)
use_same _ _ h = cc

first_or_later : (preds : Preds) (k : ℕ) (s : Letters) (u v : Use) (vs : List Use) → UseScoped preds k s v → (is_among u vs ≡ true → UseScoped preds k s u) → (same_use u v ≡ true) ⊎ (is_among u vs ≡ true) → UseScoped preds k s u
first_or_later preds k s u v vs h later (inl e) = subst (UseScoped preds k s) (sym (use_same u v e)) h
first_or_later preds k s u v vs h later (inr e) = later e

among_scoped : (preds : Preds) (k : ℕ) (s : Letters) (u : Use) (vs : List Use) → is_among u vs ≡ true → AreScoped preds k s vs → UseScoped preds k s u
among_scoped preds k s u [] h g = absurd (cc)
among_scoped preds k s u (v ∷ vs) h g = first_or_later preds k s u v vs g.0 (λ e. among_scoped preds k s u vs e g.1) (or_cases (same_use u v) (is_among u vs) h)

pub all_among_scoped : (preds : Preds) (k : ℕ) (s : Letters) (us vs : List Use) → are_among us vs ≡ true → AreScoped preds k s vs → AreScoped preds k s us
all_among_scoped preds k s [] vs h g = tt
all_among_scoped preds k s (u ∷ us) vs h g =
    let hs = and_parts (is_among u vs) (are_among us vs) h in
    (among_scoped preds k s u vs hs.0 g, all_among_scoped preds k s us vs hs.1 g)
