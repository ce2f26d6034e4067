-- Terms that are others with each index one higher.
use Rattle.std.proofs.Common.{◌≡◌, ℕ, zero, suc, ◌<◌, ℤ, refl, ap, ap₂, sym, ◌∙◌, subst, arith}
use Rattle.pm_logic.specs.declared.formula.Term.{Term, the_lemmas}
use Rattle.pm_logic.specs.declared.formula.Term.TheVariants.{Lit, Var}
use Rattle.pm_logic.specs.declared.formula.Term.TheViews as view
use Rattle.pm_logic.specs.Trees.{add, sub, neg, scale}
use Rattle.pm_logic.specs.Substitution.{raised}
use Rattle.pm_logic.proofs.Views.{view_add, view_sub, view_neg, view_scale}
use Rattle.pm_logic.specs.declared.formula.Formula.{Formula}
use Rattle.pm_logic.specs.declared.formula.Formula.TheVariants.{Pts}
use Rattle.pm_logic.specs.declared.formula.TheConstants.{UNIT}
use Rattle.pm_rules.specs.Equations.{IsRaised, IsFresh}

-- each part of a raised term is raised
abbrev PartsRaised : Term → Type 0
PartsRaised (Lit z) = Unit {0}
PartsRaised (Var i) = 0 < i
PartsRaised (add a b) = IsRaised a × IsRaised b
PartsRaised (sub a b) = IsRaised a × IsRaised b
PartsRaised (neg a) = IsRaised a
PartsRaised (scale z a) = IsRaised a

own : (v : Term) → IsRaised (raised v)
unfolding IsRaised
own v = (v, refl)

parts_raised : (v : Term) → PartsRaised (raised v)
parts_raised (Lit z) = tt
parts_raised (Var i) = omega arith
parts_raised (add a b) = (own a, own b)
parts_raised (sub a b) = (own a, own b)
parts_raised (neg a) = own a
parts_raised (scale z a) = own a

parts : (u : Term) → IsRaised u → PartsRaised u
unfolding IsRaised
parts u h = let P : Term → Type 0 = PartsRaised in subst P (sym h.1) (parts_raised h.0)

whole : (u : Term) → PartsRaised u → IsRaised u
unfolding IsRaised
whole (Lit z) h = own (Lit z)
whole (Var zero) h = absurd (omega arith)
whole (Var (suc i)) h = own (Var i)
whole (add a b) h = (add h.0.0 h.1.0, ap₂ add h.0.1 h.1.1)
whole (sub a b) h = (sub h.0.0 h.1.0, ap₂ sub h.0.1 h.1.1)
whole (neg a) h = (neg h.0, ap neg h.1)
whole (scale z a) h = (scale z h.0, ap (scale z) h.1)

back : (u w : Term) → u ≡ w → PartsRaised w → IsRaised u
back u w e h = let P : Term → Type 0 = IsRaised in subst P (sym e) (whole w h)

there : (u w : Term) → u ≡ w → IsRaised u → PartsRaised w
there u w e h = let P : Term → Type 0 = IsRaised in parts w (subst P e h)

pub lit_raised : (z : ℤ) → IsRaised (Lit z)
lit_raised z = own (Lit z)

pub var_raised : (i : ℕ) → 0 < i → IsRaised (Var i)
var_raised i h = whole (Var i) h

pub raised_var : (i : ℕ) → IsRaised (Var i) → 0 < i
raised_var i h = parts (Var i) h

pub add_raised : (a b : Term) → IsRaised a × IsRaised b → IsRaised (view.Add a b)
add_raised a b h = back (view.Add a b) (add a b) (view_add a b) h

pub raised_add : (a b : Term) → IsRaised (view.Add a b) → IsRaised a × IsRaised b
raised_add a b h = there (view.Add a b) (add a b) (view_add a b) h

pub sub_raised : (a b : Term) → IsRaised a × IsRaised b → IsRaised (view.Sub a b)
sub_raised a b h = back (view.Sub a b) (sub a b) (view_sub a b) h

pub raised_sub : (a b : Term) → IsRaised (view.Sub a b) → IsRaised a × IsRaised b
raised_sub a b h = there (view.Sub a b) (sub a b) (view_sub a b) h

pub neg_raised : (a : Term) → IsRaised a → IsRaised (view.Neg a)
neg_raised a h = back (view.Neg a) (neg a) (view_neg a) h

pub raised_neg : (a : Term) → IsRaised (view.Neg a) → IsRaised a
raised_neg a h = there (view.Neg a) (neg a) (view_neg a) h

pub scale_raised : (z : ℤ) (a : Term) → IsRaised a → IsRaised (view.Scale z a)
scale_raised z a h = back (view.Scale z a) (scale z a) (view_scale z a) h

pub raised_scale : (z : ℤ) (a : Term) → IsRaised (view.Scale z a) → IsRaised a
raised_scale z a h = there (view.Scale z a) (scale z a) (view_scale z a) h

pub ruleset raises = (the_lemmas, lit_raised, var_raised, raised_var, add_raised, raised_add, sub_raised, raised_sub, neg_raised, raised_neg, scale_raised, raised_scale)

pub fresh_from : (f : Formula) (w : Term) → f ≡ Pts (Var 0) UNIT w → IsRaised w → IsFresh f
unfolding IsRaised
fresh_from f w e h = record { v = h.0; is = e ∙ ap (Pts (Var 0) UNIT) h.1 }

pub fresh_to : (f : Formula) (w : Term) → f ≡ Pts (Var 0) UNIT w → IsFresh f → IsRaised w
unfolding IsRaised
fresh_to f w e h = let g = h.is in (h.v, cc (e, g))
