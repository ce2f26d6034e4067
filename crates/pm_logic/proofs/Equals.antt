-- The test for equal terms.
use Rattle.std.proofs.Common.{◌≡◌, Bool, true, false, ◌&&◌, refl, ap, ap₂, subst}
use Rattle.std.specs.Ordering.{int_eq}
use Rattle.std.specs.Bool.{Decides}
use Rattle.std.proofs.lemmas.Bool.Decides.{Decides-eqb, Decides-int_eq, same_from_decides}
use Rattle.pm_logic.specs.declared.formula.Term.{Term}
use Rattle.pm_logic.specs.declared.formula.Term.TheVariants.{Lit, Var}
use Rattle.pm_logic.specs.Trees.{add, sub, neg, scale}
use Rattle.pm_logic.specs.Abstraction.{term_eq}

both_true : (a b : Bool) → a && b ≡ true → (a ≡ true) × (b ≡ true)
both_true true b h = (refl, h)
both_true false b h = cc h

term_eq_sound : (s t : Term) → term_eq s t ≡ true → s ≡ t
unfolding term_eq
term_eq_sound (Lit x) (Lit y) h = ap Lit ((Decides-int_eq x y).0 h)
term_eq_sound (Var i) (Var j) h = ap Var ((Decides-eqb i j).0 h)
term_eq_sound (add a b) (add s t) h = let g = both_true (term_eq a s) (term_eq b t) h in ap₂ add (term_eq_sound a s g.0) (term_eq_sound b t g.1)
term_eq_sound (sub a b) (sub s t) h = let g = both_true (term_eq a s) (term_eq b t) h in ap₂ sub (term_eq_sound a s g.0) (term_eq_sound b t g.1)
term_eq_sound (neg a) (neg s) h = ap neg (term_eq_sound a s h)
term_eq_sound (scale x a) (scale y s) h = let g = both_true (int_eq x y) (term_eq a s) h in ap₂ scale ((Decides-int_eq x y).0 g.0) (term_eq_sound a s g.1)
term_eq_sound _ _ h = cc h

term_eq_same : (t : Term) → term_eq t t ≡ true
unfolding term_eq
term_eq_same (Lit x) = (Decides-int_eq x x).1 refl
term_eq_same (Var i) = (Decides-eqb i i).1 refl
term_eq_same (add a b) = ap₂ (λ x y. x && y) (term_eq_same a) (term_eq_same b)
term_eq_same (sub a b) = ap₂ (λ x y. x && y) (term_eq_same a) (term_eq_same b)
term_eq_same (neg a) = term_eq_same a
term_eq_same (scale x a) = ap₂ (λ x y. x && y) ((Decides-int_eq x x).1 refl) (term_eq_same a)

pub term_eq_decides : (s t : Term) → Decides (term_eq s t) (s ≡ t)
term_eq_decides s t = (term_eq_sound s t, λ e. subst (λ x. term_eq s x ≡ true) e (term_eq_same s))

pub tested : (r : Bool) (s t : Term) → Decides r (s ≡ t) → r ≡ term_eq s t
tested r s t h = same_from_decides r (term_eq s t) h (term_eq_decides s t)
