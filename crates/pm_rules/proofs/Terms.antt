-- The forms of terms by those of their parts.
use Rattle.std.proofs.Common.{◌≡◌, ◌≢◌, ℕ, ◌^◌, ◌<◌, ℤ, pos, negsuc, neg_ℤ, to_z-of_z, SFits, to_z, of_z, w64, ◌⊎◌, inl, inr, ◌+ℤ◌, ◌-ℤ◌, ◌*ℤ◌, nat_eq, true, false, if◌then◌else◌, Option, None, Some, refl, ap, ap₂, sym, subst, ◌∙◌, arith}
use Rattle.std.proofs.lemmas.Bool.Decides.{eqb_tells}
use Rattle.std.proofs.lemmas.Int.{ints}
use Rattle.pm_logic.specs.declared.formula.Term.{Term, the_lemmas}
use Rattle.pm_logic.specs.declared.formula.Term.TheVariants.{Lit, Var}
use Rattle.pm_logic.specs.declared.formula.Term.TheViews as view
use Rattle.pm_logic.specs.Trees.{add, sub, neg, scale}
use Rattle.pm_logic.proofs.Views.{view_add, view_sub, view_neg, view_scale}
use Rattle.pm_logic.proofs.Scopes.{scoped_add, scoped_sub, scoped_neg, scoped_scale, var_scoped_to}
use Rattle.pm_linform.specs.declared.Form.{Form}
use Rattle.pm_linform.specs.Entries.{coefficient, room, IsAtMost, IsWithin, IsWithinTimes}
use Rattle.pm_linform.specs.Sums.{IsZero, AddsVariable, AddsConstant, AddsScaled}
use Rattle.pm_linform.proofs.Bounds.{word_room, word_times_room}
use Rattle.pm_linform.proofs.Products.{one_times, minus_times}
use Rattle.pm_rules.specs.Linear.{coefficient_of, constant_of, HasSmallForm, IsSmall}
use Rattle.pm_rules.specs.Sums.{IsFormOf, FormOf, IsMultiple, Kept}

-- ---- small forms

pub small_form : (t : Term) → IsSmall t → HasSmallForm t
unfolding IsSmall
small_form (Lit z) h = h
small_form (Var i) h = h
small_form (add s t) h = h.0
small_form (sub s t) h = h.0
small_form (neg t) h = h.0
small_form (scale z t) h = h.0

at_most : (x y : ℤ) → x ≡ y → IsAtMost (pos (2 ^ 62)) y → IsAtMost (pos (2 ^ 62)) x
at_most x y e h = let P : ℤ → Type 0 = IsAtMost (pos (2 ^ 62)) in subst P (sym e) h

small_within : (t : Term) (f : Form) → IsFormOf f t → HasSmallForm t → IsWithin (pos (2 ^ 62)) f
small_within t f e h = record {
  coefficients = λ i. at_most (coefficient f i) (coefficient_of t i) (e.coefficients i) (h.coefficients i);
  constant = at_most f.constant (constant_of t) e.constant h.constant;
}

within_small : (t : Term) (f : Form) → IsFormOf f t → IsWithin (pos (2 ^ 62)) f → HasSmallForm t
within_small t f e h = record {
  coefficients = λ i. at_most (coefficient_of t i) (coefficient f i) (sym (e.coefficients i)) (h.coefficients i);
  constant = at_most (constant_of t) f.constant (sym e.constant) h.constant;
}

pub form_within : (t : Term) (f : Form) → FormOf t (Some f) → IsWithin (pos (2 ^ 62)) f
unfolding FormOf
form_within t f h = small_within t f h.is (small_form t h.small)

-- a form that is kept is the term's, where the term is small as soon as its own form is
kept_form : (t : Term) (h : Form) (r : Option Form) → (HasSmallForm t → IsSmall t) → IsFormOf h t → Kept h r → FormOf t r
unfolding FormOf Kept
kept_form t h None own e k = λ s. k (small_within t h e (small_form t s))
kept_form t h (Some g) own e k =
    let P : Form → Type 0 = λ x. IsFormOf x t in
    record { small = own (within_small t h e k.1); is = subst P (sym k.0) e }

pub lit_form : (z : ℤ) (h : Form) (r : Option Form) → IsFormOf h (Lit z) → Kept h r → FormOf (Lit z) r
unfolding IsSmall
lit_form z h r e k = kept_form (Lit z) h r (λ s. s) e k

pub var_form : (i : ℕ) (h : Form) (r : Option Form) → IsFormOf h (Var i) → Kept h r → FormOf (Var i) r
unfolding IsSmall
var_form i h r e k = kept_form (Var i) h r (λ s. s) e k

-- ---- the parts

add_is : (a b : Term) (f g h : Form) → IsFormOf f a → IsFormOf g b → AddsScaled (pos 1) g f h → IsFormOf h (add a b)
unfolding coefficient_of constant_of
add_is a b f g h d e s = record {
  coefficients = λ i. s.coefficients i ∙ ap₂ (λ x y. x +ℤ y) (d.coefficients i) (one_times (coefficient g i) ∙ e.coefficients i);
  constant = s.constant ∙ ap₂ (λ x y. x +ℤ y) d.constant (one_times g.constant ∙ e.constant);
}

less : (x y z w : ℤ) → x ≡ y → z ≡ w → x +ℤ (negsuc 0 *ℤ z) ≡ y -ℤ w
less x y z w d e = let m = minus_times z in omega (arith, ints)

sub_is : (a b : Term) (f g h : Form) → IsFormOf f a → IsFormOf g b → AddsScaled (negsuc 0) g f h → IsFormOf h (sub a b)
unfolding coefficient_of constant_of
sub_is a b f g h d e s = record {
  coefficients = λ i. s.coefficients i ∙ less (coefficient f i) (coefficient_of a i) (coefficient g i) (coefficient_of b i) (d.coefficients i) (e.coefficients i);
  constant = s.constant ∙ less f.constant (constant_of a) g.constant (constant_of b) d.constant e.constant;
}

neg_is : (a : Term) (f h : Form) → IsFormOf f a → IsMultiple (negsuc 0) f h → IsFormOf h (neg a)
unfolding coefficient_of constant_of
neg_is a f h d s = record {
  coefficients = λ i. s.coefficients i ∙ minus_times (coefficient f i) ∙ ap neg_ℤ (d.coefficients i);
  constant = s.constant ∙ minus_times f.constant ∙ ap neg_ℤ d.constant;
}

scale_is : (z : ℤ) (a : Term) (f h : Form) → IsFormOf f a → IsMultiple z f h → IsFormOf h (scale z a)
unfolding coefficient_of constant_of
scale_is z a f h d s = record {
  coefficients = λ i. s.coefficients i ∙ ap (λ x. z *ℤ x) (d.coefficients i);
  constant = s.constant ∙ ap (λ x. z *ℤ x) d.constant;
}

along : (t u : Term) (r : Option Form) → t ≡ u → FormOf u r → FormOf t r
along t u r e h = let P : Term → Type 0 = λ x. FormOf x r in subst P (sym e) h

pub add_form : (a b : Term) (f g h : Form) (r : Option Form) → FormOf a (Some f) → FormOf b (Some g) → AddsScaled (pos 1) g f h → Kept h r → FormOf (view.Add a b) r
unfolding FormOf IsSmall
add_form a b f g h r d e s k = along (view.Add a b) (add a b) r (view_add a b) (kept_form (add a b) h r (λ x. (x, d.small, e.small)) (add_is a b f g h d.is e.is s) k)

pub sub_form : (a b : Term) (f g h : Form) (r : Option Form) → FormOf a (Some f) → FormOf b (Some g) → AddsScaled (negsuc 0) g f h → Kept h r → FormOf (view.Sub a b) r
unfolding FormOf IsSmall
sub_form a b f g h r d e s k = along (view.Sub a b) (sub a b) r (view_sub a b) (kept_form (sub a b) h r (λ x. (x, d.small, e.small)) (sub_is a b f g h d.is e.is s) k)

pub neg_form : (a : Term) (f h : Form) (r : Option Form) → FormOf a (Some f) → IsMultiple (negsuc 0) f h → Kept h r → FormOf (view.Neg a) r
unfolding FormOf IsSmall
neg_form a f h r d s k = along (view.Neg a) (neg a) r (view_neg a) (kept_form (neg a) h r (λ x. (x, d.small)) (neg_is a f h d.is s) k)

pub scale_form : (z : ℤ) (a : Term) (f h : Form) (r : Option Form) → FormOf a (Some f) → IsMultiple z f h → Kept h r → FormOf (view.Scale z a) r
unfolding FormOf IsSmall
scale_form z a f h r d s k = along (view.Scale z a) (scale z a) r (view_scale z a) (kept_form (scale z a) h r (λ x. (x, d.small)) (scale_is z a f h d.is s) k)

pub no_add_left : (a b : Term) → FormOf a None → FormOf (view.Add a b) None
unfolding FormOf IsSmall
no_add_left a b h = along (view.Add a b) (add a b) None (view_add a b) (λ s. h s.1)

pub no_add_right : (a b : Term) → FormOf b None → FormOf (view.Add a b) None
unfolding FormOf IsSmall
no_add_right a b h = along (view.Add a b) (add a b) None (view_add a b) (λ s. h s.2)

pub no_sub_left : (a b : Term) → FormOf a None → FormOf (view.Sub a b) None
unfolding FormOf IsSmall
no_sub_left a b h = along (view.Sub a b) (sub a b) None (view_sub a b) (λ s. h s.1)

pub no_sub_right : (a b : Term) → FormOf b None → FormOf (view.Sub a b) None
unfolding FormOf IsSmall
no_sub_right a b h = along (view.Sub a b) (sub a b) None (view_sub a b) (λ s. h s.2)

pub no_neg : (a : Term) → FormOf a None → FormOf (view.Neg a) None
unfolding FormOf IsSmall
no_neg a h = along (view.Neg a) (neg a) None (view_neg a) (λ s. h s.1)

pub no_scale : (z : ℤ) (a : Term) → FormOf a None → FormOf (view.Scale z a) None
unfolding FormOf IsSmall
no_scale z a h = along (view.Scale z a) (scale z a) None (view_scale z a) (λ s. h s.1)

-- ---- the leaves, and what is asked of sums

pub zero_plus : (x y : ℤ) → y ≡ pos 0 → y +ℤ x ≡ x
zero_plus x y e = omega (arith, ints)

pub lit_is : (z : ℤ) (f h : Form) → IsZero f → AddsConstant z f h → IsFormOf h (Lit z)
unfolding coefficient_of constant_of
lit_is z f h o s = record {
  coefficients = λ i. s.coefficients i ∙ o.coefficients i;
  constant = s.constant ∙ zero_plus z f.constant o.constant;
}

-- a word as code sees it
pub seen_constant : (z : ℤ) (f h : Form) → SFits w64 z → AddsConstant (to_z w64 (of_z w64 z)) f h → AddsConstant z f h
seen_constant z f h w s = let P : ℤ → Type 0 = λ x. AddsConstant x f h in subst P (to_z-of_z w) s

pub seen_scaled : (c : ℤ) (g f h : Form) → SFits w64 c → AddsScaled (to_z w64 (of_z w64 c)) g f h → AddsScaled c g f h
seen_scaled c g f h w s = let P : ℤ → Type 0 = λ x. AddsScaled x g f h in subst P (to_z-of_z w) s

var_entry : (i j : ℕ) (f h : Form) → IsZero f → AddsVariable i (pos 1) f h → ((nat_eq i j ≡ true) × (i ≡ j)) ⊎ ((nat_eq i j ≡ false) × (i ≢ j)) → coefficient h j ≡ (if nat_eq i j then pos 1 else pos 0)
var_entry i j f h o s (inl e) =
    let P : ℕ → Type 0 = λ k. coefficient h k ≡ pos 1 in
    subst P e.1 (s.coefficient_is ∙ zero_plus (pos 1) (coefficient f i) (o.coefficients i)) ∙ sym (ap (λ b. if b then pos 1 else pos 0) e.0)
var_entry i j f h o s (inr n) = s.others j (λ e. n.1 (sym e)) ∙ o.coefficients j ∙ sym (ap (λ b. if b then pos 1 else pos 0) n.0)

pub var_is : (i : ℕ) (f h : Form) → IsZero f → AddsVariable i (pos 1) f h → IsFormOf h (Var i)
unfolding coefficient_of constant_of
var_is i f h o s = record {
  coefficients = λ j. var_entry i j f h o s (eqb_tells i j);
  constant = s.constant ∙ o.constant;
}

-- a small form, and a word times it, leave room for sums
pub small_room : (f : Form) → IsWithin (pos (2 ^ 62)) f → IsWithin room f
small_room f h = word_room (pos (2 ^ 62)) f (omega (arith, ints)) h

word_small : (c : ℤ) → SFits w64 c → IsAtMost (pos (2 ^ 63)) c
word_small c h = record { low = omega (arith, ints); high = omega (arith, ints) }

small_times_room : (c : ℤ) (f : Form) → SFits w64 c → IsWithin (pos (2 ^ 62)) f → IsWithinTimes room c f
small_times_room c f w h = word_times_room (pos (2 ^ 62)) c f (omega (arith, ints)) (word_small c w) h

-- the same of a word as code sees it
pub seen_times_room : (c : ℤ) (f : Form) → SFits w64 c → IsWithin (pos (2 ^ 62)) f → IsWithinTimes room (to_z w64 (of_z w64 c)) f
seen_times_room c f w h = let P : ℤ → Type 0 = λ z. IsWithinTimes room z f in subst P (sym (to_z-of_z w)) (small_times_room c f w h)

pub form_room : (t : Term) (f : Form) → FormOf t (Some f) → IsWithin room f
form_room t f h = small_room f (form_within t f h)

pub ruleset term_forms = (the_lemmas, to_z-of_z, scoped_add, scoped_sub, scoped_neg, scoped_scale, var_scoped_to, form_within, form_room, lit_form, var_form, add_form, sub_form, neg_form, scale_form, no_add_left, no_add_right, no_sub_left, no_sub_right, no_neg, no_scale)
