-- Sums of facts' forms, and certificates.
use Rattle.std.proofs.Common.{◌≡◌, ℕ, suc, ◌^◌, ◌+◌, ◌-◌, ◌*◌, ◌≤◌, ℤ, pos, ◌+ℤ◌, ◌*ℤ◌, List, [], ◌∷◌, length, map, Option, None, Some, refl, ap, sym, subst, arith}
use Rattle.std.proofs.lemmas.Int.{ints}
use Rattle.pm_logic.specs.declared.formula.Term.{Term}
use Rattle.pm_logic.specs.declared.formula.Pure.{Pure, the_lemmas}
use Rattle.pm_logic.specs.declared.formula.Pure.TheVariants.{True, False, Eq, Le, Lt}
use Rattle.pm_logic.specs.declared.formula.Pure.TheViews as view
use Rattle.pm_logic.specs.declared.formula.TheConstants.{BOUND}
use Rattle.pm_logic.specs.Size.{pure_depth}
use Rattle.pm_logic.specs.Trees.{both, either, nope}
use Rattle.pm_logic.proofs.Views.{view_both, view_either, view_not}
use Rattle.pm_logic.proofs.Scopes.{scoped_both}
use Rattle.pm_logic.proofs.Sizes.{depth_both}
use Rattle.pm_linform.specs.declared.Form.{Form}
use Rattle.pm_linform.specs.Entries.{coefficient, IsAtMost}
use Rattle.pm_linform.proofs.Bounds.{at_most_more, within_more}
use Rattle.pm_rules.specs.Equations.{IsFacts}
use Rattle.pm_rules.specs.Linear.{coefficient_of, constant_of, IsSmall, ◌−◌, one_more, number, atom, AreSmall, IsEquation, holds, weighted}
use Rattle.pm_rules.specs.Sums.{HoldingAdded, IsRoomy}
use Rattle.pm_rules.specs.Certificates.{IsFactor, facts_of, FactsAdded, step, HasRoom}
use Rattle.pm_rules.proofs.Adding.{HasEntries, difference_entries, term_within}
use Rattle.pm_rules.proofs.Conjunctions.{true_facts, false_facts, eq_facts, le_facts, lt_facts, or_facts, not_facts, and_facts, facts_and}

-- ---- equations

pub equation_eq : (s t : Term) → IsEquation (Eq s t)
unfolding IsEquation
equation_eq s t = tt

pub true_equation : IsEquation True → ⊥
unfolding IsEquation
true_equation h = h

pub false_equation : IsEquation False → ⊥
unfolding IsEquation
false_equation h = h

pub le_equation : (s t : Term) → IsEquation (Le s t) → ⊥
unfolding IsEquation
le_equation s t h = h

pub lt_equation : (s t : Term) → IsEquation (Lt s t) → ⊥
unfolding IsEquation
lt_equation s t h = h

not_equation : (p q : Pure) → p ≡ q → (IsEquation q → ⊥) → IsEquation p → ⊥
not_equation p q e f h = let P : Pure → Type 0 = IsEquation in f (subst P e h)

pub and_equation : (a b : Pure) → IsEquation (view.And a b) → ⊥
unfolding IsEquation
and_equation a b h = not_equation (view.And a b) (both a b) (view_both a b) (λ x. x) h

pub or_equation : (a b : Pure) → IsEquation (view.Or a b) → ⊥
unfolding IsEquation
or_equation a b h = not_equation (view.Or a b) (either a b) (view_either a b) (λ x. x) h

pub negation_equation : (a : Pure) → IsEquation (view.Not a) → ⊥
unfolding IsEquation
negation_equation a h = not_equation (view.Not a) (nope a) (view_not a) (λ x. x) h

pub ruleset equations = (the_lemmas, equation_eq, true_equation, false_equation, le_equation, lt_equation, and_equation, or_equation, negation_equation)

-- ---- facts

no_sum : (x : ℤ) → x ≡ x +ℤ pos 0
no_sum x = omega (arith, ints)

pub facts_end : (old : Form) → FactsAdded [] True old (Some old)
unfolding FactsAdded facts_of
facts_end old = (true_facts, record { atoms = tt; small = tt; each = refl; sizes = tt; signs = tt }, record { coefficients = λ i. no_sum (coefficient old i); constant = no_sum old.constant })

pub facts_left : (c : ℤ) (cs : List ℤ) (old : Form) → FactsAdded (c ∷ cs) True old None
unfolding FactsAdded facts_of
facts_left c cs old = λ h f. absurd (cc f.each)

facts_along : (cs : List ℤ) (p q : Pure) (old : Form) (r : Option Form) → p ≡ q → FactsAdded cs q old r → FactsAdded cs p old r
facts_along cs p q old r e h = let P : Pure → Type 0 = λ x. FactsAdded cs x old r in subst P (sym e) h

is_facts_and : (a b : Pure) → IsFacts (both a b) → IsFacts b
is_facts_and a b h = let P : Pure → Type 0 = IsFacts in facts_and a b (subst P (sym (view_both a b)) h)

is_and_facts : (a b : Pure) → IsFacts b → IsFacts (both a b)
is_and_facts a b h = let P : Pure → Type 0 = IsFacts in subst P (view_both a b) (and_facts a b h)

pub no_factors : (f rest : Pure) (old : Form) → FactsAdded [] (view.And f rest) old None
unfolding FactsAdded facts_of
no_factors f rest old = facts_along [] (view.And f rest) (both f rest) old None (view_both f rest) (λ h x. absurd (cc x.each))

pub no_factor : (c : ℤ) (cs : List ℤ) (f rest : Pure) (old : Form) → (IsFactor c f → ⊥) → FactsAdded (c ∷ cs) (view.And f rest) old None
unfolding FactsAdded facts_of IsFactor
no_factor c cs f rest old n = facts_along (c ∷ cs) (view.And f rest) (both f rest) old None (view_both f rest) (λ h x. n (x.sizes.0, x.signs.0))

pub no_atom : (c : ℤ) (cs : List ℤ) (f rest : Pure) (old : Form) → HoldingAdded c f old None → FactsAdded (c ∷ cs) (view.And f rest) old None
unfolding FactsAdded facts_of HoldingAdded
no_atom c cs f rest old n = facts_along (c ∷ cs) (view.And f rest) (both f rest) old None (view_both f rest) (λ h x. n (x.atoms.0, x.small.0))

sum_step : (old mid new x y : ℤ) → mid ≡ old +ℤ x → new ≡ mid +ℤ y → new ≡ old +ℤ (x +ℤ y)
sum_step old mid new x y d e = omega (arith, ints)

suc_same : (m n : ℕ) → m ≡ n → suc m ≡ suc n
suc_same m n e = ap suc e

more_added : (c : ℤ) (cs : List ℤ) (f rest : Pure) (old mid : Form) (r : Option Form) → IsFactor c f → HoldingAdded c f old (Some mid) → FactsAdded cs rest mid r → FactsAdded (c ∷ cs) (both f rest) old r
unfolding FactsAdded facts_of HoldingAdded IsFactor
more_added c cs f rest old mid None k a h = λ x y. h (is_facts_and f rest x) (record { atoms = y.atoms.1; small = y.small.1; each = cc y.each; sizes = y.sizes.1; signs = y.signs.1 })
more_added c cs f rest old mid (Some new) k a h = (
  is_and_facts f rest h.0,
  record {
    atoms = (a.0.0, h.1.atoms);
    small = (a.0.1, h.1.small);
    each = suc_same (length cs) (length (facts_of rest)) h.1.each;
    sizes = (k.0, h.1.sizes);
    signs = (k.1, h.1.signs);
  },
  record {
    coefficients = λ i. sum_step (coefficient old i) (coefficient mid i) (coefficient new i) (c *ℤ coefficient_of (holds f) i) (weighted (λ t. coefficient_of t i) cs (map holds (facts_of rest))) (a.1.coefficients i) (h.2.coefficients i);
    constant = sum_step old.constant mid.constant new.constant (c *ℤ constant_of (holds f)) (weighted constant_of cs (map holds (facts_of rest))) a.1.constant h.2.constant;
  },
)

pub facts_more : (c : ℤ) (cs : List ℤ) (f rest : Pure) (old mid : Form) (r : Option Form) → IsFactor c f → HoldingAdded c f old (Some mid) → FactsAdded cs rest mid r → FactsAdded (c ∷ cs) (view.And f rest) old r
facts_more c cs f rest old mid r k a h = facts_along (c ∷ cs) (view.And f rest) (both f rest) old r (view_both f rest) (more_added c cs f rest old mid r k a h)

no_facts : (cs : List ℤ) (p : Pure) (old : Form) → (IsFacts p → ⊥) → FactsAdded cs p old None
unfolding FactsAdded
no_facts cs p old n = λ h x. n h

pub facts_false : (cs : List ℤ) (old : Form) → FactsAdded cs False old None
facts_false cs old = no_facts cs False old false_facts

pub facts_eq : (cs : List ℤ) (s t : Term) (old : Form) → FactsAdded cs (Eq s t) old None
facts_eq cs s t old = no_facts cs (Eq s t) old (eq_facts s t)

pub facts_le : (cs : List ℤ) (s t : Term) (old : Form) → FactsAdded cs (Le s t) old None
facts_le cs s t old = no_facts cs (Le s t) old (le_facts s t)

pub facts_lt : (cs : List ℤ) (s t : Term) (old : Form) → FactsAdded cs (Lt s t) old None
facts_lt cs s t old = no_facts cs (Lt s t) old (lt_facts s t)

pub facts_or : (cs : List ℤ) (a b : Pure) (old : Form) → FactsAdded cs (view.Or a b) old None
facts_or cs a b old = no_facts cs (view.Or a b) old (or_facts a b)

pub facts_not : (cs : List ℤ) (a : Pure) (old : Form) → FactsAdded cs (view.Not a) old None
facts_not cs a old = no_facts cs (view.Not a) old (not_facts a)

-- ---- sizes

plus_one : (x : ℤ) → IsAtMost (pos (2 ^ 63)) x → IsAtMost (pos (2 ^ 63 + 1)) (x +ℤ pos 1)
plus_one x h = let a = h.low in let b = h.high in record { low = omega (arith, ints); high = omega (arith, ints) }

plus_none : (x : ℤ) → IsAtMost (pos (2 ^ 63)) x → IsAtMost (pos (2 ^ 63 + 1)) (x +ℤ pos 0)
plus_none x h = let a = h.low in let b = h.high in record { low = omega (arith, ints); high = omega (arith, ints) }

more : (x : ℤ) → IsAtMost (pos (2 ^ 63)) x → IsAtMost (pos (2 ^ 63 + 1)) x
more x h = at_most_more (pos (2 ^ 63)) (pos (2 ^ 63 + 1)) x (omega (arith, ints)) h

pub bare : (s t : Term) → IsSmall s × IsSmall t → HasEntries (2 ^ 63 + 1) (s − t)
bare s t h =
    let e = difference_entries s t h.0 h.1 in
    record { coefficients = λ i. more (coefficient_of (s − t) i) (e.coefficients i); constant = more (constant_of (s − t)) e.constant }

pub strict : (s t : Term) → IsSmall s × IsSmall t → HasEntries (2 ^ 63 + 1) (one_more (s − t))
unfolding coefficient_of constant_of
strict s t h =
    let e = difference_entries s t h.0 h.1 in
    record { coefficients = λ i. plus_none (coefficient_of (s − t) i) (e.coefficients i); constant = plus_one (constant_of (s − t)) e.constant }

zero_entry : IsAtMost (pos (2 ^ 63 + 1)) (pos 0)
zero_entry = record { low = omega (arith, ints); high = omega (arith, ints) }

one_entry : IsAtMost (pos (2 ^ 63 + 1)) (pos 1)
one_entry = record { low = omega (arith, ints); high = omega (arith, ints) }

pub none : HasEntries (2 ^ 63 + 1) (number 0)
unfolding coefficient_of constant_of
none = record { coefficients = λ i. zero_entry; constant = zero_entry }

pub unit : HasEntries (2 ^ 63 + 1) (number 1)
unfolding coefficient_of constant_of
unit = record { coefficients = λ i. zero_entry; constant = one_entry }

holds_entries : (f : Pure) → AreSmall f → HasEntries (2 ^ 63 + 1) (holds f)
unfolding atom AreSmall
holds_entries True h = none
holds_entries False h = unit
holds_entries (Eq s t) h = bare s t h
holds_entries (Le s t) h = bare s t h
holds_entries (Lt s t) h = strict s t h
holds_entries (both a b) h = none
holds_entries (either a b) h = none
holds_entries (nope True) h = none
holds_entries (nope False) h = none
holds_entries (nope (Eq s t)) h = none
holds_entries (nope (Le s t)) h = strict t s (h.1, h.0)
holds_entries (nope (Lt s t)) h = bare t s (h.1, h.0)
holds_entries (nope (both a b)) h = none
holds_entries (nope (either a b)) h = none
holds_entries (nope (nope a)) h = none

pub has_roomy : (f : Form) (d : ℕ) → HasRoom f d → IsRoomy f
unfolding HasRoom IsRoomy
has_roomy f d h = within_more (pos ((BOUND - d) * step)) (pos (2 ^ 124)) f (omega (arith, ints)) h

room_step : (b d d' : ℕ) → suc d' ≤ d → d ≤ b → (b - d) * step + step ≤ (b - d') * step
room_step b d d' h k = omega arith

pub factor_size : (c : ℤ) (f : Pure) → IsFactor c f → IsAtMost (pos (2 ^ 31)) c
unfolding IsFactor
factor_size c f h = h.0

room_more : (c : ℤ) (f : Pure) (old mid : Form) (d d' : ℕ) → IsFactor c f → HoldingAdded c f old (Some mid) → HasRoom old d → suc d' ≤ d → d ≤ BOUND → HasRoom mid d'
unfolding HasRoom HoldingAdded
room_more c f old mid d d' k a h le top =
    let w = term_within ((BOUND - d) * step) (2 ^ 63 + 1) c (holds f) old mid h (factor_size c f k) (holds_entries f a.0.1) a.1 in
    within_more (pos ((BOUND - d) * step + step)) (pos ((BOUND - d') * step)) mid (omega (arith, ints, room_step BOUND d d' le top)) w

depth_rest : (f rest : Pure) → suc (pure_depth rest) ≤ pure_depth (view.And f rest)
depth_rest f rest = let e = depth_both f rest in omega (arith, e)

pub rest_depth : (f rest : Pure) → pure_depth (view.And f rest) ≤ BOUND → pure_depth rest ≤ BOUND
rest_depth f rest h = let d = depth_rest f rest in omega arith

pub rest_room : (c : ℤ) (f rest : Pure) (old mid : Form) → IsFactor c f → HoldingAdded c f old (Some mid) → HasRoom old (pure_depth (view.And f rest)) → pure_depth (view.And f rest) ≤ BOUND → HasRoom mid (pure_depth rest)
rest_room c f rest old mid k a h top = room_more c f old mid (pure_depth (view.And f rest)) (pure_depth rest) k a h (depth_rest f rest) top

pub ruleset sums = (the_lemmas, scoped_both, rest_depth, facts_end, facts_left, no_factors, no_factor, no_atom, facts_more, facts_false, facts_eq, facts_le, facts_lt, facts_or, facts_not, has_roomy, factor_size, rest_room)
