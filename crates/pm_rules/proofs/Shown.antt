-- Certificates by their sums.
use Rattle.std.proofs.Common.{◌≡◌, ◌⊎◌, inl, inr, ℕ, suc, ◌^◌, ◌+◌, ◌-◌, ◌*◌, ◌<◌, ℤ, pos, ◌+ℤ◌, ◌*ℤ◌, ◌≤ℤ◌, List, [], ◌∷◌, map, Option, None, Some, ap, sym, subst, ◌∙◌, arith}
use Rattle.std.proofs.lemmas.Int.{ints}
use Rattle.pm_logic.specs.declared.formula.Term.{Term}
use Rattle.pm_logic.specs.declared.formula.Pure.{Pure, the_lemmas}
use Rattle.pm_logic.specs.declared.formula.Pure.TheVariants.{True, False, Eq, Le, Lt}
use Rattle.pm_logic.specs.declared.formula.TheConstants.{BOUND}
use Rattle.pm_logic.specs.Trees.{both, either, nope}
use Rattle.pm_linform.specs.declared.Form.{Form}
use Rattle.pm_linform.specs.Entries.{coefficient, IsAtMost, IsWithin}
use Rattle.pm_linform.specs.Sums.{IsZero, IsPositiveConstant}
use Rattle.pm_linform.proofs.Bounds.{at_most_product, within_more, zero_within}
use Rattle.pm_rules.specs.Linear.{coefficient_of, constant_of, atom, AreSmall, IsEquation, holds, fails, weighted}
use Rattle.pm_rules.specs.Sums.{AddsTerm, StrictAdded, FailingAdded, IsRoomy}
use Rattle.pm_rules.specs.Certificates.{IsFirstFactor, facts_of, FactsAdded, step, HasRoom, IsTimes, Starts, Closing, Shows, StartsWithRoom}
use Rattle.pm_rules.proofs.Adding.{HasEntries}
use Rattle.pm_rules.proofs.Facts.{failing_eq}
use Rattle.pm_rules.proofs.Terms.{zero_plus}
use Rattle.pm_rules.proofs.Sums.{bare, strict, none, unit}

-- ---- the negated conclusion

times : (c : ℤ) (t : Term) (z f : Form) → IsZero z → AddsTerm c t z f → IsTimes c t f
times c t z f o h = record {
  coefficients = λ i. h.coefficients i ∙ zero_plus (c *ℤ coefficient_of t i) (coefficient z i) (o.coefficients i);
  constant = h.constant ∙ zero_plus (c *ℤ constant_of t) z.constant o.constant;
}

pub failing_starts : (c : ℤ) (g : Pure) (z : Form) (r : Option Form) → IsZero z → FailingAdded c g z r → Starts c g r
unfolding FailingAdded Starts
failing_starts c g z None o h = h
failing_starts c g z (Some f) o h = (h.0, times c (fails g) z f o h.1)

pub strict_starts : (c : ℤ) (s t : Term) (z : Form) (r : Option Form) → IsZero z → StrictAdded c s t z r → Starts c (Eq t s) r
strict_starts c s t z r o h = failing_starts c (Eq t s) z r o (failing_eq c t s z r h)

pub zero_roomy : (z : Form) → IsZero z → IsRoomy z
unfolding IsRoomy
zero_roomy z o = zero_within (pos (2 ^ 124)) z (omega (arith, ints)) o

pub first_size : (c : ℤ) → IsFirstFactor c → IsAtMost (pos (2 ^ 31)) c
unfolding IsFirstFactor
first_size c h = h.0

fails_entries : (f : Pure) → AreSmall f → HasEntries (2 ^ 63 + 1) (fails f)
unfolding atom AreSmall
fails_entries True h = unit
fails_entries False h = none
fails_entries (Eq s t) h = strict t s (h.1, h.0)
fails_entries (Le s t) h = strict t s (h.1, h.0)
fails_entries (Lt s t) h = bare t s (h.1, h.0)
fails_entries (both a b) h = none
fails_entries (either a b) h = none
fails_entries (nope True) h = none
fails_entries (nope False) h = none
fails_entries (nope (Eq s t)) h = none
fails_entries (nope (Le s t)) h = bare s t h
fails_entries (nope (Lt s t)) h = strict s t h
fails_entries (nope (both a b)) h = none
fails_entries (nope (either a b)) h = none
fails_entries (nope (nope a)) h = none

entry_step : (c x y : ℤ) → IsAtMost (pos (2 ^ 31)) c → IsAtMost (pos (2 ^ 63 + 1)) x → y ≡ c *ℤ x → IsAtMost (pos step) y
entry_step c x y h k e = let P : ℤ → Type 0 = IsAtMost (pos step) in subst P (sym e) (at_most_product (2 ^ 31) (2 ^ 63 + 1) c x h k)

times_within : (c : ℤ) (t : Term) (f : Form) → IsAtMost (pos (2 ^ 31)) c → HasEntries (2 ^ 63 + 1) t → IsTimes c t f → IsWithin (pos step) f
times_within c t f h k s = record {
  coefficients = λ i. entry_step c (coefficient_of t i) (coefficient f i) h (k.coefficients i) (s.coefficients i);
  constant = entry_step c (constant_of t) f.constant h k.constant s.constant;
}

pub starts_room : (c : ℤ) (g : Pure) (r : Option Form) (d : ℕ) → IsFirstFactor c → Starts c g r → d < BOUND → StartsWithRoom r d
unfolding Starts StartsWithRoom HasRoom
starts_room c g None d k h lt = tt
starts_room c g (Some f) d k h lt =
    within_more (pos step) (pos ((BOUND - d) * step)) f (omega (arith, ints)) (times_within c (fails g) f (first_size c k) (fails_entries g h.0.1) h.1)

pub ruleset starts = (zero_roomy, first_size, failing_starts, strict_starts)

-- ---- with the facts

pub none_closes : (cs : List ℤ) (p : Pure) → Closing None cs p → ⊥
unfolding Closing
none_closes cs p h = h

pub some_room : (f : Form) (d : ℕ) → StartsWithRoom (Some f) d → HasRoom f d
unfolding StartsWithRoom
some_room f d h = h

pub facts_close : (cs : List ℤ) (p : Pure) (f new : Form) → FactsAdded cs p f (Some new) → IsPositiveConstant new → Closing (Some f) cs p
unfolding FactsAdded Closing
facts_close cs p f new h k = record {
  facts = h.0;
  fit = h.1;
  variables = λ i. sym (h.2.coefficients i) ∙ k.coefficients i;
  constant = let P : ℤ → Type 0 = λ x. pos 1 ≤ℤ x in subst P h.2.constant k.constant;
}

pub close_facts : (cs : List ℤ) (p : Pure) (f new : Form) → FactsAdded cs p f (Some new) → Closing (Some f) cs p → IsPositiveConstant new
unfolding FactsAdded Closing
close_facts cs p f new h k = record {
  coefficients = λ i. h.2.coefficients i ∙ k.variables i;
  constant = let P : ℤ → Type 0 = λ x. pos 1 ≤ℤ x in subst P (sym h.2.constant) k.constant;
}

pub none_added : (cs : List ℤ) (p : Pure) (f : Form) → FactsAdded cs p f None → Closing (Some f) cs p → ⊥
unfolding FactsAdded Closing
none_added cs p f h k = h k.facts k.fit

pub ruleset closings = (none_closes, some_room, facts_close, close_facts, none_added)

-- ---- certificates

same_sum : (x y z w : ℤ) → x ≡ y → x +ℤ z ≡ w → y +ℤ z ≡ w
same_sum x y z w e h = ap (λ v. v +ℤ z) (sym e) ∙ h

pub closing_shows : (c : ℤ) (cs : List ℤ) (p g : Pure) (r : Option Form) → IsFirstFactor c → Starts c g r → Closing r cs p → Shows (c ∷ cs) p g
unfolding Starts Closing Shows IsFirstFactor
closing_shows c cs p g None k s h = absurd h
closing_shows c cs p g (Some f) k s h = (
  h.facts,
  record {
    atoms = (s.0.0, h.fit.atoms);
    small = (s.0.1, h.fit.small);
    each = ap suc h.fit.each;
    sizes = (k.0, h.fit.sizes);
    signs = (inl k.1, h.fit.signs);
    variables = λ i. same_sum (coefficient f i) (c *ℤ coefficient_of (fails g) i) (weighted (λ t. coefficient_of t i) cs (map holds (facts_of p))) (pos 0) (s.1.coefficients i) (h.variables i);
    constant = let P : ℤ → Type 0 = λ x. pos 1 ≤ℤ (x +ℤ weighted constant_of cs (map holds (facts_of p))) in subst P s.1.constant h.constant;
  },
)

pub shows_closing : (c : ℤ) (cs : List ℤ) (p g : Pure) (r : Option Form) → Starts c g r → Shows (c ∷ cs) p g → Closing r cs p
unfolding Starts Closing Shows
shows_closing c cs p g None s h = absurd (s (h.1.atoms.0, h.1.small.0))
shows_closing c cs p g (Some f) s h = record {
  facts = h.0;
  fit = record { atoms = h.1.atoms.1; small = h.1.small.1; each = cc h.1.each; sizes = h.1.sizes.1; signs = h.1.signs.1 };
  variables = λ i. same_sum (c *ℤ coefficient_of (fails g) i) (coefficient f i) (weighted (λ t. coefficient_of t i) cs (map holds (facts_of p))) (pos 0) (sym (s.1.coefficients i)) (h.1.variables i);
  constant = let P : ℤ → Type 0 = λ x. pos 1 ≤ℤ (x +ℤ weighted constant_of cs (map holds (facts_of p))) in subst P (sym s.1.constant) h.1.constant;
}

no_negated : (g : Pure) → IsEquation (nope g) → ⊥
unfolding IsEquation
no_negated g h = h

first_sign : (c : ℤ) (g : Pure) → pos 0 ≤ℤ c ⊎ IsEquation (nope g) → pos 0 ≤ℤ c
first_sign c g (inl h) = h
first_sign c g (inr h) = absurd (no_negated g h)

pub shows_first : (c : ℤ) (cs : List ℤ) (p g : Pure) → Shows (c ∷ cs) p g → IsFirstFactor c
unfolding Shows IsFirstFactor
shows_first c cs p g h = (h.1.sizes.0, first_sign c g h.1.signs.0)

pub shows_none : (p g : Pure) → Shows [] p g → ⊥
unfolding Shows
shows_none p g h = cc h.1.each

pub ruleset shown = (the_lemmas, starts_room, closing_shows, shows_closing, shows_first, shows_none)
