-- Conjunctions to the right that end in truth.
use Rattle.std.proofs.Common.{◌≡◌, List, [], ◌∷◌, refl, ap, sym, subst, ◌∙◌}
use Rattle.pm_logic.specs.declared.formula.Term.{Term}
use Rattle.pm_logic.specs.declared.formula.Pure.{Pure, the_lemmas}
use Rattle.pm_logic.specs.declared.formula.Pure.TheVariants.{True, False, Eq, Le, Lt}
use Rattle.pm_logic.specs.declared.formula.Pure.TheViews as view
use Rattle.pm_logic.specs.Trees.{both, either, nope}
use Rattle.pm_logic.proofs.Views.{view_both, view_either, view_not}
use Rattle.pm_rules.specs.Equations.{all_of, IsFacts}

-- the rest of a conjunction
abbrev RestIs : Pure → Type 0
RestIs True = Unit {0}
RestIs (both a b) = IsFacts b
RestIs _ = ⊥

rest_of : (fs : List Pure) → RestIs (all_of fs)
unfolding IsFacts
rest_of [] = tt
rest_of (f ∷ fs) = let P : Pure → Type 0 = RestIs in subst P (sym (view_both f (all_of fs))) (fs, refl)

rest : (p q : Pure) → p ≡ q → IsFacts p → RestIs q
unfolding IsFacts
rest p q e h = let P : Pure → Type 0 = RestIs in subst P (sym h.1 ∙ e) (rest_of h.0)

pub true_facts : IsFacts True
unfolding IsFacts
true_facts = ([], refl)

pub and_facts : (a b : Pure) → IsFacts b → IsFacts (view.And a b)
unfolding IsFacts
and_facts a b h = (a ∷ h.0, ap (view.And a) h.1)

pub facts_and : (a b : Pure) → IsFacts (view.And a b) → IsFacts b
facts_and a b h = rest (view.And a b) (both a b) (view_both a b) h

pub false_facts : IsFacts False → ⊥
false_facts h = rest False False refl h

pub eq_facts : (s t : Term) → IsFacts (Eq s t) → ⊥
eq_facts s t h = rest (Eq s t) (Eq s t) refl h

pub le_facts : (s t : Term) → IsFacts (Le s t) → ⊥
le_facts s t h = rest (Le s t) (Le s t) refl h

pub lt_facts : (s t : Term) → IsFacts (Lt s t) → ⊥
lt_facts s t h = rest (Lt s t) (Lt s t) refl h

pub or_facts : (a b : Pure) → IsFacts (view.Or a b) → ⊥
or_facts a b h = rest (view.Or a b) (either a b) (view_either a b) h

pub not_facts : (a : Pure) → IsFacts (view.Not a) → ⊥
not_facts a h = rest (view.Not a) (nope a) (view_not a) h

pub ruleset conjunctions = (the_lemmas, true_facts, and_facts, facts_and, false_facts, eq_facts, le_facts, lt_facts, or_facts, not_facts)
