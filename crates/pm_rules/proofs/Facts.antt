-- The forms of atoms, as they are added.
use Rattle.std.proofs.Common.{◌≡◌, ℤ, Option, None, Some, refl, ap, sym, subst, ◌∙◌}
use Rattle.pm_logic.specs.declared.formula.Term.{Term}
use Rattle.pm_logic.specs.declared.formula.Pure.{Pure, the_lemmas}
use Rattle.pm_logic.specs.declared.formula.Pure.TheVariants.{True, False, Eq, Le, Lt}
use Rattle.pm_logic.specs.declared.formula.Pure.TheViews as view
use Rattle.pm_logic.specs.Trees.{both, either, nope}
use Rattle.pm_logic.proofs.Views.{view_both, view_either, view_not}
use Rattle.pm_logic.proofs.Scopes.{scoped_eq, scoped_le, scoped_lt, scoped_not}
use Rattle.pm_linform.specs.declared.Form.{Form}
use Rattle.pm_rules.specs.Linear.{IsSmall, ◌−◌, one_more, number, atom, IsAtom, AreSmall}
use Rattle.pm_rules.specs.Sums.{AddsTerm, TermAdded, DifferenceAdded, StrictAdded, HoldingAdded, FailingAdded}
use Rattle.pm_rules.proofs.Adding.{zero_adds}

same_added : (ok ok' : Type 0) (c : ℤ) (t : Term) (old : Form) (r : Option Form) → (ok → ok') → (ok' → ok) → TermAdded ok c t old r → TermAdded ok' c t old r
same_added ok ok' c t old None f g h = λ x. h (g x)
same_added ok ok' c t old (Some new) f g h = (f h.0, h.1)

holding_along : (c : ℤ) (p q : Pure) (old : Form) (r : Option Form) → p ≡ q → HoldingAdded c q old r → HoldingAdded c p old r
holding_along c p q old r e h = let P : Pure → Type 0 = λ x. HoldingAdded c x old r in subst P (sym e) h

failing_along : (c : ℤ) (p q : Pure) (old : Form) (r : Option Form) → p ≡ q → FailingAdded c q old r → FailingAdded c p old r
failing_along c p q old r e h = let P : Pure → Type 0 = λ x. FailingAdded c x old r in subst P (sym e) h

-- ---- where an atom holds

pub holding_true : (c : ℤ) (old : Form) → HoldingAdded c True old (Some old)
unfolding HoldingAdded atom AreSmall
holding_true c old = ((refl, tt), zero_adds c old)

pub holding_false : (c : ℤ) (old new : Form) → AddsTerm c (number 1) old new → HoldingAdded c False old (Some new)
unfolding HoldingAdded atom AreSmall
holding_false c old new h = ((refl, tt), h)

pub holding_eq : (c : ℤ) (s t : Term) (old : Form) (r : Option Form) → DifferenceAdded c s t old r → HoldingAdded c (Eq s t) old r
unfolding HoldingAdded DifferenceAdded atom AreSmall
holding_eq c s t old r h = same_added (IsSmall s × IsSmall t) (IsAtom (Eq s t) × AreSmall (Eq s t)) c (s − t) old r (λ x. (refl, x)) (λ x. x.1) h

pub holding_le : (c : ℤ) (s t : Term) (old : Form) (r : Option Form) → DifferenceAdded c s t old r → HoldingAdded c (Le s t) old r
unfolding HoldingAdded DifferenceAdded atom AreSmall
holding_le c s t old r h = same_added (IsSmall s × IsSmall t) (IsAtom (Le s t) × AreSmall (Le s t)) c (s − t) old r (λ x. (refl, x)) (λ x. x.1) h

pub holding_lt : (c : ℤ) (s t : Term) (old : Form) (r : Option Form) → StrictAdded c s t old r → HoldingAdded c (Lt s t) old r
unfolding HoldingAdded StrictAdded atom AreSmall
holding_lt c s t old r h = same_added (IsSmall s × IsSmall t) (IsAtom (Lt s t) × AreSmall (Lt s t)) c (one_more (s − t)) old r (λ x. (refl, x)) (λ x. x.1) h

holding_nope_le : (c : ℤ) (s t : Term) (old : Form) (r : Option Form) → StrictAdded c t s old r → HoldingAdded c (nope (Le s t)) old r
unfolding HoldingAdded StrictAdded atom AreSmall
holding_nope_le c s t old r h = same_added (IsSmall t × IsSmall s) (IsAtom (nope (Le s t)) × AreSmall (nope (Le s t))) c (one_more (t − s)) old r (λ x. (refl, (x.1, x.0))) (λ x. (x.1.1, x.1.0)) h

pub holding_not_le : (c : ℤ) (s t : Term) (old : Form) (r : Option Form) → StrictAdded c t s old r → HoldingAdded c (view.Not (Le s t)) old r
holding_not_le c s t old r h = holding_along c (view.Not (Le s t)) (nope (Le s t)) old r (view_not (Le s t)) (holding_nope_le c s t old r h)

holding_nope_lt : (c : ℤ) (s t : Term) (old : Form) (r : Option Form) → DifferenceAdded c t s old r → HoldingAdded c (nope (Lt s t)) old r
unfolding HoldingAdded DifferenceAdded atom AreSmall
holding_nope_lt c s t old r h = same_added (IsSmall t × IsSmall s) (IsAtom (nope (Lt s t)) × AreSmall (nope (Lt s t))) c (t − s) old r (λ x. (refl, (x.1, x.0))) (λ x. (x.1.1, x.1.0)) h

pub holding_not_lt : (c : ℤ) (s t : Term) (old : Form) (r : Option Form) → DifferenceAdded c t s old r → HoldingAdded c (view.Not (Lt s t)) old r
holding_not_lt c s t old r h = holding_along c (view.Not (Lt s t)) (nope (Lt s t)) old r (view_not (Lt s t)) (holding_nope_lt c s t old r h)

-- ---- where an atom fails

pub failing_true : (c : ℤ) (old new : Form) → AddsTerm c (number 1) old new → FailingAdded c True old (Some new)
unfolding FailingAdded atom AreSmall
failing_true c old new h = ((refl, tt), h)

pub failing_false : (c : ℤ) (old : Form) → FailingAdded c False old (Some old)
unfolding FailingAdded atom AreSmall
failing_false c old = ((refl, tt), zero_adds c old)

pub failing_eq : (c : ℤ) (s t : Term) (old : Form) (r : Option Form) → StrictAdded c t s old r → FailingAdded c (Eq s t) old r
unfolding FailingAdded StrictAdded atom AreSmall
failing_eq c s t old r h = same_added (IsSmall t × IsSmall s) (IsAtom (Eq s t) × AreSmall (Eq s t)) c (one_more (t − s)) old r (λ x. (refl, (x.1, x.0))) (λ x. (x.1.1, x.1.0)) h

pub failing_le : (c : ℤ) (s t : Term) (old : Form) (r : Option Form) → StrictAdded c t s old r → FailingAdded c (Le s t) old r
unfolding FailingAdded StrictAdded atom AreSmall
failing_le c s t old r h = same_added (IsSmall t × IsSmall s) (IsAtom (Le s t) × AreSmall (Le s t)) c (one_more (t − s)) old r (λ x. (refl, (x.1, x.0))) (λ x. (x.1.1, x.1.0)) h

pub failing_lt : (c : ℤ) (s t : Term) (old : Form) (r : Option Form) → DifferenceAdded c t s old r → FailingAdded c (Lt s t) old r
unfolding FailingAdded DifferenceAdded atom AreSmall
failing_lt c s t old r h = same_added (IsSmall t × IsSmall s) (IsAtom (Lt s t) × AreSmall (Lt s t)) c (t − s) old r (λ x. (refl, (x.1, x.0))) (λ x. (x.1.1, x.1.0)) h

failing_nope_le : (c : ℤ) (s t : Term) (old : Form) (r : Option Form) → DifferenceAdded c s t old r → FailingAdded c (nope (Le s t)) old r
unfolding FailingAdded DifferenceAdded atom AreSmall
failing_nope_le c s t old r h = same_added (IsSmall s × IsSmall t) (IsAtom (nope (Le s t)) × AreSmall (nope (Le s t))) c (s − t) old r (λ x. (refl, x)) (λ x. x.1) h

pub failing_not_le : (c : ℤ) (s t : Term) (old : Form) (r : Option Form) → DifferenceAdded c s t old r → FailingAdded c (view.Not (Le s t)) old r
failing_not_le c s t old r h = failing_along c (view.Not (Le s t)) (nope (Le s t)) old r (view_not (Le s t)) (failing_nope_le c s t old r h)

failing_nope_lt : (c : ℤ) (s t : Term) (old : Form) (r : Option Form) → StrictAdded c s t old r → FailingAdded c (nope (Lt s t)) old r
unfolding FailingAdded StrictAdded atom AreSmall
failing_nope_lt c s t old r h = same_added (IsSmall s × IsSmall t) (IsAtom (nope (Lt s t)) × AreSmall (nope (Lt s t))) c (one_more (s − t)) old r (λ x. (refl, x)) (λ x. x.1) h

pub failing_not_lt : (c : ℤ) (s t : Term) (old : Form) (r : Option Form) → StrictAdded c s t old r → FailingAdded c (view.Not (Lt s t)) old r
failing_not_lt c s t old r h = failing_along c (view.Not (Lt s t)) (nope (Lt s t)) old r (view_not (Lt s t)) (failing_nope_lt c s t old r h)

-- ---- what is no atom

no_conjunction : (a b : Pure) → IsAtom (both a b) → ⊥
unfolding atom
no_conjunction a b h = cc h

no_disjunction : (a b : Pure) → IsAtom (either a b) → ⊥
unfolding atom
no_disjunction a b h = cc h

no_negation : (q : Pure) → ((s t : Term) → q ≡ Le s t → ⊥) → ((s t : Term) → q ≡ Lt s t → ⊥) → IsAtom (nope q) → ⊥
unfolding atom
no_negation True f g h = cc h
no_negation False f g h = cc h
no_negation (Eq s t) f g h = cc h
no_negation (Le s t) f g h = f s t refl
no_negation (Lt s t) f g h = g s t refl
no_negation (both a b) f g h = cc h
no_negation (either a b) f g h = cc h
no_negation (nope a) f g h = cc h

pub holding_none : (c : ℤ) (p : Pure) (old : Form) → (IsAtom p → ⊥) → HoldingAdded c p old None
unfolding HoldingAdded
holding_none c p old f = λ x. f x.0

pub failing_none : (c : ℤ) (p : Pure) (old : Form) → (IsAtom p → ⊥) → FailingAdded c p old None
unfolding FailingAdded
failing_none c p old f = λ x. f x.0

pub holding_and : (c : ℤ) (a b : Pure) (old : Form) → HoldingAdded c (view.And a b) old None
holding_and c a b old = holding_along c (view.And a b) (both a b) old None (view_both a b) (holding_none c (both a b) old (no_conjunction a b))

pub holding_or : (c : ℤ) (a b : Pure) (old : Form) → HoldingAdded c (view.Or a b) old None
holding_or c a b old = holding_along c (view.Or a b) (either a b) old None (view_either a b) (holding_none c (either a b) old (no_disjunction a b))

pub failing_and : (c : ℤ) (a b : Pure) (old : Form) → FailingAdded c (view.And a b) old None
failing_and c a b old = failing_along c (view.And a b) (both a b) old None (view_both a b) (failing_none c (both a b) old (no_conjunction a b))

pub failing_or : (c : ℤ) (a b : Pure) (old : Form) → FailingAdded c (view.Or a b) old None
failing_or c a b old = failing_along c (view.Or a b) (either a b) old None (view_either a b) (failing_none c (either a b) old (no_disjunction a b))

pub holding_other : (c : ℤ) (p q' q : Pure) (old : Form) → p ≡ view.Not q' → q ≡ q' → ((s t : Term) → q ≡ Le s t → ⊥) → ((s t : Term) → q ≡ Lt s t → ⊥) → HoldingAdded c p old None
holding_other c p q' q old e d f g = holding_along c p (view.Not q) old None (e ∙ ap view.Not (sym d)) (holding_along c (view.Not q) (nope q) old None (view_not q) (holding_none c (nope q) old (no_negation q f g)))

pub failing_other : (c : ℤ) (p q' q : Pure) (old : Form) → p ≡ view.Not q' → q ≡ q' → ((s t : Term) → q ≡ Le s t → ⊥) → ((s t : Term) → q ≡ Lt s t → ⊥) → FailingAdded c p old None
failing_other c p q' q old e d f g = failing_along c p (view.Not q) old None (e ∙ ap view.Not (sym d)) (failing_along c (view.Not q) (nope q) old None (view_not q) (failing_none c (nope q) old (no_negation q f g)))

pub ruleset scopes = (the_lemmas, scoped_eq, scoped_le, scoped_lt, scoped_not)

pub ruleset holding_atoms = (scopes, holding_true, holding_false, holding_eq, holding_le, holding_lt, holding_not_le, holding_not_lt, holding_and, holding_or)

pub ruleset failing_atoms = (scopes, failing_true, failing_false, failing_eq, failing_le, failing_lt, failing_not_le, failing_not_lt, failing_and, failing_or)
