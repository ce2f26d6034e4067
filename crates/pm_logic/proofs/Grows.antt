-- What is scoped in some number of variables is scoped in more.
use Rattle.std.proofs.Common.{ℕ, ◌≤◌, List, [], ◌∷◌, arith}
use Rattle.pm_logic.specs.declared.formula.Term.{Term}
use Rattle.pm_logic.specs.declared.formula.Term.TheVariants.{Lit, Var}
use Rattle.pm_logic.specs.declared.formula.Pure.{Pure}
use Rattle.pm_logic.specs.declared.formula.Pure.TheVariants.{True, False, Eq, Le, Lt}
use Rattle.pm_logic.specs.Trees.{add, sub, neg, scale, both, either, nope}
use Rattle.pm_logic.specs.Scope.{TermScoped, TermsScoped, PureScoped}

pub term_grows : (k n : ℕ) (t : Term) → k ≤ n → TermScoped k t → TermScoped n t
unfolding TermScoped
term_grows k n (Lit z) le h = tt
term_grows k n (Var i) le h = omega arith
term_grows k n (add s t) le h = (term_grows k n s le h.0, term_grows k n t le h.1)
term_grows k n (sub s t) le h = (term_grows k n s le h.0, term_grows k n t le h.1)
term_grows k n (neg t) le h = term_grows k n t le h
term_grows k n (scale z t) le h = term_grows k n t le h

pub terms_grow : (k n : ℕ) (ts : List Term) → k ≤ n → TermsScoped k ts → TermsScoped n ts
unfolding TermsScoped
terms_grow k n [] le h = tt
terms_grow k n (t ∷ ts) le h = (term_grows k n t le h.0, terms_grow k n ts le h.1)

pub pure_grows : (k n : ℕ) (p : Pure) → k ≤ n → PureScoped k p → PureScoped n p
unfolding PureScoped
pure_grows k n True le h = tt
pure_grows k n False le h = tt
pure_grows k n (Eq s t) le h = (term_grows k n s le h.0, term_grows k n t le h.1)
pure_grows k n (Le s t) le h = (term_grows k n s le h.0, term_grows k n t le h.1)
pure_grows k n (Lt s t) le h = (term_grows k n s le h.0, term_grows k n t le h.1)
pure_grows k n (both a b) le h = (pure_grows k n a le h.0, pure_grows k n b le h.1)
pure_grows k n (either a b) le h = (pure_grows k n a le h.0, pure_grows k n b le h.1)
pure_grows k n (nope a) le h = pure_grows k n a le h
