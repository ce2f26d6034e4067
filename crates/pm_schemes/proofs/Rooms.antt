-- Terms and factors that a line has room for.
use Rattle.std.proofs.Common.{ℕ, suc, ◌^◌, ◌≤◌, ◌≡◌, ℤ, pos, negsuc, List, [], ◌∷◌, length, arith}
use Rattle.std.proofs.lemmas.Int.{ints}
use Rattle.std.specs.List.{AllByRecursion}
use Rattle.pm_logic.specs.declared.formula.Term.{Term}
use Rattle.pm_logic.specs.declared.formula.Pure.{Pure}
use Rattle.pm_logic.specs.declared.formula.Pure.TheVariants.{True, False, Eq, Le, Lt}
use Rattle.pm_logic.specs.declared.formula.Formula.{Formula}
use Rattle.pm_logic.specs.declared.formula.Preds.{Preds}
use Rattle.pm_logic.specs.declared.formula.TheConstants.{BOUND}
use Rattle.pm_logic.specs.Bounds.{past_indices}
use Rattle.pm_logic.specs.Integers.{IsI64}
use Rattle.pm_logic.specs.Scope.{TermScoped, TermsScoped}
use Rattle.pm_logic.specs.Trees.{both, either, nope}
use Rattle.pm_logic.proofs.Grows.{term_grows}
use Rattle.pm_linform.specs.Entries.{IsAtMost}
use Rattle.pm_rules.specs.declared.rules.Rule.TheVariants.{Linear}
use Rattle.pm_rules.specs.Linear.{HasFactors, HasSecond}
use Rattle.pm_proof.specs.Valid.{TermFits, ArgumentsFit}

pub term_past : (k : ℕ) (t : Term) → k ≤ BOUND → TermFits k t → TermScoped past_indices t
unfolding past_indices
term_past k t le h = term_grows k past_indices t (omega arith) h.scoped

pub terms_past : (k : ℕ) (ts : List Term) → k ≤ BOUND → AllByRecursion (TermFits k) ts → TermsScoped past_indices ts
unfolding TermsScoped
terms_past k [] le h = tt
terms_past k (t ∷ ts) le h = (term_past k t le h.0, terms_past k ts le h.1)

factor_fits : (x : ℤ) → IsAtMost (pos (2 ^ 31)) x → IsI64 x
factor_fits (pos n) h = omega (arith, ints, h.high)
factor_fits (negsuc n) h = omega (arith, ints, h.low)

factors_fit : (cs : List ℤ) → AllByRecursion (IsAtMost (pos (2 ^ 31))) cs → AllByRecursion IsI64 cs
factors_fit [] h = tt
factors_fit (c ∷ cs) h = (factor_fits c h.0, factors_fit cs h.1)

-- at most n factors, each of 64 bits
abbrev AreFew : ℕ → List ℤ → Type 0
AreFew n cs = (length cs ≤ n) × AllByRecursion IsI64 cs

none_few : (n : ℕ) (ds : List ℤ) → ds ≡ [] → AreFew n ds
none_few n [] h = (omega arith, tt)
none_few n (d ∷ ds) h = absurd (cc)

second_few : (ds : List ℤ) (fs : List Pure) (g : Pure) → HasSecond ds fs g → AreFew (suc (length fs)) ds
unfolding HasSecond
second_few ds fs True h = none_few (suc (length fs)) ds h
second_few ds fs False h = none_few (suc (length fs)) ds h
second_few ds fs (Eq s t) h = (omega (arith, h.each), factors_fit ds h.sizes)
second_few ds fs (Le s t) h = none_few (suc (length fs)) ds h
second_few ds fs (Lt s t) h = none_few (suc (length fs)) ds h
second_few ds fs (both a b) h = none_few (suc (length fs)) ds h
second_few ds fs (either a b) h = none_few (suc (length fs)) ds h
second_few ds fs (nope a) h = none_few (suc (length fs)) ds h

-- a second list has as many factors as the first, or none
pub factors_room : (preds : Preds) (k : ℕ) (cs ds : List ℤ) (left right : Formula) → length cs ≤ 66 → HasFactors cs ds k left right → ArgumentsFit preds k (Linear cs ds)
unfolding ArgumentsFit
factors_room preds k cs ds left right few h =
    let e = h.first.each in
    let r = second_few ds h.fs h.g h.second in
    (few, factors_fit cs h.first.sizes, omega (arith, r.0, e, few), r.1)
