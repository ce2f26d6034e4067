-- The look-ahead passes over what the grammar derives: its parentheses are balanced.
use Rattle.std.proofs.Common.{◌≡◌, ℕ, suc, ℤ, Bool, true, false, List, [], ◌∷◌, ◌++◌, Some, refl, ap, ◌∙◌}
use Rattle.pm_logic.specs.declared.formula.Term.{Term}
use Rattle.pm_logic.specs.declared.formula.Pure.{Pure}
use Rattle.pm_logic.specs.declared.formula.Formula.{Formula}
use Rattle.pm_tokens.specs.declared.symbol.Symbol.{Symbol}
use Rattle.pm_tokens.specs.declared.symbol.Symbol.TheVariants as s
use Rattle.pm_tokens.specs.Tokens.{Token, name, number, symbol, Place, place}
use Rattle.pm_terms.specs.declared.level.Comparison.{Comparison}
use Rattle.pm_terms.specs.declared.level.PureLevel.{PureLevel}
use Rattle.pm_text.specs.declared.level.Level.{Level}
use Rattle.pm_terms.specs.Scope.{Names, Callables}
use Rattle.pm_terms.specs.Steps.{after_group}
use Rattle.pm_terms.specs.PureReading.{comparison_of}
use Rattle.pm_grammar.specs.TermGrammar as g
use Rattle.pm_grammar.specs.TermGrammar.{IsLiteral, IsTerm, Sort}
use Rattle.pm_grammar.specs.PureGrammar as p
use Rattle.pm_grammar.specs.PureGrammar.{IsPure}
use Rattle.pm_grammar.specs.FormulaGrammar as f
use Rattle.pm_grammar.specs.FormulaGrammar.{AreTerms, AreArguments, End, IsFormula}
use Rattle.pm_grammar.proofs.Steps.{put, skip, put-append}

abbrev pub plain : Symbol → Bool
plain s.Open = false
plain s.Close = false
plain s.Quote = false
plain _ = true

pass : (n at : ℕ) (r : Symbol) (ts : List Place) → plain r ≡ true → after_group n (place (symbol r) at ∷ ts) ≡ after_group n ts
unfolding after_group
pass n at s.Open ts h = absurd cc
pass n at s.Close ts h = absurd cc
pass n at s.Quote ts h = absurd cc
pass n at _ ts h = refl

pub record Balanced (xs : List Token) : Type 0 where
  pub same : (n : ℕ) (o : ℕ → ℕ) (ts : List Place) → after_group n (put o xs ++ ts) ≡ after_group n ts

nil : Balanced []
nil = record { same = λ n o ts. refl }

then_ : (xs ys : List Token) → Balanced xs → Balanced ys → Balanced (xs ++ ys)
then_ xs ys h k = record { same = λ n o ts. ap (after_group n) (put-append o xs ys ts) ∙ h.same n o (put (skip xs o) ys ++ ts) ∙ k.same n (skip xs o) ts }

sign : (r : Symbol) (xs : List Token) → plain r ≡ true → Balanced xs → Balanced (symbol r ∷ xs)
sign r xs p h = record { same = λ n o ts. pass n (o 0) r (put (λ k. o (suc k)) xs ++ ts) p ∙ h.same n (λ k. o (suc k)) ts }

word : (x : List ℕ) (xs : List Token) → Balanced xs → Balanced (name x ∷ xs)
unfolding after_group
word x xs h = record { same = λ n o ts. h.same n (λ k. o (suc k)) ts }

digits : (m : ℕ) (xs : List Token) → Balanced xs → Balanced (number m ∷ xs)
unfolding after_group
digits m xs h = record { same = λ n o ts. h.same n (λ k. o (suc k)) ts }

between : (r : Symbol) (xs ys : List Token) → plain r ≡ true → Balanced xs → Balanced ys → Balanced (xs ++ symbol r ∷ ys)
between r xs ys p h k = then_ xs (symbol r ∷ ys) h (sign r ys p k)

-- the look-ahead at an open parenthesis finds what is behind its own
pub behind_group : (xs : List Token) → Balanced xs → (n : ℕ) (o : ℕ → ℕ) (ts : List Place) → after_group (suc n) (put o (xs ++ symbol s.Close ∷ []) ++ ts) ≡ after_group n ts
unfolding after_group
behind_group xs h n o ts = ap (after_group (suc n)) (put-append o xs (symbol s.Close ∷ []) ts) ∙ h.same (suc n) o (place (symbol s.Close) (skip xs o 0) ∷ ts)

pub at_group : (xs : List Token) → Balanced xs → (o : ℕ → ℕ) (ts : List Place) → after_group 0 (put o (xs ++ symbol s.Close ∷ []) ++ ts) ≡ ts
unfolding after_group
at_group xs h o ts = ap (after_group 0) (put-append o xs (symbol s.Close ∷ []) ts) ∙ h.same 0 o (place (symbol s.Close) (skip xs o 0) ∷ ts)

group : (xs : List Token) → Balanced xs → Balanced (symbol s.Open ∷ (xs ++ symbol s.Close ∷ []))
unfolding after_group
group xs h = record { same = λ n o ts. behind_group xs h n (λ k. o (suc k)) ts }

literal : (xs : List Token) (z : ℤ) → IsLiteral xs z → Balanced xs
literal xs z (g.positive {n = n} lt) = digits n [] nil
literal xs z (g.negative {n = n} le) = sign s.Minus (number n ∷ []) refl (digits n [] nil)

pub terms : (names : Names) (sort : Sort) (xs : List Token) (a : Term) → IsTerm names sort xs a → Balanced xs
terms names sort xs a (g.of_product {xs = l} {a = t} h) = terms names g.product l t h
terms names sort xs a (g.plus {xs = l} {ys = r} {a = t} {b = u} h k) = between s.Plus l r refl (terms names g.sum l t h) (terms names g.product r u k)
terms names sort xs a (g.minus {xs = l} {ys = r} {a = t} {b = u} h k) = between s.Minus l r refl (terms names g.sum l t h) (terms names g.product r u k)
terms names sort xs a (g.scale {xs = l} {ys = r} {z = z} {a = t} h k) = between s.Asterisk l r refl (literal l z h) (terms names g.product r t k)
terms names sort xs a (g.negation {xs = l} {a = t} none h) = sign s.Minus l refl (terms names g.product l t h)
terms names sort xs a (g.of_operand {xs = l} {a = t} h) = terms names g.operand l t h
terms names sort xs a (g.variable {x = x} h) = word x [] nil
terms names sort xs a (g.literal {xs = l} {z = z} h) = literal l z h
terms names sort xs a (g.group {xs = l} {a = t} h) = group l (terms names g.sum l t h)

comparison_is_plain : (r : Symbol) (c : Comparison) → comparison_of r ≡ Some c → plain r ≡ true
unfolding comparison_of
comparison_is_plain s.Open c e = absurd cc
comparison_is_plain s.Close c e = absurd cc
comparison_is_plain s.Quote c e = absurd cc
comparison_is_plain _ c e = refl

pub pures : (names : Names) (level : PureLevel) (xs : List Token) (q : Pure) → IsPure names level xs q → Balanced xs
pures names level xs q (p.of_ands {xs = l} {p = a} h) = pures names _ l a h
pures names level xs q (p.disjunction {xs = l} {ys = r} {p = a} {q = b} h k) = between s.Or l r refl (pures names _ l a h) (pures names _ r b k)
pures names level xs q (p.of_literal {xs = l} {p = a} h) = pures names _ l a h
pures names level xs q (p.conjunction {xs = l} {ys = r} {p = a} {q = b} h k) = between s.And l r refl (pures names _ l a h) (pures names _ r b k)
pures names level xs q (p.negation {xs = l} {p = a} h) = sign s.Not l refl (pures names _ l a h)
pures names level xs q p.truth = sign s.True [] refl nil
pures names level xs q p.falsehood = sign s.False [] refl nil
pures names level xs q (p.group {xs = l} {p = a} h) = group l (pures names _ l a h)
pures names level xs q (p.comparison {xs = l} {ys = r} {a = a} {b = b} c {c = k} h is i) = between c l r (comparison_is_plain c k is) (terms names _ l a h) (terms names _ r b i)

some_terms : (names : Names) (xs : List Token) (ts : List Term) → AreTerms names xs ts → Balanced xs
some_terms names xs ts (f.last {xs = l} {a = a} h) = terms names _ l a h
some_terms names xs ts (f.comma {xs = l} {ys = r} {a = a} {ts = us} h k) = between s.Comma l r refl (terms names _ l a h) (some_terms names r us k)

arguments : (names : Names) (xs : List Token) (ts : List Term) → AreArguments names xs ts → Balanced xs
arguments names xs ts f.none = nil
arguments names xs ts (f.some {xs = l} {ts = us} h) = some_terms names l us h

pub formulas : (preds : Callables) (names : Names) (level : Level) (e : End) (xs : List Token) (a : Formula) → IsFormula preds names level e xs a → Balanced xs
formulas preds names level e xs q (f.of_or {xs = l} {a = a} h) = formulas preds names _ _ l a h
formulas preds names level e xs q (f.wand {xs = l} {ys = r} {a = a} {b = b} h k) = between s.Wand l r refl (formulas preds names _ _ l a h) (formulas preds names _ _ r b k)
formulas preds names level e xs q (f.implication {xs = l} {ys = r} {a = a} {b = b} h k) = between s.Arrow l r refl (formulas preds names _ _ l a h) (formulas preds names _ _ r b k)
formulas preds names level e xs q (f.update_wand {xs = l} {ys = r} {a = a} {b = b} h k) = between s.UpdateWand l r refl (formulas preds names _ _ l a h) (formulas preds names _ _ r b k)
formulas preds names level e xs q (f.of_star {xs = l} {a = a} h) = formulas preds names _ _ l a h
formulas preds names level e xs q (f.disjunction {xs = l} {ys = r} {a = a} {b = b} h k) = between s.Or l r refl (formulas preds names _ _ l a h) (formulas preds names _ _ r b k)
formulas preds names level e xs q (f.of_prefix {xs = l} {a = a} h) = formulas preds names _ _ l a h
formulas preds names level e xs q (f.conjunction {xs = l} {ys = r} {a = a} {b = b} h k) = between s.And l r refl (formulas preds names _ _ l a h) (formulas preds names _ _ r b k)
formulas preds names level e xs q (f.star {xs = l} {ys = r} {a = a} {b = b} h k) = between s.Star l r refl (formulas preds names _ _ l a h) (formulas preds names _ _ r b k)
formulas preds names level e xs q (f.asterisk {xs = l} {ys = r} {a = a} {b = b} h k) = between s.Asterisk l r refl (formulas preds names _ _ l a h) (formulas preds names _ _ r b k)
formulas preds names level e xs q (f.later {xs = l} {a = a} h) = sign s.Later l refl (formulas preds names _ _ l a h)
formulas preds names level e xs q (f.persistently {xs = l} {a = a} h) = sign s.Persistently l refl (formulas preds names _ _ l a h)
formulas preds names level e xs q (f.universal {xs = l} {a = a} h) = sign s.Forall l refl (formulas preds names _ _ l a h)
formulas preds names level e xs q (f.existential {xs = l} {a = a} h) = sign s.Exists l refl (formulas preds names _ _ l a h)
formulas preds names level e xs q (f.further {x = x} {xs = l} {a = a} h) = word x l (formulas preds (x ∷ names) _ _ l a h)
formulas preds names level e xs q (f.bound {x = x} {xs = l} {a = a} h) = word x (symbol s.Comma ∷ l) (sign s.Comma l refl (formulas preds (x ∷ names) _ _ l a h))
formulas preds names level e xs q (f.update {xs = l} {a = a} h) = sign s.Update l refl (formulas preds names _ _ l a h)
formulas preds names level e xs q (f.group {xs = l} {a = a} h) = group l (formulas preds names _ _ l a h)
formulas preds names level e xs q (f.fact {xs = l} {p = a} h) = sign s.OpenPure (l ++ symbol s.ClosePure ∷ []) refl (between s.ClosePure l [] refl (pures names _ l a h) nil)
formulas preds names level e xs q f.unit = sign s.Emp [] refl nil
formulas preds names level e xs q f.truth = sign s.True [] refl nil
formulas preds names level e xs q f.falsehood = sign s.False [] refl nil
formulas preds names level e xs q (f.call {x = x} {xs = l} {ts = us} known h arity) = word x (symbol s.Open ∷ (l ++ symbol s.Close ∷ [])) (group l (arguments names l us h))
formulas preds names level e xs q (f.whole {xs = l} {ys = r} {l = a} {v = b} h k) = between s.PointsTo l r refl (terms names _ l a h) (terms names _ r b k)
formulas preds names level e xs q (f.part {xs = l} {ys = r} {l = a} {v = b} {n = n} {d = d} h small tiny good k) =
    between s.PointsTo l _ refl (terms names _ l a h) (sign s.OpenBrace _ refl (digits n _ (sign s.Slash _ refl (digits d _ (sign s.CloseBrace r refl (terms names _ r b k))))))
