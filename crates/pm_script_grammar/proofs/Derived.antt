-- What the grammar derives is in range.
use Rattle.std.proofs.Common.{◌≡◌, ℕ, zero, suc, ◌+◌, ◌*◌, ◌%◌, ◌<◌, ◌≤◌, ℤ, Bool, true, not, ◌&&◌, ◌==◌, leb, leb-true, List, [], ◌∷◌, ◌++◌, length, length-append, Some, refl, sym, ap, subst, append_assoc, append-nil, arith}
use Rattle.std.specs.Prelude.{slice_get}
use Rattle.std.specs.List.{AllByRecursion, position_from}
use Rattle.std.specs.Str.{bytes_eq}
use Rattle.pm_logic.specs.declared.formula.Term.{Term}
use Rattle.pm_logic.specs.declared.formula.Term.TheBlock as term_block
use Rattle.pm_logic.specs.declared.formula.Pure.{Pure}
use Rattle.pm_logic.specs.declared.formula.Pure.TheBlock as pure_block
use Rattle.pm_logic.specs.declared.formula.Formula.{Formula}
use Rattle.pm_logic.specs.declared.formula.Formula.TheBlock as formula_block
use Rattle.pm_logic.specs.declared.formula.Pred.{Pred}
use Rattle.pm_logic.specs.declared.formula.TheConstants.{UNIT}
use denote.Hole.Carrier as carrier
use Rattle.pm_tokens.specs.Tokens.{Token}
use Rattle.pm_terms.specs.declared.level.Comparison.{Comparison}
use Rattle.pm_terms.specs.declared.level.Comparison.TheVariants as cmp
use Rattle.pm_terms.specs.declared.level.PureLevel.{PureLevel}
use Rattle.pm_terms.specs.Scope.{Names, Callable, Callables, callables, variable_of, callable_of}
use Rattle.pm_terms.specs.PureReading.{compared}
use Rattle.pm_text.specs.declared.level.Binder.{Binder}
use Rattle.pm_text.specs.declared.level.Binder.TheVariants as binder
use Rattle.pm_text.specs.declared.level.Level.{Level}
use Rattle.pm_text.specs.FormulaReading.{quantified, units_of, is_share}
use Rattle.pm_grammar.specs.TermGrammar as t
use Rattle.pm_grammar.specs.TermGrammar.{Sort, IsLiteral, IsTerm}
use Rattle.pm_grammar.specs.PureGrammar as p
use Rattle.pm_grammar.specs.PureGrammar.{IsPure}
use Rattle.pm_grammar.specs.FormulaGrammar as f
use Rattle.pm_grammar.specs.FormulaGrammar.{AreTerms, AreArguments, End, IsFormula}
use Rattle.pm_grammar.proofs.Steps.{either}
use Rattle.pm_grammar.proofs.TermsDerived.{and_ok}
use Rattle.pm_dtext.specs.Ranges.{IsI64, TermInRange, PureInRange, HasArity, InRange}
use Rattle.pm_dtext.specs.Texts.{arities_of}
use Rattle.pm_script_grammar.specs.Fitting.{AreListed, with_own, WhatIsDerivedFits}

-- ---- terms and pure formulas

literal_fits : (xs : List Token) (z : ℤ) → IsLiteral xs z → IsI64 z
literal_fits xs z (t.positive h) = h
literal_fits xs z (t.negative {n = zero} h) = omega arith
literal_fits xs z (t.negative {n = suc n} h) = omega (arith, h)

position_within : {A : Type 0} (test : A → Bool) (k i : ℕ) (xs : List A) → position_from test k xs ≡ Some i → i < k + length xs
position_within test k i [] e = absurd cc
position_within test k i (x ∷ xs) e = either (test x) _ _ _ e (i < k + suc (length xs))
    (λ here g. let same : k ≡ i = cc in omega (arith, same))
    (λ later g. omega (arith, position_within test (k + 1) i xs g))

pub term_fits : (names : Names) (s : Sort) (xs : List Token) (a : Term) → IsTerm names s xs a → TermInRange (length names) a
unfolding term_block.shape-the_row-Term-0 term_block.hidden-the_row-Term-0 carrier.hidden TermInRange variable_of
term_fits names s xs a (t.of_product h) = term_fits names t.product xs a h
term_fits names s _ _ (t.plus {xs = xs} {ys = ys} {a = a} {b = b} h k) = (term_fits names t.sum xs a h, term_fits names t.product ys b k)
term_fits names s _ _ (t.minus {xs = xs} {ys = ys} {a = a} {b = b} h k) = (term_fits names t.sum xs a h, term_fits names t.product ys b k)
term_fits names s _ _ (t.scale {xs = xs} {ys = ys} {z = z} {a = a} h k) = (literal_fits xs z h, term_fits names t.product ys a k)
term_fits names s _ _ (t.negation {xs = xs} {a = a} e h) = term_fits names t.product xs a h
term_fits names s xs a (t.of_operand h) = term_fits names t.operand xs a h
term_fits names s _ _ (t.variable {x = x} {i = i} e) = omega (arith, position_within (bytes_eq x) 0 i names e)
term_fits names s xs _ (t.literal {z = z} h) = literal_fits xs z h
term_fits names s _ a (t.group {xs = xs} h) = term_fits names t.sum xs a h

compared_fits : (k : ℕ) (c : Comparison) (a b : Term) → TermInRange k a → TermInRange k b → PureInRange k (compared c a b)
unfolding pure_block.shape-the_row-Pure-0 pure_block.hidden-the_row-Pure-0 carrier.hidden PureInRange compared
compared_fits k cmp.Equal a b h g = (h, g)
compared_fits k cmp.AtMost a b h g = (h, g)
compared_fits k cmp.Below a b h g = (h, g)
compared_fits k cmp.Differs a b h g = (h, g)
compared_fits k cmp.AtLeast a b h g = (g, h)
compared_fits k cmp.Above a b h g = (g, h)

pub pure_fits : (names : Names) (l : PureLevel) (xs : List Token) (q : Pure) → IsPure names l xs q → PureInRange (length names) q
unfolding pure_block.shape-the_row-Pure-0 pure_block.hidden-the_row-Pure-0 carrier.hidden PureInRange
pure_fits names l xs q (p.of_ands h) = pure_fits names _ xs q h
pure_fits names l _ _ (p.disjunction {xs = xs} {ys = ys} {p = a} {q = b} h k) = (pure_fits names _ xs a h, pure_fits names _ ys b k)
pure_fits names l xs q (p.of_literal h) = pure_fits names _ xs q h
pure_fits names l _ _ (p.conjunction {xs = xs} {ys = ys} {p = a} {q = b} h k) = (pure_fits names _ xs a h, pure_fits names _ ys b k)
pure_fits names l _ _ (p.negation {xs = xs} {p = a} h) = pure_fits names _ xs a h
pure_fits names l _ _ p.truth = tt
pure_fits names l _ _ p.falsehood = tt
pure_fits names l _ q (p.group {xs = xs} h) = pure_fits names _ xs q h
pure_fits names l _ _ (p.comparison {xs = xs} {ys = ys} {a = a} {b = b} r {c = c} h e k) = compared_fits (length names) c a b (term_fits names t.sum xs a h) (term_fits names t.sum ys b k)

-- ---- formulas

terms_fit : (names : Names) (xs : List Token) (ts : List Term) → AreTerms names xs ts → AllByRecursion (TermInRange (length names)) ts
terms_fit names xs _ (f.last {a = a} h) = (term_fits names t.sum xs a h, tt)
terms_fit names _ _ (f.comma {xs = xs} {ys = ys} {a = a} {ts = ts} h k) = (term_fits names t.sum xs a h, terms_fit names ys ts k)

arguments_fit : (names : Names) (xs : List Token) (ts : List Term) → AreArguments names xs ts → AllByRecursion (TermInRange (length names)) ts
arguments_fit names _ _ f.none = tt
arguments_fit names xs ts (f.some h) = terms_fit names xs ts h

units_fit : (n d : ℕ) → is_share n d ≡ true → (1 ≤ units_of n d) × (units_of n d ≤ UNIT)
unfolding is_share
units_fit n d e =
    let a = and_ok (not (d == 0) && ((n * UNIT) % d == 0) && leb 1 (units_of n d)) (leb (units_of n d) UNIT) e in
    let b = and_ok (not (d == 0) && ((n * UNIT) % d == 0)) (leb 1 (units_of n d)) a.0 in
    (leb-true 1 (units_of n d) b.1, leb-true (units_of n d) UNIT a.1)

listed : (arities : List ℕ) (preds : Callables) (x : List ℕ) (c : Callable) → AreListed arities preds → callable_of preds x ≡ Some c → HasArity arities c.index c.arity
unfolding callable_of
listed arities [] x c h e = absurd cc
listed arities (q ∷ preds) x c h e = either (bytes_eq x q.name) _ _ _ e (HasArity arities c.index c.arity)
    (λ here g. let same : q ≡ c = cc in subst (λ (c : Callable). HasArity arities c.index c.arity) same h.0)
    (λ later g. listed arities preds x c h.1 g)

module _ (arities : List ℕ) (preds : Callables) (all : AreListed arities preds) where
  quantified_fits : (k : ℕ) (b : Binder) (a : Formula) → InRange arities (suc k) a → InRange arities k (quantified b a)
  unfolding formula_block.shape-the_row-Formula-0 formula_block.hidden-the_row-Formula-0 carrier.hidden InRange quantified
  quantified_fits k binder.All a h = h
  quantified_fits k binder.Ex a h = h

  pub formula_fits : (names : Names) (l : Level) (e : End) (xs : List Token) (q : Formula) → IsFormula preds names l e xs q → InRange arities (length names) q
  unfolding formula_block.shape-the_row-Formula-0 formula_block.hidden-the_row-Formula-0 carrier.hidden InRange PureInRange
  formula_fits names l e xs q (f.of_or h) = formula_fits names _ e xs q h
  formula_fits names l e _ _ (f.wand {xs = xs} {ys = ys} {a = a} {b = b} h k) = (formula_fits names _ _ xs a h, formula_fits names _ e ys b k)
  formula_fits names l e _ _ (f.implication {xs = xs} {ys = ys} {a = a} {b = b} h k) = (formula_fits names _ _ xs a h, formula_fits names _ e ys b k)
  formula_fits names l e _ _ (f.update_wand {xs = xs} {ys = ys} {a = a} {b = b} h k) = (formula_fits names _ _ xs a h, formula_fits names _ e ys b k)
  formula_fits names l e xs q (f.of_star h) = formula_fits names _ e xs q h
  formula_fits names l e _ _ (f.disjunction {xs = xs} {ys = ys} {a = a} {b = b} h k) = (formula_fits names _ _ xs a h, formula_fits names _ e ys b k)
  formula_fits names l e xs q (f.of_prefix h) = formula_fits names _ e xs q h
  formula_fits names l e _ _ (f.conjunction {xs = xs} {ys = ys} {a = a} {b = b} h k) = (formula_fits names _ _ xs a h, formula_fits names _ e ys b k)
  formula_fits names l e _ _ (f.star {xs = xs} {ys = ys} {a = a} {b = b} h k) = (formula_fits names _ _ xs a h, formula_fits names _ e ys b k)
  formula_fits names l e _ _ (f.asterisk {xs = xs} {ys = ys} {a = a} {b = b} h k) = (formula_fits names _ _ xs a h, formula_fits names _ e ys b k)
  formula_fits names l e _ _ (f.later {xs = xs} {a = a} h) = formula_fits names _ e xs a h
  formula_fits names l e _ _ (f.persistently {xs = xs} {a = a} h) = formula_fits names _ e xs a h
  formula_fits names l e _ q (f.universal {xs = xs} h) = formula_fits names _ _ xs q h
  formula_fits names l e _ q (f.existential {xs = xs} h) = formula_fits names _ _ xs q h
  formula_fits names l e _ _ (f.further {b = b} {x = x} {xs = xs} {a = a} h) = quantified_fits (length names) b a (formula_fits (x ∷ names) _ _ xs a h)
  formula_fits names l e _ _ (f.bound {b = b} {e = d} {x = x} {xs = xs} {a = a} h) = quantified_fits (length names) b a (formula_fits (x ∷ names) _ d xs a h)
  formula_fits names l e _ _ (f.update {e = d} {xs = xs} {a = a} h) = formula_fits names _ d xs a h
  formula_fits names l e _ q (f.group {e = d} {xs = xs} h) = formula_fits names _ d xs q h
  formula_fits names l e _ _ (f.fact {xs = xs} {p = a} h) = pure_fits names _ xs a h
  formula_fits names l e _ _ f.unit = tt
  formula_fits names l e _ _ f.truth = tt
  formula_fits names l e _ _ f.falsehood = tt
  formula_fits names l e _ _ (f.call {x = x} {p = c} {xs = xs} {ts = ts} known h same) =
      (subst (λ n. HasArity arities c.index n) (sym same) (listed arities preds x c all known), arguments_fit names xs ts h)
  formula_fits names l e _ _ (f.whole {xs = xs} {ys = ys} {l = a} {v = b} h k) = (term_fits names _ xs a h, omega arith, omega arith, term_fits names _ ys b k)
  formula_fits names l e _ _ (f.part {xs = xs} {ys = ys} {l = a} {v = b} {n = n} {d = d} h low high share k) =
      let u = units_fit n d share in (term_fits names _ xs a h, u.0, u.1, term_fits names _ ys b k)

-- ---- tables

seam : {A : Type 0} (xs : List A) (y : A) (ys : List A) → slice_get (xs ++ y ∷ ys) (length xs) ≡ Some y
seam [] y ys = refl
seam (x ∷ xs) y ys = seam xs y ys

-- behind other predicates, and before some
listed_from : (before after : List ℕ) (i : ℕ) → i ≡ length before → (preds : List Pred) → AreListed (before ++ (arities_of preds ++ after)) (callables i preds)
listed_from before after i is [] = tt
listed_from before after i is (q ∷ preds) = (
  rw is (seam before q.arity (arities_of preds ++ after)),
  subst (λ arities. AreListed arities (callables (suc i) preds)) (append_assoc before (q.arity ∷ []) (arities_of preds ++ after)) (listed_from (before ++ q.arity ∷ []) after (suc i) (omega (arith, is, length-append before (q.arity ∷ []))) preds),
)

length-arities : (preds : List Pred) → length (arities_of preds) ≡ length preds
length-arities [] = refl
length-arities (q ∷ preds) = ap suc (length-arities preds)

pub derived_fits : WhatIsDerivedFits
derived_fits = record {
  terms = term_fits;
  pures = pure_fits;
  formulas = formula_fits;
  table = λ preds. subst (λ arities. AreListed arities (callables 0 preds)) (append-nil (arities_of preds)) (listed_from [] [] 0 refl preds);
  own = λ name arity preds. (subst (λ n. HasArity (with_own preds arity) n arity) (length-arities preds) (seam (arities_of preds) arity []), listed_from [] (arity ∷ []) 0 refl preds);
}
