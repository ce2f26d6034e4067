-- What is printed of a formula is derived by the grammar.
use Rattle.std.proofs.Common.{◌≡◌, ℕ, zero, suc, ◌+◌, ◌/◌, ◌<◌, ◌≤◌, ◌^◌, Bool, true, false, ◌==◌, cond, List, [], ◌∷◌, ◌++◌, length, refl, sym, subst, arith}
use Rattle.std.specs.Prelude.{nat_lt}
use Rattle.std.specs.List.{AllByRecursion}
use Rattle.std.proofs.Math.Nat.{div-le_self}
use Rattle.std.proofs.lemmas.Bool.Decides.{nat_tests}
use Rattle.std.proofs.lemmas.List.{length-map}
use Rattle.std.proofs.lemmas.Option.{slice_get_within}
use Rattle.pm_logic.specs.declared.formula.Term.{Term}
use Rattle.pm_logic.specs.declared.formula.Formula.{Formula}
use Rattle.pm_logic.specs.declared.formula.Formula.TheVariants.{Pure as Fact, Pts, Call}
use Rattle.pm_logic.specs.declared.formula.Formula.TheBlock as block
use Rattle.pm_logic.specs.declared.formula.Pred.{Pred}
use Rattle.pm_logic.specs.declared.formula.TheConstants.{UNIT}
use Rattle.pm_logic.specs.Trees.{Sep, Wand, And, Or, Imp, All, Ex, Later, Pers, Upd}
use Rattle.pm_logic.specs.Size.{depth_of}
use denote.Hole.Carrier as carrier
use Rattle.pm_tokens.specs.declared.symbol.Symbol.TheVariants as s
use Rattle.pm_tokens.specs.Tokens.{Token, number, symbol}
use Rattle.pm_terms.specs.Scope.{Callables, callables}
use Rattle.pm_text.specs.declared.level.Binder.TheVariants as binder
use Rattle.pm_text.specs.declared.level.Level.TheVariants.{Wands, Ors, Stars, Prefixes}
use Rattle.pm_text.specs.FormulaReading.{quantified}
use Rattle.pm_grammar.specs.TermGrammar.{IsTerm, operand}
use Rattle.pm_grammar.specs.FormulaGrammar as g
use Rattle.pm_grammar.specs.FormulaGrammar.{AreTerms, AreArguments, End, closed, body, IsFormula}
use Rattle.pm_dtext.specs.Ranges.{TermInRange, InRange}
use Rattle.pm_dtext.specs.Texts.{arities_of}
use Rattle.pm_print.specs.Printing.{Names, Piece, blank, sign, operator, before, between, level, fraction, common_divisor, units_pieces, quantifier, bound, names_of, term_pieces, terms_pieces, pure_pieces, formula_pieces, tokens_of}
use Rattle.pm_roundtrip.specs.PrintingLaws.{PrintingIsDerived}
use Rattle.pm_roundtrip.proofs.Found.{Differ, Scope, scope_of, bound_scope, predicate_found}
use Rattle.pm_roundtrip.proofs.Shares.{lowest}
use Rattle.pm_roundtrip.proofs.Derived.{tokens-append, tokens-link, tokens-infix, tokens-between, sort_of, pure_level, term_derived, pure_derived}

-- ---- levels

-- a formula where so much is needed: a whole one may end in a body
unfoldable pub Derives : Callables → ℕ → Names → List Token → Formula → Type 0
Derives preds zero names xs f = (e : End) × IsFormula preds names Wands e xs f
Derives preds (suc zero) names xs f = IsFormula preds names Ors closed xs f
Derives preds (suc (suc zero)) names xs f = IsFormula preds names Stars closed xs f
Derives preds (suc (suc (suc n))) names xs f = IsFormula preds names Prefixes closed xs f

module _ (preds : Callables) (names : Names) (xs : List Token) (f : Formula) where
  whole_of : (n : ℕ) → Derives preds n names xs f → Derives preds 0 names xs f
  unfolding Derives
  whole_of zero h = h
  whole_of (suc zero) h = (closed, g.of_or h)
  whole_of (suc (suc zero)) h = (closed, g.of_or (g.of_star h))
  whole_of (suc (suc (suc n))) h = (closed, g.of_or (g.of_star (g.of_prefix h)))

  of_prefix : (n : ℕ) → IsFormula preds names Prefixes closed xs f → Derives preds n names xs f
  unfolding Derives
  of_prefix zero h = (closed, g.of_or (g.of_star (g.of_prefix h)))
  of_prefix (suc zero) h = g.of_star (g.of_prefix h)
  of_prefix (suc (suc zero)) h = g.of_prefix h
  of_prefix (suc (suc (suc n))) h = h

  looser : (m n : ℕ) → n ≤ m → Derives preds m names xs f → Derives preds n names xs f
  unfolding Derives
  looser m zero le h = whole_of m h
  looser zero (suc n) le h = absurd (omega arith)
  looser (suc zero) (suc zero) le h = h
  looser (suc zero) (suc (suc n)) le h = absurd (omega arith)
  looser (suc (suc zero)) (suc zero) le h = g.of_star h
  looser (suc (suc zero)) (suc (suc zero)) le h = h
  looser (suc (suc zero)) (suc (suc (suc n))) le h = absurd (omega arith)
  looser (suc (suc (suc m))) (suc zero) le h = g.of_star (g.of_prefix h)
  looser (suc (suc (suc m))) (suc (suc zero)) le h = g.of_prefix h
  looser (suc (suc (suc m))) (suc (suc (suc n))) le h = h

levelled : (preds : Callables) (has needs : ℕ) (names : Names) (ps : List Piece) (xs : List Token) (f : Formula) → tokens_of ps ≡ xs → Derives preds has names xs f → Derives preds needs names (tokens_of (level has needs ps)) f
unfolding Derives
levelled preds has needs names ps xs f is h = go (nat_lt has needs) refl
  where
    go : (b : Bool) → nat_lt has needs ≡ b → Derives preds needs names (tokens_of (cond b (between s.Open s.Close ps) ps)) f
    go true e = rw (tokens-between s.Open s.Close ps, is) (of_prefix preds names _ f needs (g.group (whole_of preds names xs f has h).1))
    go false e = rw is (looser preds names xs f has needs (grind (arith, nat_tests, e)) h)

-- ---- arguments

terms_derived : (names : Names) (t : Term) (ts : List Term) → Differ names → AllByRecursion (TermInRange (length names)) (t ∷ ts) → AreTerms names (tokens_of (terms_pieces names (t ∷ ts))) (t ∷ ts)
unfolding terms_pieces tokens_of sort_of
terms_derived names t [] d r = g.last (term_derived 0 names t d r.0)
terms_derived names t (u ∷ ts) d r = rw (tokens-append (term_pieces 0 names t) (sign s.Comma ∷ blank ∷ terms_pieces names (u ∷ ts))) (g.comma (term_derived 0 names t d r.0) (terms_derived names u ts d r.1))

arguments_derived : (names : Names) (ts : List Term) → Differ names → AllByRecursion (TermInRange (length names)) ts → AreArguments names (tokens_of (terms_pieces names ts)) ts
unfolding terms_pieces tokens_of
arguments_derived names [] d r = g.none
arguments_derived names (t ∷ ts) d r = g.some (terms_derived names t ts d r)

-- ---- units

points_derived : (preds : Callables) (names : Names) (ls vs : List Piece) (l v : Term) (u : ℕ) → 1 ≤ u → u ≤ UNIT → IsTerm names operand (tokens_of ls) l → IsTerm names operand (tokens_of vs) v
    → IsFormula preds names Prefixes closed (tokens_of (ls ++ units_pieces u ++ vs)) (Pts l u v)
unfolding units_pieces tokens_of
points_derived preds names ls vs l v u some most h k = go (u == UNIT) refl
  where
    n : ℕ
    n = u / common_divisor u UNIT

    d : ℕ
    d = UNIT / common_divisor u UNIT

    go : (b : Bool) → (u == UNIT) ≡ b → IsFormula preds names Prefixes closed (tokens_of (ls ++ cond b (operator s.PointsTo) (blank ∷ sign s.PointsTo ∷ (fraction n d ++ blank ∷ [])) ++ vs)) (Pts l u v)
    go true e =
        let same : u ≡ UNIT = grind (arith, nat_tests, e) in
        rw (tokens-infix s.PointsTo ls vs) (subst (λ i. IsFormula preds names Prefixes closed (tokens_of ls ++ symbol s.PointsTo ∷ tokens_of vs) (Pts l i v)) (sym same) (g.whole h k))
    go false e =
        let share = lowest u some most in
        rw (tokens-link ls (blank ∷ sign s.PointsTo ∷ (fraction n d ++ blank ∷ [])) vs)
        (subst (λ i. IsFormula preds names Prefixes closed (tokens_of ls ++ symbol s.PointsTo ∷ symbol s.OpenBrace ∷ number n ∷ symbol s.Slash ∷ number d ∷ symbol s.CloseBrace ∷ tokens_of vs) (Pts l i v)) share.units
        (g.part h (omega (arith, div-le_self u (common_divisor u UNIT))) (omega (arith, div-le_self UNIT (common_divisor u UNIT))) share.share k))

-- ---- formulas

pub formula_derived : (preds : List Pred) (needs : ℕ) (names : Names) (f : Formula) → Differ (names_of preds) → Scope names → InRange (arities_of preds) (length names) f → length names + depth_of f < 2 ^ 64
    → Derives (callables 0 preds) needs names (tokens_of (formula_pieces preds needs names f)) f
unfolding Derives formula_pieces InRange depth_of tokens_of sort_of pure_level quantified block.shape-the_row-Formula-0 block.hidden-the_row-Formula-0 carrier.hidden
formula_derived preds needs names (All a) p d r few =
    let h = formula_derived preds 0 (bound names) a p (bound_scope names (omega arith) d) r (omega arith) in
    levelled (callables 0 preds) 0 needs names (quantifier s.Forall names ++ formula_pieces preds 0 (bound names) a) _ (All a) refl (body, g.of_or (g.of_star (g.of_prefix (g.universal (g.bound {b = binder.All} h.1)))))
formula_derived preds needs names (Ex a) p d r few =
    let h = formula_derived preds 0 (bound names) a p (bound_scope names (omega arith) d) r (omega arith) in
    levelled (callables 0 preds) 0 needs names (quantifier s.Exists names ++ formula_pieces preds 0 (bound names) a) _ (Ex a) refl (body, g.of_or (g.of_star (g.of_prefix (g.existential (g.bound {b = binder.Ex} h.1)))))
formula_derived preds needs names (Upd a) p d r few =
    let h = formula_derived preds 0 names a p d r (omega arith) in
    levelled (callables 0 preds) 0 needs names (before s.Update ++ formula_pieces preds 0 names a) _ (Upd a) refl (body, g.of_or (g.of_star (g.of_prefix (g.update h.1))))
formula_derived preds needs names (Wand a b) p d r few =
    let h = formula_derived preds 0 names b p d r.1 (omega arith) in
    levelled (callables 0 preds) 0 needs names _ _ (Wand a b) (tokens-infix s.Wand (formula_pieces preds 1 names a) (formula_pieces preds 0 names b)) (h.0, g.wand (formula_derived preds 1 names a p d r.0 (omega arith)) h.1)
formula_derived preds needs names (Imp a b) p d r few =
    let h = formula_derived preds 0 names b p d r.1 (omega arith) in
    levelled (callables 0 preds) 0 needs names _ _ (Imp a b) (tokens-infix s.Arrow (formula_pieces preds 1 names a) (formula_pieces preds 0 names b)) (h.0, g.implication (formula_derived preds 1 names a p d r.0 (omega arith)) h.1)
formula_derived preds needs names (Or a b) p d r few =
    levelled (callables 0 preds) 1 needs names _ _ (Or a b) (tokens-infix s.Or (formula_pieces preds 2 names a) (formula_pieces preds 1 names b)) (g.disjunction (formula_derived preds 2 names a p d r.0 (omega arith)) (formula_derived preds 1 names b p d r.1 (omega arith)))
formula_derived preds needs names (And a b) p d r few =
    levelled (callables 0 preds) 2 needs names _ _ (And a b) (tokens-infix s.And (formula_pieces preds 3 names a) (formula_pieces preds 2 names b)) (g.conjunction (formula_derived preds 3 names a p d r.0 (omega arith)) (formula_derived preds 2 names b p d r.1 (omega arith)))
formula_derived preds needs names (Sep a b) p d r few =
    levelled (callables 0 preds) 2 needs names _ _ (Sep a b) (tokens-infix s.Star (formula_pieces preds 3 names a) (formula_pieces preds 2 names b)) (g.star (formula_derived preds 3 names a p d r.0 (omega arith)) (formula_derived preds 2 names b p d r.1 (omega arith)))
formula_derived preds needs names (Later a) p d r few =
    levelled (callables 0 preds) 3 needs names (before s.Later ++ formula_pieces preds 3 names a) _ (Later a) refl (g.later (formula_derived preds 3 names a p d r (omega arith)))
formula_derived preds needs names (Pers a) p d r few =
    levelled (callables 0 preds) 3 needs names (before s.Persistently ++ formula_pieces preds 3 names a) _ (Pers a) refl (g.persistently (formula_derived preds 3 names a p d r (omega arith)))
formula_derived preds needs names (Fact q) p d r few =
    of_prefix (callables 0 preds) names _ (Fact q) needs (rw (tokens-between s.OpenPure s.ClosePure (pure_pieces 0 names q)) (g.fact (pure_derived 0 names q d.differ r)))
formula_derived preds needs names (Pts l u v) p d r few =
    of_prefix (callables 0 preds) names _ (Pts l u v) needs (points_derived (callables 0 preds) names (term_pieces 3 names l) (term_pieces 3 names v) l v u r.1 r.2 (term_derived 3 names l d.differ r.0) (term_derived 3 names v d.differ r.3))
formula_derived preds needs names (Call q ts) p d r few =
    let within : q < length (names_of preds) = omega (arith, slice_get_within (arities_of preds) q (length ts) r.0, length-map preds (λ p. p.arity), length-map preds (λ p. p.name)) in
    of_prefix (callables 0 preds) names _ (Call q ts) needs
    (rw (tokens-between s.Open s.Close (terms_pieces names ts)) (g.call (predicate_found preds q (length ts) p within r.0) (arguments_derived names ts d.differ r.1) refl))

-- ---- the law

pub printing_is_derived : PrintingIsDerived
unfolding Derives sort_of pure_level
printing_is_derived = record {
  terms = λ names a w r. term_derived 0 names a w.differ r;
  pures = λ names q w r. pure_derived 0 names q w.differ r;
  formulas = λ preds names f h. formula_derived preds 0 names f h.predicates.differ (scope_of names h.variables) h.in_range h.levels;
}
