-- Formulas that are read are derived by the grammar.
use Rattle.std.proofs.Common.{◌≡◌, ℕ, zero, suc, ◌<◌, ◌^◌, Bool, true, false, not, ◌==◌, cond, ltb, ltb-true, List, [], ◌∷◌, ◌++◌, length, drop, Some, None, Option, Ok, refl, sym, ap, subst, ◌∙◌}
use Rattle.std.proofs.lemmas.Bool.Decides.{Decides-eqb}
use Rattle.pm_logic.specs.declared.formula.Term.{Term}
use Rattle.pm_logic.specs.declared.formula.Pure.TheVariants.{True, False}
use Rattle.pm_logic.specs.declared.formula.Formula.{Formula}
use Rattle.pm_logic.specs.declared.formula.Formula.TheVariants.{Pure as Fact, Pts, Call}
use Rattle.pm_logic.specs.declared.formula.Formula.TheViews as formula
use Rattle.pm_logic.specs.declared.formula.TheConstants.{UNIT}
use Rattle.pm_tokens.specs.declared.symbol.Symbol.{Symbol}
use Rattle.pm_tokens.specs.declared.symbol.Symbol.TheVariants as s
use Rattle.pm_tokens.specs.Tokens.{Token, name, number, symbol, Place, place}
use Rattle.pm_terms.specs.declared.level.PureLevel.TheVariants as pure_level
use Rattle.pm_text.specs.declared.level.Binder.{Binder}
use Rattle.pm_text.specs.declared.level.Binder.TheVariants as binder
use Rattle.pm_text.specs.declared.level.Infix.{Infix}
use Rattle.pm_text.specs.declared.level.Infix.TheVariants as infixes
use Rattle.pm_text.specs.declared.level.Level.{Level}
use Rattle.pm_text.specs.declared.level.Level.TheVariants as level
use Rattle.pm_terms.specs.Scope.{Names, Callable, Callables, callable_of}
use Rattle.pm_terms.specs.Steps.{◌>>=◌, made, sees, expect, natural, digits, bound_at, parts, many, with_commas}
use Rattle.pm_terms.specs.TermReading.{operand_in, sum_in}
use Rattle.pm_terms.specs.PureReading.{pure_in}
use Rattle.pm_text.specs.FormulaReading.{infix_of, right_of, joined, quantified, next_infix, units_of, is_share, share, fraction, units, begins_location, Formulas, callable_at, call_end, arguments, call_in, value_in, points_to_at, call_at, prefix_at, infix_then, infix_at, stars_at, ors_at, wands_at, behind_name, names_at, formula_at, formula_in}
use Rattle.pm_grammar.specs.TermGrammar.{IsTerm, sum, operand}
use Rattle.pm_grammar.specs.FormulaGrammar as f
use Rattle.pm_grammar.specs.FormulaGrammar.{AreTerms, AreArguments, End, closed, body, IsFormula}
use Rattle.pm_grammar.specs.ReadingLaws.{tokens_at}
use Rattle.pm_grammar.specs.Parts.{NoInfix, reach}
use Rattle.pm_grammar.proofs.Steps.{bind_ok, ok_is, ok_to, made_ok, guard_ok, either, sees_ok, expect_ok, closed_ok, join, shut}
use Rattle.pm_grammar.proofs.TermsDerived as terms
use Rattle.pm_grammar.proofs.TermsDerived.{digits_ok, bound_ok, not_ok}
use Rattle.pm_grammar.proofs.PuresDerived as pures

-- ---- arguments

module _ (stop room : ℕ) (names : Names) where
  -- the terms behind one that is read, and stands in these tokens
  more_terms : (n : ℕ) (l : List Token) (a : Term) → IsTerm names sum l a → (ts : List Place) (x : List Term × List Place) → parts n (sees s.Comma) (λ us. sum_in stop names room (drop 1 us)) ts ≡ Ok x
      → (ys : List Token) × (l ++ tokens_at ts ≡ ys ++ tokens_at x.1) × AreTerms names ys (a ∷ x.0)
  unfolding parts
  more_terms zero l a is ts x e =
      let same = ok_is ([], ts) x e in
      subst (λ (y : List Term × List Place). (ys : List Token) × (l ++ tokens_at ts ≡ ys ++ tokens_at y.1) × AreTerms names ys (a ∷ y.0)) same (l, refl, f.last is)
  more_terms (suc n) l a is ts x e = go (λ l a is ts x e. more_terms n l a is ts x e)
    where
      Rest : Type 0
      Rest = (l : List Token) (a : Term) → IsTerm names sum l a → (ts : List Place) (x : List Term × List Place) → parts n (sees s.Comma) (λ us. sum_in stop names room (drop 1 us)) ts ≡ Ok x
          → (ys : List Token) × (l ++ tokens_at ts ≡ ys ++ tokens_at x.1) × AreTerms names ys (a ∷ x.0)

      go : Rest → (ys : List Token) × (l ++ tokens_at ts ≡ ys ++ tokens_at x.1) × AreTerms names ys (a ∷ x.0)
      go h = either (sees s.Comma ts) _ _ _ e ((ys : List Token) × (l ++ tokens_at ts ≡ ys ++ tokens_at x.1) × AreTerms names ys (a ∷ x.0))
          (λ comma k.
          let b = bind_ok (sum_in stop names room (drop 1 ts)) (λ x. parts n (sees s.Comma) (λ us. sum_in stop names room (drop 1 us)) x.1 >>= λ xs. Ok (x.0 ∷ xs.0, xs.1)) x k in
          let c = bind_ok (parts n (sees s.Comma) (λ us. sum_in stop names room (drop 1 us)) b.0.1) (λ xs. Ok (b.0.0 ∷ xs.0, xs.1)) x b.2 in
          let t = terms.sum_derived stop names room (drop 1 ts) b.0 b.1 in
          let i = h t.0 b.0.0 t.2 b.0.1 c.0 c.1 in
          let all : l ++ tokens_at ts ≡ (l ++ symbol s.Comma ∷ i.0) ++ tokens_at c.0.1 = join s.Comma l i.0 (l ++ tokens_at ts) (tokens_at ts) (tokens_at (drop 1 ts)) (tokens_at c.0.1) refl (sees_ok s.Comma ts comma) (t.1 ∙ i.1) in
          ok_to (λ (y : List Term × List Place). (ys : List Token) × (l ++ tokens_at ts ≡ ys ++ tokens_at y.1) × AreTerms names ys (a ∷ y.0)) (b.0.0 ∷ c.0.0, c.0.1) x c.2 (l ++ symbol s.Comma ∷ i.0, all, f.comma is i.2))
          (λ end k. ok_to (λ (y : List Term × List Place). (ys : List Token) × (l ++ tokens_at ts ≡ ys ++ tokens_at y.1) × AreTerms names ys (a ∷ y.0)) ([], ts) x k (l, refl, f.last is))

  commas_derived : (ts : List Place) (x : List Term × List Place) → with_commas (sum_in stop names room) ts ≡ Ok x → (ys : List Token) × (tokens_at ts ≡ ys ++ tokens_at x.1) × AreTerms names ys x.0
  unfolding with_commas many
  commas_derived ts x e =
      let b = bind_ok (sum_in stop names room ts) (λ x. many (sees s.Comma) (λ us. sum_in stop names room (drop 1 us)) x.1 >>= λ xs. Ok (x.0 ∷ xs.0, xs.1)) x e in
      let c = bind_ok (many (sees s.Comma) (λ us. sum_in stop names room (drop 1 us)) b.0.1) (λ xs. Ok (b.0.0 ∷ xs.0, xs.1)) x b.2 in
      let t = terms.sum_derived stop names room ts b.0 b.1 in
      let i = more_terms (length b.0.1) t.0 b.0.0 t.2 b.0.1 c.0 c.1 in
      ok_to (λ (y : List Term × List Place). (ys : List Token) × (tokens_at ts ≡ ys ++ tokens_at y.1) × AreTerms names ys y.0) (b.0.0 ∷ c.0.0, c.0.1) x c.2 (i.0, t.1 ∙ i.1, i.2)

-- ---- units

share_ok : (n d at u : ℕ) → share n d at ≡ Ok u → (d < 2 ^ 63) × (is_share n d ≡ true) × (units_of n d ≡ u)
unfolding share
share_ok n d at u e =
    let b = bind_ok (natural d at) (λ d. cond (is_share n d) (Ok (units_of n d)) _) u e in
    let l = guard_ok (ltb d (2 ^ 63)) d b.0 _ b.1 in
    let g = guard_ok (is_share n b.0) (units_of n b.0) u _ b.2 in
    (ltb-true d (2 ^ 63) l.0, ap (is_share n) l.1 ∙ g.0, ap (units_of n) l.1 ∙ g.1)

fraction_ok : (stop : ℕ) (ts : List Place) (x : ℕ × List Place) → fraction stop ts ≡ Ok x
    → (n d : ℕ) × (n < 2 ^ 63) × (d < 2 ^ 63) × (is_share n d ≡ true) × (units_of n d ≡ x.0) × (tokens_at ts ≡ number n ∷ symbol s.Slash ∷ number d ∷ symbol s.CloseBrace ∷ tokens_at x.1)
unfolding fraction
fraction_ok stop ts x e =
    let b = bind_ok (digits stop natural ts) (λ n. expect s.Slash stop n.1 >>= λ rest. digits stop (share n.0) rest >>= λ units. expect s.CloseBrace stop units.1 >>= λ after. Ok (units.0, after)) x e in
    let c = bind_ok (expect s.Slash stop b.0.1) (λ rest. digits stop (share b.0.0) rest >>= λ units. expect s.CloseBrace stop units.1 >>= λ after. Ok (units.0, after)) x b.2 in
    let d = bind_ok (digits stop (share b.0.0) c.0) (λ units. expect s.CloseBrace stop units.1 >>= λ after. Ok (units.0, after)) x c.2 in
    let g = bind_ok (expect s.CloseBrace stop d.0.1) (λ after. Ok (d.0.0, after)) x d.2 in
    let same = ok_is (d.0.0, g.0) x g.2 in
    let first = digits_ok stop natural ts b.0 b.1 in
    let second = digits_ok stop (share b.0.0) c.0 d.0 d.1 in
    let l = guard_ok (ltb first.0 (2 ^ 63)) first.0 b.0.0 _ first.3 in
    let r = share_ok b.0.0 second.0 second.1 d.0.0 second.3 in
    let slash = expect_ok s.Slash stop b.0.1 c.0 c.1 in
    let brace = expect_ok s.CloseBrace stop d.0.1 g.0 g.1 in
    let all : tokens_at ts ≡ number first.0 ∷ symbol s.Slash ∷ number second.0 ∷ symbol s.CloseBrace ∷ tokens_at x.1 =
    first.2 ∙ ap (λ us. number first.0 ∷ us) (slash ∙ ap (λ us. symbol s.Slash ∷ us) (second.2 ∙ ap (λ us. number second.0 ∷ us) (brace ∙ ap (λ us. symbol s.CloseBrace ∷ tokens_at us) (ap (λ y. y.1) same)))) in
    (first.0, second.0, ltb-true first.0 (2 ^ 63) l.0, r.0, ap (λ n. is_share n second.0) l.1 ∙ r.1, ap (λ n. units_of n second.0) l.1 ∙ r.2 ∙ ap (λ y. y.0) same, all)

pub narrow : (e : End) (rest : List Place) → NoInfix (reach e level.Wands) rest → NoInfix level.Wands rest
narrow closed rest h = h
narrow body rest h = h

tighter : Level → Level
tighter level.Wands = level.Ors
tighter level.Ors = level.Stars
tighter l = level.Prefixes

-- what is read at a level
abbrev shown : Level → Level
shown level.Updates = level.Wands
shown l = l

module _ (stop : ℕ) (preds : Callables) where
  abbrev pub Found : Names → Level → List Place → Formula × List Place → Type 0
  Found names l ts x = (e : End) × (ys : List Token) × (tokens_at ts ≡ ys ++ tokens_at x.1) × IsFormula preds names l e ys x.0 × NoInfix (reach e l) x.1

  abbrev Sound : Formulas → Type 0
  Sound self = (l : Level) (names : Names) (ts : List Place) (x : Formula × List Place) → self l names ts ≡ Ok x → Found names (shown l) ts x

  -- ---- calls

  arguments_derived : (names : Names) (room : ℕ) (ts : List Place) (x : List Term × List Place) → arguments stop preds names room ts ≡ Ok x → (ys : List Token) × (tokens_at ts ≡ ys ++ tokens_at x.1) × AreArguments names ys x.0
  unfolding arguments
  arguments_derived names room ts x e = either (sees s.Close ts) _ _ _ e ((ys : List Token) × (tokens_at ts ≡ ys ++ tokens_at x.1) × AreArguments names ys x.0)
      (λ none k. ok_to (λ (y : List Term × List Place). (ys : List Token) × (tokens_at ts ≡ ys ++ tokens_at y.1) × AreArguments names ys y.0) ([], ts) x k ([], refl, f.none))
      (λ some k. let c = commas_derived stop room names ts x k in (c.0, c.1, f.some c.2))

  call_end_ok : (c : Callable) (args : List Term) (ts : List Place) (x : Formula × List Place) → call_end stop preds c args ts ≡ Ok x → (tokens_at ts ≡ symbol s.Close ∷ tokens_at x.1) × (length args ≡ c.arity) × (Call c.index args ≡ x.0)
  unfolding call_end
  call_end_ok c args ts x e = either (not (sees s.Close ts)) _ _ _ e ((tokens_at ts ≡ symbol s.Close ∷ tokens_at x.1) × (length args ≡ c.arity) × (Call c.index args ≡ x.0))
      (λ no k. absurd cc)
      (λ there k.
      let g = guard_ok (length args == c.arity) (Call c.index args, drop 1 ts) x _ k in
      (sees_ok s.Close ts (seen (sees s.Close ts) there) ∙ ap (λ us. symbol s.Close ∷ tokens_at us) (ap (λ y. y.1) g.1), (Decides-eqb (length args) c.arity).0 g.0, ap (λ y. y.0) g.1))
    where
      seen : (b : Bool) → not b ≡ false → b ≡ true
      seen true h = refl
      seen false h = absurd cc

  sound_call : (names : Names) (room : ℕ) (w : List ℕ) (c : Callable) → callable_of preds w ≡ Some c → (at : ℕ) (us ts : List Place) (x : Formula × List Place) → tokens_at us ≡ symbol s.Open ∷ tokens_at ts → call_in stop preds names room c ts ≡ Ok x → Found names level.Prefixes (place (name w) at ∷ us) x
  unfolding call_in
  sound_call names zero w c known at us ts x opened e = absurd cc
  sound_call names (suc room) w c known at us ts x opened e =
      let b = bind_ok (arguments stop preds names (suc room) ts) (λ args. call_end stop preds c args.0 args.1) x e in
      let a = arguments_derived names (suc room) ts b.0 b.1 in
      let k = call_end_ok c b.0.0 b.0.1 x b.2 in (
        closed,
        name w ∷ symbol s.Open ∷ (a.0 ++ symbol s.Close ∷ []),
        ap (λ vs. name w ∷ vs) (opened ∙ shut s.Open s.Close a.0 (tokens_at ts) (tokens_at b.0.1) (tokens_at x.1) a.1 k.0),
        subst (IsFormula preds names level.Prefixes closed (name w ∷ symbol s.Open ∷ (a.0 ++ symbol s.Close ∷ []))) k.2 (f.call known a.2 k.1),
        tt,
      )

  -- ---- points-to

  sound_value : (names : Names) (room : ℕ) (l : Term) (ls : List Token) → IsTerm names operand ls l → (ts us : List Place) (x : Formula × List Place) → tokens_at ts ≡ ls ++ symbol s.PointsTo ∷ tokens_at us → value_in stop preds names room l us ≡ Ok x → Found names level.Prefixes ts x
  unfolding value_in units
  sound_value names zero l ls is ts us x before e = absurd cc
  sound_value names (suc room) l ls is ts us x before e =
      let b = bind_ok (cond (sees s.OpenBrace us) (fraction stop (drop 1 us)) (Ok (UNIT, us))) (λ u. operand_in stop names (suc room) u.1 >>= λ v. Ok (Pts l u.0 v.0, v.1)) x e in
      let c = bind_ok (operand_in stop names (suc room) b.0.1) (λ v. Ok (Pts l b.0.0 v.0, v.1)) x b.2 in
      let v = terms.operand_derived stop names (suc room) b.0.1 c.0 c.1 in
      let found : Found names level.Prefixes ts (Pts l b.0.0 c.0.0, c.0.1) = either (sees s.OpenBrace us) _ _ _ b.1 (Found names level.Prefixes ts (Pts l b.0.0 c.0.0, c.0.1))
      (λ brace k.
      let q = fraction_ok stop (drop 1 us) b.0 k in
      let zs : List Token = symbol s.OpenBrace ∷ number q.0 ∷ symbol s.Slash ∷ number q.1 ∷ symbol s.CloseBrace ∷ v.0 in
      let all : tokens_at us ≡ zs ++ tokens_at c.0.1 = sees_ok s.OpenBrace us brace ∙ ap (λ vs. symbol s.OpenBrace ∷ vs) (q.6 ∙ ap (λ vs. number q.0 ∷ symbol s.Slash ∷ number q.1 ∷ symbol s.CloseBrace ∷ vs) v.1) in (
        closed,
        ls ++ symbol s.PointsTo ∷ zs,
        join s.PointsTo ls zs (tokens_at ts) (symbol s.PointsTo ∷ tokens_at us) (tokens_at us) (tokens_at c.0.1) before refl all,
        subst (λ n. IsFormula preds names level.Prefixes closed (ls ++ symbol s.PointsTo ∷ zs) (Pts l n c.0.0)) q.5 (f.part is q.2 q.3 q.4 v.2),
        tt,
      ))
      (λ plain k.
      let same = ok_is (UNIT, us) b.0 k in
      let all : tokens_at us ≡ v.0 ++ tokens_at c.0.1 = ap (λ y. tokens_at y.1) same ∙ v.1 in (
        closed,
        ls ++ symbol s.PointsTo ∷ v.0,
        join s.PointsTo ls v.0 (tokens_at ts) (symbol s.PointsTo ∷ tokens_at us) (tokens_at us) (tokens_at c.0.1) before refl all,
        subst (λ n. IsFormula preds names level.Prefixes closed (ls ++ symbol s.PointsTo ∷ v.0) (Pts l n c.0.0)) (ap (λ y. y.0) same) (f.whole is v.2),
        tt,
      )) in
      ok_to (Found names level.Prefixes ts) (Pts l b.0.0 c.0.0, c.0.1) x c.2 found

  sound_points_to : (self : Formulas) (room : ℕ) (names : Names) (ts : List Place) (x : Formula × List Place) → points_to_at stop preds self room names ts ≡ Ok x → Found names level.Prefixes ts x
  unfolding points_to_at
  sound_points_to self room names ts x e =
      let b = bind_ok (operand_in stop names (suc room) ts) (λ loc. expect s.PointsTo stop loc.1 >>= λ rest. value_in stop preds names room loc.0 rest) x e in
      let c = bind_ok (expect s.PointsTo stop b.0.1) (λ rest. value_in stop preds names room b.0.0 rest) x b.2 in
      let l = terms.operand_derived stop names (suc room) ts b.0 b.1 in
      sound_value names room b.0.0 l.0 l.2 ts c.0 x (l.1 ∙ ap (λ us. l.0 ++ us) (expect_ok s.PointsTo stop b.0.1 c.0 c.1)) c.2

  -- ---- infixes

  some_is : {A : Type 0} (x y : A) → Some x ≡ Some y → x ≡ y
  some_is x y e = cc

  infix_there : (l : Level) (ts : List Place) (i : Infix) → next_infix l ts ≡ Some i → (r : Symbol) × (tokens_at ts ≡ symbol r ∷ tokens_at (drop 1 ts)) × (infix_of l r ≡ Some i)
  infix_there l [] i e = absurd cc
  infix_there l (place (name x) at ∷ ts) i e = absurd cc
  infix_there l (place (number n) at ∷ ts) i e = absurd cc
  infix_there l (place (symbol r) at ∷ ts) i e = (r, refl, e)

  record Infixed (names : Names) (l : Level) (r : Symbol) (i : Infix) : Type 0 where
    right : shown (right_of i) ≡ l
    both : (e : End) (xs ys : List Token) (a b : Formula) → IsFormula preds names (tighter l) closed xs a → IsFormula preds names l e ys b → IsFormula preds names l e (xs ++ symbol r ∷ ys) (joined i a b)

  is_infix : (names : Names) (l : Level) (r : Symbol) (i : Infix) → infix_of l r ≡ Some i → Infixed names l r i
  unfolding infix_of joined tighter
  is_infix names level.Wands s.Wand i e = subst (Infixed names level.Wands s.Wand) (some_is infixes.Wand i e) (record { right = refl; both = λ d xs ys a b h k. f.wand h k })
  is_infix names level.Wands s.Arrow i e = subst (Infixed names level.Wands s.Arrow) (some_is infixes.Implies i e) (record { right = refl; both = λ d xs ys a b h k. f.implication h k })
  is_infix names level.Wands s.UpdateWand i e = subst (Infixed names level.Wands s.UpdateWand) (some_is infixes.UpdateWand i e) (record { right = refl; both = λ d xs ys a b h k. f.update_wand h k })
  is_infix names level.Ors s.Or i e = subst (Infixed names level.Ors s.Or) (some_is infixes.Or i e) (record { right = refl; both = λ d xs ys a b h k. f.disjunction h k })
  is_infix names level.Stars s.And i e = subst (Infixed names level.Stars s.And) (some_is infixes.And i e) (record { right = refl; both = λ d xs ys a b h k. f.conjunction h k })
  is_infix names level.Stars s.Star i e = subst (Infixed names level.Stars s.Star) (some_is infixes.Star i e) (record { right = refl; both = λ d xs ys a b h k. f.star h k })
  is_infix names level.Stars s.Asterisk i e = subst (Infixed names level.Stars s.Asterisk) (some_is infixes.Star i e) (record { right = refl; both = λ d xs ys a b h k. f.asterisk h k })
  is_infix names l r i e = absurd cc

  -- what one level adds to the tighter one
  record LevelOver (l : Level) : Type 0 where
    splits : (self : Formulas) (room : ℕ) (names : Names) (ts : List Place) → formula_at stop preds self room names l ts ≡ (formula_at stop preds self room names (tighter l) ts >>= λ a. infix_at stop preds self room names l a.0 a.1)
    up : (names : Names) (e : End) (xs : List Token) (a : Formula) → IsFormula preds names (tighter l) e xs a → IsFormula preds names l e xs a
    keeps : (e : End) (ts : List Place) → NoInfix (reach e (tighter l)) ts → next_infix l ts ≡ None → NoInfix (reach e l) ts
    stuck : (ts : List Place) → NoInfix level.Wands ts → next_infix l ts ≡ None

  stars : LevelOver level.Stars
  unfolding formula_at stars_at tighter
  stars = record { splits = λ self room names ts. refl; up = λ names e xs a h. f.of_prefix h; keeps = elim [ closed ↦ λ ts h n. n | body ↦ λ ts h n. h ]; stuck = λ ts h. h.0 }

  ors : LevelOver level.Ors
  unfolding formula_at ors_at tighter
  ors = record { splits = λ self room names ts. refl; up = λ names e xs a h. f.of_star h; keeps = elim [ closed ↦ λ ts h n. (h, n) | body ↦ λ ts h n. h ]; stuck = λ ts h. h.1 }

  wands : LevelOver level.Wands
  unfolding formula_at wands_at tighter
  wands = record { splits = λ self room names ts. refl; up = λ names e xs a h. f.of_or h; keeps = elim [ closed ↦ λ ts h n. (h.0, h.1, n) | body ↦ λ ts h n. h ]; stuck = λ ts h. h.2 }

  abbrev SoundAt : Formulas → ℕ → Level → Type 0
  SoundAt self room l = (names : Names) (ts : List Place) (x : Formula × List Place) → formula_at stop preds self room names l ts ≡ Ok x → Found names (shown l) ts x

  sound_then : (l : Level) → LevelOver l → (self : Formulas) (room : ℕ) → Sound self → (names : Names) (ts : List Place) (a x : Formula × List Place)
      → Found names (tighter l) ts a → (o : Option Infix) → next_infix l a.1 ≡ o → infix_then stop preds self room names o a.0 a.1 ≡ Ok x → Found names l ts x
  unfolding infix_then
  sound_then l over self room h names ts a x found None is e =
      ok_to (Found names l ts) a x e (found.0, found.1, found.2, over.up names found.0 found.1 a.0 found.3, over.keeps found.0 a.1 found.4 is)
  sound_then l over self room h names ts a x found (Some i) is e = go found.0 found.3 found.4
    where
      m : (b : Formula) × (self (right_of i) names (drop 1 a.1) ≡ Ok (b, x.1)) × (joined i a.0 b ≡ x.0)
      m = made_ok (joined i a.0) (self (right_of i) names (drop 1 a.1)) x e

      there : (r : Symbol) × (tokens_at a.1 ≡ symbol r ∷ tokens_at (drop 1 a.1)) × (infix_of l r ≡ Some i)
      there = infix_there l a.1 i is

      fits : Infixed names l there.0 i
      fits = is_infix names l there.0 i there.2

      right_side : Found names l (drop 1 a.1) (m.0, x.1)
      right_side = subst (λ (k : Level). Found names k (drop 1 a.1) (m.0, x.1)) fits.right (h (right_of i) names (drop 1 a.1) (m.0, x.1) m.1)

      go : (d : End) → IsFormula preds names (tighter l) d found.1 a.0 → NoInfix (reach d (tighter l)) a.1 → Found names l ts x
      go body k free = let none = over.stuck a.1 free in absurd cc
      go closed k free = (
        right_side.0,
        found.1 ++ symbol there.0 ∷ right_side.1,
        join there.0 found.1 right_side.1 (tokens_at ts) (tokens_at a.1) (tokens_at (drop 1 a.1)) (tokens_at x.1) found.2 there.1 right_side.2,
        subst (IsFormula preds names l right_side.0 (found.1 ++ symbol there.0 ∷ right_side.1)) m.2 (fits.both right_side.0 found.1 right_side.1 a.0 m.0 k right_side.3),
        right_side.4,
      )

  sound_over : (l : Level) → LevelOver l → shown l ≡ l → shown (tighter l) ≡ tighter l → (self : Formulas) (room : ℕ) → Sound self → SoundAt self room (tighter l) → SoundAt self room l
  unfolding infix_at
  sound_over l over same below self room h inner names ts x e =
      let b = bind_ok (formula_at stop preds self room names (tighter l) ts) (λ a. infix_at stop preds self room names l a.0 a.1) x (sym (over.splits self room names ts) ∙ e) in
      let found = subst (λ (k : Level). Found names k ts b.0) below (inner names ts b.0 b.1) in
      subst (λ (k : Level). Found names k ts x) (sym same) (sound_then l over self room h names ts b.0 x found (next_infix l b.0.1) refl b.2)

  -- ---- prefixes and atoms

  ends_in_body : (names : Names) (b : Binder) (e : End) (xs : List Token) (a : Formula) → IsFormula preds names (level.Names b) e xs a → e ≡ body
  ends_in_body names b e xs a (f.further h) = refl
  ends_in_body names b e xs a (f.bound h) = refl

  in_body : (names : Names) (b : Binder) (ts : List Place) (x : Formula × List Place) → Found names (level.Names b) ts x → (ys : List Token) × (tokens_at ts ≡ ys ++ tokens_at x.1) × IsFormula preds names (level.Names b) body ys x.0 × NoInfix level.Wands x.1
  in_body names b ts x h =
      let is = ends_in_body names b h.0 h.1 x.0 h.3 in
      (h.1, h.2, subst (λ (e : End). IsFormula preds names (level.Names b) e h.1 x.0) is h.3, subst (λ (e : End). NoInfix (reach e (level.Names b)) x.1) is h.4)

  sound_prefix : (self : Formulas) (room : ℕ) → Sound self → (names : Names) (ts : List Place) (x : Formula × List Place) → prefix_at stop preds self room names ts ≡ Ok x → Found names level.Prefixes ts x
  unfolding prefix_at call_at callable_at
  sound_prefix self room h names [] x e = sound_points_to self room names [] x e
  sound_prefix self room h names (place (number n) at ∷ ts) x e = sound_points_to self room names (place (number n) at ∷ ts) x e
  sound_prefix self room h names (place (name w) at ∷ ts) x e = either (sees s.Open ts) _ _ _ e (Found names level.Prefixes (place (name w) at ∷ ts) x)
      (λ opened k.
      let b = bind_ok (bound_at at (callable_of preds w)) (λ c. call_in stop preds names room c (drop 1 ts)) x k in
      sound_call names room w b.0 (bound_ok at (callable_of preds w) b.0 b.1) at ts (drop 1 ts) x (sees_ok s.Open ts opened) b.2)
      (λ other k. sound_points_to self room names (place (name w) at ∷ ts) x k)
  sound_prefix self room h names (place (symbol s.Later) at ∷ ts) x e =
      let m = made_ok formula.Later (self level.Prefixes names ts) x e in
      let i = h level.Prefixes names ts (m.0, x.1) m.1 in
      (i.0, symbol s.Later ∷ i.1, ap (λ us. symbol s.Later ∷ us) i.2, subst (IsFormula preds names level.Prefixes i.0 (symbol s.Later ∷ i.1)) m.2 (f.later i.3), i.4)
  sound_prefix self room h names (place (symbol s.Persistently) at ∷ ts) x e =
      let m = made_ok formula.Pers (self level.Prefixes names ts) x e in
      let i = h level.Prefixes names ts (m.0, x.1) m.1 in
      (i.0, symbol s.Persistently ∷ i.1, ap (λ us. symbol s.Persistently ∷ us) i.2, subst (IsFormula preds names level.Prefixes i.0 (symbol s.Persistently ∷ i.1)) m.2 (f.persistently i.3), i.4)
  sound_prefix self room h names (place (symbol s.Forall) at ∷ ts) x e =
      let i = in_body names binder.All ts x (h (level.Names binder.All) names ts x e) in
      (body, symbol s.Forall ∷ i.0, ap (λ us. symbol s.Forall ∷ us) i.1, f.universal i.2, i.3)
  sound_prefix self room h names (place (symbol s.Exists) at ∷ ts) x e =
      let i = in_body names binder.Ex ts x (h (level.Names binder.Ex) names ts x e) in
      (body, symbol s.Exists ∷ i.0, ap (λ us. symbol s.Exists ∷ us) i.1, f.existential i.2, i.3)
  sound_prefix self room h names (place (symbol s.Update) at ∷ ts) x e =
      let m = made_ok formula.Upd (self level.Wands names ts) x e in
      let i = h level.Wands names ts (m.0, x.1) m.1 in
      (body, symbol s.Update ∷ i.1, ap (λ us. symbol s.Update ∷ us) i.2, subst (IsFormula preds names level.Prefixes body (symbol s.Update ∷ i.1)) m.2 (f.update i.3), narrow i.0 x.1 i.4)
  sound_prefix self room h names (place (symbol s.Open) at ∷ ts) x e = either (begins_location ts) _ _ _ e (Found names level.Prefixes (place (symbol s.Open) at ∷ ts) x)
      (λ location k. sound_points_to self room names (place (symbol s.Open) at ∷ ts) x k)
      (λ group k.
      let c = closed_ok s.Close stop (self level.Wands names ts) x k in
      let i = h level.Wands names ts (x.0, c.0) c.1 in
      (closed, symbol s.Open ∷ (i.1 ++ symbol s.Close ∷ []), shut s.Open s.Close i.1 (tokens_at ts) (tokens_at c.0) (tokens_at x.1) i.2 c.2, f.group i.3, tt))
  sound_prefix self room h names (place (symbol s.OpenPure) at ∷ ts) x e =
      let c = closed_ok s.ClosePure stop (made Fact (pure_in stop names (suc room) pure_level.Ors ts)) x e in
      let m = made_ok Fact (pure_in stop names (suc room) pure_level.Ors ts) (x.0, c.0) c.1 in
      let i = pures.pure_derived stop names (suc room) pure_level.Ors ts (m.0, c.0) m.1 in (
        closed,
        symbol s.OpenPure ∷ (i.0 ++ symbol s.ClosePure ∷ []),
        shut s.OpenPure s.ClosePure i.0 (tokens_at ts) (tokens_at c.0) (tokens_at x.1) i.1 c.2,
        subst (IsFormula preds names level.Prefixes closed (symbol s.OpenPure ∷ (i.0 ++ symbol s.ClosePure ∷ []))) m.2 (f.fact i.2),
        tt,
      )
  sound_prefix self room h names (place (symbol s.Emp) at ∷ ts) x e = ok_to (Found names level.Prefixes (place (symbol s.Emp) at ∷ ts)) (Fact True, ts) x e (closed, symbol s.Emp ∷ [], refl, f.unit, tt)
  sound_prefix self room h names (place (symbol s.True) at ∷ ts) x e = ok_to (Found names level.Prefixes (place (symbol s.True) at ∷ ts)) (Fact True, ts) x e (closed, symbol s.True ∷ [], refl, f.truth, tt)
  sound_prefix self room h names (place (symbol s.False) at ∷ ts) x e = ok_to (Found names level.Prefixes (place (symbol s.False) at ∷ ts)) (Fact False, ts) x e (closed, symbol s.False ∷ [], refl, f.falsehood, tt)
  sound_prefix self room h names (place (symbol r) at ∷ ts) x e = sound_points_to self room names (place (symbol r) at ∷ ts) x e

  -- ---- all levels

  sound_prefixes : (self : Formulas) (room : ℕ) → Sound self → SoundAt self room level.Prefixes
  unfolding formula_at
  sound_prefixes = sound_prefix

  sound_wands : (self : Formulas) (room : ℕ) → Sound self → SoundAt self room level.Wands
  unfolding tighter
  sound_wands self room h = sound_over level.Wands wands refl refl self room h (sound_over level.Ors ors refl refl self room h (sound_over level.Stars stars refl refl self room h (sound_prefixes self room h)))

  Behind : Names → List ℕ → Binder → List Place → Formula × List Place → Type 0
  Behind names w b ts x = (ys : List Token) × (tokens_at ts ≡ ys ++ tokens_at x.1) × IsFormula preds names (level.Names b) body (name w ∷ ys) (quantified b x.0) × NoInfix level.Wands x.1

  sound_behind : (self : Formulas) (room : ℕ) → Sound self → (names : Names) (w : List ℕ) (b : Binder) (ts : List Place) (x : Formula × List Place) → behind_name stop preds self room (w ∷ names) b ts ≡ Ok x → Behind names w b ts x
  unfolding Behind behind_name formula_at
  sound_behind self room h names w b [] x e = absurd cc
  sound_behind self room h names w b (place (name v) at ∷ ts) x e =
      let i = in_body (w ∷ names) b (place (name v) at ∷ ts) x (h (level.Names b) (w ∷ names) (place (name v) at ∷ ts) x e) in
      (i.0, i.1, f.further i.2, i.3)
  sound_behind self room h names w b (place (number n) at ∷ ts) x e = absurd cc
  sound_behind self room h names w b (place (symbol s.Comma) at ∷ ts) x e =
      let i = sound_wands self room h (w ∷ names) ts x e in
      (symbol s.Comma ∷ i.1, ap (λ us. symbol s.Comma ∷ us) i.2, f.bound i.3, narrow i.0 x.1 i.4)
  sound_behind self room h names w b (place (symbol r) at ∷ ts) x e = absurd cc

  sound_names : (self : Formulas) (room : ℕ) → Sound self → (b : Binder) → SoundAt self room (level.Names b)
  unfolding Behind formula_at names_at
  sound_names self room h b names [] x e = absurd cc
  sound_names self room h b names (place (name w) at ∷ ts) x e =
      let m = made_ok (quantified b) (behind_name stop preds self room (w ∷ names) b ts) x e in
      let i = sound_behind self room h names w b ts (m.0, x.1) m.1 in
      (body, name w ∷ i.0, ap (λ us. name w ∷ us) i.1, subst (IsFormula preds names (level.Names b) body (name w ∷ i.0)) m.2 i.2, i.3)
  sound_names self room h b names (place (number n) at ∷ ts) x e = absurd cc
  sound_names self room h b names (place (symbol r) at ∷ ts) x e = absurd cc

  sound_level : (self : Formulas) (room : ℕ) → Sound self → (l : Level) → SoundAt self room l
  unfolding formula_at tighter
  sound_level self room h level.Wands = sound_wands self room h
  sound_level self room h level.Ors = sound_over level.Ors ors refl refl self room h (sound_over level.Stars stars refl refl self room h (sound_prefixes self room h))
  sound_level self room h level.Stars = sound_over level.Stars stars refl refl self room h (sound_prefixes self room h)
  sound_level self room h level.Prefixes = sound_prefixes self room h
  sound_level self room h (level.Names b) = sound_names self room h b
  sound_level self room h level.Updates = λ names ts x e. h level.Wands names ts x e

  pub formula_derived : (room : ℕ) → Sound (formula_in stop preds room)
  unfolding formula_in
  formula_derived zero l names ts x e = absurd cc
  formula_derived (suc room) l names ts x e = sound_level (formula_in stop preds room) room (λ l names ts x e. formula_derived room l names ts x e) l names ts x e
