-- Formulas that the grammar derives are read, unless they are too deep.
use Rattle.std.proofs.Common.{◌≡◌, inl, inr, ℕ, zero, suc, ◌+◌, ◌<◌, ◌≤◌, ◌^◌, Bool, true, false, cond, lt-ltb, List, [], ◌∷◌, ◌++◌, length, length-append, drop, Some, None, Ok, Err, refl, ap, arith}
use Rattle.std.proofs.lemmas.Bool.Decides.{Decides-eqb}
use Rattle.pm_logic.specs.declared.formula.Term.{Term}
use Rattle.pm_logic.specs.declared.formula.Pure.{Pure}
use Rattle.pm_logic.specs.declared.formula.Formula.{Formula}
use Rattle.pm_logic.specs.declared.formula.Formula.TheVariants.{Pure as Fact, Pts, Call}
use Rattle.pm_logic.specs.declared.formula.Formula.TheViews as formula
use Rattle.pm_logic.specs.declared.formula.TheConstants.{UNIT}
use Rattle.pm_tokens.specs.declared.symbol.Symbol.{Symbol}
use Rattle.pm_tokens.specs.declared.symbol.Symbol.TheVariants as s
use Rattle.pm_tokens.specs.Tokens.{Token, name, number, symbol, Place, place}
use Rattle.pm_terms.specs.declared.fault.TextFault.{TextFault}
use Rattle.pm_terms.specs.declared.fault.TextFault.TheVariants.{Deep}
use Rattle.pm_terms.specs.declared.level.PureLevel.TheVariants as pure_level
use Rattle.pm_text.specs.declared.level.Binder.{Binder}
use Rattle.pm_text.specs.declared.level.Binder.TheVariants as binder
use Rattle.pm_text.specs.declared.level.Infix.{Infix}
use Rattle.pm_text.specs.declared.level.Infix.TheVariants as infixes
use Rattle.pm_text.specs.declared.level.Level.{Level}
use Rattle.pm_text.specs.declared.level.Level.TheVariants as level
use Rattle.pm_terms.specs.Scope.{Names, Callable, Callables, callable_of}
use Rattle.pm_terms.specs.Steps.{Read, ◌>>=◌, made, same_symbol, sees, offset, expect, digits, parts, many, with_commas}
use Rattle.pm_terms.specs.TermReading.{variable_at, deep_term, operand_in, sum_in}
use Rattle.pm_terms.specs.PureReading.{next_comparison, comparison_of, pure_in}
use Rattle.pm_text.specs.FormulaReading.{infix_of, right_of, joined, quantified, next_infix, units_of, is_share, share, fraction, units, begins_location, Formulas, callable_at, call_end, arguments, deep_call, call_in, deep_value, value_in, deep_operand, deep_binder, deep_formula, points_to_at, call_at, prefix_at, infix_then, infix_at, stars_at, ors_at, wands_at, behind_name, names_at, formula_at, formula_in}
use Rattle.pm_grammar.specs.TermGrammar as g
use Rattle.pm_grammar.specs.TermGrammar.{IsTerm, sum, operand}
use Rattle.pm_grammar.specs.PureGrammar.{IsPure}
use Rattle.pm_grammar.specs.FormulaGrammar as f
use Rattle.pm_grammar.specs.FormulaGrammar.{AreTerms, AreArguments, End, closed, body, IsFormula}
use Rattle.pm_grammar.specs.Openings.{opens, openings}
use Rattle.pm_grammar.specs.Parts.{TermEnds, FormulaEnds, reach}
use Rattle.pm_grammar.proofs.Steps.{put, skip, put-append, openings-append, in_left, in_behind, in_right, Again, along, then_again, then_ok, made_again, closed_again}
use Rattle.pm_grammar.proofs.TermsRead as terms
use Rattle.pm_grammar.proofs.PuresRead as pures
use Rattle.pm_grammar.proofs.Balanced as balanced
use Rattle.pm_grammar.proofs.Balanced.{Balanced}

-- ---- what may follow

wide : (e : End) (rest : List Place) → FormulaEnds level.Wands rest → FormulaEnds (reach e level.Wands) rest
wide closed rest h = h
wide body rest h = h

Down : End → Level → Level → List Place → Type 0
Down e l tighter rest = FormulaEnds (reach e l) rest → (next_infix l rest ≡ None) × FormulaEnds (reach e tighter) rest

down_wands : (e : End) (rest : List Place) → Down e level.Wands level.Ors rest
unfolding Down
down_wands closed rest h = (h.no_infix.2, record { no_location = h.no_location; no_infix = (h.no_infix.0, h.no_infix.1) })
down_wands body rest h = (h.no_infix.2, h)

down_ors : (e : End) (rest : List Place) → Down e level.Ors level.Stars rest
unfolding Down
down_ors closed rest h = (h.no_infix.1, record { no_location = h.no_location; no_infix = h.no_infix.0 })
down_ors body rest h = (h.no_infix.1, h)

down_stars : (e : End) (rest : List Place) → Down e level.Stars level.Prefixes rest
unfolding Down
down_stars closed rest h = (h.no_infix, record { no_location = h.no_location; no_infix = tt })
down_stars body rest h = (h.no_infix.0, h)

-- ---- arguments

either_deep : (b : Bool) (at : ℕ) (y : TextFault) → (k : ℕ) × (y ≡ Deep k) → (k : ℕ) × (cond b (Deep at) y ≡ Deep k)
either_deep true at y h = (at, refl)
either_deep false at y h = h

no_close : (stop : ℕ) (names : Names) (ts : List Place) → (at : ℕ) × (deep_term stop names ts ≡ Deep at) → sees s.Close ts ≡ false
unfolding deep_term sees same_symbol
no_close stop names [] h = refl
no_close stop names (place (name x) at ∷ ts) h = refl
no_close stop names (place (number n) at ∷ ts) h = refl
no_close stop names (place (symbol s.Close) at ∷ ts) h = let e = h.1 in absurd cc
no_close stop names (place (symbol _) at ∷ ts) h = refl

no_brace : (stop : ℕ) (names : Names) (ts : List Place) → (at : ℕ) × (deep_term stop names ts ≡ Deep at) → sees s.OpenBrace ts ≡ false
unfolding deep_term sees same_symbol
no_brace stop names [] h = refl
no_brace stop names (place (name x) at ∷ ts) h = refl
no_brace stop names (place (number n) at ∷ ts) h = refl
no_brace stop names (place (symbol s.OpenBrace) at ∷ ts) h = let e = h.1 in absurd cc
no_brace stop names (place (symbol _) at ∷ ts) h = refl

-- a term goes on with neither a comma nor a parenthesis
stops_term : (at : ℕ) (rest : List Place) → TermEnds (place (symbol s.Comma) at ∷ rest) × TermEnds (place (symbol s.Close) at ∷ rest)
unfolding sees same_symbol
stops_term at rest = (record { no_plus = refl; no_minus = refl; no_times = refl }, record { no_plus = refl; no_minus = refl; no_times = refl })

module _ (stop room : ℕ) (names : Names) where
  abbrev part : List Place → Read Term
  part ts = sum_in stop names room ts

  abbrev commas : ℕ → List Place → Read (List Term)
  commas n ts = parts n (sees s.Comma) (λ us. part (drop 1 us)) ts

  -- a term, and as many behind commas as there are
  abbrev listed : ℕ → List Place → Read (List Term)
  listed n ts = part ts >>= λ x. commas n x.1 >>= λ xs. Ok (x.0 ∷ xs.0, xs.1)

  no_more : (n at : ℕ) (rest : List Place) → commas n (place (symbol s.Close) at ∷ rest) ≡ Ok ([], place (symbol s.Close) at ∷ rest)
  unfolding parts sees same_symbol
  no_more zero at rest = refl
  no_more (suc n) at rest = refl

  one_more : (n at : ℕ) (ts : List Place) → commas (suc n) (place (symbol s.Comma) at ∷ ts) ≡ listed n ts
  unfolding parts sees same_symbol
  one_more n at ts = refl

  terms_listed : (xs : List Token) (ts : List Term) → AreTerms names xs ts → (n : ℕ) (o : ℕ → ℕ) (at : ℕ) (rest : List Place) → length (put o xs ++ (place (symbol s.Close) at ∷ rest)) ≤ n
      → Again (room ≤ openings xs) (listed n (put o xs ++ (place (symbol s.Close) at ∷ rest))) (ts, place (symbol s.Close) at ∷ rest)
  terms_listed xs ts (f.last {xs = l} {a = a} h) n o at rest le =
      then_ok (part (put o l ++ (place (symbol s.Close) at ∷ rest))) (λ x. commas n x.1 >>= λ xs. Ok (x.0 ∷ xs.0, xs.1)) (a, place (symbol s.Close) at ∷ rest) (a ∷ [], place (symbol s.Close) at ∷ rest)
      (terms.sum_read stop names l a h room o (place (symbol s.Close) at ∷ rest) (stops_term at rest).1) (λ m. m) (rw (no_more n at rest) refl)
  terms_listed xs ts (f.comma {xs = l} {ys = r} {a = a} {ts = us} h k) n o at rest le =
      let o₂ : ℕ → ℕ = λ i. skip l o (suc i) in
      rw (put-append o l (symbol s.Comma ∷ r) (place (symbol s.Close) at ∷ rest))
      (go n (omega (arith, rw (put-append o l (symbol s.Comma ∷ r) (place (symbol s.Close) at ∷ rest)) at le, length-append (put o l) (place (symbol s.Comma) (skip l o 0) ∷ tail))) (λ i short. terms_listed r us k i o₂ at rest short))
    where
      tail : List Place
      tail = put (λ i. skip l o (suc i)) r ++ (place (symbol s.Close) at ∷ rest)

      go : (n : ℕ) → length (put o l) + suc (length tail) ≤ n → ((i : ℕ) → length tail ≤ i → Again (room ≤ openings r) (listed i tail) (us, place (symbol s.Close) at ∷ rest))
          → Again (room ≤ openings (l ++ symbol s.Comma ∷ r)) (listed n (put o l ++ (place (symbol s.Comma) (skip l o 0) ∷ tail))) (a ∷ us, place (symbol s.Close) at ∷ rest)
      go zero le next = absurd (omega (arith, le))
      go (suc n) le next =
          let more : Again (room ≤ openings r) (commas (suc n) (place (symbol s.Comma) (skip l o 0) ∷ tail)) (us, place (symbol s.Close) at ∷ rest) = rw (one_more n (skip l o 0) tail) (next n (omega (arith, le))) in
          let behind : Again (room ≤ openings r) (commas (suc n) (place (symbol s.Comma) (skip l o 0) ∷ tail) >>= λ xs. Ok (a ∷ xs.0, xs.1)) (a ∷ us, place (symbol s.Close) at ∷ rest) = then_ok (commas (suc n) (place (symbol s.Comma) (skip l o 0) ∷ tail)) (λ xs. Ok (a ∷ xs.0, xs.1)) (us, place (symbol s.Close) at ∷ rest) (a ∷ us, place (symbol s.Close) at ∷ rest) more (λ (m : room ≤ openings r). m) refl in
          then_again (part (put o l ++ (place (symbol s.Comma) (skip l o 0) ∷ tail))) (λ x. commas (suc n) x.1 >>= λ xs. Ok (x.0 ∷ xs.0, xs.1)) (a, place (symbol s.Comma) (skip l o 0) ∷ tail) (a ∷ us, place (symbol s.Close) at ∷ rest)
          (terms.sum_read stop names l a h room o (place (symbol s.Comma) (skip l o 0) ∷ tail) (stops_term (skip l o 0) tail).0) (in_left room l (symbol s.Comma ∷ r))
          behind (in_behind room l (symbol s.Comma) r)

module _ (stop : ℕ) (preds : Callables) where
  commas_read : (names : Names) (xs : List Token) (ts : List Term) → AreTerms names xs ts → (room : ℕ) (o : ℕ → ℕ) (at : ℕ) (rest : List Place)
      → Again (room ≤ openings xs) (with_commas (sum_in stop names room) (put o xs ++ (place (symbol s.Close) at ∷ rest))) (ts, place (symbol s.Close) at ∷ rest)
  unfolding with_commas many
  commas_read names xs ts (f.last {xs = l} {a = a} h) room o at rest =
      then_ok (sum_in stop names room (put o l ++ (place (symbol s.Close) at ∷ rest))) (λ x. many (sees s.Comma) (λ us. sum_in stop names room (drop 1 us)) x.1 >>= λ xs. Ok (x.0 ∷ xs.0, xs.1)) (a, place (symbol s.Close) at ∷ rest) (a ∷ [], place (symbol s.Close) at ∷ rest)
      (terms.sum_read stop names l a h room o (place (symbol s.Close) at ∷ rest) (stops_term at rest).1) (λ m. m) (rw (no_more stop room names (length (place (symbol s.Close) at ∷ rest)) at rest) refl)
  commas_read names xs ts (f.comma {xs = l} {ys = r} {a = a} {ts = us} h k) room o at rest =
      let o₂ : ℕ → ℕ = λ i. skip l o (suc i) in
      let close : List Place = place (symbol s.Close) at ∷ rest in
      let tail : List Place = put o₂ r ++ close in
      let n : ℕ = length tail in
      let more : Again (room ≤ openings r) (commas stop room names (suc n) (place (symbol s.Comma) (skip l o 0) ∷ tail)) (us, close) = rw (one_more stop room names n (skip l o 0) tail) (terms_listed stop room names r us k n o₂ at rest (omega arith)) in
      let behind : Again (room ≤ openings r) (commas stop room names (suc n) (place (symbol s.Comma) (skip l o 0) ∷ tail) >>= λ xs. Ok (a ∷ xs.0, xs.1)) (a ∷ us, close) =
      then_ok (commas stop room names (suc n) (place (symbol s.Comma) (skip l o 0) ∷ tail)) (λ xs. Ok (a ∷ xs.0, xs.1)) (us, close) (a ∷ us, close) more (λ (m : room ≤ openings r). m) refl in
      rw (put-append o l (symbol s.Comma ∷ r) close)
      (then_again (sum_in stop names room (put o l ++ (place (symbol s.Comma) (skip l o 0) ∷ tail))) (λ x. many (sees s.Comma) (λ us. sum_in stop names room (drop 1 us)) x.1 >>= λ xs. Ok (x.0 ∷ xs.0, xs.1)) (a, place (symbol s.Comma) (skip l o 0) ∷ tail) (a ∷ us, close)
      (terms.sum_read stop names l a h room o (place (symbol s.Comma) (skip l o 0) ∷ tail) (stops_term (skip l o 0) tail).0) (in_left room l (symbol s.Comma ∷ r)) behind (in_behind room l (symbol s.Comma) r))

  begins_terms : (names : Names) (xs : List Token) (ts : List Term) → AreTerms names xs ts → terms.Begins stop names xs
  begins_terms names xs ts (f.last {xs = l} {a = a} h) = terms.begins stop names sum l a h
  begins_terms names xs ts (f.comma {xs = l} {ys = r} {a = a} h k) = λ o rest. rw (put-append o l (symbol s.Comma ∷ r) rest) (terms.begins stop names sum l a h o (put (skip l o) (symbol s.Comma ∷ r) ++ rest))

  arguments_read : (names : Names) (xs : List Token) (ts : List Term) → AreArguments names xs ts → (room : ℕ) (o : ℕ → ℕ) (at : ℕ) (rest : List Place)
      → Again (room ≤ openings xs) (arguments stop preds names room (put o xs ++ (place (symbol s.Close) at ∷ rest))) (ts, place (symbol s.Close) at ∷ rest)
  unfolding arguments sees same_symbol
  arguments_read names xs ts f.none room o at rest = inl refl
  arguments_read names xs ts (f.some {xs = l} {ts = us} h) room o at rest = go (no_close stop names (put o l ++ (place (symbol s.Close) at ∷ rest)) (begins_terms names l us h o (place (symbol s.Close) at ∷ rest)))
    where
      go : sees s.Close (put o l ++ (place (symbol s.Close) at ∷ rest)) ≡ false → Again (room ≤ openings l) (arguments stop preds names room (put o l ++ (place (symbol s.Close) at ∷ rest))) (us, place (symbol s.Close) at ∷ rest)
      go e = rw e (commas_read names l us h room o at rest)

  -- ---- calls

  call_ends : (c : Callable) (ts : List Term) (at : ℕ) (rest : List Place) → length ts ≡ c.arity → call_end stop preds c ts (place (symbol s.Close) at ∷ rest) ≡ Ok (Call c.index ts, rest)
  unfolding call_end sees same_symbol
  call_ends c ts at rest e = rw ((Decides-eqb (length ts) c.arity).1 e) refl

  deep_arguments : (names : Names) (c : Callable) (xs : List Token) (ts : List Term) → AreArguments names xs ts → length ts ≡ c.arity → (o : ℕ → ℕ) (at : ℕ) (rest : List Place)
      → (k : ℕ) × (deep_call stop preds names c (put o xs ++ (place (symbol s.Close) at ∷ rest)) ≡ Deep k)
  unfolding deep_call sees same_symbol
  deep_arguments names c xs ts f.none e o at rest = (at, rw (call_ends c [] at rest e) refl)
  deep_arguments names c xs ts (f.some {xs = l} {ts = us} h) e o at rest = go (no_close stop names (put o l ++ (place (symbol s.Close) at ∷ rest)) first) first
    where
      first : (k : ℕ) × (deep_term stop names (put o l ++ (place (symbol s.Close) at ∷ rest)) ≡ Deep k)
      first = begins_terms names l us h o (place (symbol s.Close) at ∷ rest)

      go : sees s.Close (put o l ++ (place (symbol s.Close) at ∷ rest)) ≡ false → (k : ℕ) × (deep_term stop names (put o l ++ (place (symbol s.Close) at ∷ rest)) ≡ Deep k) → (k : ℕ) × (deep_call stop preds names c (put o l ++ (place (symbol s.Close) at ∷ rest)) ≡ Deep k)
      go e b = (b.0, rw (e, b.1) refl)

  call_read : (names : Names) (c : Callable) (xs : List Token) (ts : List Term) → AreArguments names xs ts → length ts ≡ c.arity → (room : ℕ) (o : ℕ → ℕ) (at : ℕ) (rest : List Place)
      → Again (room ≤ openings xs) (call_in stop preds names room c (put o xs ++ (place (symbol s.Close) at ∷ rest))) (Call c.index ts, rest)
  unfolding call_in
  call_read names c xs ts h e zero o at rest = let b = deep_arguments names c xs ts h e o at rest in inr ((b.0, ap Err b.1), omega arith)
  call_read names c xs ts h e (suc room) o at rest =
      then_ok (arguments stop preds names (suc room) (put o xs ++ (place (symbol s.Close) at ∷ rest))) (λ args. call_end stop preds c args.0 args.1) (ts, place (symbol s.Close) at ∷ rest) (Call c.index ts, rest)
      (arguments_read names xs ts h (suc room) o at rest) (λ m. m) (call_ends c ts at rest e)

  -- ---- points-to

  -- the units and the value behind the sign
  IsValue : Names → List Token → (l : Term) → Formula → Type 0
  IsValue names zs l a = (room : ℕ) (o : ℕ → ℕ) (rest : List Place) → Again (room ≤ openings zs) (value_in stop preds names room l (put o zs ++ rest)) (a, rest)

  whole_read : (names : Names) (ys : List Token) (l v : Term) → IsTerm names operand ys v → IsValue names ys l (Pts l UNIT v)
  unfolding IsValue value_in deep_value units
  whole_read names ys l v h zero o rest =
      let b = either_deep (sees s.OpenBrace (put o ys ++ rest)) (offset stop (put o ys ++ rest)) (deep_term stop names (put o ys ++ rest)) (terms.begins stop names operand ys v h o rest) in
      inr ((b.0, ap Err b.1), omega arith)
  whole_read names ys l v h (suc room) o rest = go (no_brace stop names (put o ys ++ rest) (terms.begins stop names operand ys v h o rest))
    where
      go : sees s.OpenBrace (put o ys ++ rest) ≡ false → Again (suc room ≤ openings ys) (value_in stop preds names (suc room) l (put o ys ++ rest)) (Pts l UNIT v, rest)
      go e = rw e (then_ok (operand_in stop names (suc room) (put o ys ++ rest)) (λ v. Ok (Pts l UNIT v.0, v.1)) (v, rest) (Pts l UNIT v, rest) (terms.operand_read stop names ys v h (suc room) o rest) (λ m. m) refl)

  part_read : (names : Names) (ys : List Token) (l v : Term) (n d : ℕ) → n < 2 ^ 63 → d < 2 ^ 63 → is_share n d ≡ true → IsTerm names operand ys v
      → IsValue names (symbol s.OpenBrace ∷ number n ∷ symbol s.Slash ∷ number d ∷ symbol s.CloseBrace ∷ ys) l (Pts l (units_of n d) v)
  unfolding IsValue value_in deep_value units fraction share digits expect sees same_symbol
  part_read names ys l v n d small tiny good h zero o rest = inr ((o 0, refl), omega arith)
  part_read names ys l v n d small tiny good h (suc room) o rest =
      let o₅ : ℕ → ℕ = λ k. o (suc (suc (suc (suc (suc k))))) in
      rw (lt-ltb n (2 ^ 63) small, lt-ltb d (2 ^ 63) tiny, good)
      (then_ok (operand_in stop names (suc room) (put o₅ ys ++ rest)) (λ v. Ok (Pts l (units_of n d) v.0, v.1)) (v, rest) (Pts l (units_of n d) v, rest) (terms.operand_read stop names ys v h (suc room) o₅ rest) (λ (m : suc room ≤ openings ys). omega (arith, m)) refl)

  -- ---- the first token begins a formula

  abbrev Begins : Level → Names → List Token → Type 0
  Begins l names xs = (o : ℕ → ℕ) (rest : List Place) → (at : ℕ) × (deep_formula stop preds l names (put o xs ++ rest) ≡ Deep at)

  begins_append : (l : Level) (names : Names) (xs ys : List Token) → Begins l names xs → Begins l names (xs ++ ys)
  begins_append l names xs ys h o rest = rw (put-append o xs ys rest) (h o (put (skip xs o) ys ++ rest))

  begins_points_to : (names : Names) (xs ys : List Token) (l : Term) → IsTerm names operand xs l → Begins level.Prefixes names (xs ++ symbol s.PointsTo ∷ ys)
  unfolding deep_formula deep_operand deep_term variable_at sees same_symbol
  begins_points_to names xs ys l (g.variable h) o rest = (o 0, rw h refl)
  begins_points_to names xs ys l (g.literal (g.positive {n = n} lt)) o rest = (o 0, rw (lt-ltb n (2 ^ 63) lt) refl)
  begins_points_to names xs ys l (g.literal (g.negative le)) o rest = (o 0, refl)
  begins_points_to names xs ys l (g.group h) o rest = (o 0, refl)

  begins : (names : Names) (l : Level) (e : End) (xs : List Token) (a : Formula) → IsFormula preds names l e xs a → Begins l names xs
  unfolding deep_formula deep_operand deep_binder deep_term callable_at sees same_symbol
  begins names l e xs a (f.of_or {xs = x} {a = p} h) = begins names level.Ors e x p h
  begins names l e xs a (f.wand {xs = x} {ys = y} {a = p} h k) = begins_append level.Wands names x (symbol s.Wand ∷ y) (begins names level.Ors closed x p h)
  begins names l e xs a (f.implication {xs = x} {ys = y} {a = p} h k) = begins_append level.Wands names x (symbol s.Arrow ∷ y) (begins names level.Ors closed x p h)
  begins names l e xs a (f.update_wand {xs = x} {ys = y} {a = p} h k) = begins_append level.Wands names x (symbol s.UpdateWand ∷ y) (begins names level.Ors closed x p h)
  begins names l e xs a (f.of_star {xs = x} {a = p} h) = begins names level.Stars e x p h
  begins names l e xs a (f.disjunction {xs = x} {ys = y} {a = p} h k) = begins_append level.Ors names x (symbol s.Or ∷ y) (begins names level.Stars closed x p h)
  begins names l e xs a (f.of_prefix {xs = x} {a = p} h) = begins names level.Prefixes e x p h
  begins names l e xs a (f.conjunction {xs = x} {ys = y} {a = p} h k) = begins_append level.Stars names x (symbol s.And ∷ y) (begins names level.Prefixes closed x p h)
  begins names l e xs a (f.star {xs = x} {ys = y} {a = p} h k) = begins_append level.Stars names x (symbol s.Star ∷ y) (begins names level.Prefixes closed x p h)
  begins names l e xs a (f.asterisk {xs = x} {ys = y} {a = p} h k) = begins_append level.Stars names x (symbol s.Asterisk ∷ y) (begins names level.Prefixes closed x p h)
  begins names l e xs a (f.call {x = x} known h arity) = λ o rest. (o 0, rw known refl)
  begins names l e xs a (f.whole {xs = x} {ys = y} {l = p} h k) = begins_points_to names x y p h
  begins names l e xs a (f.part {xs = x} {ys = y} {l = p} {n = n} {d = d} h small tiny good k) = begins_points_to names x (symbol s.OpenBrace ∷ number n ∷ symbol s.Slash ∷ number d ∷ symbol s.CloseBrace ∷ y) p h
  begins names l e xs a (f.later h) = λ o rest. (o 0, refl)
  begins names l e xs a (f.persistently h) = λ o rest. (o 0, refl)
  begins names l e xs a (f.universal h) = λ o rest. (o 0, refl)
  begins names l e xs a (f.existential h) = λ o rest. (o 0, refl)
  begins names l e xs a (f.further h) = λ o rest. (o 0, refl)
  begins names l e xs a (f.bound h) = λ o rest. (o 0, refl)
  begins names l e xs a (f.update h) = λ o rest. (o 0, refl)
  begins names l e xs a (f.group h) = λ o rest. (o 0, refl)
  begins names l e xs a (f.fact h) = λ o rest. (o 0, refl)
  begins names l e xs a f.unit = λ o rest. (o 0, refl)
  begins names l e xs a f.truth = λ o rest. (o 0, refl)
  begins names l e xs a f.falsehood = λ o rest. (o 0, refl)

  -- ---- one level

  pub At : Names → Level → End → List Token → Formula → Type 0
  At names l e xs a = (room : ℕ) (o : ℕ → ℕ) (rest : List Place) → FormulaEnds (reach e l) rest
      → Again (suc room ≤ openings xs) (formula_at stop preds (formula_in stop preds room) room names l (put o xs ++ rest)) (a, rest)

  pub Reads : Names → Level → End → List Token → Formula → Type 0
  Reads names l e xs a = (room : ℕ) (o : ℕ → ℕ) (rest : List Place) → FormulaEnds (reach e l) rest → Again (room ≤ openings xs) (formula_in stop preds room l names (put o xs ++ rest)) (a, rest)

  reads : (names : Names) (l : Level) (e : End) (xs : List Token) (a : Formula) → IsFormula preds names l e xs a → At names l e xs a → Reads names l e xs a
  unfolding At Reads formula_in
  reads names l e xs a is h zero o rest ends = let b = begins names l e xs a is o rest in inr ((b.0, ap Err b.1), omega arith)
  reads names l e xs a is h (suc room) o rest ends = h room o rest ends

  -- the level is the tighter one, and an infix behind it
  abbrev Splits : Level → Level → Type 0
  Splits l tighter = (self : Formulas) (room : ℕ) (names : Names) (ts : List Place) → formula_at stop preds self room names l ts ≡ (formula_at stop preds self room names tighter ts >>= λ a. infix_at stop preds self room names l a.0 a.1)

  of_tighter : (l tighter : Level) (names : Names) (e : End) (xs : List Token) (a : Formula) → Splits l tighter → ((rest : List Place) → Down e l tighter rest) → At names tighter e xs a → At names l e xs a
  unfolding At Down infix_at infix_then
  of_tighter l tighter names e xs a split down h room o rest ends =
      let here = down rest ends in
      let self : Formulas = formula_in stop preds room in
      rw (split self room names (put o xs ++ rest))
      (then_ok (formula_at stop preds self room names tighter (put o xs ++ rest)) (λ a. infix_at stop preds self room names l a.0 a.1) (a, rest) (a, rest) (h room o rest here.1) (λ n. n) (rw here.0 refl))

  of_infix : (l tighter : Level) (r : Symbol) (i : Infix) (names : Names) (e : End) (xs ys : List Token) (a b : Formula) → Splits l tighter
      → ((at : ℕ) (ts : List Place) → (next_infix l (place (symbol r) at ∷ ts) ≡ Some i) × FormulaEnds tighter (place (symbol r) at ∷ ts))
      → At names tighter closed xs a
      → ((room : ℕ) (o : ℕ → ℕ) (rest : List Place) → FormulaEnds (reach e l) rest → Again (suc room ≤ openings (symbol r ∷ ys)) (formula_in stop preds room (right_of i) names (put o ys ++ rest)) (b, rest))
      → At names l e (xs ++ symbol r ∷ ys) (joined i a b)
  unfolding At infix_at infix_then
  of_infix l tighter r i names e xs ys a b split seen h k room o rest ends =
      let at = skip xs o 0 in
      let o₂ : ℕ → ℕ = λ n. skip xs o (suc n) in
      let tail : List Place = put o₂ ys ++ rest in
      let here = seen at tail in
      let self : Formulas = formula_in stop preds room in
      let behind_it : Again (suc room ≤ openings (symbol r ∷ ys)) (infix_at stop preds self room names l a (place (symbol r) at ∷ tail)) (joined i a b, rest) =
      rw here.0 (made_again (joined i a) (self (right_of i) names tail) b rest (λ n. n) (k room o₂ rest ends)) in
      rw (put-append o xs (symbol r ∷ ys) rest, split self room names (put o xs ++ (place (symbol r) at ∷ tail)))
      (then_again (formula_at stop preds self room names tighter (put o xs ++ (place (symbol r) at ∷ tail))) (λ a. infix_at stop preds self room names l a.0 a.1) (a, place (symbol r) at ∷ tail) (joined i a b, rest)
      (h room o (place (symbol r) at ∷ tail) here.1) (in_left (suc room) xs (symbol r ∷ ys)) behind_it (λ (m : suc room ≤ openings (symbol r ∷ ys)). go m))
    where
      go : suc room ≤ openings (symbol r ∷ ys) → suc room ≤ openings (xs ++ symbol r ∷ ys)
      go m = omega (arith, m, openings-append xs (symbol r ∷ ys))

  right : (r : Symbol) (names : Names) (l : Level) (e : End) (ys : List Token) (b : Formula) → 1 ≤ opens r → Reads names l e ys b
      → (room : ℕ) (o : ℕ → ℕ) (rest : List Place) → FormulaEnds (reach e l) rest → Again (suc room ≤ openings (symbol r ∷ ys)) (formula_in stop preds room l names (put o ys ++ rest)) (b, rest)
  unfolding Reads
  right r names l e ys b one h room o rest ends = along (formula_in stop preds room l names (put o ys ++ rest)) _ (b, rest) refl (λ m. omega (arith, m, one)) (h room o rest ends)

  -- the right side of a wand with an update opens one construct more
  right_update : (names : Names) (e : End) (ys : List Token) (b : Formula) → Begins level.Updates names ys → Reads names level.Wands e ys b
      → (room : ℕ) (o : ℕ → ℕ) (rest : List Place) → FormulaEnds (reach e level.Wands) rest → Again (suc room ≤ openings (symbol s.UpdateWand ∷ ys)) (formula_in stop preds room level.Updates names (put o ys ++ rest)) (b, rest)
  unfolding Reads formula_in formula_at
  right_update names e ys b first h zero o rest ends = let d = first o rest in inr ((d.0, ap Err d.1), omega arith)
  right_update names e ys b first h (suc room) o rest ends = along (formula_in stop preds room level.Wands names (put o ys ++ rest)) _ (b, rest) refl (λ m. omega (arith, m)) (h room o rest ends)

  -- a prefix of one sign
  of_prefix : (r : Symbol) (wrap : Formula → Formula) (inner : Level) (outer e : End) (names : Names) (xs : List Token) (a : Formula) → 1 ≤ opens r
      → ((self : Formulas) (room at : ℕ) (ts : List Place) → prefix_at stop preds self room names (place (symbol r) at ∷ ts) ≡ made wrap (self inner names ts))
      → ((rest : List Place) → FormulaEnds (reach outer level.Prefixes) rest → FormulaEnds (reach e inner) rest)
      → Reads names inner e xs a → At names level.Prefixes outer (symbol r ∷ xs) (wrap a)
  unfolding At Reads formula_at
  of_prefix r wrap inner outer e names xs a one step fits h room o rest ends =
      let o₁ : ℕ → ℕ = λ n. o (suc n) in
      rw (step (formula_in stop preds room) room (o 0) (put o₁ xs ++ rest))
      (made_again wrap (formula_in stop preds room inner names (put o₁ xs ++ rest)) a rest (λ m. omega (arith, m, one)) (h room o₁ rest (fits rest ends)))

  of_quantifier : (r : Symbol) (b : Binder) (names : Names) (xs : List Token) (a : Formula) → 1 ≤ opens r
      → ((self : Formulas) (room at : ℕ) (ts : List Place) → prefix_at stop preds self room names (place (symbol r) at ∷ ts) ≡ self (level.Names b) names ts)
      → Reads names (level.Names b) body xs a → At names level.Prefixes body (symbol r ∷ xs) a
  unfolding At Reads formula_at
  of_quantifier r b names xs a one step h room o rest ends =
      let o₁ : ℕ → ℕ = λ n. o (suc n) in
      along (formula_in stop preds room (level.Names b) names (put o₁ xs ++ rest)) _ (a, rest) (step (formula_in stop preds room) room (o 0) (put o₁ xs ++ rest)) (λ m. omega (arith, m, one)) (h room o₁ rest ends)

  -- a location before the sign of a points-to is no formula in parentheses
  leads : (self : Formulas) (room : ℕ) (names : Names) (xs : List Token) (l : Term) → IsTerm names operand xs l → (o : ℕ → ℕ) (at : ℕ) (ts : List Place)
      → prefix_at stop preds self room names (put o xs ++ (place (symbol s.PointsTo) at ∷ ts)) ≡ points_to_at stop preds self room names (put o xs ++ (place (symbol s.PointsTo) at ∷ ts))
  unfolding prefix_at begins_location sees same_symbol
  leads self room names xs l (g.variable h) o at ts = refl
  leads self room names xs l (g.literal (g.positive lt)) o at ts = refl
  leads self room names xs l (g.literal (g.negative le)) o at ts = refl
  leads self room names xs l (g.group {xs = y} {a = a} h) o at ts = rw (balanced.at_group y (balanced.terms names sum y a h) (λ n. o (suc n)) (place (symbol s.PointsTo) at ∷ ts)) refl

  of_points_to : (names : Names) (xs zs : List Token) (l : Term) (a : Formula) → IsTerm names operand xs l → IsValue names zs l a → At names level.Prefixes closed (xs ++ symbol s.PointsTo ∷ zs) a
  unfolding At IsValue formula_at points_to_at expect sees same_symbol
  of_points_to names xs zs l a h value room o rest ends =
      let self : Formulas = formula_in stop preds room in
      let at = skip xs o 0 in
      let o₂ : ℕ → ℕ = λ n. skip xs o (suc n) in
      let tail : List Place = put o₂ zs ++ rest in
      rw (put-append o xs (symbol s.PointsTo ∷ zs) rest, leads self room names xs l h o at tail)
      (then_again (operand_in stop names (suc room) (put o xs ++ (place (symbol s.PointsTo) at ∷ tail))) (λ loc. expect s.PointsTo stop loc.1 >>= λ rest. value_in stop preds names room loc.0 rest) (l, place (symbol s.PointsTo) at ∷ tail) (a, rest)
      (terms.operand_read stop names xs l h (suc room) o (place (symbol s.PointsTo) at ∷ tail)) (in_left (suc room) xs (symbol s.PointsTo ∷ zs)) (value room o₂ rest) (in_right room xs (symbol s.PointsTo) zs (omega arith)))

  of_call : (names : Names) (x : List ℕ) (c : Callable) (xs : List Token) (ts : List Term) → callable_of preds x ≡ Some c → AreArguments names xs ts → length ts ≡ c.arity
      → At names level.Prefixes closed (name x ∷ symbol s.Open ∷ (xs ++ symbol s.Close ∷ [])) (Call c.index ts)
  unfolding At formula_at prefix_at call_at callable_at sees same_symbol
  of_call names x c xs ts known h arity room o rest ends =
      let o₂ : ℕ → ℕ = λ n. o (suc (suc n)) in
      rw (known, put-append o₂ xs (symbol s.Close ∷ []) rest)
      (along (call_in stop preds names room c (put o₂ xs ++ (place (symbol s.Close) (skip xs o₂ 0) ∷ rest))) _ (Call c.index ts, rest) refl (λ (m : room ≤ openings xs). omega (arith, m, openings-append xs (symbol s.Close ∷ []))) (call_read names c xs ts h arity room o₂ (skip xs o₂ 0) rest))

  closes : (e : End) (at : ℕ) (rest : List Place) → (sees s.Close (place (symbol s.Close) at ∷ rest) ≡ true) × FormulaEnds (reach e level.Wands) (place (symbol s.Close) at ∷ rest)
  unfolding sees same_symbol infix_of
  closes e at rest = (refl, wide e (place (symbol s.Close) at ∷ rest) (record { no_location = refl; no_infix = (refl, refl, refl) }))

  of_group : (names : Names) (e : End) (xs : List Token) (a : Formula) → Balanced xs → Reads names level.Wands e xs a → At names level.Prefixes closed (symbol s.Open ∷ (xs ++ symbol s.Close ∷ [])) a
  unfolding At Reads formula_at prefix_at begins_location
  of_group names e xs a even h room o rest ends =
      let o₁ : ℕ → ℕ = λ n. o (suc n) in
      let here = closes e (skip xs o₁ 0) rest in
      let all : List Place = put o₁ (xs ++ symbol s.Close ∷ []) ++ rest in
      let read : Again (room ≤ openings xs) (formula_in stop preds room level.Wands names all) (a, place (symbol s.Close) (skip xs o₁ 0) ∷ rest) = rw (put-append o₁ xs (symbol s.Close ∷ []) rest) (h room o₁ (place (symbol s.Close) (skip xs o₁ 0) ∷ rest) here.1) in
      rw (balanced.at_group xs even o₁ rest, ends.no_location)
      (closed_again s.Close stop (formula_in stop preds room level.Wands names all) a (skip xs o₁ 0) rest here.0 (λ (m : room ≤ openings xs). omega (arith, m, openings-append xs (symbol s.Close ∷ []))) read)

  of_fact : (names : Names) (xs : List Token) (q : Pure) → IsPure names pure_level.Ors xs q → At names level.Prefixes closed (symbol s.OpenPure ∷ (xs ++ symbol s.ClosePure ∷ [])) (Fact q)
  unfolding At formula_at prefix_at sees same_symbol next_comparison comparison_of
  of_fact names xs q h room o rest ends =
      let o₁ : ℕ → ℕ = λ n. o (suc n) in
      let close : List Place = place (symbol s.ClosePure) (skip xs o₁ 0) ∷ rest in
      let read = pures.pure_read stop names pure_level.Ors xs q h (suc room) o₁ close (record { no_term = record { no_plus = refl; no_minus = refl; no_times = refl }; no_comparison = refl; no_infix = (refl, refl) }) in
      rw (put-append o₁ xs (symbol s.ClosePure ∷ []) rest)
      (closed_again s.ClosePure stop (made Fact (pure_in stop names (suc room) pure_level.Ors (put o₁ xs ++ close))) (Fact q) (skip xs o₁ 0) rest refl (λ (m : suc room ≤ openings xs). omega (arith, m, openings-append xs (symbol s.ClosePure ∷ [])))
      (made_again Fact (pure_in stop names (suc room) pure_level.Ors (put o₁ xs ++ close)) q close (λ (m : suc room ≤ openings xs). m) read))

  -- ---- quantifiers

  behind_further : (self : Formulas) (room : ℕ) (names : Names) (b : Binder) (ts : List Place) → (at : ℕ) × (deep_binder stop preds ts ≡ Deep at) → behind_name stop preds self room names b ts ≡ self (level.Names b) names ts
  unfolding behind_name deep_binder
  behind_further self room names b [] h = let e = h.1 in absurd cc
  behind_further self room names b (place (name x) at ∷ ts) h = refl
  behind_further self room names b (place (number n) at ∷ ts) h = let e = h.1 in absurd cc
  behind_further self room names b (place (symbol r) at ∷ ts) h = let e = h.1 in absurd cc

  of_further : (names : Names) (b : Binder) (x : List ℕ) (xs : List Token) (a : Formula) → Begins (level.Names b) (x ∷ names) xs → Reads (x ∷ names) (level.Names b) body xs a
      → At names (level.Names b) body (name x ∷ xs) (quantified b a)
  unfolding At Reads formula_at names_at deep_formula
  of_further names b x xs a first h room o rest ends =
      let o₁ : ℕ → ℕ = λ n. o (suc n) in
      let tail : List Place = put o₁ xs ++ rest in
      let self : Formulas = formula_in stop preds room in
      rw (behind_further self room (x ∷ names) b tail (first o₁ rest))
      (made_again (quantified b) (self (level.Names b) (x ∷ names) tail) a rest (λ (m : room ≤ openings xs). omega (arith, m)) (h room o₁ rest ends))

  of_bound : (names : Names) (b : Binder) (e : End) (x : List ℕ) (xs : List Token) (a : Formula) → At (x ∷ names) level.Wands e xs a → At names (level.Names b) body (name x ∷ symbol s.Comma ∷ xs) (quantified b a)
  unfolding At formula_at names_at behind_name
  of_bound names b e x xs a h room o rest ends =
      let o₂ : ℕ → ℕ = λ n. o (suc (suc n)) in
      made_again (quantified b) (wands_at stop preds (formula_in stop preds room) room (x ∷ names) (put o₂ xs ++ rest)) a rest (λ (m : suc room ≤ openings xs). omega (arith, m)) (h room o₂ rest (wide e rest ends))

  pub complete : (names : Names) (l : Level) (e : End) (xs : List Token) (a : Formula) → IsFormula preds names l e xs a → At names l e xs a
  unfolding At formula_at stars_at ors_at wands_at prefix_at joined infix_of sees same_symbol deep_formula
  complete names l e xs a (f.of_or {xs = x} {a = p} h) = of_tighter level.Wands level.Ors names e x p (λ self room names ts. refl) (down_wands e) (complete names level.Ors e x p h)
  complete names l e xs a (f.wand {xs = x} {ys = y} {a = p} {b = q} h k) =
      of_infix level.Wands level.Ors s.Wand infixes.Wand names e x y p q (λ self room names ts. refl) (λ at ts. (refl, record { no_location = refl; no_infix = (refl, refl) })) (complete names level.Ors closed x p h) (right s.Wand names level.Wands e y q (omega arith) (reads names level.Wands e y q k (complete names level.Wands e y q k)))
  complete names l e xs a (f.implication {xs = x} {ys = y} {a = p} {b = q} h k) =
      of_infix level.Wands level.Ors s.Arrow infixes.Implies names e x y p q (λ self room names ts. refl) (λ at ts. (refl, record { no_location = refl; no_infix = (refl, refl) })) (complete names level.Ors closed x p h) (right s.Arrow names level.Wands e y q (omega arith) (reads names level.Wands e y q k (complete names level.Wands e y q k)))
  complete names l e xs a (f.update_wand {xs = x} {ys = y} {a = p} {b = q} h k) =
      of_infix level.Wands level.Ors s.UpdateWand infixes.UpdateWand names e x y p q (λ self room names ts. refl) (λ at ts. (refl, record { no_location = refl; no_infix = (refl, refl) })) (complete names level.Ors closed x p h) (right_update names e y q (begins names level.Wands e y q k) (reads names level.Wands e y q k (complete names level.Wands e y q k)))
  complete names l e xs a (f.of_star {xs = x} {a = p} h) = of_tighter level.Ors level.Stars names e x p (λ self room names ts. refl) (down_ors e) (complete names level.Stars e x p h)
  complete names l e xs a (f.disjunction {xs = x} {ys = y} {a = p} {b = q} h k) =
      of_infix level.Ors level.Stars s.Or infixes.Or names e x y p q (λ self room names ts. refl) (λ at ts. (refl, record { no_location = refl; no_infix = refl })) (complete names level.Stars closed x p h) (right s.Or names level.Ors e y q (omega arith) (reads names level.Ors e y q k (complete names level.Ors e y q k)))
  complete names l e xs a (f.of_prefix {xs = x} {a = p} h) = of_tighter level.Stars level.Prefixes names e x p (λ self room names ts. refl) (down_stars e) (complete names level.Prefixes e x p h)
  complete names l e xs a (f.conjunction {xs = x} {ys = y} {a = p} {b = q} h k) =
      of_infix level.Stars level.Prefixes s.And infixes.And names e x y p q (λ self room names ts. refl) (λ at ts. (refl, record { no_location = refl; no_infix = tt })) (complete names level.Prefixes closed x p h) (right s.And names level.Stars e y q (omega arith) (reads names level.Stars e y q k (complete names level.Stars e y q k)))
  complete names l e xs a (f.star {xs = x} {ys = y} {a = p} {b = q} h k) =
      of_infix level.Stars level.Prefixes s.Star infixes.Star names e x y p q (λ self room names ts. refl) (λ at ts. (refl, record { no_location = refl; no_infix = tt })) (complete names level.Prefixes closed x p h) (right s.Star names level.Stars e y q (omega arith) (reads names level.Stars e y q k (complete names level.Stars e y q k)))
  complete names l e xs a (f.asterisk {xs = x} {ys = y} {a = p} {b = q} h k) =
      of_infix level.Stars level.Prefixes s.Asterisk infixes.Star names e x y p q (λ self room names ts. refl) (λ at ts. (refl, record { no_location = refl; no_infix = tt })) (complete names level.Prefixes closed x p h) (right s.Asterisk names level.Stars e y q (omega arith) (reads names level.Stars e y q k (complete names level.Stars e y q k)))
  complete names l e xs a (f.later {xs = x} {a = p} h) = of_prefix s.Later formula.Later level.Prefixes e e names x p (omega arith) (λ self room at ts. refl) (λ rest ends. ends) (reads names level.Prefixes e x p h (complete names level.Prefixes e x p h))
  complete names l e xs a (f.persistently {xs = x} {a = p} h) = of_prefix s.Persistently formula.Pers level.Prefixes e e names x p (omega arith) (λ self room at ts. refl) (λ rest ends. ends) (reads names level.Prefixes e x p h (complete names level.Prefixes e x p h))
  complete names l e xs a (f.universal {xs = x} {a = p} h) = of_quantifier s.Forall binder.All names x p (omega arith) (λ self room at ts. refl) (reads names (level.Names binder.All) body x p h (complete names (level.Names binder.All) body x p h))
  complete names l e xs a (f.existential {xs = x} {a = p} h) = of_quantifier s.Exists binder.Ex names x p (omega arith) (λ self room at ts. refl) (reads names (level.Names binder.Ex) body x p h (complete names (level.Names binder.Ex) body x p h))
  complete names l e xs a (f.further {b = b} {x = y} {xs = x} {a = p} h) = of_further names b y x p (begins (y ∷ names) (level.Names b) body x p h) (reads (y ∷ names) (level.Names b) body x p h (complete (y ∷ names) (level.Names b) body x p h))
  complete names l e xs a (f.bound {b = b} {e = d} {x = y} {xs = x} {a = p} h) = of_bound names b d y x p (complete (y ∷ names) level.Wands d x p h)
  complete names l e xs a (f.update {e = d} {xs = x} {a = p} h) = of_prefix s.Update formula.Upd level.Wands body d names x p (omega arith) (λ self room at ts. refl) (wide d) (reads names level.Wands d x p h (complete names level.Wands d x p h))
  complete names l e xs a (f.group {e = d} {xs = x} {a = p} h) = of_group names d x p (balanced.formulas preds names level.Wands d x p h) (reads names level.Wands d x p h (complete names level.Wands d x p h))
  complete names l e xs a (f.fact {xs = x} {p = p} h) = of_fact names x p h
  complete names l e xs a f.unit = λ room o rest ends. inl refl
  complete names l e xs a f.truth = λ room o rest ends. inl refl
  complete names l e xs a f.falsehood = λ room o rest ends. inl refl
  complete names l e xs a (f.call {x = x} {p = c} {xs = y} {ts = ts} known h arity) = of_call names x c y ts known h arity
  complete names l e xs a (f.whole {xs = x} {ys = y} {l = p} {v = v} h k) = of_points_to names x y p _ h (whole_read names y p v k)
  complete names l e xs a (f.part {xs = x} {ys = y} {l = p} {v = v} {n = n} {d = d} h small tiny good k) = of_points_to names x _ p _ h (part_read names y p v n d small tiny good k)

  pub formula_read : (names : Names) (l : Level) (e : End) (xs : List Token) (a : Formula) → IsFormula preds names l e xs a → (room : ℕ) (o : ℕ → ℕ) (rest : List Place) → FormulaEnds (reach e l) rest
      → Again (room ≤ openings xs) (formula_in stop preds room l names (put o xs ++ rest)) (a, rest)
  unfolding Reads
  formula_read names l e xs a is = reads names l e xs a is (complete names l e xs a is)
