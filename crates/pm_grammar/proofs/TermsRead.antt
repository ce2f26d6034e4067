-- Terms that the grammar derives are read, unless they are too deep.
use Rattle.std.proofs.Common.{◌≡◌, ◌⊎◌, inl, inr, ℕ, zero, suc, ◌+◌, ℤ, ◌≤◌, ◌^◌, false, lt-ltb, le-leb, List, [], ◌∷◌, ◌++◌, Ok, Err, refl, ap, ◌∙◌, arith}
use Rattle.pm_logic.specs.declared.formula.Term.{Term}
use Rattle.pm_logic.specs.declared.formula.Term.TheVariants.{Lit}
use Rattle.pm_logic.specs.declared.formula.Term.TheViews as term
use Rattle.pm_tokens.specs.declared.symbol.Symbol.{Symbol}
use Rattle.pm_tokens.specs.declared.symbol.Symbol.TheVariants as s
use Rattle.pm_tokens.specs.Tokens.{Token, name, number, symbol, Place, place}
use Rattle.pm_terms.specs.declared.fault.TextFault.TheVariants.{Deep}
use Rattle.pm_terms.specs.declared.level.Sign.{Sign}
use Rattle.pm_terms.specs.declared.level.Sign.TheVariants as sign
use Rattle.pm_terms.specs.declared.level.Before.{Before}
use Rattle.pm_terms.specs.declared.level.Before.TheVariants as before
use Rattle.pm_terms.specs.Scope.{Names}
use Rattle.pm_terms.specs.Steps.{Read, same_symbol, sees, sees_number, expect, closed_by, digits, literal}
use Rattle.pm_terms.specs.TermReading.{signed, added, begins_literal, begins_scale, begins_negation, variable_at, deep_term, operand_at, sum_at, term_at, term_in, operand_in, sum_in}
use Rattle.pm_grammar.specs.TermGrammar as g
use Rattle.pm_grammar.specs.TermGrammar.{IsLiteral, IsTerm, Sort, sum, product, operand, begins_with_number}
use Rattle.pm_grammar.specs.ReadingLaws.{IsDeep}
use Rattle.pm_grammar.specs.Openings.{opens, openings}
use Rattle.pm_grammar.specs.Parts.{TermEnds}
use Rattle.pm_grammar.proofs.Steps.{put, skip, put-append, openings-append, Again}

pub signed-push : (signs : List Sign) (g : Sign) (a : Term) → signed (signs ++ g ∷ []) a ≡ signed signs (signed (g ∷ []) a)
unfolding signed
signed-push [] g a = refl
signed-push (sign.Times z ∷ signs) g a = ap (term.Scale z) (signed-push signs g a)
signed-push (sign.Minus ∷ signs) g a = ap term.Neg (signed-push signs g a)

module _ (stop : ℕ) (names : Names) where
  pub literal_read : (xs : List Token) (z : ℤ) → IsLiteral xs z → (o : ℕ → ℕ) (rest : List Place) → literal stop (put o xs ++ rest) ≡ Ok (z, rest)
  unfolding literal digits sees same_symbol
  literal_read xs z (g.positive {n = n} lt) o rest = rw (lt-ltb n (2 ^ 63) lt) refl
  literal_read xs z (g.negative {n = n} le) o rest = rw (le-leb n (2 ^ 63) le) refl

  -- ---- the first token begins a term

  abbrev pub Begins : List Token → Type 0
  Begins xs = (o : ℕ → ℕ) (rest : List Place) → (at : ℕ) × (deep_term stop names (put o xs ++ rest) ≡ Deep at)

  begins_append : (xs ys : List Token) → Begins xs → Begins (xs ++ ys)
  begins_append xs ys h o rest = rw (put-append o xs ys rest) (h o (put (skip xs o) ys ++ rest))

  begins_literal_token : (xs : List Token) (z : ℤ) → IsLiteral xs z → Begins xs
  unfolding deep_term
  begins_literal_token xs z (g.positive {n = n} lt) o rest = (o 0, rw (lt-ltb n (2 ^ 63) lt) refl)
  begins_literal_token xs z (g.negative le) o rest = (o 0, refl)

  pub begins : (sort : Sort) (xs : List Token) (a : Term) → IsTerm names sort xs a → Begins xs
  unfolding deep_term variable_at
  begins sort xs a (g.of_product {xs = l} {a = p} h) = begins product l p h
  begins sort xs a (g.plus {xs = l} {ys = r} {a = p} h k) = begins_append l (symbol s.Plus ∷ r) (begins sum l p h)
  begins sort xs a (g.minus {xs = l} {ys = r} {a = p} h k) = begins_append l (symbol s.Minus ∷ r) (begins sum l p h)
  begins sort xs a (g.scale {xs = l} {ys = r} {z = z} h k) = begins_append l (symbol s.Asterisk ∷ r) (begins_literal_token l z h)
  begins sort xs a (g.negation none h) = λ o rest. (o 0, refl)
  begins sort xs a (g.of_operand {xs = l} {a = p} h) = begins operand l p h
  begins sort xs a (g.variable h) = λ o rest. (o 0, rw h refl)
  begins sort xs a (g.literal {xs = l} {z = z} h) = begins_literal_token l z h
  begins sort xs a (g.group h) = λ o rest. (o 0, refl)

  no_number : (xs : List Token) → Begins xs → begins_with_number xs ≡ false → (o : ℕ → ℕ) (rest : List Place) → sees_number (put o xs ++ rest) ≡ false
  unfolding deep_term sees_number
  no_number [] b none o rest = let deep = b o [] in absurd cc
  no_number (name x ∷ xs) b none o rest = refl
  no_number (number n ∷ xs) b none o rest = absurd cc
  no_number (symbol r ∷ xs) b none o rest = refl

  -- ---- what reading comes to

  -- Sums and products come to their value, and to what is done behind it with the room that is left.
  abbrev Through : Read Term → (room n : ℕ) → Term → List Place → Type 0
  Through read room n a rest = ((left : ℕ) × (read ≡ sum_at stop names (term_in stop names left) a rest) × (room ≤ suc left + n)) ⊎ (IsDeep read × (room ≤ n))

  pub Done : Sort → List Token → Term → Type 0
  Done sum xs a = (room : ℕ) (o : ℕ → ℕ) (rest : List Place) → sees s.Asterisk rest ≡ false → Through (term_in stop names room before.Nothing [] (put o xs ++ rest)) room (openings xs) a rest
  Done product xs a = (room : ℕ) (left : Before) (signs : List Sign) (o : ℕ → ℕ) (rest : List Place) → sees s.Asterisk rest ≡ false
      → Through (term_in stop names room left signs (put o xs ++ rest)) room (openings xs) (added left (signed signs a)) rest
  Done operand xs a = (room : ℕ) (o : ℕ → ℕ) (rest : List Place) → Again (suc room ≤ openings xs) (operand_at stop names (term_in stop names room) (put o xs ++ rest)) (a, rest)

  through_along : (read other : Read Term) (room n room₂ n₂ : ℕ) (a : Term) (rest : List Place) → other ≡ read → n + room₂ ≤ n₂ + room → Through read room n a rest → Through other room₂ n₂ a rest
  through_along read other room n room₂ n₂ a rest e le (inl found) = inl (found.0, e ∙ found.1, omega (arith, le, found.2))
  through_along read other room n room₂ n₂ a rest e le (inr deep) = inr ((deep.0.0, e ∙ deep.0.1), omega (arith, le, deep.1))

  alone : (xs : List Token) (a : Term) → IsTerm names operand xs a → (o : ℕ → ℕ) (rest : List Place) → sees s.Asterisk rest ≡ false
      → (begins_scale (put o xs ++ rest) ≡ false) × (begins_negation (put o xs ++ rest) ≡ false)
  unfolding begins_scale begins_negation begins_literal sees sees_number same_symbol
  alone xs a (g.variable h) o rest free = (refl, refl)
  alone xs a (g.literal (g.positive lt)) o rest free = (free, refl)
  alone xs a (g.literal (g.negative le)) o rest free = (free, refl)
  alone xs a (g.group h) o rest free = (refl, refl)

  of_operand : (xs : List Token) (a : Term) → IsTerm names operand xs a → Done operand xs a → Done product xs a
  unfolding Done term_in term_at
  of_operand xs a is h zero left signs o rest free = let b = begins operand xs a is o rest in inr ((b.0, ap Err b.1), omega arith)
  of_operand xs a is h (suc room) left signs o rest free = go (put o xs ++ rest) (alone xs a is o rest free) (h room o rest)
    where
      go : (us : List Place) → (begins_scale us ≡ false) × (begins_negation us ≡ false) → Again (suc room ≤ openings xs) (operand_at stop names (term_in stop names room) us) (a, rest)
          → Through (term_at stop names (term_in stop names room) left signs us) (suc room) (openings xs) (added left (signed signs a)) rest
      go us none (inl found) = inl (room, rw (none.0, none.1, found) refl, omega arith)
      go us none (inr deep) = inr ((deep.0.0, rw (none.0, none.1, deep.0.1) refl), deep.1)

  of_group : (xs : List Token) (a : Term) → Done sum xs a → Done operand (symbol s.Open ∷ (xs ++ symbol s.Close ∷ [])) a
  unfolding Done operand_at closed_by sum_at expect sees same_symbol
  of_group xs a h room o rest =
      let o₁ : ℕ → ℕ = λ n. o (suc n) in
      go (put-append o₁ xs (symbol s.Close ∷ []) rest) (openings-append xs (symbol s.Close ∷ [])) (h room o₁ (place (symbol s.Close) (skip xs o₁ 0) ∷ rest) refl)
    where
      go : {us vs : List Place} {n at : ℕ} → us ≡ vs → n ≡ openings xs + 0 → Through (term_in stop names room before.Nothing [] vs) room (openings xs) a (place (symbol s.Close) at ∷ rest)
          → Again (suc room ≤ 1 + n) (operand_at stop names (term_in stop names room) (place (symbol s.Open) (o 0) ∷ us)) (a, rest)
      go e m (inl found) = inl (rw (e, found.1) refl)
      go e m (inr deep) = inr ((deep.0.0, rw (e, deep.0.1) refl), omega (arith, m, deep.1))

  -- behind a sign of a product
  of_sign : (g : Sign) (xs ys : List Token) (a : Term) → Begins xs → 1 + openings ys ≤ openings xs
      → ((room : ℕ) (left : Before) (signs : List Sign) (o : ℕ → ℕ) (rest : List Place) → (o₂ : ℕ → ℕ) × (term_at stop names (term_in stop names room) left signs (put o xs ++ rest) ≡ term_in stop names room left (signs ++ g ∷ []) (put o₂ ys ++ rest)))
      → Done product ys a → Done product xs (signed (g ∷ []) a)
  unfolding Done term_in
  of_sign g xs ys a first le step h zero left signs o rest free = let b = first o rest in inr ((b.0, ap Err b.1), omega arith)
  of_sign g xs ys a first le step h (suc room) left signs o rest free =
      let turn = step room left signs o rest in
      let read : Through (term_in stop names room left (signs ++ g ∷ []) (put turn.0 ys ++ rest)) room (openings ys) (added left (signed signs (signed (g ∷ []) a))) rest = rw (← signed-push signs g a) (h room left (signs ++ g ∷ []) turn.0 rest free) in
      through_along _ _ room (openings ys) (suc room) (openings xs) (added left (signed signs (signed (g ∷ []) a))) rest turn.1 (omega (arith, le)) read

  -- a sum behind what stands before its last product
  of_infix : (r : Symbol) (wrap : Term → Before) (xs ys : List Token) (a b : Term) → opens r ≡ 1
      → ((room at : ℕ) (ts : List Place) → (sees s.Asterisk (place (symbol r) at ∷ ts) ≡ false) × (sum_at stop names (term_in stop names room) a (place (symbol r) at ∷ ts) ≡ term_in stop names room (wrap a) [] ts))
      → Done sum xs a → Done product ys b → Done sum (xs ++ symbol r ∷ ys) (added (wrap a) b)
  unfolding Done signed
  of_infix r wrap xs ys a b one step h k room o rest free =
      let at = skip xs o 0 in
      let o₂ : ℕ → ℕ = λ n. skip xs o (suc n) in
      let tail : List Place = put o₂ ys ++ rest in
      rw (put-append o xs (symbol r ∷ ys) rest) (go at tail (openings-append xs (symbol r ∷ ys)) (h room o (place (symbol r) at ∷ tail) (step 0 at tail).0) (λ left. k left (wrap a) [] o₂ rest free))
    where
      go : {read : Read Term} {n : ℕ} (at : ℕ) (ts : List Place) → n ≡ openings xs + (opens r + openings ys) → Through read room (openings xs) a (place (symbol r) at ∷ ts)
          → ((left : ℕ) → Through (term_in stop names left (wrap a) [] ts) left (openings ys) (added (wrap a) b) rest) → Through read room n (added (wrap a) b) rest
      go {read} {n} at ts m (inl found) next = through_along (term_in stop names found.0 (wrap a) [] ts) read found.0 (openings ys) room n (added (wrap a) b) rest (found.1 ∙ (step found.0 at ts).1) (omega (arith, m, one, found.2)) (next found.0)
      go at ts m (inr deep) next = inr (deep.0, omega (arith, m, deep.1))

  scale_step : (xs ys : List Token) (z : ℤ) → IsLiteral xs z → (room : ℕ) (left : Before) (signs : List Sign) (o : ℕ → ℕ) (rest : List Place)
      → (o₂ : ℕ → ℕ) × (term_at stop names (term_in stop names room) left signs (put o (xs ++ symbol s.Asterisk ∷ ys) ++ rest) ≡ term_in stop names room left (signs ++ sign.Times z ∷ []) (put o₂ ys ++ rest))
  unfolding term_at begins_scale begins_literal literal digits sees sees_number same_symbol
  scale_step xs ys z (g.positive {n = n} lt) room left signs o rest = (λ k. o (suc (suc k)), rw (lt-ltb n (2 ^ 63) lt) refl)
  scale_step xs ys z (g.negative {n = n} le) room left signs o rest = (λ k. o (suc (suc (suc k))), rw (le-leb n (2 ^ 63) le) refl)

  negation_step : (xs : List Token) → Begins xs → begins_with_number xs ≡ false → (room : ℕ) (left : Before) (signs : List Sign) (o : ℕ → ℕ) (rest : List Place)
      → (o₂ : ℕ → ℕ) × (term_at stop names (term_in stop names room) left signs (put o (symbol s.Minus ∷ xs) ++ rest) ≡ term_in stop names room left (signs ++ sign.Minus ∷ []) (put o₂ xs ++ rest))
  unfolding term_at begins_scale begins_negation begins_literal sees sees_number same_symbol
  negation_step xs first none room left signs o rest = (λ k. o (suc k), rw (no_number xs first none (λ k. o (suc k)) rest) refl)

  literal_alone : (xs : List Token) (z : ℤ) → IsLiteral xs z → Done operand xs (Lit z)
  unfolding Done operand_at literal digits sees same_symbol
  literal_alone xs z (g.positive {n = n} lt) room o rest = inl (rw (lt-ltb n (2 ^ 63) lt) refl)
  literal_alone xs z (g.negative {n = n} le) room o rest = inl (rw (le-leb n (2 ^ 63) le) refl)

  pub complete : (sort : Sort) (xs : List Token) (a : Term) → IsTerm names sort xs a → Done sort xs a
  unfolding Done operand_at sum_at variable_at signed added sees same_symbol
  complete sort xs a (g.of_product {xs = l} {a = p} h) = λ room o rest free. complete product l p h room before.Nothing [] o rest free
  complete sort xs a (g.plus {xs = l} {ys = r} {a = p} {b = q} h k) = of_infix s.Plus before.Plus l r p q refl (λ room at ts. (refl, refl)) (complete sum l p h) (complete product r q k)
  complete sort xs a (g.minus {xs = l} {ys = r} {a = p} {b = q} h k) = of_infix s.Minus before.Minus l r p q refl (λ room at ts. (refl, refl)) (complete sum l p h) (complete product r q k)
  complete sort xs a (g.scale {xs = l} {ys = r} {z = z} {a = p} h k) =
      of_sign (sign.Times z) (l ++ symbol s.Asterisk ∷ r) r p (begins product _ _ (g.scale h k)) (omega (arith, openings-append l (symbol s.Asterisk ∷ r))) (scale_step l r z h) (complete product r p k)
  complete sort xs a (g.negation {xs = l} {a = p} none h) =
      of_sign sign.Minus (symbol s.Minus ∷ l) l p (λ o rest. begins product _ _ (g.negation none h) o rest) (omega arith) (negation_step l (begins product l p h) none) (complete product l p h)
  complete sort xs a (g.of_operand {xs = l} {a = p} h) = of_operand l p h (complete operand l p h)
  complete sort xs a (g.variable h) = λ room o rest. inl (rw h refl)
  complete sort xs a (g.literal {xs = l} {z = z} h) = literal_alone l z h
  complete sort xs a (g.group {xs = l} {a = p} h) = of_group l p (complete sum l p h)

  pub sum_read : (xs : List Token) (a : Term) → IsTerm names sum xs a → (room : ℕ) (o : ℕ → ℕ) (rest : List Place) → TermEnds rest → Again (room ≤ openings xs) (sum_in stop names room (put o xs ++ rest)) (a, rest)
  unfolding Done sum_in sum_at
  sum_read xs a is room o rest ends = go (complete sum xs a is room o rest ends.no_times)
    where
      go : {read : Read Term} → Through read room (openings xs) a rest → Again (room ≤ openings xs) read (a, rest)
      go (inl found) = inl (found.1 ∙ rw (ends.no_plus, ends.no_minus) refl)
      go (inr deep) = inr deep

  pub operand_read : (xs : List Token) (a : Term) → IsTerm names operand xs a → (room : ℕ) (o : ℕ → ℕ) (rest : List Place) → Again (room ≤ openings xs) (operand_in stop names room (put o xs ++ rest)) (a, rest)
  unfolding Done operand_in
  operand_read xs a is zero o rest = let b = begins operand xs a is o rest in inr ((b.0, ap Err b.1), omega arith)
  operand_read xs a is (suc room) o rest = complete operand xs a is room o rest
