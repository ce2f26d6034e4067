-- Pure formulas that the grammar derives are read, unless they are too deep.
use Rattle.std.proofs.Common.{◌≡◌, inl, inr, ℕ, zero, suc, ◌≤◌, Bool, true, false, ◌||◌, List, [], ◌∷◌, ◌++◌, Some, is_some, Ok, Err, refl, ap, arith}
use Rattle.pm_logic.specs.declared.formula.Term.{Term}
use Rattle.pm_logic.specs.declared.formula.Pure.{Pure}
use Rattle.pm_logic.specs.declared.formula.Pure.TheViews as pure
use Rattle.pm_tokens.specs.declared.symbol.Symbol.{Symbol}
use Rattle.pm_tokens.specs.declared.symbol.Symbol.TheVariants as s
use Rattle.pm_tokens.specs.Tokens.{Token, name, number, symbol, Place, place}
use Rattle.pm_terms.specs.declared.fault.TextFault.TheVariants.{Deep}
use Rattle.pm_terms.specs.declared.level.Comparison.{Comparison}
use Rattle.pm_terms.specs.declared.level.PureLevel.{PureLevel}
use Rattle.pm_terms.specs.declared.level.PureLevel.TheVariants.{Ors, Ands, Literals}
use Rattle.pm_terms.specs.Scope.{Names}
use Rattle.pm_terms.specs.Steps.{◌>>=◌, same_symbol, sees, after_group}
use Rattle.pm_terms.specs.TermReading.{deep_term, sum_in}
use Rattle.pm_terms.specs.PureReading.{comparison_of, compared, next_comparison, begins_comparison, sees_infix, joined, Pures, deep_pure, comparison_sign, comparison_at, literal_at, infix_at, ands_at, ors_at, pure_at, pure_in}
use Rattle.pm_grammar.specs.TermGrammar as g
use Rattle.pm_grammar.specs.TermGrammar.{IsLiteral, IsTerm, Sort, sum}
use Rattle.pm_grammar.specs.PureGrammar as p
use Rattle.pm_grammar.specs.PureGrammar.{IsPure}
use Rattle.pm_grammar.specs.Openings.{opens, openings}
use Rattle.pm_grammar.specs.Parts.{TermEnds, PureEnds}
use Rattle.pm_grammar.proofs.Steps.{put, skip, put-append, openings-append, in_left, in_right, Again, then_again, then_ok, made_again, closed_again}
use Rattle.pm_grammar.proofs.TermsRead as terms
use Rattle.pm_grammar.proofs.Balanced as balanced
use Rattle.pm_grammar.proofs.Balanced.{Balanced}

-- ---- comparisons

comparison_ends : (r : Symbol) (c : Comparison) (at : ℕ) (ts : List Place) → comparison_of r ≡ Some c → TermEnds (place (symbol r) at ∷ ts)
unfolding comparison_of sees same_symbol
comparison_ends s.Plus c at ts e = absurd cc
comparison_ends s.Minus c at ts e = absurd cc
comparison_ends s.Asterisk c at ts e = absurd cc
comparison_ends _ c at ts e = record { no_plus = refl; no_minus = refl; no_times = refl }

comparison_opens : (r : Symbol) (c : Comparison) → comparison_of r ≡ Some c → 1 ≤ opens r
unfolding comparison_of
comparison_opens s.Equals c e = omega arith
comparison_opens s.AtMost c e = omega arith
comparison_opens s.Less c e = omega arith
comparison_opens s.NotEqual c e = omega arith
comparison_opens s.AtLeast c e = omega arith
comparison_opens s.Greater c e = omega arith
comparison_opens _ c e = absurd cc

abbrev goes_on : List Place → Bool
goes_on rest = is_some (next_comparison rest) || sees s.Plus rest || sees s.Minus rest

behind : (ts rest : List Place) (b : Bool) → after_group 0 ts ≡ rest → goes_on rest ≡ b → begins_comparison ts ≡ b
unfolding begins_comparison
behind ts rest b e h = rw e h

module _ (stop : ℕ) (names : Names) where
  -- ---- the first token begins a pure formula

  abbrev Begins : List Token → Type 0
  Begins xs = (o : ℕ → ℕ) (rest : List Place) → (at : ℕ) × (deep_pure stop names (put o xs ++ rest) ≡ Deep at)

  begins_append : (xs ys : List Token) → Begins xs → Begins (xs ++ ys)
  begins_append xs ys h o rest = rw (put-append o xs ys rest) (h o (put (skip xs o) ys ++ rest))

  begins_term : (ts : List Place) → (at : ℕ) × (deep_term stop names ts ≡ Deep at) → (at : ℕ) × (deep_pure stop names ts ≡ Deep at)
  unfolding deep_pure
  begins_term [] h = h
  begins_term (place (name x) at ∷ ts) h = h
  begins_term (place (number n) at ∷ ts) h = h
  begins_term (place (symbol s.Not) at ∷ ts) h = (at, refl)
  begins_term (place (symbol s.True) at ∷ ts) h = (at, refl)
  begins_term (place (symbol s.False) at ∷ ts) h = (at, refl)
  begins_term (place (symbol _) at ∷ ts) h = h

  begins : (level : PureLevel) (xs : List Token) (q : Pure) → IsPure names level xs q → Begins xs
  unfolding deep_pure deep_term
  begins level xs q (p.of_ands {xs = l} {p = a} h) = begins Ands l a h
  begins level xs q (p.disjunction {xs = l} {ys = r} {p = a} h k) = begins_append l (symbol s.Or ∷ r) (begins Ands l a h)
  begins level xs q (p.of_literal {xs = l} {p = a} h) = begins Literals l a h
  begins level xs q (p.conjunction {xs = l} {ys = r} {p = a} h k) = begins_append l (symbol s.And ∷ r) (begins Literals l a h)
  begins level xs q (p.negation h) = λ o rest. (o 0, refl)
  begins level xs q p.truth = λ o rest. (o 0, refl)
  begins level xs q p.falsehood = λ o rest. (o 0, refl)
  begins level xs q (p.group h) = λ o rest. (o 0, refl)
  begins level xs q (p.comparison {xs = l} {ys = r} {a = a} c h is k) = begins_append l (symbol c ∷ r) (λ o rest. begins_term (put o l ++ rest) (terms.begins stop names sum l a h o rest))

  -- ---- one level

  pub At : PureLevel → List Token → Pure → Type 0
  At level xs a = (room : ℕ) (o : ℕ → ℕ) (rest : List Place) → PureEnds level rest → Again (suc room ≤ openings xs) (pure_at stop names (pure_in stop names room) room level (put o xs ++ rest)) (a, rest)

  reads : (level : PureLevel) (xs : List Token) (a : Pure) → Begins xs → At level xs a
      → (room : ℕ) (o : ℕ → ℕ) (rest : List Place) → PureEnds level rest → Again (room ≤ openings xs) (pure_in stop names room level (put o xs ++ rest)) (a, rest)
  unfolding At pure_in
  reads level xs a first h zero o rest ends = let b = first o rest in inr ((b.0, ap Err b.1), omega arith)
  reads level xs a first h (suc room) o rest ends = h room o rest ends

  -- the level is the tighter one, and an infix behind it
  abbrev Splits : PureLevel → PureLevel → Type 0
  Splits level tighter = (self : Pures) (room : ℕ) (ts : List Place) → pure_at stop names self room level ts ≡ (pure_at stop names self room tighter ts >>= λ a. infix_at stop names self room level a.0 a.1)

  of_tighter : (level tighter : PureLevel) (xs : List Token) (a : Pure) → Splits level tighter
      → ((rest : List Place) → PureEnds level rest → (sees_infix level rest ≡ false) × PureEnds tighter rest) → At tighter xs a → At level xs a
  unfolding At infix_at
  of_tighter level tighter xs a split down h room o rest ends =
      let here = down rest ends in
      rw (split (pure_in stop names room) room (put o xs ++ rest))
      (then_ok (pure_at stop names (pure_in stop names room) room tighter (put o xs ++ rest)) (λ a. infix_at stop names (pure_in stop names room) room level a.0 a.1) (a, rest) (a, rest) (h room o rest here.1) (λ n. n) (rw here.0 refl))

  of_infix : (level tighter : PureLevel) (r : Symbol) (xs ys : List Token) (a b : Pure) → Splits level tighter → 1 ≤ opens r
      → ((at : ℕ) (ts : List Place) → (sees_infix level (place (symbol r) at ∷ ts) ≡ true) × PureEnds tighter (place (symbol r) at ∷ ts))
      → At tighter xs a → Begins ys → At level ys b → At level (xs ++ symbol r ∷ ys) (joined level a b)
  unfolding At infix_at
  of_infix level tighter r xs ys a b split one seen h first k room o rest ends =
      let at = skip xs o 0 in
      let o₂ : ℕ → ℕ = λ n. skip xs o (suc n) in
      let tail : List Place = put o₂ ys ++ rest in
      let here = seen at tail in
      let self : Pures = pure_in stop names room in
      let behind_it : Again (room ≤ openings ys) (infix_at stop names self room level a (place (symbol r) at ∷ tail)) (joined level a b, rest) =
      rw here.0 (made_again (joined level a) (self level tail) b rest (λ n. n) (reads level ys b first k room o₂ rest ends)) in
      rw (put-append o xs (symbol r ∷ ys) rest, split self room (put o xs ++ (place (symbol r) at ∷ tail)))
      (then_again (pure_at stop names self room tighter (put o xs ++ (place (symbol r) at ∷ tail))) (λ a. infix_at stop names self room level a.0 a.1) (a, place (symbol r) at ∷ tail) (joined level a b, rest)
      (h room o (place (symbol r) at ∷ tail) here.1) (in_left (suc room) xs (symbol r ∷ ys)) behind_it (in_right room xs (symbol r) ys one))

  -- a term before what a comparison goes on with is no group
  leads : (self : Pures) (room : ℕ) (sort : Sort) (xs : List Token) (a : Term) → IsTerm names sort xs a → (o : ℕ → ℕ) (rest : List Place) → goes_on rest ≡ true
      → literal_at stop names self room (put o xs ++ rest) ≡ comparison_at stop names self room (put o xs ++ rest)
  unfolding literal_at next_comparison comparison_of sees same_symbol
  leads self room sort xs a (g.of_product {xs = l} {a = t} h) o rest on = leads self room g.product l t h o rest on
  leads self room sort xs a (g.plus {xs = l} {ys = r} {a = t} h k) o rest on = rw (put-append o l (symbol s.Plus ∷ r) rest) (leads self room sum l t h o (place (symbol s.Plus) (skip l o 0) ∷ (put (λ n. skip l o (suc n)) r ++ rest)) refl)
  leads self room sort xs a (g.minus {xs = l} {ys = r} {a = t} h k) o rest on = rw (put-append o l (symbol s.Minus ∷ r) rest) (leads self room sum l t h o (place (symbol s.Minus) (skip l o 0) ∷ (put (λ n. skip l o (suc n)) r ++ rest)) refl)
  leads self room sort xs a (g.scale (g.positive lt) k) o rest on = refl
  leads self room sort xs a (g.scale (g.negative le) k) o rest on = refl
  leads self room sort xs a (g.negation none h) o rest on = refl
  leads self room sort xs a (g.of_operand {xs = l} {a = t} h) o rest on = leads self room g.operand l t h o rest on
  leads self room sort xs a (g.variable h) o rest on = refl
  leads self room sort xs a (g.literal (g.positive lt)) o rest on = refl
  leads self room sort xs a (g.literal (g.negative le)) o rest on = refl
  leads self room sort xs a (g.group {xs = l} {a = t} h) o rest on = rw (behind (put (λ n. o (suc n)) (l ++ symbol s.Close ∷ []) ++ rest) rest true (balanced.at_group l (balanced.terms names sum l t h) (λ n. o (suc n)) rest) on) refl

  sign_read : (r : Symbol) (c : Comparison) (at : ℕ) (ts : List Place) → comparison_of r ≡ Some c → comparison_sign stop names (place (symbol r) at ∷ ts) ≡ Ok (c, ts)
  unfolding comparison_sign next_comparison
  sign_read r c at ts is = rw is refl

  comparison_on : (r : Symbol) (c : Comparison) (at : ℕ) (ts : List Place) → comparison_of r ≡ Some c → goes_on (place (symbol r) at ∷ ts) ≡ true
  unfolding next_comparison
  comparison_on r c at ts is = rw is refl

  of_comparison : (r : Symbol) (c : Comparison) (xs ys : List Token) (a b : Term) → IsTerm names sum xs a → comparison_of r ≡ Some c → IsTerm names sum ys b → At Literals (xs ++ symbol r ∷ ys) (compared c a b)
  unfolding At pure_at comparison_at
  of_comparison r c xs ys a b h is k room o rest ends =
      let self : Pures = pure_in stop names room in
      let at = skip xs o 0 in
      let o₂ : ℕ → ℕ = λ n. skip xs o (suc n) in
      let tail : List Place = put o₂ ys ++ rest in
      let whole : List Place = put o xs ++ (place (symbol r) at ∷ tail) in
      let sign : Again (room ≤ openings ys) (comparison_sign stop names (place (symbol r) at ∷ tail) >>= λ c. sum_in stop names room c.1 >>= λ b. Ok (compared c.0 a b.0, b.1)) (compared c a b, rest) =
      rw (sign_read r c at tail is) (then_ok (sum_in stop names room tail) (λ b. Ok (compared c a b.0, b.1)) (b, rest) (compared c a b, rest) (terms.sum_read stop names ys b k room o₂ rest ends.no_term) (λ (m : room ≤ openings ys). m) refl) in
      rw (put-append o xs (symbol r ∷ ys) rest, leads self room sum xs a h o (place (symbol r) at ∷ tail) (comparison_on r c at tail is))
      (then_again (sum_in stop names (suc room) whole) (λ a. comparison_sign stop names a.1 >>= λ c. sum_in stop names room c.1 >>= λ b. Ok (compared c.0 a.0 b.0, b.1)) (a, place (symbol r) at ∷ tail) (compared c a b, rest)
      (terms.sum_read stop names xs a h (suc room) o (place (symbol r) at ∷ tail) (comparison_ends r c at tail is)) (in_left (suc room) xs (symbol r ∷ ys)) sign (in_right room xs (symbol r) ys (comparison_opens r c is)))

  of_negation : (xs : List Token) (a : Pure) → Begins xs → At Literals xs a → At Literals (symbol s.Not ∷ xs) (pure.Not a)
  unfolding At pure_at literal_at
  of_negation xs a first h room o rest ends = made_again pure.Not (pure_in stop names room Literals (put (λ n. o (suc n)) xs ++ rest)) a rest (λ (m : room ≤ openings xs). omega (arith, m)) (reads Literals xs a first h room (λ n. o (suc n)) rest ends)

  closes : (at : ℕ) (rest : List Place) → (sees s.Close (place (symbol s.Close) at ∷ rest) ≡ true) × PureEnds Ors (place (symbol s.Close) at ∷ rest)
  unfolding sees same_symbol next_comparison comparison_of
  closes at rest = (refl, record { no_term = record { no_plus = refl; no_minus = refl; no_times = refl }; no_comparison = refl; no_infix = (refl, refl) })

  quiet : (rest : List Place) → PureEnds Literals rest → goes_on rest ≡ false
  quiet rest ends = rw (ends.no_comparison, ends.no_term.no_plus, ends.no_term.no_minus) refl

  of_group : (xs : List Token) (a : Pure) → Balanced xs → Begins xs → At Ors xs a → At Literals (symbol s.Open ∷ (xs ++ symbol s.Close ∷ [])) a
  unfolding At pure_at literal_at
  of_group xs a even first h room o rest ends =
      let o₁ : ℕ → ℕ = λ n. o (suc n) in
      let close : List Place = place (symbol s.Close) (skip xs o₁ 0) ∷ rest in
      let here = closes (skip xs o₁ 0) rest in
      let read : Again (room ≤ openings xs) (pure_in stop names room Ors (put o₁ (xs ++ symbol s.Close ∷ []) ++ rest)) (a, close) = rw (put-append o₁ xs (symbol s.Close ∷ []) rest) (reads Ors xs a first h room o₁ close here.1) in
      rw (behind (put o₁ (xs ++ symbol s.Close ∷ []) ++ rest) rest false (balanced.at_group xs even o₁ rest) (quiet rest ends))
      (closed_again s.Close stop (pure_in stop names room Ors (put o₁ (xs ++ symbol s.Close ∷ []) ++ rest)) a (skip xs o₁ 0) rest here.0 (λ (m : room ≤ openings xs). omega (arith, m, openings-append xs (symbol s.Close ∷ []))) read)

  pub complete : (level : PureLevel) (xs : List Token) (a : Pure) → IsPure names level xs a → At level xs a
  unfolding At pure_at ors_at ands_at literal_at sees same_symbol next_comparison comparison_of
  complete level xs q (p.of_ands {xs = l} {p = a} h) = of_tighter Ors Ands l a (λ self room ts. refl) (λ rest ends. (ends.no_infix.1, record { no_term = ends.no_term; no_comparison = ends.no_comparison; no_infix = ends.no_infix.0 })) (complete Ands l a h)
  complete level xs q (p.disjunction {xs = l} {ys = r} {p = a} {q = b} h k) =
      of_infix Ors Ands s.Or l r a b (λ self room ts. refl) (omega arith) (λ at ts. (refl, record { no_term = record { no_plus = refl; no_minus = refl; no_times = refl }; no_comparison = refl; no_infix = refl })) (complete Ands l a h) (begins Ors r b k) (complete Ors r b k)
  complete level xs q (p.of_literal {xs = l} {p = a} h) = of_tighter Ands Literals l a (λ self room ts. refl) (λ rest ends. (ends.no_infix, record { no_term = ends.no_term; no_comparison = ends.no_comparison; no_infix = tt })) (complete Literals l a h)
  complete level xs q (p.conjunction {xs = l} {ys = r} {p = a} {q = b} h k) =
      of_infix Ands Literals s.And l r a b (λ self room ts. refl) (omega arith) (λ at ts. (refl, record { no_term = record { no_plus = refl; no_minus = refl; no_times = refl }; no_comparison = refl; no_infix = tt })) (complete Literals l a h) (begins Ands r b k) (complete Ands r b k)
  complete level xs q (p.negation {xs = l} {p = a} h) = of_negation l a (begins Literals l a h) (complete Literals l a h)
  complete level xs q p.truth = λ room o rest ends. inl refl
  complete level xs q p.falsehood = λ room o rest ends. inl refl
  complete level xs q (p.group {xs = l} {p = a} h) = of_group l a (balanced.pures names Ors l a h) (begins Ors l a h) (complete Ors l a h)
  complete level xs q (p.comparison {xs = l} {ys = r} {a = a} {b = b} c {c = k} h is i) = of_comparison c k l r a b h is i

  pub pure_read : (level : PureLevel) (xs : List Token) (a : Pure) → IsPure names level xs a → (room : ℕ) (o : ℕ → ℕ) (rest : List Place) → PureEnds level rest → Again (room ≤ openings xs) (pure_in stop names room level (put o xs ++ rest)) (a, rest)
  pure_read level xs a is = reads level xs a (begins level xs a is) (complete level xs a is)
