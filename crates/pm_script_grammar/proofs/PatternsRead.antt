-- Patterns that the grammar derives are read, unless they are too deep.
use Rattle.std.proofs.Common.{◌≡◌, inl, inr, ℕ, zero, suc, true, false, List, [], ◌∷◌, ◌++◌, Some, None, Ok, refl, ap, subst, ◌∙◌}
use Rattle.pm_tokens.specs.declared.symbol.Symbol.{Symbol}
use Rattle.pm_tokens.specs.declared.symbol.Symbol.TheVariants as s
use Rattle.pm_tokens.specs.Tokens.{Token, name, number, symbol, Place, place}
use Rattle.pm_terms.specs.Steps.{Read, ◌>>=◌, made, same_symbol, sees, offset, expect, closed_by}
use Rattle.pm_patterns.specs.declared.pattern.Pat.{Pat}
use Rattle.pm_patterns.specs.declared.pattern.Pat.TheViews as pair
use Rattle.pm_patterns.specs.declared.signs.PatternSign.{PatternSign}
use Rattle.pm_patterns.specs.declared.signs.PatternSign.TheVariants as begin
use Rattle.pm_patterns.specs.declared.extent.Extent.{Extent}
use Rattle.pm_patterns.specs.declared.extent.Extent.TheVariants.{One, Others}
use Rattle.pm_patterns.specs.Signs.{pattern_sign, nesting_of}
use Rattle.pm_patterns.specs.PatternReading.{Patterns, begins, another_follows, name_in, deep_pattern, pure_pattern, bracket_end, bracket_at, ampersand_at, pattern_by, one_at, pattern_at, pattern_in}
use Rattle.pm_grammar.specs.ReadingLaws.{IsDeep}
use Rattle.pm_grammar.proofs.Steps.{put, skip, put-append}
use Rattle.pm_script_grammar.specs.PatternGrammar as g
use Rattle.pm_script_grammar.specs.PatternGrammar.{in_brackets, in_parentheses, IsPattern}
use Rattle.pm_script_grammar.proofs.Complete.{Okay, sees_itself, sees_other, then_okay, at_okay, Complete, Any}

-- ---- how a pattern begins

abbrev Begun : List Token → Type 0
Begun xs = (o : ℕ → ℕ) (rest : List Place) → (b : PatternSign) × (begins (put o xs ++ rest) ≡ Some b)

begun_append : (xs ys : List Token) → Begun xs → Begun (xs ++ ys)
begun_append xs ys h o rest = let k = h o (put (skip xs o) ys ++ rest) in (k.0, ap begins (put-append o xs ys rest) ∙ k.1)

pub begun : (e : Extent) (xs : List Token) (p : Pat) → IsPattern e xs p → Begun xs
unfolding begins pattern_sign
begun e xs p (g.of_name x) = λ o rest. (begin.Name, refl)
begun e xs p g.fresh = λ o rest. (begin.Fresh, refl)
begun e xs p g.dropped = λ o rest. (begin.Drop, refl)
begun e xs p g.framed = λ o rest. (begin.Frame, refl)
begun e xs p (g.pair_of h k) = λ o rest. (begin.Bracket, refl)
begun e xs p (g.either_of h k) = λ o rest. (begin.Bracket, refl)
begun e xs p g.absurdity = λ o rest. (begin.Bracket, refl)
begun e xs p (g.several h k) = λ o rest. (begin.Group, refl)
begun e xs p (g.pure_name x) = λ o rest. (begin.Fact, refl)
begun e xs p g.pure_fresh = λ o rest. (begin.Fact, refl)
begun e xs p (g.intuitionistic h) = λ o rest. (begin.Int, refl)
begun e xs p (g.spatial h) = λ o rest. (begin.Spat, refl)
begun e xs p (g.eliminated h) = λ o rest. (begin.Elim, refl)
begun e xs p g.rewritten = λ o rest. (begin.Rewrite, refl)
begun e xs p g.rewritten_back = λ o rest. (begin.RewriteBack, refl)
begun e xs p (g.last h) = begun One xs p h
begun e _ _ (g.another {xs = xs} {ys = ys} {p = p} h k) = begun_append xs (symbol s.Ampersand ∷ ys) (begun One xs p h)

-- no symbol that begins no pattern stands there
pub unbegun : (t : Symbol) → pattern_sign t ≡ None → (ts : List Place) (b : PatternSign) → begins ts ≡ Some b → sees t ts ≡ false
unfolding begins sees
unbegun t n [] b e = absurd cc
unbegun t n (place (name w) at ∷ ts) b e = refl
unbegun t n (place (number m) at ∷ ts) b e = absurd cc
unbegun t n (place (symbol r) at ∷ ts) b e = sees_other t r at ts (λ same. let f : pattern_sign t ≡ Some b = subst (λ q. pattern_sign q ≡ Some b) same e in cc)

no_bracket : pattern_sign s.CloseBracket ≡ None
unfolding pattern_sign
no_bracket = refl

no_bar : pattern_sign s.Bar ≡ None
unfolding pattern_sign
no_bar = refl

-- ---- brackets are balanced, and ampersands are inside parentheses

abbrev Passed : ℕ → List Token → Type 0
Passed n xs = (o : ℕ → ℕ) (rest : List Place) → another_follows n (put o xs ++ rest) ≡ another_follows n rest

passed_append : (n : ℕ) (xs ys : List Token) → Passed n xs → Passed n ys → Passed n (xs ++ ys)
passed_append n xs ys h k o rest = ap (another_follows n) (put-append o xs ys rest) ∙ h o (put (skip xs o) ys ++ rest) ∙ k (skip xs o) rest

inside : (n : ℕ) (l r : Symbol) (xs : List Token)
    → ((at : ℕ) (ts : List Place) → another_follows n (place (symbol l) at ∷ ts) ≡ another_follows (suc n) ts) → ((at : ℕ) (ts : List Place) → another_follows (suc n) (place (symbol r) at ∷ ts) ≡ another_follows n ts)
    → Passed (suc n) xs → Passed n (symbol l ∷ (xs ++ symbol r ∷ []))
inside n l r xs opens closes h o rest =
    let q : ℕ → ℕ = λ k. o (suc k) in
    opens (o 0) (put q (xs ++ symbol r ∷ []) ++ rest) ∙ ap (another_follows (suc n)) (put-append q xs (symbol r ∷ []) rest) ∙ h q (put (skip xs q) (symbol r ∷ []) ++ rest) ∙ closes (skip xs q 0) rest

-- as many parentheses around as there must be
abbrev around : Extent → ℕ → ℕ
around One n = n
around Others n = suc n

balanced : (e : Extent) (xs : List Token) (p : Pat) → IsPattern e xs p → (n : ℕ) → Passed (around e n) xs
unfolding another_follows nesting_of
balanced e xs p (g.of_name x) n = λ o rest. refl
balanced e xs p g.fresh n = λ o rest. refl
balanced e xs p g.dropped n = λ o rest. refl
balanced e xs p g.framed n = λ o rest. refl
balanced e _ _ (g.pair_of {xs = xs} {ys = ys} {p = p} {q = q} h k) n = inside n s.OpenBracket s.CloseBracket (xs ++ ys) (λ at ts. refl) (λ at ts. refl) (passed_append (suc n) xs ys (balanced One xs p h (suc n)) (balanced One ys q k (suc n)))
balanced e _ _ (g.either_of {xs = xs} {ys = ys} {p = p} {q = q} h k) n =
    inside n s.OpenBracket s.CloseBracket (xs ++ symbol s.Bar ∷ ys) (λ at ts. refl) (λ at ts. refl) (passed_append (suc n) xs (symbol s.Bar ∷ ys) (balanced One xs p h (suc n)) (λ o rest. balanced One ys q k (suc n) (λ m. o (suc m)) rest))
balanced e xs p g.absurdity n = λ o rest. refl
balanced e _ _ (g.several {xs = xs} {ys = ys} {p = p} {q = q} h k) n =
    inside n s.Open s.Close (xs ++ symbol s.Ampersand ∷ ys) (λ at ts. refl) (λ at ts. refl) (passed_append (suc n) xs (symbol s.Ampersand ∷ ys) (balanced One xs p h (suc n)) (λ o rest. balanced Others ys q k n (λ m. o (suc m)) rest))
balanced e xs p (g.pure_name x) n = λ o rest. refl
balanced e xs p g.pure_fresh n = λ o rest. refl
balanced e _ _ (g.intuitionistic {xs = xs} {p = p} h) n = λ o rest. balanced One xs p h n (λ m. o (suc m)) rest
balanced e _ _ (g.spatial {xs = xs} {p = p} h) n = λ o rest. balanced One xs p h n (λ m. o (suc m)) rest
balanced e _ _ (g.eliminated {xs = xs} {p = p} h) n = λ o rest. balanced One xs p h n (λ m. o (suc m)) rest
balanced e xs p g.rewritten n = λ o rest. refl
balanced e xs p g.rewritten_back n = λ o rest. refl
balanced e xs p (g.last h) n = balanced One xs p h (suc n)
balanced e _ _ (g.another {xs = xs} {ys = ys} {p = p} {q = q} h k) n = passed_append (suc n) xs (symbol s.Ampersand ∷ ys) (balanced One xs p h (suc n)) (λ o rest. balanced Others ys q k n (λ m. o (suc m)) rest)

sign_there : (at : ℕ) (ts : List Place) → another_follows 0 (place (symbol s.Ampersand) at ∷ ts) ≡ true
unfolding another_follows nesting_of
sign_there at ts = refl

-- ---- steps

pub made_okay : {A B : Type 0} (f : A → B) (read : Read A) (a : A) (rest : List Place) → Okay read (a, rest) → Okay (made f read) (f a, rest)
made_okay f read a rest h = then_okay read (λ x. Ok (f x.0, x.1)) (a, rest) (f a, rest) h (inl refl)

pub closed_okay : {A : Type 0} (t : Symbol) (stop : ℕ) (read : Read A) (a : A) (at : ℕ) (rest : List Place) → Okay read (a, place (symbol t) at ∷ rest) → Okay (closed_by t stop read) (a, rest)
unfolding closed_by expect
closed_okay t stop read a at rest h = let seen = sees_itself t at rest in then_okay read (λ x. expect t stop x.1 >>= λ r. Ok (x.0, r)) (a, place (symbol t) at ∷ rest) (a, rest) h (inl (rw seen refl))

module _ (stop : ℕ) where
  bracket_read : (self : Patterns) (ts us rest : List Place) (p r : Pat) → sees s.CloseBracket ts ≡ false → Okay (self One ts) (p, us) → Okay (bracket_end stop self p us) (r, rest) → Okay (bracket_at stop self ts) (r, rest)
  unfolding bracket_at
  bracket_read self ts us rest p r seen h k = rw seen (then_okay (self One ts) (λ x. bracket_end stop self x.0 x.1) (p, us) (r, rest) h k)

  pair_end : (self : Patterns) (us rest : List Place) (at : ℕ) (p q : Pat) → sees s.Bar us ≡ false → Okay (self One us) (q, place (symbol s.CloseBracket) at ∷ rest) → Okay (bracket_end stop self p us) (pair.Pair p q, rest)
  unfolding bracket_end
  pair_end self us rest at p q seen h = rw seen (closed_okay s.CloseBracket stop (made (pair.Pair p) (self One us)) (pair.Pair p q) at rest (made_okay (pair.Pair p) (self One us) q (place (symbol s.CloseBracket) at ∷ rest) h))

  either_end : (self : Patterns) (us rest : List Place) (bar at : ℕ) (p q : Pat) → Okay (self One us) (q, place (symbol s.CloseBracket) at ∷ rest) → Okay (bracket_end stop self p (place (symbol s.Bar) bar ∷ us)) (pair.Either p q, rest)
  unfolding bracket_end
  either_end self us rest bar at p q h = let seen = sees_itself s.Bar bar us in
      rw seen (closed_okay s.CloseBracket stop (made (pair.Either p) (self One us)) (pair.Either p q) at rest (made_okay (pair.Either p) (self One us) q (place (symbol s.CloseBracket) at ∷ rest) h))

  ampersand_read : (self : Patterns) (ts us rest : List Place) (at : ℕ) (p q : Pat) → Okay (self One ts) (p, place (symbol s.Ampersand) at ∷ us) → Okay (self Others us) (q, rest) → Okay (ampersand_at stop self ts) (pair.Pair p q, rest)
  unfolding ampersand_at expect
  ampersand_read self ts us rest at p q h k = let seen = sees_itself s.Ampersand at us in
      then_okay (self One ts) (λ x. expect s.Ampersand stop x.1 >>= λ rest. made (pair.Pair x.0) (self Others rest)) (p, place (symbol s.Ampersand) at ∷ us) (pair.Pair p q, rest) h (rw seen (made_okay (pair.Pair p) (self Others us) q rest k))

  -- ---- patterns

  deep_start : (e : Extent) (xs : List Token) (p : Pat) → IsPattern e xs p → (o : ℕ → ℕ) (rest : List Place) → IsDeep (pattern_in stop zero e (put o xs ++ rest))
  unfolding pattern_in deep_pattern
  deep_start e xs p h o rest = let b = begun e xs p h o rest in (offset stop (put o xs ++ rest), rw b.1 refl)

  -- others end where no ampersand follows
  abbrev Follows : Extent → List Place → Type 0
  Follows One rest = Unit {0}
  Follows Others rest = another_follows 0 rest ≡ false

  abbrev IsRead : ℕ → Extent → List Token → Pat → Type 0
  IsRead room e xs p = (o : ℕ → ℕ) (rest : List Place) → Follows e rest → Okay (pattern_in stop room e (put o xs ++ rest)) (p, rest)

  abbrev next : (ℕ → ℕ) → ℕ → ℕ
  next o n = o (suc n)

  pair_read : (room : ℕ) (xs ys : List Token) (p q : Pat) → IsPattern One xs p → IsPattern One ys q → IsRead room One xs p → IsRead room One ys q → IsRead (suc room) One (in_brackets (xs ++ ys)) (pair.Pair p q)
  unfolding pattern_in pattern_at one_at begins pattern_sign pattern_by
  pair_read room xs ys p q is-p is-q h k o rest f =
      let at : ℕ = skip (xs ++ ys) (next o) 0 in
      let vs : List Place = place (symbol s.CloseBracket) at ∷ rest in
      let us : List Place = put (skip xs (next o)) ys ++ vs in
      let first = begun One xs p is-p (next o) us in
      let second = begun One ys q is-q (skip xs (next o)) vs in
      at_okay (λ ts. bracket_at stop (pattern_in stop room) ts) (put (next o) ((xs ++ ys) ++ symbol s.CloseBracket ∷ []) ++ rest) (put (next o) xs ++ us) (pair.Pair p q, rest)
      (put-append (next o) (xs ++ ys) (symbol s.CloseBracket ∷ []) rest ∙ put-append (next o) xs ys vs)
      (bracket_read (pattern_in stop room) (put (next o) xs ++ us) us rest p (pair.Pair p q) (unbegun s.CloseBracket no_bracket (put (next o) xs ++ us) first.0 first.1) (h (next o) us tt)
      (pair_end (pattern_in stop room) us rest at p q (unbegun s.Bar no_bar us second.0 second.1) (k (skip xs (next o)) vs tt)))

  either_read : (room : ℕ) (xs ys : List Token) (p q : Pat) → IsPattern One xs p → IsRead room One xs p → IsRead room One ys q → IsRead (suc room) One (in_brackets (xs ++ symbol s.Bar ∷ ys)) (pair.Either p q)
  unfolding pattern_in pattern_at one_at begins pattern_sign pattern_by
  either_read room xs ys p q is-p h k o rest f =
      let whole : List Token = xs ++ symbol s.Bar ∷ ys in
      let at : ℕ = skip whole (next o) 0 in
      let vs : List Place = place (symbol s.CloseBracket) at ∷ rest in
      let us : List Place = put (next (skip xs (next o))) ys ++ vs in
      let bar : ℕ = skip xs (next o) 0 in
      let ws : List Place = place (symbol s.Bar) bar ∷ us in
      let first = begun One xs p is-p (next o) ws in
      at_okay (λ ts. bracket_at stop (pattern_in stop room) ts) (put (next o) (whole ++ symbol s.CloseBracket ∷ []) ++ rest) (put (next o) xs ++ ws) (pair.Either p q, rest)
      (put-append (next o) whole (symbol s.CloseBracket ∷ []) rest ∙ put-append (next o) xs (symbol s.Bar ∷ ys) vs)
      (bracket_read (pattern_in stop room) (put (next o) xs ++ ws) ws rest p (pair.Either p q) (unbegun s.CloseBracket no_bracket (put (next o) xs ++ ws) first.0 first.1) (h (next o) ws tt)
      (either_end (pattern_in stop room) us rest bar at p q (k (next (skip xs (next o))) vs tt)))

  others_read : (room : ℕ) (xs ys : List Token) (p q : Pat) → IsRead room One xs p → IsRead room Others ys q → (o : ℕ → ℕ) (rest : List Place) → another_follows 0 rest ≡ false → Okay (ampersand_at stop (pattern_in stop room) (put o (xs ++ symbol s.Ampersand ∷ ys) ++ rest)) (pair.Pair p q, rest)
  others_read room xs ys p q h k o rest ends =
      let at : ℕ = skip xs o 0 in
      let us : List Place = put (next (skip xs o)) ys ++ rest in
      let ws : List Place = place (symbol s.Ampersand) at ∷ us in
      at_okay (λ ts. ampersand_at stop (pattern_in stop room) ts) (put o (xs ++ symbol s.Ampersand ∷ ys) ++ rest) (put o xs ++ ws) (pair.Pair p q, rest) (put-append o xs (symbol s.Ampersand ∷ ys) rest)
      (ampersand_read (pattern_in stop room) (put o xs ++ ws) us rest at p q (h o ws tt) (k (next (skip xs o)) rest ends))

  several_read : (room : ℕ) (xs ys : List Token) (p q : Pat) → IsRead room One xs p → IsRead room Others ys q → IsRead (suc room) One (in_parentheses (xs ++ symbol s.Ampersand ∷ ys)) (pair.Pair p q)
  unfolding pattern_in pattern_at one_at begins pattern_sign pattern_by another_follows nesting_of
  several_read room xs ys p q h k o rest f =
      let whole : List Token = xs ++ symbol s.Ampersand ∷ ys in
      let at : ℕ = skip whole (next o) 0 in
      let vs : List Place = place (symbol s.Close) at ∷ rest in
      at_okay (λ ts. closed_by s.Close stop (ampersand_at stop (pattern_in stop room) ts)) (put (next o) (whole ++ symbol s.Close ∷ []) ++ rest) (put (next o) whole ++ vs) (pair.Pair p q, rest) (put-append (next o) whole (symbol s.Close ∷ []) rest)
      (closed_okay s.Close stop (ampersand_at stop (pattern_in stop room) (put (next o) whole ++ vs)) (pair.Pair p q) at rest (others_read room xs ys p q h k (next o) vs refl))

  last_read : (room : ℕ) (xs : List Token) (p : Pat) → IsPattern One xs p → IsRead (suc room) One xs p → IsRead (suc room) Others xs p
  unfolding pattern_in pattern_at
  last_read room xs p is h o rest f = let none = balanced One xs p is 0 o rest ∙ f in rw none (h o rest tt)

  another_read : (room : ℕ) (xs ys : List Token) (p q : Pat) → IsPattern One xs p → IsRead room One xs p → IsRead room Others ys q → IsRead (suc room) Others (xs ++ symbol s.Ampersand ∷ ys) (pair.Pair p q)
  unfolding pattern_in pattern_at
  another_read room xs ys p q is h k o rest f =
      let there = ap (another_follows 0) (put-append o xs (symbol s.Ampersand ∷ ys) rest) ∙ balanced One xs p is 0 o (put (skip xs o) (symbol s.Ampersand ∷ ys) ++ rest) ∙ sign_there (skip xs o 0) (put (next (skip xs o)) ys ++ rest) in
      rw there (others_read room xs ys p q h k o rest f)

  pattern_read : (room : ℕ) (e : Extent) (xs : List Token) (p : Pat) → IsPattern e xs p → IsRead room e xs p
  unfolding pattern_in pattern_at one_at begins pattern_sign pattern_by name_in bracket_at pure_pattern sees same_symbol
  pattern_read zero e xs p h = λ o rest f. inr (deep_start e xs p h o rest)
  pattern_read (suc room) e xs p (g.of_name x) = λ o rest f. inl refl
  pattern_read (suc room) e xs p g.fresh = λ o rest f. inl refl
  pattern_read (suc room) e xs p g.dropped = λ o rest f. inl refl
  pattern_read (suc room) e xs p g.framed = λ o rest f. inl refl
  pattern_read (suc room) e _ _ (g.pair_of {xs = xs} {ys = ys} {p = p} {q = q} h k) = pair_read room xs ys p q h k (pattern_read room One xs p h) (pattern_read room One ys q k)
  pattern_read (suc room) e _ _ (g.either_of {xs = xs} {ys = ys} {p = p} {q = q} h k) = either_read room xs ys p q h (pattern_read room One xs p h) (pattern_read room One ys q k)
  pattern_read (suc room) e xs p g.absurdity = λ o rest f. inl refl
  pattern_read (suc room) e _ _ (g.several {xs = xs} {ys = ys} {p = p} {q = q} h k) = several_read room xs ys p q (pattern_read room One xs p h) (pattern_read room Others ys q k)
  pattern_read (suc room) e xs p (g.pure_name x) = λ o rest f. inl refl
  pattern_read (suc room) e xs p g.pure_fresh = λ o rest f. inl refl
  pattern_read (suc room) e _ _ (g.intuitionistic {xs = xs} {p = p} h) = let k = pattern_read room One xs p h in λ o rest f. made_okay pair.Int (pattern_in stop room One (put (next o) xs ++ rest)) p rest (k (next o) rest tt)
  pattern_read (suc room) e _ _ (g.spatial {xs = xs} {p = p} h) = let k = pattern_read room One xs p h in λ o rest f. made_okay pair.Spat (pattern_in stop room One (put (next o) xs ++ rest)) p rest (k (next o) rest tt)
  pattern_read (suc room) e _ _ (g.eliminated {xs = xs} {p = p} h) = let k = pattern_read room One xs p h in λ o rest f. made_okay pair.Elim (pattern_in stop room One (put (next o) xs ++ rest)) p rest (k (next o) rest tt)
  pattern_read (suc room) e xs p g.rewritten = λ o rest f. inl refl
  pattern_read (suc room) e xs p g.rewritten_back = λ o rest f. inl refl
  pattern_read (suc room) e xs p (g.last h) = last_read room xs p h (pattern_read (suc room) One xs p h)
  pattern_read (suc room) e _ _ (g.another {xs = xs} {ys = ys} {p = p} {q = q} h k) = another_read room xs ys p q h (pattern_read room One xs p h) (pattern_read room Others ys q k)

  pub c_pattern : (room : ℕ) → Complete (IsPattern One) Any (pattern_in stop room One)
  c_pattern room = record { ok = λ o ys p rest is ends. pattern_read room One ys p is o rest tt }
