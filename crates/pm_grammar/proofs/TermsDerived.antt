-- Terms that are read are derived by the grammar.
use Rattle.std.proofs.Common.{◌≡◌, ℕ, ℤ, zero, suc, ◌^◌, Bool, true, false, ◌&&◌, not, ltb, leb, ltb-true, leb-true, List, [], ◌∷◌, ◌++◌, drop, Some, None, Option, Result, Ok, refl, sym, ap, subst, ◌∙◌, append_assoc, append-nil}
use Rattle.pm_logic.specs.declared.formula.Term.{Term}
use Rattle.pm_logic.specs.declared.formula.Term.TheVariants.{Lit, Var}
use Rattle.pm_tokens.specs.declared.symbol.Symbol.{Symbol}
use Rattle.pm_tokens.specs.declared.symbol.Symbol.TheVariants as s
use Rattle.pm_tokens.specs.Tokens.{Token, name, number, symbol, Place, place}
use Rattle.pm_terms.specs.declared.fault.TextFault.{TextFault}
use Rattle.pm_terms.specs.declared.level.Sign.{Sign}
use Rattle.pm_terms.specs.declared.level.Sign.TheVariants as sign
use Rattle.pm_terms.specs.declared.level.Before.{Before}
use Rattle.pm_terms.specs.declared.level.Before.TheVariants as before
use Rattle.pm_terms.specs.Scope.{Names, variable_of}
use Rattle.pm_terms.specs.Steps.{◌>>=◌, made, sees, sees_number, positive, negative, digits, literal, bound_at}
use Rattle.pm_terms.specs.TermReading.{signed, added, begins_literal, after_literal, begins_scale, begins_negation, Terms, variable_at, operand_at, sum_at, term_at, term_in, operand_in, sum_in}
use Rattle.pm_grammar.specs.TermGrammar as g
use Rattle.pm_grammar.specs.TermGrammar.{IsLiteral, IsTerm, Sort, sum, product, operand, begins_with_number}
use Rattle.pm_grammar.specs.ReadingLaws.{tokens_at}
use Rattle.pm_grammar.proofs.Steps.{bind_ok, ok_is, ok_to, made_ok, guard_ok, either, sees_ok, closed_ok}
use Rattle.pm_grammar.proofs.TermsRead.{signed-push}

-- ---- literals

pub digits_ok : {A : Type 0} (stop : ℕ) (value : ℕ → ℕ → Result A TextFault) (ts : List Place) (x : A × List Place) → digits stop value ts ≡ Ok x → (n at : ℕ) × (tokens_at ts ≡ number n ∷ tokens_at x.1) × (value n at ≡ Ok x.0) × (x.1 ≡ drop 1 ts)
unfolding digits
digits_ok stop value [] x e = absurd cc
digits_ok stop value (place (name w) at ∷ ts) x e = absurd cc
digits_ok stop value (place (number n) at ∷ ts) x e =
    let b = bind_ok (value n at) (λ z. Ok (z, ts)) x e in
    let same = ok_is (b.0, ts) x b.2 in
    (n, at, ap (λ us. number n ∷ tokens_at us) (ap (λ y. y.1) same), b.1 ∙ ap (λ z. Ok z) (ap (λ y. y.0) same), sym (ap (λ y. y.1) same))
digits_ok stop value (place (symbol r) at ∷ ts) x e = absurd cc

drop_two : (ts : List Place) → drop 1 (drop 1 ts) ≡ drop 2 ts
drop_two [] = refl
drop_two (t ∷ ts) = refl

pub literal_ok : (stop : ℕ) (ts : List Place) (x : ℤ × List Place) → literal stop ts ≡ Ok x → (ys : List Token) × (tokens_at ts ≡ ys ++ tokens_at x.1) × IsLiteral ys x.0 × (x.1 ≡ after_literal ts)
unfolding literal
literal_ok stop ts x e = either (sees s.Minus ts) _ _ _ e ResultOf
    (λ minus f.
    let d = digits_ok stop negative (drop 1 ts) x f in
    let h = guard_ok (leb d.0 (2 ^ 63)) _ x.0 _ d.3 in
    (symbol s.Minus ∷ number d.0 ∷ [], sees_ok s.Minus ts minus ∙ ap (λ us. symbol s.Minus ∷ us) d.2, subst (IsLiteral (symbol s.Minus ∷ number d.0 ∷ [])) h.1 (g.negative (leb-true d.0 (2 ^ 63) h.0)), d.4 ∙ drop_two ts ∙ sym (rw minus refl)))
    (λ plain f.
    let d = digits_ok stop positive ts x f in
    let h = guard_ok (ltb d.0 (2 ^ 63)) _ x.0 _ d.3 in
    (number d.0 ∷ [], d.2, subst (IsLiteral (number d.0 ∷ [])) h.1 (g.positive (ltb-true d.0 (2 ^ 63) h.0)), d.4 ∙ sym (rw plain refl)))
  where
    ResultOf : Type 0
    ResultOf = (ys : List Token) × (tokens_at ts ≡ ys ++ tokens_at x.1) × IsLiteral ys x.0 × (x.1 ≡ after_literal ts)

-- ---- the next tokens

pub and_ok : (a b : Bool) → (a && b) ≡ true → (a ≡ true) × (b ≡ true)
and_ok true b e = (refl, e)
and_ok false b e = absurd cc

pub not_ok : (b : Bool) → not b ≡ true → b ≡ false
not_ok true e = absurd cc
not_ok false e = refl

no_number : (ts : List Place) (ys after : List Token) → sees_number ts ≡ false → tokens_at ts ≡ ys ++ after → begins_with_number ys ≡ false
unfolding sees_number
no_number ts [] after none e = refl
no_number ts (name x ∷ ys) after none e = refl
no_number ts (symbol r ∷ ys) after none e = refl
no_number [] (number n ∷ ys) after none e = absurd cc
no_number (place (name x) at ∷ ts) (number n ∷ ys) after none e = absurd cc
no_number (place (number m) at ∷ ts) (number n ∷ ys) after none e = absurd cc
no_number (place (symbol r) at ∷ ts) (number n ∷ ys) after none e = absurd cc

pub bound_ok : {A : Type 0} (at : ℕ) (o : Option A) (x : A) → bound_at at o ≡ Ok x → o ≡ Some x
bound_ok at (Some y) x e = ap Some (ok_is y x e)
bound_ok at None x e = absurd cc

module _ (stop : ℕ) (names : Names) where
  abbrev pub Found : Sort → List Place → Term × List Place → Type 0
  Found sort ts x = (ys : List Token) × (tokens_at ts ≡ ys ++ tokens_at x.1) × IsTerm names sort ys x.0

  abbrev Sound : Terms → Type 0
  Sound self = (ts : List Place) (x : Term × List Place) → self before.Nothing [] ts ≡ Ok x → Found sum ts x

  sound_literal : (ts : List Place) (x : Term × List Place) → made Lit (literal stop ts) ≡ Ok x → Found operand ts x
  sound_literal ts x e =
      let m = made_ok Lit (literal stop ts) x e in
      let l = literal_ok stop ts (m.0, x.1) m.1 in
      (l.0, l.1, subst (IsTerm names operand l.0) m.2 (g.literal l.2))

  sound_operand : (self : Terms) → Sound self → (ts : List Place) (x : Term × List Place) → operand_at stop names self ts ≡ Ok x → Found operand ts x
  unfolding operand_at variable_at
  sound_operand self h [] x e = absurd cc
  sound_operand self h (place (name w) at ∷ ts) x e =
      let b = bind_ok (bound_at at (variable_of names w)) (λ i. Ok (Var i, ts)) x e in
      ok_to (Found operand (place (name w) at ∷ ts)) (Var b.0, ts) x b.2 (name w ∷ [], refl, g.variable (bound_ok at (variable_of names w) b.0 b.1))
  sound_operand self h (place (number n) at ∷ ts) x e =
      let b = bind_ok (positive n at) (λ z. Ok (Lit z, ts)) x e in
      let l = guard_ok (ltb n (2 ^ 63)) _ b.0 _ b.1 in
      ok_to (Found operand (place (number n) at ∷ ts)) (Lit b.0, ts) x b.2 (number n ∷ [], refl, g.literal (subst (IsLiteral (number n ∷ [])) l.1 (g.positive (ltb-true n (2 ^ 63) l.0))))
  sound_operand self h (place (symbol s.Open) at ∷ ts) x e =
      let c = closed_ok s.Close stop (self before.Nothing [] ts) x e in
      let i = h ts (x.0, c.0) c.1 in
      (symbol s.Open ∷ (i.0 ++ symbol s.Close ∷ []), ap (λ us. symbol s.Open ∷ us) (i.1 ∙ ap (λ us. i.0 ++ us) c.2 ∙ sym (append_assoc i.0 (symbol s.Close ∷ []) (tokens_at x.1))), g.group i.2)
  sound_operand self h (place (symbol r) at ∷ ts) x e = sound_literal (place (symbol r) at ∷ ts) x e

  -- ---- sums

  -- what a product that is read next comes to, where these tokens stand before it
  Context : Before → List Sign → List Token → List Place → Type 0
  Context left signs ls ts = (ys after : List Token) (a : Term) → tokens_at ts ≡ ys ++ after → IsTerm names product ys a → IsTerm names sum (ls ++ ys) (added left (signed signs a))

  abbrev ReadOn : List Token → List Place → Term × List Place → Type 0
  ReadOn ls ts x = (ys : List Token) × (tokens_at ts ≡ ys ++ tokens_at x.1) × IsTerm names sum (ls ++ ys) x.0

  -- a sign more, written with these tokens
  pushed : (left : Before) (signs : List Sign) (g : Sign) (ls ps : List Token) (ts us : List Place) → tokens_at ts ≡ ps ++ tokens_at us
      → ((ys after : List Token) (a : Term) → tokens_at us ≡ ys ++ after → IsTerm names product ys a → IsTerm names product (ps ++ ys) (signed (g ∷ []) a))
      → Context left signs ls ts → Context left (signs ++ g ∷ []) (ls ++ ps) us
  unfolding Context
  pushed left signs g ls ps ts us e make h ys after a f is =
      let whole : tokens_at ts ≡ (ps ++ ys) ++ after = e ∙ ap (λ vs. ps ++ vs) f ∙ sym (append_assoc ps ys after) in
      rw (append_assoc ls ps ys, signed-push signs g a) (h (ps ++ ys) after (signed (g ∷ []) a) whole (make ys after a f is))

  passed : (ls ps : List Token) (ts us : List Place) (x : Term × List Place) → tokens_at ts ≡ ps ++ tokens_at us → ReadOn (ls ++ ps) us x → ReadOn ls ts x
  passed ls ps ts us x e h = (ps ++ h.0, e ∙ ap (λ vs. ps ++ vs) h.1 ∙ sym (append_assoc ps h.0 (tokens_at x.1)), subst (λ (vs : List Token). IsTerm names sum vs x.0) (append_assoc ls ps h.0) h.2)

  -- behind an infix of a sum
  started : (r : Symbol) (wrap : Before) (b : Term) (ls : List Token) (ts : List Place)
      → ((ys : List Token) (a : Term) → IsTerm names sum ls b → IsTerm names product ys a → IsTerm names sum (ls ++ symbol r ∷ ys) (added wrap a))
      → IsTerm names sum ls b → Context wrap [] (ls ++ symbol r ∷ []) ts
  unfolding Context signed
  started r wrap b ls ts make value ys after a f is = rw (append_assoc ls (symbol r ∷ []) ys) (make ys a value is)

  Rests : Terms → Type 0
  Rests self = (left : Before) (signs : List Sign) (ts : List Place) (x : Term × List Place) → self left signs ts ≡ Ok x → (ls : List Token) → Context left signs ls ts → ReadOn ls ts x

  first : (self : Terms) → Rests self → Sound self
  unfolding Rests Context signed added
  first self h ts x e = h before.Nothing [] ts x e [] (λ ys after a f is. g.of_product is)

  -- behind an infix, or at the end of a sum
  summed : (self : Terms) → Rests self → (b : Term) (ts : List Place) (x : Term × List Place) → sum_at stop names self b ts ≡ Ok x → (ls : List Token) → IsTerm names sum ls b → ReadOn ls ts x
  unfolding Rests sum_at added
  summed self h b ts x e ls value = either (sees s.Plus ts) _ _ _ e (ReadOn ls ts x)
      (λ plus f. passed ls (symbol s.Plus ∷ []) ts (drop 1 ts) x (sees_ok s.Plus ts plus) (h (before.Plus b) [] (drop 1 ts) x f (ls ++ symbol s.Plus ∷ []) (started s.Plus (before.Plus b) b ls (drop 1 ts) (λ ys a p q. g.plus p q) value)))
      (λ other f. either (sees s.Minus ts) _ _ _ f (ReadOn ls ts x)
      (λ minus k. passed ls (symbol s.Minus ∷ []) ts (drop 1 ts) x (sees_ok s.Minus ts minus) (h (before.Minus b) [] (drop 1 ts) x k (ls ++ symbol s.Minus ∷ []) (started s.Minus (before.Minus b) b ls (drop 1 ts) (λ ys a p q. g.minus p q) value)))
      (λ ends k. ok_to (ReadOn ls ts) (b, ts) x k ([], refl, subst (λ (vs : List Token). IsTerm names sum vs b) (sym (append-nil ls)) value)))

  scaled : (self : Terms) → Rests self → (left : Before) (signs : List Sign) (ts : List Place) (x : Term × List Place) → begins_scale ts ≡ true
      → (literal stop ts >>= λ z. self left (signs ++ sign.Times z.0 ∷ []) (drop 1 z.1)) ≡ Ok x → (ls : List Token) → Context left signs ls ts → ReadOn ls ts x
  unfolding Rests begins_scale signed
  scaled self h left signs ts x scale e ls context =
      let b = bind_ok (literal stop ts) (λ z. self left (signs ++ sign.Times z.0 ∷ []) (drop 1 z.1)) x e in
      let l = literal_ok stop ts b.0 b.1 in
      let us : List Place = drop 1 b.0.1 in
      let star = sees_ok s.Asterisk b.0.1 (ap (sees s.Asterisk) l.3 ∙ (and_ok (begins_literal ts) (sees s.Asterisk (after_literal ts)) scale).1) in
      let ps : List Token = l.0 ++ symbol s.Asterisk ∷ [] in
      let all : tokens_at ts ≡ ps ++ tokens_at us = l.1 ∙ ap (λ vs. l.0 ++ vs) star ∙ sym (append_assoc l.0 (symbol s.Asterisk ∷ []) (tokens_at us)) in
      passed ls ps ts us x all (h left (signs ++ sign.Times b.0.0 ∷ []) us x b.2 (ls ++ ps)
      (pushed left signs (sign.Times b.0.0) ls ps ts us all (λ ys after a f is. rw (append_assoc l.0 (symbol s.Asterisk ∷ []) ys) (g.scale l.2 is)) context))

  turn : (self : Terms) → Rests self → (left : Before) (signs : List Sign) (ts : List Place) (x : Term × List Place) → term_at stop names self left signs ts ≡ Ok x
      → (ls : List Token) → Context left signs ls ts → ReadOn ls ts x
  unfolding Rests Context term_at begins_negation signed
  turn self h left signs ts x e ls context = either (begins_scale ts) _ _ _ e (ReadOn ls ts x)
      (λ scale f. scaled self h left signs ts x scale f ls context)
      (λ other f. either (begins_negation ts) _ _ _ f (ReadOn ls ts x)
      (λ negation k.
      let found = and_ok (sees s.Minus ts) (not (sees_number (drop 1 ts))) negation in
      let all = sees_ok s.Minus ts found.0 in
      passed ls (symbol s.Minus ∷ []) ts (drop 1 ts) x all (h left (signs ++ sign.Minus ∷ []) (drop 1 ts) x k (ls ++ symbol s.Minus ∷ [])
      (pushed left signs sign.Minus ls (symbol s.Minus ∷ []) ts (drop 1 ts) all (λ ys after a m is. g.negation (no_number (drop 1 ts) ys after (not_ok (sees_number (drop 1 ts)) found.1) m) is) context)))
      (λ alone k.
      let b = bind_ok (operand_at stop names self ts) (λ a. sum_at stop names self (added left (signed signs a.0)) a.1) x k in
      let o = sound_operand self (first self h) ts b.0 b.1 in
      passed ls o.0 ts b.0.1 x o.1 (summed self h (added left (signed signs b.0.0)) b.0.1 x b.2 (ls ++ o.0) (context o.0 (tokens_at b.0.1) b.0.0 o.1 (g.of_operand o.2)))))

  sound : (room : ℕ) → Rests (term_in stop names room)
  unfolding Rests term_in
  sound zero left signs ts x e ls context = absurd cc
  sound (suc room) left signs ts x e ls context = turn (term_in stop names room) (λ left signs ts x e ls context. sound room left signs ts x e ls context) left signs ts x e ls context

  pub sum_derived : (room : ℕ) (ts : List Place) (x : Term × List Place) → sum_in stop names room ts ≡ Ok x → Found sum ts x
  unfolding sum_in
  sum_derived room = first (term_in stop names room) (sound room)

  pub operand_derived : (room : ℕ) (ts : List Place) (x : Term × List Place) → operand_in stop names room ts ≡ Ok x → Found operand ts x
  unfolding operand_in
  operand_derived zero ts x e = absurd cc
  operand_derived (suc room) ts x e = sound_operand (term_in stop names room) (first (term_in stop names room) (sound room)) ts x e
