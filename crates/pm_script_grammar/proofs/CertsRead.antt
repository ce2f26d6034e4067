-- Certificates that the grammar derives are read.
use Rattle.std.proofs.Common.{◌≡◌, inl, ℕ, zero, suc, ◌<◌, ◌≤◌, ◌^◌, ℤ, pos, Bool, true, false, List, [], ◌∷◌, ◌++◌, length, Some, None, Ok, refl, sym, ap, ◌∙◌, append_assoc, append-nil, length-append, arith}
use Rattle.std.specs.Prelude.{is_none, unwrap_or}
use Rattle.pm_tokens.specs.declared.symbol.Symbol.TheVariants as s
use Rattle.pm_tokens.specs.Tokens.{Token, name, number, symbol, Place, place}
use Rattle.pm_terms.specs.Steps.{same_symbol, sees, expect}
use Rattle.pm_patterns.specs.declared.pattern.Item.{Item}
use Rattle.pm_patterns.specs.declared.pattern.Cert.{Cert}
use Rattle.pm_patterns.specs.declared.certificates.Found.{Found as Entries}
use Rattle.pm_patterns.specs.PatternReading.{cert_of, name_in, fact_in, entry_in, entries_in, cert_in, quoted_cert}
use Rattle.pm_grammar.specs.TermGrammar.{IsLiteral, positive, negative}
use Rattle.pm_grammar.proofs.Steps.{put, skip, put-append}
use Rattle.pm_grammar.proofs.TermsRead.{literal_read}
use Rattle.pm_script_grammar.specs.PatternGrammar as g
use Rattle.pm_script_grammar.specs.PatternGrammar.{IsCert, with_item, with_goal}
use Rattle.pm_script_grammar.proofs.PatternsDerived.{Quoted}
use Rattle.pm_script_grammar.proofs.CertsDerived.{none_is}
use Rattle.pm_script_grammar.proofs.Complete.{sees_itself, Complete, Any, Sees, length-put}
use Rattle.pm_script_grammar.proofs.QuotedRead.{c_quotes}

abbrev merged : Entries → Cert → Cert
merged f c = record { goal = unwrap_or f.goal c.goal; facts = f.facts ++ c.facts }

literal_starts : (xs : List Token) (z : ℤ) → IsLiteral xs z → (o : ℕ → ℕ) (rest : List Place) → sees s.Quote (put o xs ++ rest) ≡ false
unfolding sees same_symbol
literal_starts xs z (positive low) o rest = refl
literal_starts xs z (negative low) o rest = refl

literal_one : (xs : List Token) (z : ℤ) → IsLiteral xs z → 1 ≤ length xs
literal_one xs z (positive low) = omega arith
literal_one xs z (negative low) = omega arith

module _ (stop : ℕ) where
  abbrev next : (ℕ → ℕ) → ℕ → ℕ
  next o n = o (suc n)

  abbrev item : ℤ → List ℕ → Item
  item z x = record { factor = z; fact = x }

  fact_read : (f : Entries) (xs : List Token) (z : ℤ) (x : List ℕ) → IsLiteral xs z → (o : ℕ → ℕ) (rest : List Place)
      → entry_in stop f (put o (xs ++ symbol s.Asterisk ∷ name x ∷ []) ++ rest) ≡ Ok (record { goal = f.goal; facts = f.facts ++ item z x ∷ [] }, rest)
  unfolding entry_in expect fact_in name_in sees same_symbol
  fact_read f xs z x is o rest =
      let us : List Place = place (symbol s.Asterisk) (skip xs o 0) ∷ place (name x) (skip xs o 1) ∷ rest in
      let read = literal_read stop [] xs z is o us in
      ap (entry_in stop f) (put-append o xs (symbol s.Asterisk ∷ name x ∷ []) rest) ∙ rw read refl

  goal_read : (f : Entries) (n : ℕ) → n < 2 ^ 63 → is_none f.goal ≡ true → (o : ℕ → ℕ) (rest : List Place)
      → entry_in stop f (put o (number n ∷ symbol s.Asterisk ∷ symbol s.Entails ∷ []) ++ rest) ≡ Ok (record { goal = Some (pos n); facts = f.facts }, rest)
  unfolding entry_in expect sees same_symbol
  goal_read f n low none o rest =
      let read = literal_read stop [] (number n ∷ []) (pos n) (positive low) o (place (symbol s.Asterisk) (o 1) ∷ place (symbol s.Entails) (o 2) ∷ rest) in
      rw read (rw none refl)

  abbrev Entered : ℕ → Entries → List Token → Cert → Type 0
  Entered more f xs c = (o : ℕ → ℕ) (rest : List Place) → sees s.Quote rest ≡ true → (h : Entries) × (cert_of h ≡ merged f c) × (entries_in stop more f (put o xs ++ rest) ≡ Ok (h, rest))

  one_entry : (more : ℕ) (f h : Entries) (ts rest us : List Place) (k : Entries) → sees s.Quote ts ≡ false → entry_in stop f ts ≡ Ok (h, us) → entries_in stop more h us ≡ Ok (k, rest) → entries_in stop (suc more) f ts ≡ Ok (k, rest)
  unfolding entries_in
  one_entry more f h ts rest us k seen e d = rw seen (rw e d)

  entries_read : (goal : Bool) (xs : List Token) (c : Cert) → IsCert goal xs c → (more : ℕ) → length xs ≤ more → (f : Entries) → is_none f.goal ≡ goal → Entered more f xs c
  unfolding entries_in
  entries_read goal _ _ (g.nothing b) zero le f is o rest quote = (f, ap (λ (us : List Item). record { goal = unwrap_or f.goal (pos 0); facts = us }) (sym (append-nil f.facts)), refl)
  entries_read goal _ _ (g.nothing b) (suc more) le f is o rest quote = (f, ap (λ (us : List Item). record { goal = unwrap_or f.goal (pos 0); facts = us }) (sym (append-nil f.facts)), rw quote refl)
  entries_read goal _ _ (g.of_fact {xs = xs} {ys = ys} {z = z} {c = c} x l h) zero le f is o rest quote = absurd (omega (arith, literal_one xs z l, le, length-append xs (symbol s.Asterisk ∷ name x ∷ ys)))
  entries_read goal _ _ (g.of_fact {xs = xs} {ys = ys} {z = z} {c = c} x l h) (suc more) le f is o rest quote =
      let first : List Token = xs ++ symbol s.Asterisk ∷ name x ∷ [] in
      let us : List Place = put (skip first o) ys ++ rest in
      let grown : Entries = record { goal = f.goal; facts = f.facts ++ item z x ∷ [] } in
      let later = entries_read goal ys c h more (omega (arith, le, length-append xs (symbol s.Asterisk ∷ name x ∷ ys))) grown is (skip first o) rest quote in
      let whole : put o (xs ++ symbol s.Asterisk ∷ name x ∷ ys) ++ rest ≡ put o first ++ us = ap (λ (v : List Token). put o v ++ rest) (sym (append_assoc xs (symbol s.Asterisk ∷ name x ∷ []) ys)) ∙ put-append o first ys rest in
      let begins : sees s.Quote (put o first ++ us) ≡ false = ap (sees s.Quote) (put-append o xs (symbol s.Asterisk ∷ name x ∷ []) us) ∙ literal_starts xs z l o (put (skip xs o) (symbol s.Asterisk ∷ name x ∷ []) ++ us) in (
        later.0,
        later.1 ∙ ap (λ (us : List Item). record { goal = unwrap_or f.goal c.goal; facts = us }) (append_assoc f.facts (item z x ∷ []) c.facts),
        ap (entries_in stop (suc more) f) whole ∙ one_entry more f grown (put o first ++ us) rest us later.0 begins (fact_read f xs z x l o us) later.2,
      )
  entries_read goal _ _ (g.of_goal low h) zero le f is o rest quote = absurd (omega (arith, le))
  entries_read goal _ _ (g.of_goal {n = n} {ys = ys} {c = c} low h) (suc more) le f is o rest quote =
      let us : List Place = put (next (next (next o))) ys ++ rest in
      let grown : Entries = record { goal = Some (pos n); facts = f.facts } in
      let later = entries_read false ys c h more (omega (arith, le)) grown refl (next (next (next o))) rest quote in
      let none : f.goal ≡ None = none_is f.goal is in (
        later.0,
        later.1 ∙ ap (λ (y : ℤ). record { goal = y; facts = f.facts ++ c.facts }) (sym (ap (λ q. unwrap_or q (pos n)) none)),
        one_entry more f grown (put o (number n ∷ symbol s.Asterisk ∷ symbol s.Entails ∷ []) ++ us) rest us later.0 (literal_starts (number n ∷ []) (pos n) (positive low) o (place (symbol s.Asterisk) (o 1) ∷ place (symbol s.Entails) (o 2) ∷ us)) (goal_read f n low is o us) later.2,
      )

  c_cert : Complete (IsCert true) (Sees s.Quote) (cert_in stop)
  unfolding cert_in
  c_cert = record {
    ok = λ o ys c rest is ends.
        let empty : Entries = record { goal = None; facts = [] } in
        let k = entries_read true ys c is (length (put o ys ++ rest)) (length-put o ys rest) empty refl o rest ends in
        let read = k.2 in
        inl (rw read (ap (λ (c : Cert). Ok (c, rest)) k.1));
  }

  pub c_quoted_cert : Complete (Quoted (IsCert true)) Any (quoted_cert stop)
  unfolding quoted_cert
  c_quoted_cert = c_quotes stop (sees_itself s.Quote) c_cert
