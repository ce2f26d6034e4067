-- Certificates that are read are derived by the grammar.
use Rattle.std.proofs.Common.{◌≡◌, ℕ, zero, suc, ◌<◌, ◌^◌, ℤ, pos, true, false, cond, not, ◌&&◌, List, [], ◌∷◌, ◌++◌, length, drop, Option, Some, None, Ok, refl, sym, ap, subst, ◌∙◌, append_assoc, append-nil}
use Rattle.std.specs.Prelude.{is_none, unwrap_or}
use Rattle.pm_tokens.specs.declared.symbol.Symbol.TheVariants as s
use Rattle.pm_tokens.specs.Tokens.{Token, name, number, symbol, Place, place}
use Rattle.pm_terms.specs.Steps.{◌>>=◌, same_symbol, sees, expect, literal}
use Rattle.pm_patterns.specs.declared.pattern.Item.{Item}
use Rattle.pm_patterns.specs.declared.pattern.Cert.{Cert}
use Rattle.pm_patterns.specs.declared.certificates.Found.{Found as Entries}
use Rattle.pm_patterns.specs.PatternReading.{cert_of, takes_goal, name_in, fact_in, entry_in, entries_in, cert_in, quoted_cert}
use Rattle.pm_grammar.specs.TermGrammar.{IsLiteral, positive, negative}
use Rattle.pm_grammar.specs.ReadingLaws.{tokens_at}
use Rattle.pm_grammar.proofs.Steps.{bind_ok, ok_to, made_ok, either, sees_ok, expect_ok}
use Rattle.pm_grammar.proofs.TermsDerived.{and_ok, not_ok, literal_ok}
use Rattle.pm_script_grammar.specs.PatternGrammar as g
use Rattle.pm_script_grammar.specs.PatternGrammar.{IsCert, with_item, with_goal}
use Rattle.pm_script_grammar.proofs.Sound.{Sound}
use Rattle.pm_script_grammar.proofs.PatternsDerived.{Quoted, quotes, name_sound}

unseen : (ts : List Place) (us : List Token) → sees s.Minus ts ≡ false → tokens_at ts ≡ symbol s.Minus ∷ us → ⊥
unfolding sees same_symbol
unseen [] us h e = cc
unseen (place (name w) at ∷ ts) us h e = cc
unseen (place (number n) at ∷ ts) us h e = cc
unseen (place (symbol r) at ∷ ts) us h e =
    let same : r ≡ s.Minus = cc in
    let seen : sees s.Minus (place (symbol r) at ∷ ts) ≡ true = subst (λ r. sees s.Minus (place (symbol r) at ∷ ts) ≡ true) (sym same) refl in
    cc

-- a literal without a minus is a number
number_alone : (ts : List Place) (us : List Token) (xs : List Token) (z : ℤ) → sees s.Minus ts ≡ false → tokens_at ts ≡ xs ++ us → IsLiteral xs z → (n : ℕ) × (xs ≡ number n ∷ []) × (n < 2 ^ 63) × (z ≡ pos n)
number_alone ts us xs z h e (positive {n = n} low) = (n, refl, low, refl)
number_alone ts us xs z h e (negative {n = n} low) = absurd (unseen ts (number n ∷ us) h e)

pub none_is : (f : Option ℤ) → is_none f ≡ true → f ≡ None
none_is None e = refl
none_is (Some z) e = absurd cc

-- what is found with the entries of a certificate behind it
abbrev merged : Entries → Cert → Cert
merged f c = record { goal = unwrap_or f.goal c.goal; facts = f.facts ++ c.facts }

-- an entry before others
record Entry (f : Entries) (ts : List Place) (x : Entries × List Place) : Type 0 where
  before : List Token
  split : tokens_at ts ≡ before ++ tokens_at x.1
  adds : (zs : List Token) (c : Cert) → IsCert (is_none x.0.goal) zs c → (d : Cert) × IsCert (is_none f.goal) (before ++ zs) d × (merged x.0 c ≡ merged f d)

module _ (stop : ℕ) where
  goal_entry : (f : Entries) (ts rest : List Place) (z : ℤ × List Place) → (xs : List Token) → tokens_at ts ≡ xs ++ tokens_at z.1 → IsLiteral xs z.0 → tokens_at z.1 ≡ symbol s.Asterisk ∷ tokens_at rest → takes_goal f ts rest ≡ true
      → Entry f ts (record { goal = Some z.0; facts = f.facts }, drop 1 rest)
  goal_entry f ts rest z xs split is star there =
      let a = and_ok (sees s.Entails rest && is_none f.goal) (not (sees s.Minus ts)) there in
      let b = and_ok (sees s.Entails rest) (is_none f.goal) a.0 in
      let n = number_alone ts (tokens_at z.1) xs z.0 (not_ok (sees s.Minus ts) a.1) split is in
      let none : f.goal ≡ None = none_is f.goal b.1 in
      record {
        before = number n.0 ∷ symbol s.Asterisk ∷ symbol s.Entails ∷ [];
        split = split ∙ ap (λ us. us ++ tokens_at z.1) n.1 ∙ ap (λ us. number n.0 ∷ us) (star ∙ ap (λ us. symbol s.Asterisk ∷ us) (sees_ok s.Entails rest b.0));
        adds = λ zs c h. (
          with_goal (pos n.0) c,
          subst (λ b. IsCert b (number n.0 ∷ symbol s.Asterisk ∷ symbol s.Entails ∷ zs) (with_goal (pos n.0) c)) (sym b.1) (g.of_goal n.2 h),
          ap (λ (y : ℤ). record { goal = y; facts = f.facts ++ c.facts }) (n.3 ∙ sym (ap (λ o. unwrap_or o (pos n.0)) none)),
        );
      }

  fact_entry : (f : Entries) (ts rest : List Place) (z : ℤ × List Place) → (xs : List Token) → tokens_at ts ≡ xs ++ tokens_at z.1 → IsLiteral xs z.0 → tokens_at z.1 ≡ symbol s.Asterisk ∷ tokens_at rest → (x : Entries × List Place)
      → fact_in stop f z.0 rest ≡ Ok x → Entry f ts x
  unfolding fact_in
  fact_entry f ts rest z xs split is star x e = subst (λ (h : Entries). Entry f ts (h, x.1)) m.2 found
    where
      item : List ℕ → Item
      item w = record { factor = z.0; fact = w }

      grown : List ℕ → Entries
      grown w = record { goal = f.goal; facts = f.facts ++ item w ∷ [] }

      m : (w : List ℕ) × (name_in stop rest ≡ Ok (w, x.1)) × (grown w ≡ x.0)
      m = made_ok grown (name_in stop rest) x e

      found : Entry f ts (grown m.0, x.1)
      found = let w = (name_sound stop).ok rest (m.0, x.1) m.1 in record {
        before = xs ++ symbol s.Asterisk ∷ name m.0 ∷ [];
        split = split ∙ ap (λ us. xs ++ us) (star ∙ ap (λ us. symbol s.Asterisk ∷ us) (w.split ∙ ap (λ us. us ++ tokens_at x.1) w.is)) ∙ sym (append_assoc xs (symbol s.Asterisk ∷ name m.0 ∷ []) (tokens_at x.1));
        adds = λ zs c h. (
          with_item z.0 m.0 c,
          subst (λ us. IsCert (is_none f.goal) us (with_item z.0 m.0 c)) (sym (append_assoc xs (symbol s.Asterisk ∷ name m.0 ∷ []) zs)) (g.of_fact m.0 is h),
          ap (λ (us : List Item). record { goal = unwrap_or f.goal c.goal; facts = us }) (append_assoc f.facts (item m.0 ∷ []) c.facts),
        );
      }

  entry_ok : (f : Entries) (ts : List Place) (x : Entries × List Place) → entry_in stop f ts ≡ Ok x → Entry f ts x
  unfolding entry_in
  entry_ok f ts x e =
      let a = bind_ok (literal stop ts) (λ z. expect s.Asterisk stop z.1 >>= λ rest. cond (takes_goal f ts rest) (Ok (record { goal = Some z.0; facts = f.facts }, drop 1 rest)) (fact_in stop f z.0 rest)) x e in
      let b = bind_ok (expect s.Asterisk stop a.0.1) (λ rest. cond (takes_goal f ts rest) (Ok (record { goal = Some a.0.0; facts = f.facts }, drop 1 rest)) (fact_in stop f a.0.0 rest)) x a.2 in
      let l = literal_ok stop ts a.0 a.1 in
      let star = expect_ok s.Asterisk stop a.0.1 b.0 b.1 in
      either (takes_goal f ts b.0) _ _ _ b.2 (Entry f ts x)
      (λ goal k. ok_to (Entry f ts) (record { goal = Some a.0.0; facts = f.facts }, drop 1 b.0) x k (goal_entry f ts b.0 a.0 l.0 l.1 l.2 star goal))
      (λ fact k. fact_entry f ts b.0 a.0 l.0 l.1 l.2 star x k)

  record Entered (f : Entries) (ts : List Place) (x : Entries × List Place) : Type 0 where
    all : List Token
    split : tokens_at ts ≡ all ++ tokens_at x.1
    rest : Cert
    is : IsCert (is_none f.goal) all rest
    same : cert_of x.0 ≡ merged f rest

  no_more : (f : Entries) (ts : List Place) → Entered f ts (f, ts)
  no_more f ts = record { all = []; split = refl; rest = record { goal = pos 0; facts = [] }; is = g.nothing (is_none f.goal); same = ap (λ (us : List Item). record { goal = unwrap_or f.goal (pos 0); facts = us }) (sym (append-nil f.facts)) }

  entries_ok : (more : ℕ) (f : Entries) (ts : List Place) (x : Entries × List Place) → entries_in stop more f ts ≡ Ok x → Entered f ts x
  unfolding entries_in
  entries_ok zero f ts x e = ok_to (Entered f ts) (f, ts) x e (no_more f ts)
  entries_ok (suc more) f ts x e = either (sees s.Quote ts) _ _ _ e (Entered f ts x)
      (λ ends k. ok_to (Entered f ts) (f, ts) x k (no_more f ts))
      (λ other k.
      let b = bind_ok (entry_in stop f ts) (λ h. entries_in stop more h.0 h.1) x k in
      let first = entry_ok f ts b.0 b.1 in
      let later = entries_ok more b.0.0 b.0.1 x b.2 in
      let added = first.adds later.all later.rest later.is in
      record {
        all = first.before ++ later.all;
        split = first.split ∙ ap (λ us. first.before ++ us) later.split ∙ sym (append_assoc first.before later.all (tokens_at x.1));
        rest = added.0;
        is = added.1;
        same = later.same ∙ added.2;
      })

  cert_sound : Sound (IsCert true) (cert_in stop)
  unfolding cert_in
  cert_sound = record {
    ok = λ ts x e.
        let m = made_ok cert_of (entries_in stop (length ts) (record { goal = None; facts = [] }) ts) x e in
        let all = entries_ok (length ts) (record { goal = None; facts = [] }) ts (m.0, x.1) m.1 in
        record { before = all.all; split = all.split; is = subst (IsCert true all.all) (sym all.same ∙ m.2) all.is };
  }

  pub quoted_cert_sound : Sound (Quoted (IsCert true)) (quoted_cert stop)
  unfolding quoted_cert
  quoted_cert_sound = quotes stop cert_sound
