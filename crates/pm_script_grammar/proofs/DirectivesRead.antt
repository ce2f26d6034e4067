-- Directives that the grammar derives are read, unless they are too deep.
use Rattle.std.proofs.Common.{◌≡◌, inl, ℕ, suc, ◌≤◌, ◌-◌, Bool, true, false, List, [], ◌∷◌, ◌++◌, length, map, Option, Some, None, Ok, refl, sym, ap, subst, ◌∙◌, append-nil, arith}
use Rattle.std.specs.Prelude.{codes}
use Rattle.pm_logic.specs.declared.limits.TheConstants.{MAX_LEVELS}
use Rattle.pm_logic.specs.declared.formula.Term.{Term}
use Rattle.pm_logic.specs.declared.formula.Pure.{Pure}
use Rattle.pm_logic.specs.declared.formula.Formula.{Formula}
use Rattle.pm_tokens.specs.declared.symbol.Symbol.TheVariants as s
use Rattle.pm_tokens.specs.Tokens.{Token, name, symbol, Place, place}
use Rattle.pm_terms.specs.declared.level.PureLevel.TheVariants.{Ors}
use Rattle.pm_terms.specs.Scope.{Names, Callables}
use Rattle.pm_terms.specs.Steps.{Read, ◌>>=◌, made, same_symbol, sees}
use Rattle.pm_patterns.specs.declared.pattern.Sel.{Sel}
use Rattle.pm_patterns.specs.declared.pattern.Spat.{Spat}
use Rattle.pm_patterns.specs.declared.pattern.Pat.{Pat}
use Rattle.pm_patterns.specs.declared.pattern.Pat.TheVariants as pat
use Rattle.pm_patterns.specs.declared.pattern.ProofTerm.{ProofTerm}
use Rattle.pm_patterns.specs.declared.pattern.Cert.{Cert}
use Rattle.pm_patterns.specs.PatternReading.{name_in, quoted_name, quoted_names, grouped_names, quoted_sels, quoted_pattern, further_intros, quoted_intros, quoted_premise, quoted_cert}
use Rattle.pm_script.specs.declared.directive.Directive.{Directive}
use Rattle.pm_script.specs.declared.directive.Directive.TheVariants as d
use Rattle.pm_script.specs.declared.words.Form.{Form}
use Rattle.pm_script.specs.declared.words.Form.TheVariants as form
use Rattle.pm_script.specs.declared.words.PlainForm.{PlainForm}
use Rattle.pm_script.specs.declared.words.PlainForm.TheVariants as plain_form
use Rattle.pm_tokens.specs.Words.{lookup}
use Rattle.pm_script.specs.Words.{bytes, sentence_words, directive_words, sentence_form_of, form_of}
use lib.Utf8.{encode}
use Rattle.pm_script.specs.SentenceReading.{Deeps, ReadIn, mapped, then_read, behind_word, if_any, any_sels, any_intros, as_pattern, as_bound, as_name, in_name, into_name, asserted, grouped_name, allocated, named_intros, intros, rename, named_revert, revert, two_names, quoted_two, combine, rewrite_by, rewrite, both_certs, certs_in, with_certs, linear, plain_in, operand_tree, destruct, pose_proof, eliminate, specialize, apply, assert, exists_in, fold, write, alloc, cases, directive_in}
use Rattle.pm_grammar.specs.TermGrammar.{IsTerm, operand}
use Rattle.pm_grammar.specs.PureGrammar.{IsPure}
use Rattle.pm_grammar.specs.FormulaGrammar.{AreTerms}
use Rattle.pm_grammar.proofs.Steps.{put, skip, put-append}
use Rattle.pm_script_grammar.specs.PatternGrammar.{in_quotes, in_parentheses, name_as, names_as, HasOne, sel_as, sels_as, spat_as, AreIntros, IsBoundPattern, IsCert}
use Rattle.pm_script_grammar.specs.SentenceGrammar as g
use Rattle.pm_script_grammar.specs.SentenceGrammar.{if_some, HasOneIfSome, variables, minus_if, marker_if, IsDirective}
use Rattle.pm_script_grammar.proofs.PatternsDerived.{Within, Quoted, Spelled, SomeOf, IsPremise}
use Rattle.pm_script_grammar.proofs.PartsDerived.{as_word, in_word, into_word, with_word, Worded, IfAny, IsAnyFormula, IsOne, ProofTermOf}
use Rattle.pm_script_grammar.proofs.Complete.{Okay, sees_itself, then_okay, at_okay, Complete, Any, c_changed, c_followed}
use Rattle.pm_script_grammar.proofs.PatternsRead.{made_okay}
use Rattle.pm_script_grammar.proofs.QuotedRead.{c_enclosed, c_quotes, c_name, c_quoted_name, c_quoted_names, c_grouped_names, c_quoted_sels, c_quoted_pattern, c_bound, c_intros, c_quoted_intros, c_quoted_premise}
use Rattle.pm_script_grammar.proofs.CertsRead.{c_quoted_cert}
use Rattle.pm_script_grammar.proofs.PartsRead.{c_worded, AtEnd, c_any, CompleteTree, t_mapped, t_then, t_followed, t_operand, t_grouped_formula, t_grouped_pure, end_terms, t_some_terms, t_proof_term}
use Rattle.pm_script_grammar.proofs.KnownWords.{Known, known}

quoted_one : {A : Type 0} (P : List Token → A → Type 0) (ys : List Token) (a : A) → Quoted P ys a → 1 ≤ length ys
quoted_one P ys a k = subst (λ (v : List Token). 1 ≤ length v) (sym k.1) (omega arith)

worded_one : {A : Type 0} (P : List Token → A → Type 0) (w : List ℕ) (ys : List Token) (a : A) → Worded w P ys a → 1 ≤ length ys
worded_one P w ys a k = subst (λ (v : List Token). 1 ≤ length v) (sym k.1) (omega arith)

module _ (stop : ℕ) (preds : Callables) (names : Names) where
  -- ---- keywords

  c_as_pattern : (room : ℕ) → Complete (Worded (bytes "as") (Quoted (IsOne stop preds names))) Any (as_pattern stop room)
  unfolding as_pattern
  c_as_pattern room = c_worded stop (codes "as") (bytes "as") as_word (c_quoted_pattern stop room)

  c_as_bound : Complete (Worded (bytes "as") IsBoundPattern) Any (as_bound stop)
  unfolding as_bound
  c_as_bound = c_worded stop (codes "as") (bytes "as") as_word (c_bound stop)

  c_as_name : Complete (Worded (bytes "as") (Quoted (Spelled name_as))) Any (as_name stop)
  unfolding as_name
  c_as_name = c_worded stop (codes "as") (bytes "as") as_word (c_quoted_name stop)

  c_in_name : Complete (Worded (bytes "in") (Quoted (Spelled name_as))) Any (in_name stop)
  unfolding in_name
  c_in_name = c_worded stop (codes "in") (bytes "in") in_word (c_quoted_name stop)

  c_into_name : Complete (Worded (bytes "into") (Quoted (Spelled name_as))) Any (into_name stop)
  unfolding into_name
  c_into_name = c_worded stop (codes "into") (bytes "into") into_word (c_quoted_name stop)

  -- the name between quotes
  spelled_quoted : (x : List ℕ) → Quoted (Spelled name_as) (g.quoted x) x
  spelled_quoted x = (name x ∷ [], refl, refl)

  -- ---- premises and allocations

  abbrev Marked : List Token → Spat × Pat → Type 0
  Marked ys a = (zs us : List Token) × (ys ≡ name (bytes "with") ∷ (in_quotes zs ++ name (bytes "as") ∷ in_quotes us)) × IsPremise stop zs a.0 × IsOne stop preds names us a.1

  abbrev behind_marker : List Place → Read (Spat × Pat)
  behind_marker ts = behind_word stop (codes "with") (quoted_premise stop) ts >>= λ how. made (λ p. (how.0, p)) (as_pattern stop MAX_LEVELS how.1)

  c_marked : Complete Marked Any behind_marker
  c_marked = c_followed {P = Worded (bytes "with") (Quoted (IsPremise stop))} {Q = λ how ys a. (us : List Token) × (ys ≡ name (bytes "as") ∷ in_quotes us) × IsOne stop preds names us a.1 × (a.0 ≡ how)} {R = Marked} {E = Any} {F = Any} {next = λ how ts. made (λ p. (how, p)) (as_pattern stop MAX_LEVELS ts)}
      (c_worded stop (codes "with") (bytes "with") with_word (c_quoted_premise stop))
      (λ how. c_changed (λ p. (how, p)) (c_as_pattern MAX_LEVELS) (λ ys a k. (a.1, (in_quotes k.0, k.1, (k.0, refl, k.2)), ap (λ (h : Spat). (h, a.1)) k.3)))
      (λ zs a k. record { left = name (bytes "with") ∷ in_quotes k.0; right = name (bytes "as") ∷ in_quotes k.1; value = a.0; whole = k.2; first = (in_quotes k.0, refl, (k.0, refl, k.3)); second = (k.1, refl, k.4, refl); between = λ o rest e. tt })

  no_marker : (at : ℕ) (ts : List Place) → sees s.Intuitionistic (place (name (bytes "with")) at ∷ ts) ≡ false
  unfolding sees
  no_marker at ts = refl

  asserted_read : (marked : Bool) (ys : List Token) (a : Spat × Pat) → Marked ys a → (o : ℕ → ℕ) (rest : List Place) → Okay (asserted stop (put o (marker_if marked ++ ys) ++ rest)) (a, rest)
  unfolding asserted
  asserted_read true ys a k o rest = let seen = sees_itself s.Intuitionistic (o 0) (put (λ n. o (suc n)) ys ++ rest) in rw seen (c_marked.ok (λ n. o (suc n)) ys a rest k tt)
  asserted_read false ys a k o rest =
      let unmarked : sees s.Intuitionistic (put o ys ++ rest) ≡ false = ap (λ (v : List Token). sees s.Intuitionistic (put o v ++ rest)) k.2 ∙ no_marker (o 0) (put (λ n. o (suc n)) (in_quotes k.0 ++ name (bytes "as") ∷ in_quotes k.1) ++ rest) in
      rw unmarked (c_marked.ok o ys a rest k tt)

  abbrev Asserted : List Token → Spat × Pat → Type 0
  Asserted ys a = (marked : Bool) × (us : List Token) × (ys ≡ marker_if marked ++ us) × Marked us a

  c_asserted : Complete Asserted Any (asserted stop)
  c_asserted = record { ok = λ o ys a rest is e. at_okay (asserted stop) (put o ys ++ rest) (put o (marker_if is.0 ++ is.1) ++ rest) (a, rest) (ap (λ (v : List Token). put o v ++ rest) is.2) (asserted_read is.0 is.1 a is.3 o rest) }

  abbrev Allocated : List Token → List ℕ × Pat → Type 0
  Allocated ys a = (us : List Token) × (ys ≡ name (bytes "as") ∷ (in_parentheses (name a.0 ∷ []) ++ in_quotes us)) × IsOne stop preds names us a.1

  c_grouped_name : Complete (Within s.Open s.Close (Spelled name_as)) Any (grouped_name stop)
  unfolding grouped_name
  c_grouped_name = c_enclosed {E = Any} s.Open s.Close stop (λ at us. tt) (c_name stop)

  c_allocated : Complete Allocated Any (allocated stop)
  unfolding allocated
  c_allocated = c_followed {P = Worded (bytes "as") (Within s.Open s.Close (Spelled name_as))} {Q = λ w ys a. (us : List Token) × (ys ≡ in_quotes us) × IsOne stop preds names us a.1 × (a.0 ≡ w)} {R = Allocated} {E = Any} {F = Any} {next = λ w ts. made (λ p. (w, p)) (quoted_pattern stop MAX_LEVELS ts)}
      (c_worded stop (codes "as") (bytes "as") as_word c_grouped_name)
      (λ w. c_changed (λ p. (w, p)) (c_quoted_pattern stop MAX_LEVELS) (λ ys a k. (a.1, (k.0, k.1, k.2), ap (λ (v : List ℕ). (v, a.1)) k.3)))
      (λ zs a k. record { left = name (bytes "as") ∷ in_parentheses (name a.0 ∷ []); right = in_quotes k.0; value = a.0; whole = k.1; first = (in_parentheses (name a.0 ∷ []), refl, (name a.0 ∷ [], refl, refl)); second = (k.0, refl, k.2, refl); between = λ o rest e. tt })

  -- ---- what is read of a directive's tokens, at their end

  abbrev ReadAs : Form → List Token → Directive → Type 0
  ReadAs f ys x = (o : ℕ → ℕ) → (deeps : Deeps) × Okay (directive_in stop preds names f (put o ys ++ [])) ((x, deeps), [])

  abbrev PlainAs : PlainForm → List Token → Directive → Type 0
  PlainAs f ys x = (o : ℕ → ℕ) → Okay (plain_in stop f (put o ys ++ [])) (x, [])

  plainly : (f : PlainForm) (ys : List Token) (x : Directive) → PlainAs f ys x → ReadAs (form.Plain f) ys x
  unfolding directive_in
  plainly f ys x h o = (None, then_okay (plain_in stop f (put o ys ++ [])) (λ y. Ok ((y.0, None), y.1)) (x, []) ((x, None), []) (h o) (inl refl))

  -- two parts, of which the second ends the tokens
  two_okay : {A B : Type 0} (read : List Place → Read A) (next : A × List Place → Read B) (o : ℕ → ℕ) (xs ys : List Token) (a : A) (b : B)
      → ((us : List Place) → Okay (read (put o xs ++ us)) (a, us)) → Okay (next (a, put (skip xs o) ys ++ [])) (b, []) → Okay (read (put o (xs ++ ys) ++ []) >>= next) (b, [])
  two_okay read next o xs ys a b h k =
      let us : List Place = put (skip xs o) ys ++ [] in
      at_okay (λ ts. read ts >>= next) (put o (xs ++ ys) ++ []) (put o xs ++ us) (b, []) (put-append o xs ys []) (then_okay (read (put o xs ++ us)) next (a, us) (b, []) (h us) k)

  names_read : (xs : Names) → HasOne xs → (o : ℕ → ℕ) (us : List Place) → Okay (grouped_names stop (put o (in_parentheses (names_as xs)) ++ us)) (xs, us)
  names_read xs one o us = (c_grouped_names stop).ok o (in_parentheses (names_as xs)) xs us (names_as xs, refl, (refl, one)) tt

  name_read : (x : List ℕ) (o : ℕ → ℕ) (us : List Place) → Okay (quoted_name stop (put o (g.quoted x) ++ us)) (x, us)
  name_read x o us = (c_quoted_name stop).ok o (g.quoted x) x us (spelled_quoted x) tt

  sels_read : (ss : List Sel) → HasOne ss → (o : ℕ → ℕ) (us : List Place) → Okay (quoted_sels stop (put o (g.quoted_sels ss) ++ us)) (ss, us)
  sels_read ss one o us = (c_quoted_sels stop).ok o (g.quoted_sels ss) ss us (sels_as ss, refl, (refl, one)) tt

  -- ---- without trees

  c_further : (found : List Pat) → Complete (Quoted (λ zs ps. (qs : List Pat) × AreIntros zs qs × (ps ≡ found ++ qs))) Any (further_intros stop found)
  unfolding further_intros
  c_further found = c_quotes stop (sees_itself s.Quote) (c_changed (λ qs. found ++ qs) (c_intros stop) (λ ys ps k. k))

  named_intros_read : (xs : Names) → HasOne xs → (ys : List Token) (ps : List Pat) → ((o : ℕ → ℕ) → Okay (any_intros stop (variables xs) (put o ys ++ [])) (ps, [])) → PlainAs plain_form.Intros (in_parentheses (names_as xs) ++ ys) (d.Intros ps)
  unfolding plain_in intros named_intros
  named_intros_read xs one ys ps h o =
      let seen = sees_itself s.Open (o 0) (put (λ n. o (suc n)) ((names_as xs ++ symbol s.Close ∷ []) ++ ys) ++ []) in
      rw seen (two_okay (grouped_names stop) (λ q. made d.Intros (any_intros stop (map pat.PureName q.0) q.1)) o (in_parentheses (names_as xs)) ys xs (d.Intros ps) (names_read xs one o)
      (made_okay d.Intros (any_intros stop (variables xs) (put (skip (in_parentheses (names_as xs)) o) ys ++ [])) ps [] (h (skip (in_parentheses (names_as xs)) o))))

  no_further : (found : List Pat) (o : ℕ → ℕ) → Okay (any_intros stop found (put o [] ++ [])) (found, [])
  unfolding any_intros
  no_further found o = inl refl

  some_further : (found : List Pat) (zs : List Token) (qs : List Pat) → AreIntros zs qs → (o : ℕ → ℕ) → Okay (any_intros stop found (put o (in_quotes zs) ++ [])) (found ++ qs, [])
  unfolding any_intros
  some_further found zs qs is o = (c_further found).ok o (in_quotes zs) (found ++ qs) [] (zs, refl, (qs, is, refl)) tt

  intros_read : (zs : List Token) (ps : List Pat) → AreIntros zs ps → PlainAs plain_form.Intros (in_quotes zs) (d.Intros ps)
  unfolding plain_in intros sees same_symbol
  intros_read zs ps is o = made_okay d.Intros (quoted_intros stop (put o (in_quotes zs) ++ [])) ps [] ((c_quoted_intros stop).ok o (in_quotes zs) ps [] (zs, refl, is) tt)

  rename_read : (x y : List ℕ) → PlainAs plain_form.Rename (g.quoted x ++ name (bytes "into") ∷ g.quoted y) (d.Rename x y)
  unfolding plain_in rename
  rename_read x y o = two_okay (quoted_name stop) (λ q. made (d.Rename q.0) (into_name stop q.1)) o (g.quoted x) (name (bytes "into") ∷ g.quoted y) x (d.Rename x y) (name_read x o)
      (made_okay (d.Rename x) (into_name stop (put (skip (g.quoted x) o) (name (bytes "into") ∷ g.quoted y) ++ [])) y [] (c_into_name.ok (skip (g.quoted x) o) (name (bytes "into") ∷ g.quoted y) y [] (g.quoted y, refl, spelled_quoted y) tt))

  named_revert_read : (xs : Names) → HasOne xs → (ys : List Token) (ss : List Sel) → ((o : ℕ → ℕ) → Okay (any_sels stop (put o ys ++ [])) (ss, [])) → PlainAs plain_form.Revert (in_parentheses (names_as xs) ++ ys) (d.Revert xs ss)
  unfolding plain_in revert named_revert
  named_revert_read xs one ys ss h o =
      let seen = sees_itself s.Open (o 0) (put (λ n. o (suc n)) ((names_as xs ++ symbol s.Close ∷ []) ++ ys) ++ []) in
      rw seen (two_okay (grouped_names stop) (λ q. made (d.Revert q.0) (any_sels stop q.1)) o (in_parentheses (names_as xs)) ys xs (d.Revert xs ss) (names_read xs one o)
      (made_okay (d.Revert xs) (any_sels stop (put (skip (in_parentheses (names_as xs)) o) ys ++ [])) ss [] (h (skip (in_parentheses (names_as xs)) o))))

  no_sels : (o : ℕ → ℕ) → Okay (any_sels stop (put o [] ++ [])) ([], [])
  unfolding any_sels
  no_sels o = inl refl

  some_sels : (ss : List Sel) → HasOne ss → (o : ℕ → ℕ) → Okay (any_sels stop (put o (g.quoted_sels ss) ++ [])) (ss, [])
  unfolding any_sels
  some_sels ss one o = sels_read ss one o []

  revert_read : (ss : List Sel) → HasOne ss → PlainAs plain_form.Revert (g.quoted_sels ss) (d.Revert [] ss)
  unfolding plain_in revert sees same_symbol
  revert_read ss one o = made_okay (d.Revert []) (quoted_sels stop (put o (g.quoted_sels ss) ++ [])) ss [] (sels_read ss one o [])

  two_names_read : (x y : List ℕ) (o : ℕ → ℕ) (us : List Place) → Okay (two_names stop (put o (name x ∷ name y ∷ []) ++ us)) ((x, y), us)
  unfolding two_names name_in
  two_names_read x y o us = inl refl

  c_two : Complete (λ ys (a : List ℕ × List ℕ). ys ≡ name a.0 ∷ name a.1 ∷ []) Any (two_names stop)
  c_two = record { ok = λ o ys a rest is e. at_okay (two_names stop) (put o ys ++ rest) (put o (name a.0 ∷ name a.1 ∷ []) ++ rest) (a, rest) (ap (λ (v : List Token). put o v ++ rest) is) (two_names_read a.0 a.1 o rest) }

  quoted_two_read : (x y : List ℕ) (o : ℕ → ℕ) (us : List Place) → Okay (quoted_two stop (put o (in_quotes (name x ∷ name y ∷ [])) ++ us)) ((x, y), us)
  unfolding quoted_two
  quoted_two_read x y o us = (c_quotes {E = Any} stop (λ at us. tt) c_two).ok o (in_quotes (name x ∷ name y ∷ [])) (x, y) us (name x ∷ name y ∷ [], refl, refl) tt

  combine_read : (x y : List ℕ) (ts : List Token) (p : Pat) → IsOne stop preds names ts p → PlainAs plain_form.Combine (in_quotes (name x ∷ name y ∷ []) ++ name (bytes "as") ∷ in_quotes ts) (d.Combine x y p)
  unfolding plain_in combine
  combine_read x y ts p is o =
      let xs : List Token = in_quotes (name x ∷ name y ∷ []) in
      two_okay (quoted_two stop) (λ q. made (d.Combine q.0.0 q.0.1) (as_pattern stop MAX_LEVELS q.1)) o xs (name (bytes "as") ∷ in_quotes ts) (x, y) (d.Combine x y p) (quoted_two_read x y o)
      (made_okay (d.Combine x y) (as_pattern stop MAX_LEVELS (put (skip xs o) (name (bytes "as") ∷ in_quotes ts) ++ [])) p [] ((c_as_pattern MAX_LEVELS).ok (skip xs o) (name (bytes "as") ∷ in_quotes ts) p [] (in_quotes ts, refl, (ts, refl, is)) tt))

  rewrite_by_read : (back : Bool) (x : List ℕ) (ys : List Token) (q : Option (List ℕ)) → IfAny (Worded (bytes "in") (Quoted (Spelled name_as))) ys q → (o : ℕ → ℕ) → Okay (rewrite_by stop back (put o (g.quoted x ++ ys) ++ [])) (d.Rewrite back x q, [])
  unfolding rewrite_by
  rewrite_by_read back x ys q is o =
      two_okay (quoted_name stop) (λ z. made (d.Rewrite back z.0) (if_any stop (in_name stop) z.1)) o (g.quoted x) ys x (d.Rewrite back x q) (name_read x o)
      (made_okay (d.Rewrite back x) (if_any stop (in_name stop) (put (skip (g.quoted x) o) ys ++ [])) q [] ((c_any stop c_in_name (worded_one (Quoted (Spelled name_as)) (bytes "in"))).ok (skip (g.quoted x) o) ys q [] is refl))

  rewrite_read : (back : Bool) (x : List ℕ) (ys : List Token) (q : Option (List ℕ)) → IfAny (Worded (bytes "in") (Quoted (Spelled name_as))) ys q → PlainAs plain_form.Rewrite (minus_if back ++ (g.quoted x ++ ys)) (d.Rewrite back x q)
  unfolding plain_in rewrite sees same_symbol
  rewrite_read true x ys q is o = rewrite_by_read true x ys q is (λ n. o (suc n))
  rewrite_read false x ys q is o = rewrite_by_read false x ys q is o

  certs_read : (xs : List Token) (c : Cert) → IsCert true xs c → (ys : List Token) (q : Option Cert) → IfAny (Quoted (IsCert true)) ys q → (o : ℕ → ℕ) → Okay (certs_in stop (put o (in_quotes xs ++ ys) ++ [])) (both_certs c q, [])
  unfolding certs_in
  certs_read xs c is ys q more o =
      two_okay (quoted_cert stop) (λ z. made (both_certs z.0) (if_any stop (quoted_cert stop) z.1)) o (in_quotes xs) ys c (both_certs c q) (λ us. (c_quoted_cert stop).ok o (in_quotes xs) c us (xs, refl, is) tt)
      (made_okay (both_certs c) (if_any stop (quoted_cert stop) (put (skip (in_quotes xs) o) ys ++ [])) q [] ((c_any stop (c_quoted_cert stop) (quoted_one (IsCert true))).ok (skip (in_quotes xs) o) ys q [] more refl))

  c_certs : Complete (λ ys cs. (xs us : List Token) × (c : Cert) × (q : Option Cert) × (ys ≡ in_quotes xs ++ us) × IsCert true xs c × IfAny (Quoted (IsCert true)) us q × (cs ≡ both_certs c q)) AtEnd (certs_in stop)
  c_certs = record { ok = λ o ys cs rest is e. at_end o ys cs rest is e }
    where
      at_end : (o : ℕ → ℕ) (ys : List Token) (cs : List Cert) (rest : List Place) → ((xs us : List Token) × (c : Cert) × (q : Option Cert) × (ys ≡ in_quotes xs ++ us) × IsCert true xs c × IfAny (Quoted (IsCert true)) us q × (cs ≡ both_certs c q)) → rest ≡ [] → Okay (certs_in stop (put o ys ++ rest)) (cs, rest)
      at_end o ys cs (t ∷ rest) is e = absurd cc
      at_end o ys cs [] is e = at_okay (certs_in stop) (put o ys ++ []) (put o (in_quotes is.0 ++ is.1) ++ []) (cs, []) (ap (λ (v : List Token). put o v ++ []) is.4) (subst (λ cs. Okay (certs_in stop (put o (in_quotes is.0 ++ is.1) ++ [])) (cs, [])) (sym is.7) (certs_read is.0 is.2 is.5 is.1 is.3 is.6 o))

  linear_read : (xs : List Token) (c : Cert) → IsCert true xs c → (ys : List Token) (q : Option Cert) → IfAny (Quoted (IsCert true)) ys q → PlainAs plain_form.Linear (name (bytes "with") ∷ (in_quotes xs ++ ys)) (d.LinearWith (both_certs c q))
  unfolding plain_in linear with_certs
  linear_read xs c is ys q more o =
      let all : List Token = name (bytes "with") ∷ (in_quotes xs ++ ys) in
      made_okay d.LinearWith (behind_word stop (codes "with") (certs_in stop) (put o all ++ [])) (both_certs c q) [] ((c_worded stop (codes "with") (bytes "with") with_word c_certs).ok o all (both_certs c q) [] (in_quotes xs ++ ys, refl, (xs, ys, c, q, refl, is, more, refl)) refl)

  any_names : (xs : Option Names) → HasOneIfSome xs → IfAny (Quoted (SomeOf stop name_as)) (if_some g.quoted_names xs) xs
  any_names None one = refl
  any_names (Some xs) one = (names_as xs, refl, (refl, one))

  any_sels_are : (ss : Option (List Sel)) → HasOneIfSome ss → IfAny (Quoted (SomeOf stop sel_as)) (if_some g.quoted_sels ss) ss
  any_sels_are None one = refl
  any_sels_are (Some ss) one = (sels_as ss, refl, (refl, one))

  any_name : (x : Option (List ℕ)) → IfAny (Quoted (Spelled name_as)) (if_some g.quoted x) x
  any_name None = refl
  any_name (Some x) = spelled_quoted x

  split_left_read : (xs : Option Names) → HasOneIfSome xs → PlainAs plain_form.SplitL (if_some g.quoted_names xs) (d.SplitL xs)
  unfolding plain_in
  split_left_read xs one o = made_okay d.SplitL (if_any stop (quoted_names stop) (put o (if_some g.quoted_names xs) ++ [])) xs [] ((c_any stop (c_quoted_names stop) (quoted_one (SomeOf stop name_as))).ok o (if_some g.quoted_names xs) xs [] (any_names xs one) refl)

  split_right_read : (xs : Option Names) → HasOneIfSome xs → PlainAs plain_form.SplitR (if_some g.quoted_names xs) (d.SplitR xs)
  unfolding plain_in
  split_right_read xs one o = made_okay d.SplitR (if_any stop (quoted_names stop) (put o (if_some g.quoted_names xs) ++ [])) xs [] ((c_any stop (c_quoted_names stop) (quoted_one (SomeOf stop name_as))).ok o (if_some g.quoted_names xs) xs [] (any_names xs one) refl)

  frame_read : (ss : Option (List Sel)) → HasOneIfSome ss → PlainAs plain_form.Frame (if_some g.quoted_sels ss) (d.Frame ss)
  unfolding plain_in
  frame_read ss one o = made_okay d.Frame (if_any stop (quoted_sels stop) (put o (if_some g.quoted_sels ss) ++ [])) ss [] ((c_any stop (c_quoted_sels stop) (quoted_one (SomeOf stop sel_as))).ok o (if_some g.quoted_sels ss) ss [] (any_sels_are ss one) refl)

  unfold_read : (x : Option (List ℕ)) → PlainAs plain_form.Unfold (if_some g.quoted x) (d.Unfold x)
  unfolding plain_in
  unfold_read x o = made_okay d.Unfold (if_any stop (quoted_name stop) (put o (if_some g.quoted x) ++ [])) x [] ((c_any stop (c_quoted_name stop) (quoted_one (Spelled name_as))).ok o (if_some g.quoted x) x [] (any_name x) refl)

  exact_read : (x : List ℕ) → PlainAs plain_form.Exact (g.quoted x) (d.Exact x)
  unfolding plain_in
  exact_read x o = made_okay d.Exact (quoted_name stop (put o (g.quoted x) ++ [])) x [] (name_read x o [])

  clear_read : (ss : List Sel) → HasOne ss → PlainAs plain_form.Clear (g.quoted_sels ss) (d.Clear ss)
  unfolding plain_in
  clear_read ss one o = made_okay d.Clear (quoted_sels stop (put o (g.quoted_sels ss) ++ [])) ss [] (sels_read ss one o [])

  loeb_read : (x : List ℕ) → PlainAs plain_form.Loeb (name (bytes "as") ∷ g.quoted x) (d.Loeb x)
  unfolding plain_in
  loeb_read x o = made_okay d.Loeb (as_name stop (put o (name (bytes "as") ∷ g.quoted x) ++ [])) x [] (c_as_name.ok o (name (bytes "as") ∷ g.quoted x) x [] (g.quoted x, refl, spelled_quoted x) tt)

  -- ---- with trees

  as_quoted : (ys : List Token) (p : Pat) → IsOne stop preds names ys p → Worded (bytes "as") (Quoted (IsOne stop preds names)) (name (bytes "as") ∷ in_quotes ys) p
  as_quoted ys p is = (in_quotes ys, refl, (ys, refl, is))

  then_as : {A B : Type 0} {P : List Token → A → Type 0} {Q : List Token → B → Type 0} {read : List Place → ReadIn A} {next : List Place → Read B} (f : A → B → Directive) → CompleteTree P Any read → Complete Q Any next
      → CompleteTree (λ zs c. (xs ys : List Token) × (a : A) × (b : B) × (zs ≡ xs ++ ys) × P xs a × Q ys b × (c ≡ f a b)) Any (λ ts. then_read f (read ts) next)
  then_as f h k = t_then {E = Any} {F = Any} f h k (λ zs c q. (q.3, record { left = q.0; right = q.1; value = q.2; whole = q.4; first = q.5; second = q.6; between = λ o rest e. tt }, q.7))

  destruct_read : (xs ys : List Token) (t : ProofTerm) (p : Pat) → ProofTermOf stop preds names true xs t → IsBoundPattern ys p → ReadAs form.Destruct (xs ++ name (bytes "as") ∷ ys) (d.Destruct t p)
  unfolding directive_in destruct
  destruct_read xs ys t p is k o = (then_as d.Destruct (t_proof_term stop preds names true) c_as_bound).ok o (xs ++ name (bytes "as") ∷ ys) (d.Destruct t p) [] (xs, name (bytes "as") ∷ ys, t, p, refl, is, (ys, refl, k), refl) tt

  pose_read : (xs ys : List Token) (t : ProofTerm) (p : Pat) → ProofTermOf stop preds names true xs t → IsOne stop preds names ys p → ReadAs form.PoseProof (xs ++ name (bytes "as") ∷ in_quotes ys) (d.PoseProof t p)
  unfolding directive_in pose_proof
  pose_read xs ys t p is k o = (then_as d.PoseProof (t_proof_term stop preds names true) (c_as_pattern MAX_LEVELS)).ok o (xs ++ name (bytes "as") ∷ in_quotes ys) (d.PoseProof t p) [] (xs, name (bytes "as") ∷ in_quotes ys, t, p, refl, is, as_quoted ys p k, refl) tt

  eliminate_read : (xs ys : List Token) (t : ProofTerm) (p : Pat) → ProofTermOf stop preds names true xs t → IsOne stop preds names ys p → ReadAs form.Mod (xs ++ name (bytes "as") ∷ in_quotes ys) (d.Mod t p)
  unfolding directive_in eliminate
  eliminate_read xs ys t p is k o = (then_as d.Mod (t_proof_term stop preds names true) (c_as_pattern (MAX_LEVELS - 1))).ok o (xs ++ name (bytes "as") ∷ in_quotes ys) (d.Mod t p) [] (xs, name (bytes "as") ∷ in_quotes ys, t, p, refl, is, as_quoted ys p k, refl) tt

  specialize_read : (xs : List Token) (t : ProofTerm) → ProofTermOf stop preds names false xs t → ReadAs form.Specialize xs (d.Specialize t)
  unfolding directive_in specialize
  specialize_read xs t is o = (t_mapped {P = ProofTermOf stop preds names false} {Q = λ ys x. (a : ProofTerm) × ProofTermOf stop preds names false ys a × (x ≡ d.Specialize a)} d.Specialize (t_proof_term stop preds names false) (λ ys b k. k)).ok o xs (d.Specialize t) [] (t, is, refl) tt

  apply_read : (xs : List Token) (t : ProofTerm) → ProofTermOf stop preds names true xs t → ReadAs form.Apply xs (d.Apply t)
  unfolding directive_in apply
  apply_read xs t is o = (t_mapped {P = ProofTermOf stop preds names true} {Q = λ ys x. (a : ProofTerm) × ProofTermOf stop preds names true ys a × (x ≡ d.Apply a)} d.Apply (t_proof_term stop preds names true) (λ ys b k. k)).ok o xs (d.Apply t) [] (t, is, refl) tt

  assert_read : (xs us : List Token) (q : Formula) (how : Spat) (p : Pat) → IsAnyFormula stop preds names xs q → Asserted us (how, p) → ReadAs form.Assert (in_parentheses xs ++ us) (d.Assert q how p)
  unfolding directive_in assert
  assert_read xs us q how p is k o = (then_as (λ f (a : Spat × Pat). d.Assert f a.0 a.1) (t_grouped_formula stop preds names) c_asserted).ok o (in_parentheses xs ++ us) (d.Assert q how p) [] (in_parentheses xs, us, q, (how, p), refl, (xs, refl, is), k, refl) tt

  exists_read : (xs : List Token) (ts : List Term) → AreTerms names xs ts → ReadAs form.Exists xs (d.Exists ts)
  unfolding directive_in exists_in
  exists_read xs ts is o = (t_mapped {P = AreTerms names} {Q = λ ys x. (a : List Term) × AreTerms names ys a × (x ≡ d.Exists a)} d.Exists (t_some_terms stop preds names) (λ ys b k. k)).ok o xs (d.Exists ts) [] (ts, is, refl) end_terms

  fold_read : (xs : List Token) (q : Formula) (x : List ℕ) → IsAnyFormula stop preds names xs q → ReadAs form.Fold (in_parentheses xs ++ name (bytes "in") ∷ g.quoted x) (d.Fold q x)
  unfolding directive_in fold
  fold_read xs q x is o = (then_as d.Fold (t_grouped_formula stop preds names) c_in_name).ok o (in_parentheses xs ++ name (bytes "in") ∷ g.quoted x) (d.Fold q x) [] (in_parentheses xs, name (bytes "in") ∷ g.quoted x, q, x, refl, (xs, refl, is), (g.quoted x, refl, spelled_quoted x), refl) tt

  write_read : (x : List ℕ) (ts : List Token) (t : Term) → IsTerm names operand ts t → ReadAs form.Write (g.quoted x ++ ts) (d.Write x t)
  unfolding directive_in write
  write_read x ts t is o =
      (t_followed {P = Quoted (Spelled name_as)} {Q = λ x ys r. (a : Term) × IsTerm names operand ys a × (r ≡ d.Write x a)} {R = λ zs r. (ys : List Token) × (x : List ℕ) × (a : Term) × (zs ≡ g.quoted x ++ ys) × IsTerm names operand ys a × (r ≡ d.Write x a)} {E = Any} {F = Any} {next = λ x ts. mapped (d.Write x) (operand_tree stop preds names ts)} (c_quoted_name stop)
      (λ x. t_mapped {P = IsTerm names operand} (d.Write x) (t_operand stop preds names) (λ ys b k. k))
      (λ zs r k. record { left = g.quoted k.1; right = k.0; value = k.1; whole = k.3; first = spelled_quoted k.1; second = (k.2, k.4, k.5); between = λ o rest e. tt })).ok o (g.quoted x ++ ts) (d.Write x t) [] (ts, x, t, refl, is, refl) tt

  alloc_read : (x : List ℕ) (xs ys : List Token) (t : Term) (p : Pat) → IsTerm names operand xs t → IsOne stop preds names ys p → ReadAs form.Alloc (xs ++ name (bytes "as") ∷ (in_parentheses (name x ∷ []) ++ in_quotes ys)) (d.Alloc t x p)
  unfolding directive_in alloc
  alloc_read x xs ys t p is k o =
      let us : List Token = name (bytes "as") ∷ (in_parentheses (name x ∷ []) ++ in_quotes ys) in
      (then_as (λ t (a : List ℕ × Pat). d.Alloc t a.0 a.1) (t_operand stop preds names) c_allocated).ok o (xs ++ us) (d.Alloc t x p) [] (xs, us, t, (x, p), refl, is, (ys, refl, k), refl) tt

  cases_read : (x : List ℕ) (ts : List Token) (p : Pure) → IsPure names Ors ts p → ReadAs form.Cases (in_parentheses ts ++ name (bytes "as") ∷ g.quoted x) (d.Cases p x)
  unfolding directive_in cases
  cases_read x ts p is o = (then_as d.Cases (t_grouped_pure stop preds names) c_as_name).ok o (in_parentheses ts ++ name (bytes "as") ∷ g.quoted x) (d.Cases p x) [] (in_parentheses ts, name (bytes "as") ∷ g.quoted x, p, x, refl, (ts, refl, is), (g.quoted x, refl, spelled_quoted x), refl) tt

  -- ---- all directives

  pub record DirectiveRead (w : List ℕ) (ys : List Token) (x : Directive) : Type 0 where
    pub kind : Form
    pub known : Known w kind
    pub read : ReadAs kind ys x

  plain_row : (w : List ℕ) (f : PlainForm) (ys : List Token) (x : Directive) → Known w (form.Plain f) → PlainAs f ys x → DirectiveRead w ys x
  plain_row w f ys x k h = record { kind = form.Plain f; known = k; read = plainly f ys x h }

  pub directive_read : (w : List ℕ) (ys : List Token) (x : Directive) → IsDirective preds names w ys x → DirectiveRead w ys x
  unfolding plain_in linear encode lookup sentence_words directive_words sentence_form_of form_of
  directive_read w ys x (g.intros_names n ns) = subst (λ (v : List Token). DirectiveRead w v (d.Intros (variables (n ∷ ns)))) (append-nil (in_parentheses (names_as (n ∷ ns)))) (plain_row w plain_form.Intros (in_parentheses (names_as (n ∷ ns)) ++ []) (d.Intros (variables (n ∷ ns))) (known _ _ refl refl) (named_intros_read (n ∷ ns) tt [] (variables (n ∷ ns)) (no_further (variables (n ∷ ns)))))
  directive_read w ys x (g.intros_both n ns {ts = ts} {ps = ps} is) = plain_row w plain_form.Intros (in_parentheses (names_as (n ∷ ns)) ++ in_quotes ts) (d.Intros (variables (n ∷ ns) ++ ps)) (known _ _ refl refl) (named_intros_read (n ∷ ns) tt (in_quotes ts) (variables (n ∷ ns) ++ ps) (some_further (variables (n ∷ ns)) ts ps is))
  directive_read w ys x (g.intros {ts = ts} {ps = ps} is) = plain_row w plain_form.Intros (in_quotes ts) (d.Intros ps) (known _ _ refl refl) (intros_read ts ps is)
  directive_read w _ _ (g.destruct {xs = xs} {ys = ys} {t = t} {p = p} h k) = record { kind = form.Destruct; known = (known _ _ refl refl); read = destruct_read xs ys t p (h, λ e. absurd cc) k }
  directive_read w _ _ (g.pose_proof {xs = xs} {ys = ys} {t = t} {p = p} h k) = record { kind = form.PoseProof; known = (known _ _ refl refl); read = pose_read xs ys t p (h, λ e. absurd cc) k }
  directive_read w _ _ (g.eliminate {xs = xs} {ys = ys} {t = t} {p = p} h k) = record { kind = form.Mod; known = (known _ _ refl refl); read = eliminate_read xs ys t p (h, λ e. absurd cc) k }
  directive_read w _ _ (g.specialize {xs = xs} {t = t} h k) = record { kind = form.Specialize; known = (known _ _ refl refl); read = specialize_read xs t (h, λ e. k) }
  directive_read w _ _ (g.apply {xs = xs} {t = t} h) = record { kind = form.Apply; known = (known _ _ refl refl); read = apply_read xs t (h, λ e. absurd cc) }
  directive_read w _ _ (g.assert {e = e} b how bracketed {xs = xs} {ys = ys} {f = f} {p = p} h k) = record { kind = form.Assert; known = (known _ _ refl refl); read = assert_read xs _ f how p (e, h) (b, name (bytes "with") ∷ (in_quotes (spat_as how) ++ name (bytes "as") ∷ in_quotes ys), refl, (spat_as how, ys, refl, (refl, bracketed), k)) }
  directive_read w ys x g.split = plain_row w plain_form.Split [] d.Split (known _ _ refl refl) (λ o. inl refl)
  directive_read w ys x (g.split_left xs one) = plain_row w plain_form.SplitL (if_some g.quoted_names xs) (d.SplitL xs) (known _ _ refl refl) (split_left_read xs one)
  directive_read w ys x (g.split_right xs one) = plain_row w plain_form.SplitR (if_some g.quoted_names xs) (d.SplitR xs) (known _ _ refl refl) (split_right_read xs one)
  directive_read w ys x g.left = plain_row w plain_form.Left [] d.Left (known _ _ refl refl) (λ o. inl refl)
  directive_read w ys x g.right = plain_row w plain_form.Right [] d.Right (known _ _ refl refl) (λ o. inl refl)
  directive_read w ys x g.assumption_of = plain_row w plain_form.Assumption [] d.Assumption (known _ _ refl refl) (λ o. inl refl)
  directive_read w ys x g.ex_falso = plain_row w plain_form.ExFalso [] d.ExFalso (known _ _ refl refl) (λ o. inl refl)
  directive_read w ys x g.done = plain_row w plain_form.Done [] d.Done (known _ _ refl refl) (λ o. inl refl)
  directive_read w _ _ (g.exists {xs = xs} {ts = ts} h) = record { kind = form.Exists; known = (known _ _ refl refl); read = exists_read xs ts h }
  directive_read w ys x (g.exact n) = plain_row w plain_form.Exact (g.quoted n) (d.Exact n) (known _ _ refl refl) (exact_read n)
  directive_read w ys x (g.clear ss one) = plain_row w plain_form.Clear (g.quoted_sels ss) (d.Clear ss) (known _ _ refl refl) (clear_read ss one)
  directive_read w ys x (g.rename n m) = plain_row w plain_form.Rename (g.quoted n ++ name (bytes "into") ∷ g.quoted m) (d.Rename n m) (known _ _ refl refl) (rename_read n m)
  directive_read w ys x (g.revert_names xs one) = subst (λ (v : List Token). DirectiveRead w v (d.Revert xs [])) (append-nil (in_parentheses (names_as xs))) (plain_row w plain_form.Revert (in_parentheses (names_as xs) ++ []) (d.Revert xs []) (known _ _ refl refl) (named_revert_read xs one [] [] no_sels))
  directive_read w ys x (g.revert_sels ss one) = plain_row w plain_form.Revert (g.quoted_sels ss) (d.Revert [] ss) (known _ _ refl refl) (revert_read ss one)
  directive_read w ys x (g.revert_both xs ss one more) = plain_row w plain_form.Revert (in_parentheses (names_as xs) ++ g.quoted_sels ss) (d.Revert xs ss) (known _ _ refl refl) (named_revert_read xs one (g.quoted_sels ss) ss (some_sels ss more))
  directive_read w ys x (g.frame ss one) = plain_row w plain_form.Frame (if_some g.quoted_sels ss) (d.Frame ss) (known _ _ refl refl) (frame_read ss one)
  directive_read w ys x g.mod_intro = plain_row w plain_form.ModIntro [] d.ModIntro (known _ _ refl refl) (λ o. inl refl)
  directive_read w ys x g.next_step = plain_row w plain_form.Next [] d.Next (known _ _ refl refl) (λ o. inl refl)
  directive_read w ys x (g.loeb n) = plain_row w plain_form.Loeb (name (bytes "as") ∷ g.quoted n) (d.Loeb n) (known _ _ refl refl) (loeb_read n)
  directive_read w ys x (g.loeb_ascii n) = plain_row w plain_form.Loeb (name (bytes "as") ∷ g.quoted n) (d.Loeb n) (known _ _ refl refl) (loeb_read n)
  directive_read w ys x (g.unfold_call n) = plain_row w plain_form.Unfold (if_some g.quoted n) (d.Unfold n) (known _ _ refl refl) (unfold_read n)
  directive_read w _ _ (g.fold {e = e} {xs = xs} {f = f} n h) = record { kind = form.Fold; known = (known _ _ refl refl); read = fold_read xs f n (e, h) }
  directive_read w _ _ (g.combine n m {ts = ts} {p = p} h) = plain_row w plain_form.Combine (in_quotes (name n ∷ name m ∷ []) ++ name (bytes "as") ∷ in_quotes ts) (d.Combine n m p) (known _ _ refl refl) (combine_read n m ts p h)
  directive_read w _ _ (g.write n {ts = ts} {t = t} h) = record { kind = form.Write; known = (known _ _ refl refl); read = write_read n ts t h }
  directive_read w _ _ (g.alloc n {xs = xs} {ys = ys} {t = t} {p = p} h k) = record { kind = form.Alloc; known = (known _ _ refl refl); read = alloc_read n xs ys t p h k }
  directive_read w ys x g.pure_intro = plain_row w plain_form.PureIntro [] d.PureIntro (known _ _ refl refl) (λ o. inl refl)
  directive_read w ys x (g.rewrite back n) = subst (λ (v : List Token). DirectiveRead w (minus_if back ++ v) (d.Rewrite back n None)) (append-nil (g.quoted n)) (plain_row w plain_form.Rewrite (minus_if back ++ (g.quoted n ++ [])) (d.Rewrite back n None) (known _ _ refl refl) (rewrite_read back n [] None refl))
  directive_read w ys x (g.rewrite_in back n m) = plain_row w plain_form.Rewrite (minus_if back ++ (g.quoted n ++ name (bytes "in") ∷ g.quoted m)) (d.Rewrite back n (Some m)) (known _ _ refl refl) (rewrite_read back n (name (bytes "in") ∷ g.quoted m) (Some m) (g.quoted m, refl, spelled_quoted m))
  directive_read w _ _ (g.cases n {ts = ts} {p = p} h) = record { kind = form.Cases; known = (known _ _ refl refl); read = cases_read n ts p h }
  directive_read w ys x g.linear = plain_row w plain_form.Linear [] d.Linear (known _ _ refl refl) (λ o. inl refl)
  directive_read w _ _ (g.linear_with {xs = xs} {c = c} h) = subst (λ (v : List Token). DirectiveRead w (name (bytes "with") ∷ v) (d.LinearWith (c ∷ []))) (append-nil (in_quotes xs)) (plain_row w plain_form.Linear (name (bytes "with") ∷ (in_quotes xs ++ [])) (d.LinearWith (c ∷ [])) (known _ _ refl refl) (linear_read xs c h [] None refl))
  directive_read w _ _ (g.linear_with_two {xs = xs} {ys = ys} {c = c} {e = e} h k) = plain_row w plain_form.Linear (name (bytes "with") ∷ (in_quotes xs ++ in_quotes ys)) (d.LinearWith (c ∷ e ∷ [])) (known _ _ refl refl) (linear_read xs c h (in_quotes ys) (Some e) (ys, refl, k))
