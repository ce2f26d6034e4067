-- Sentences that the grammar derives are read, unless they are too deep.
use Rattle.std.proofs.Common.{◌≡◌, inl, inr, ℕ, zero, suc, ◌<◌, ◌-◌, ◌≤◌, ◌^◌, Bool, true, false, cond, ◌||◌, ◌&&◌, ◌==◌, lt-ltb, List, [], ◌∷◌, ◌++◌, length, Some, None, Ok, Err, refl, sym, ap, subst, ◌∙◌, append_assoc, append-nil, arith}
use Rattle.std.specs.Prelude.{slice_get}
use Rattle.std.specs.List.{list_any}
use Rattle.std.specs.Str.{bytes_eq}
use Rattle.std.proofs.lemmas.Bool.Decides.{Decides-eqb}
use Rattle.std.proofs.lemmas.Slice.Eq.{bytes_eq-Decides}
use Rattle.pm_logic.specs.declared.limits.TheConstants.{MAX_LEVELS}
use Rattle.pm_logic.specs.declared.formula.Formula.{Formula}
use Rattle.pm_logic.specs.declared.formula.Formula.TheViews as formula
use Rattle.pm_logic.specs.declared.formula.Pred.{Pred}
use Rattle.pm_logic.specs.Size.{depth_of}
use Rattle.pm_tokens.specs.declared.symbol.Symbol.TheVariants as s
use Rattle.pm_tokens.specs.Tokens.{Token, name, number, symbol, Place, place}
use Rattle.pm_text.specs.declared.level.Level.TheVariants.{Wands}
use Rattle.pm_terms.specs.Scope.{Names, callables, callables_in}
use Rattle.pm_terms.specs.Steps.{◌>>=◌, made, same_symbol, sees, offset, unexpected, expect, natural, digits, all_of}
use Rattle.pm_text.specs.FormulaReading.{formula_in}
use Rattle.pm_patterns.specs.PatternReading.{name_in}
use Rattle.pm_script.specs.declared.directive.Directive.{Directive}
use Rattle.pm_script.specs.declared.sentence.Sentence.{Sentence}
use Rattle.pm_script.specs.declared.sentence.Sentence.TheVariants as sentence
use Rattle.pm_script.specs.declared.words.SentenceForm.{SentenceForm}
use Rattle.pm_script.specs.declared.words.SentenceForm.TheVariants as form
use Rattle.pm_tokens.specs.Words.{lookup}
use Rattle.pm_script.specs.Words.{bytes, sentence_words, sentence_form_of}
use lib.Utf8.{encode}
use Rattle.pm_script.specs.SentenceReading.{Deeps, ReadIn, too_deep, carried, param_in, next_param, some_params, params, directive_in, brace_in, body_in, grouped_params, defined, predicate, conclusion, statement, statement_tree, lemma, undo, formed, sentence_in, no_deep, sentence_of}
use Rattle.pm_grammar.specs.FormulaGrammar.{End, IsFormula}
use Rattle.pm_grammar.specs.ReadingLaws.{tokens_at}
use Rattle.pm_grammar.specs.Parts.{FormulaEnds}
use Rattle.pm_grammar.proofs.Steps.{put, skip, put-append, placed, symbol_is}
use Rattle.pm_grammar.proofs.FormulasRead.{formula_read}
use Rattle.pm_script_grammar.specs.PatternGrammar.{in_parentheses}
use Rattle.pm_script_grammar.specs.SentenceGrammar as g
use Rattle.pm_script_grammar.specs.SentenceGrammar.{params_as, Differ, IsDirective, IsSentence}
use Rattle.pm_script_grammar.specs.SentenceLaws.{SentencesAreComplete}
use Rattle.pm_script_grammar.proofs.SentencesDerived.{commas, behind_first}
use Rattle.pm_script_grammar.proofs.Complete.{Okay, sees_itself, then_okay, at_okay, length-put, Complete, Sees}
use Rattle.pm_script_grammar.proofs.PatternsRead.{made_okay}
use Rattle.pm_script_grammar.proofs.QuotedRead.{c_enclosed}
use Rattle.pm_script_grammar.proofs.PartsRead.{t_formula, entails_formula, end_formula, ends_either, okay}
use Rattle.pm_script_grammar.proofs.DirectivesRead.{DirectiveRead, directive_read}

-- ---- parameters

abbrev New : List ℕ → Names → Type 0
New w seen = list_any (bytes_eq w) seen ≡ false

-- one name more is seen
new_push : (w x : List ℕ) (seen : Names) → New w seen → ¬ (w ≡ x) → New w (seen ++ x ∷ [])
new_push w x [] new ne = go (bytes_eq w x) refl
  where
    go : (b : Bool) → bytes_eq w x ≡ b → (bytes_eq w x || false) ≡ false
    go true e = absurd (ne ((bytes_eq-Decides w x).0 e))
    go false e = rw e refl
new_push w x (y ∷ seen) new ne = go (λ h. new_push w x seen h ne) (bytes_eq w y) refl new
  where
    go : (New w seen → New w (seen ++ x ∷ [])) → (b : Bool) → bytes_eq w y ≡ b → (b || list_any (bytes_eq w) seen) ≡ false → (bytes_eq w y || list_any (bytes_eq w) (seen ++ x ∷ [])) ≡ false
    go more true e h = absurd cc
    go more false e h = rw e (more h)

-- the names differ from those that are seen, and from one another
abbrev Fresh : Names → Names → Type 0
Fresh seen [] = Unit {0}
Fresh seen (x ∷ xs) = New x seen × Fresh (seen ++ x ∷ []) xs

-- each is none of the names before
abbrev Apart : Names → Names → Type 0
Apart seen [] = Unit {0}
Apart seen (x ∷ xs) = New x seen × Apart seen xs

apart_push : (x : List ℕ) (seen xs : Names) → Apart seen xs → ((i : ℕ) → ¬ (slice_get xs i ≡ Some x)) → Apart (seen ++ x ∷ []) xs
apart_push x seen [] h ne = tt
apart_push x seen (y ∷ xs) h ne = (new_push y x seen h.0 (λ e. ne 0 (ap Some e)), apart_push x seen xs h.1 (λ i. ne (suc i)))

fresh : (seen xs : Names) → Apart seen xs → Differ xs → Fresh seen xs
fresh seen [] h d = tt
fresh seen (x ∷ xs) h d = (h.0, fresh (seen ++ x ∷ []) xs (apart_push x seen xs h.1 d.0) d.1)

apart_none : (xs : Names) → Apart [] xs
apart_none [] = tt
apart_none (x ∷ xs) = (refl, apart_none xs)

module _ (stop : ℕ) where
  abbrev next : (ℕ → ℕ) → ℕ → ℕ
  next o n = o (suc n)

  param_read : (w : List ℕ) (seen : Names) → New w seen → (at : ℕ) (us : List Place) → param_in stop seen (place (name w) at ∷ us) ≡ Ok (w, us)
  unfolding param_in name_in
  param_read w seen new at us = rw new refl

  carried_read : (n : ℕ) (seen xs : Names) → Fresh seen xs → length (commas xs) ≤ n → (o : ℕ → ℕ) (rest : List Place) → sees s.Comma rest ≡ false → carried (sees s.Comma) (next_param stop) n seen (put o (commas xs) ++ rest) ≡ Ok (seen ++ xs, rest)
  unfolding carried next_param commas
  carried_read zero seen [] h le o rest e = ap (λ (v : Names). Ok (v, rest)) (sym (append-nil seen))
  carried_read (suc n) seen [] h le o rest e = rw e (ap (λ (v : Names). Ok (v, rest)) (sym (append-nil seen)))
  carried_read zero seen (x ∷ xs) h le o rest e = absurd (omega (arith, le))
  carried_read (suc n) seen (x ∷ xs) h le o rest e =
      let us : List Place = put (next (next o)) (commas xs) ++ rest in
      let comma = sees_itself s.Comma (o 0) (place (name x) (o 1) ∷ us) in
      let read = param_read x seen h.0 (o 1) us in
      let later = carried_read n (seen ++ x ∷ []) xs h.1 (omega (arith, le)) (next (next o)) rest e in
      rw comma (rw read (later ∙ ap (λ (v : Names). Ok (v, rest)) (append_assoc seen (x ∷ []) xs)))

  some_params_read : (x : List ℕ) (xs : Names) → Differ (x ∷ xs) → (o : ℕ → ℕ) (rest : List Place) → sees s.Comma rest ≡ false → some_params stop (put o (name x ∷ commas xs) ++ rest) ≡ Ok (x ∷ xs, rest)
  unfolding some_params name_in
  some_params_read x xs d o rest e = let f = fresh [] (x ∷ xs) (apart_none (x ∷ xs)) d in carried_read (length (put (next o) (commas xs) ++ rest)) (x ∷ []) xs f.1 (length-put (next o) (commas xs) rest) (next o) rest e

  -- a parenthesis closes
  close_comma : (at : ℕ) (us : List Place) → sees s.Comma (place (symbol s.Close) at ∷ us) ≡ false
  unfolding sees same_symbol
  close_comma at us = refl

  close_only : (rest : List Place) → sees s.Close rest ≡ true → sees s.Comma rest ≡ false
  unfolding sees
  close_only [] e = refl
  close_only (place (name w) at ∷ us) e = refl
  close_only (place (number n) at ∷ us) e = refl
  close_only (place (symbol r) at ∷ us) e = subst (λ r. sees s.Comma (place (symbol r) at ∷ us) ≡ false) (sym (symbol_is r s.Close e)) (close_comma at us)

  name_no_close : (x : List ℕ) (at : ℕ) (us : List Place) → sees s.Close (place (name x) at ∷ us) ≡ false
  unfolding sees
  name_no_close x at us = refl

  params_read : (xs : Names) → Differ xs → (o : ℕ → ℕ) (rest : List Place) → sees s.Close rest ≡ true → Okay (params stop (put o (params_as xs) ++ rest)) (xs, rest)
  unfolding params
  params_read [] d o rest e = rw e (inl refl)
  params_read (x ∷ xs) d o rest e =
      let other = name_no_close x (o 0) (put (next o) (commas xs) ++ rest) in
      at_okay (params stop) (put o (params_as (x ∷ xs)) ++ rest) (put o (name x ∷ commas xs) ++ rest) (x ∷ xs, rest) (ap (λ (v : List Token). put o v ++ rest) (behind_first x xs)) (rw other (inl (some_params_read x xs d o rest (close_only rest e))))

  c_params : Complete (λ ys xs. (ys ≡ params_as xs) × Differ xs) (Sees s.Close) (params stop)
  c_params = record { ok = λ o ys xs rest is e. at_okay (params stop) (put o ys ++ rest) (put o (params_as xs) ++ rest) (xs, rest) (ap (λ (v : List Token). put o v ++ rest) is.0) (params_read xs is.1 o rest e) }

-- ---- sentences

module _ (stop : ℕ) (preds : List Pred) (names : Names) where
  abbrev IsRead : SentenceForm → List Token → Sentence → Type 0
  IsRead f ys x = (o : ℕ → ℕ) → (deeps : Deeps) × Okay (formed stop preds names f (put o ys ++ [])) ((x, deeps), [])

  params_grouped : (xs : Names) → Differ xs → (o : ℕ → ℕ) (us : List Place) → Okay (grouped_params stop (put o (in_parentheses (params_as xs)) ++ us)) (xs, us)
  unfolding grouped_params
  params_grouped xs d o us = (c_enclosed s.Open s.Close stop (sees_itself s.Close) (c_params stop)).ok o (in_parentheses (params_as xs)) xs us (params_as xs, refl, (refl, d)) tt

  defined_read : (p : List ℕ) (xs : Names) (e : End) (ts : List Token) (f : Formula) → IsFormula (callables_in p (length xs) preds) xs Wands e ts f → (o : ℕ → ℕ) → (deeps : Deeps) × Okay (defined stop preds names p xs (put o (symbol s.Defines ∷ ts) ++ [])) ((sentence.Predicate p xs f, deeps), [])
  unfolding defined body_in expect
  defined_read p xs e ts f is o =
      let us : List Place = put (λ n. o (suc n)) ts ++ [] in
      let seen = sees_itself s.Defines (o 0) us in
      let d = (t_formula stop (callables_in p (length xs) preds) xs).ok (λ n. o (suc n)) ts f [] (e, is) end_formula in
      (d.0, rw seen (then_okay _ (λ x. Ok ((sentence.Predicate p xs x.0.0, x.0.1), x.1)) ((f, d.0), []) ((sentence.Predicate p xs f, d.0), []) d.1 (inl refl)))

  predicate_read : (p : List ℕ) (xs : Names) (e : End) (ts : List Token) (f : Formula) → Differ xs → IsFormula (callables_in p (length xs) preds) xs Wands e ts f → IsRead form.Predicate (name p ∷ (in_parentheses (params_as xs) ++ symbol s.Defines ∷ ts)) (sentence.Predicate p xs f)
  unfolding formed predicate name_in
  predicate_read p xs e ts f differ is o =
      let q : ℕ → ℕ = λ n. o (suc n) in
      let head : List Token = in_parentheses (params_as xs) in
      let us : List Place = put (skip head q) (symbol s.Defines ∷ ts) ++ [] in
      let d = defined_read p xs e ts f is (skip head q) in (
        d.0,
        at_okay (λ vs. grouped_params stop vs >>= λ xs. defined stop preds names p xs.0 xs.1) (put q (head ++ symbol s.Defines ∷ ts) ++ []) (put q head ++ us) ((sentence.Predicate p xs f, d.0), []) (put-append q head (symbol s.Defines ∷ ts) [])
            (then_okay (grouped_params stop (put q head ++ us)) (λ xs. defined stop preds names p xs.0 xs.1) (xs, us) ((sentence.Predicate p xs f, d.0), []) (params_grouped xs differ q us) d.1),
      )

  -- `F` or `F ⊢ F`
  abbrev Stated : List Token → Formula → Type 0
  Stated ys f = (o : ℕ → ℕ) → Okay (statement stop preds names (put o ys ++ [])) (f, [])

  no_entails : sees s.Entails [] ≡ false
  unfolding sees
  no_entails = refl

  part_read : (room : ℕ) (e : End) (xs : List Token) (f : Formula) → IsFormula (callables 0 preds) [] Wands e xs f → (o : ℕ → ℕ) (rest : List Place) → FormulaEnds Wands rest → Okay (formula_in stop (callables 0 preds) room Wands [] (put o xs ++ rest)) (f, rest)
  part_read room e xs f is o rest ends = okay _ _ (formula_read stop (callables 0 preds) [] Wands e xs f is room o rest (ends_either e rest ends))

  single_read : (e : End) (xs : List Token) (f : Formula) → IsFormula (callables 0 preds) [] Wands e xs f → Stated xs f
  unfolding statement conclusion
  single_read e xs f is o = then_okay (formula_in stop (callables 0 preds) MAX_LEVELS Wands [] (put o xs ++ [])) (λ f. conclusion stop preds names f.0 f.1) (f, []) (f, []) (part_read MAX_LEVELS e xs f is o [] end_formula) (rw no_entails (inl refl))

  both_read : (e h : End) (xs ys : List Token) (f q : Formula) → IsFormula (callables 0 preds) [] Wands e xs f → IsFormula (callables 0 preds) [] Wands h ys q → Stated (xs ++ symbol s.Entails ∷ ys) (formula.Wand f q)
  unfolding statement conclusion
  both_read e h xs ys f q is-f is-q o =
      let at : ℕ = skip xs o 0 in
      let vs : List Place = put (λ n. skip xs o (suc n)) ys ++ [] in
      let us : List Place = place (symbol s.Entails) at ∷ vs in
      let seen = sees_itself s.Entails at vs in
      at_okay (λ ts. formula_in stop (callables 0 preds) MAX_LEVELS Wands [] ts >>= λ f. conclusion stop preds names f.0 f.1) (put o (xs ++ symbol s.Entails ∷ ys) ++ []) (put o xs ++ us) (formula.Wand f q, []) (put-append o xs (symbol s.Entails ∷ ys) [])
      (then_okay (formula_in stop (callables 0 preds) MAX_LEVELS Wands [] (put o xs ++ us)) (λ f. conclusion stop preds names f.0 f.1) (f, us) (formula.Wand f q, []) (part_read MAX_LEVELS e xs f is-f o us (entails_formula at vs))
      (rw seen (made_okay (formula.Wand f) (formula_in stop (callables 0 preds) (MAX_LEVELS - 1) Wands [] vs) q [] (part_read (MAX_LEVELS - 1) h ys q is-q (λ n. skip xs o (suc n)) [] end_formula))))

  lemma_read : (n : List ℕ) (ys : List Token) (f : Formula) → Stated ys f → IsRead form.Lemma (name n ∷ symbol s.Colon ∷ ys) (sentence.Lemma n f)
  unfolding formed lemma name_in expect statement_tree
  lemma_read n ys f h o =
      let q : ℕ → ℕ = λ m. o (suc (suc m)) in
      let us : List Place = put q ys ++ [] in
      let seen = sees_itself s.Colon (o 1) us in
      let deeps : Deeps = too_deep (depth_of f) (offset stop us) in (
        deeps,
        rw seen (then_okay (made (λ f. (f, too_deep (depth_of f) (offset stop us))) (statement stop preds names us)) (λ x. Ok ((sentence.Lemma n x.0.0, x.0.1), x.1)) ((f, deeps), []) ((sentence.Lemma n f, deeps), [])
            (then_okay (statement stop preds names us) (λ x. Ok ((x.0, too_deep (depth_of x.0) (offset stop us)), x.1)) (f, []) ((f, deeps), []) (h q) (inl refl)) (inl refl)),
      )

  number_read : (n : ℕ) → n < 2 ^ 63 → (o : ℕ → ℕ) → digits stop natural (put o (number n ∷ []) ++ []) ≡ Ok (n, [])
  unfolding digits
  number_read n low o = rw (lt-ltb n (2 ^ 63) low) refl

  undo_read : IsRead form.Undo [] (sentence.Undo 1)
  unfolding formed undo
  undo_read o = (None, inl refl)

  undo_steps_read : (n : ℕ) → n < 2 ^ 63 → IsRead form.Undo (number n ∷ []) (sentence.Undo n)
  unfolding formed undo
  undo_steps_read n low o = let read = number_read n low o in (None, rw read (inl refl))

  alone_read : (x : Sentence) → (deeps : Deeps) × Okay {A = (Sentence × Deeps) × List Place} (Ok ((x, None), [])) ((x, deeps), [])
  alone_read x = (None, inl refl)

  -- ---- by the first word

  abbrev InRead : List Token → Sentence → Type 0
  InRead ys x = (o : ℕ → ℕ) → (deeps : Deeps) × Okay (sentence_in stop preds names (put o ys ++ [])) ((x, deeps), [])

  by_word : (w : List ℕ) (f : SentenceForm) (ys : List Token) (x : Sentence) → sentence_form_of w ≡ Some f → IsRead f ys x → InRead (name w ∷ ys) x
  unfolding sentence_in
  by_word w f ys x known h o = let d = h (λ n. o (suc n)) in (d.0, rw known d.1)

  by_directive : (w : List ℕ) (ys : List Token) (x : Directive) → DirectiveRead stop (callables 0 preds) names w ys x → InRead (name w ∷ ys) (sentence.Directive x)
  unfolding sentence_in
  by_directive w ys x r o =
      let q : ℕ → ℕ = λ n. o (suc n) in
      let d = r.read q in
      let other = r.known.other in
      let found = r.known.found in
      (d.0, rw (other, found) (then_okay (directive_in stop (callables 0 preds) names r.kind (put q ys ++ [])) (λ y. Ok ((sentence.Directive y.0.0, y.0.1), y.1)) ((x, d.0), []) ((sentence.Directive x, d.0), []) d.1 (inl refl)))

  enter_read : InRead (symbol s.OpenBrace ∷ []) sentence.Enter
  unfolding sentence_in brace_in sees same_symbol
  enter_read o = (None, inl refl)

  leave_read : InRead (symbol s.CloseBrace ∷ []) sentence.Leave
  unfolding sentence_in brace_in sees same_symbol
  leave_read o = (None, inl refl)

  in_read : (ys : List Token) (x : Sentence) → IsSentence preds names ys x → InRead ys x
  unfolding formed encode lookup sentence_words sentence_form_of
  in_read _ _ (g.predicate {e = e} p xs {ts = ts} {f = f} differ h) = by_word (bytes "Predicate") form.Predicate (name p ∷ (in_parentheses (params_as xs) ++ symbol s.Defines ∷ ts)) (sentence.Predicate p xs f) refl (predicate_read p xs e ts f differ h)
  in_read _ _ (g.lemma {e = e} n {ts = ts} {f = f} h) = by_word (bytes "Lemma") form.Lemma (name n ∷ symbol s.Colon ∷ ts) (sentence.Lemma n f) refl (lemma_read n ts f (single_read e ts f h))
  in_read _ _ (g.entailment {e = e} {h = h} n {xs = xs} {ys = ys} {f = f} {g = q} is-f is-q) = by_word (bytes "Lemma") form.Lemma (name n ∷ symbol s.Colon ∷ (xs ++ symbol s.Entails ∷ ys)) (sentence.Lemma n (formula.Wand f q)) refl (lemma_read n (xs ++ symbol s.Entails ∷ ys) (formula.Wand f q) (both_read e h xs ys f q is-f is-q))
  in_read ys x g.proof = by_word (bytes "Proof") form.Proof [] sentence.Proof refl (λ o. alone_read sentence.Proof)
  in_read ys x g.qed = by_word (bytes "Qed") form.Qed [] sentence.Qed refl (λ o. alone_read sentence.Qed)
  in_read ys x g.abort = by_word (bytes "Abort") form.Abort [] sentence.Abort refl (λ o. alone_read sentence.Abort)
  in_read ys x g.restart = by_word (bytes "Restart") form.Restart [] sentence.Restart refl (λ o. alone_read sentence.Restart)
  in_read ys x g.show = by_word (bytes "Show") form.Show [] sentence.Show refl (λ o. alone_read sentence.Show)
  in_read ys x g.undo = by_word (bytes "Undo") form.Undo [] (sentence.Undo 1) refl undo_read
  in_read ys x (g.undo_steps {n = n} low) = by_word (bytes "Undo") form.Undo (number n ∷ []) (sentence.Undo n) refl (undo_steps_read n low)
  in_read ys x g.enter = enter_read
  in_read ys x g.leave = leave_read
  in_read _ _ (g.directive {w = w} {ts = ts} {x = x} h) = by_directive w ts x (directive_read stop (callables 0 preds) names w ts x h)

-- ---- whole texts

no_deep_okay : {A : Type 0} (x : A) (deeps : Deeps) → Okay (no_deep (x, deeps)) x
no_deep_okay x None = inl refl
no_deep_okay x (Some at) = inr (at, refl)

whole_okay : {A : Type 0} (end : ℕ) (read : ReadIn A) (x : A) (deeps : Deeps) → Okay read ((x, deeps), []) → Okay (all_of end end read >>= no_deep) x
unfolding all_of
whole_okay end read x deeps h =
    let ends : (end == end) ≡ true = (Decides-eqb end end).1 refl in
    then_okay (all_of end end read) no_deep (x, deeps) x (then_okay read (λ y. cond (length y.1 == 0 && (end == end)) (Ok y.0) (Err (unexpected end y.1))) ((x, deeps), []) (x, deeps) h (inl (rw ends refl))) (no_deep_okay x deeps)

pub sentences_complete : SentencesAreComplete
unfolding sentence_of
sentences_complete preds names end ts x is =
    let p = placed ts in
    let d = in_read end preds names (tokens_at ts) x is p.0 in
    let same : put p.0 (tokens_at ts) ++ [] ≡ ts = append-nil (put p.0 (tokens_at ts)) ∙ p.1 in
    whole_okay end (sentence_in end preds names ts) x d.0 (subst (λ (us : List Place). Okay (sentence_in end preds names us) ((x, d.0), [])) same d.1)
