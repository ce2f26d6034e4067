-- Sentences that are read are derived by the grammar.
use Rattle.std.proofs.Common.{◌≡◌, ℕ, zero, suc, ◌<◌, ◌-◌, ◌^◌, Bool, true, false, cond, ◌||◌, ◌&&◌, ◌==◌, ltb, ltb-true, List, [], ◌∷◌, ◌++◌, length, drop, Option, Some, None, Ok, refl, sym, ap, subst, ◌∙◌, append_assoc, append-nil}
use Rattle.std.specs.Prelude.{slice_get}
use Rattle.std.specs.List.{AllByRecursion, list_any}
use Rattle.std.specs.Str.{bytes_eq}
use Rattle.std.proofs.lemmas.Bool.Decides.{Decides-eqb}
use Rattle.std.proofs.lemmas.Slice.Eq.{bytes_eq-Decides}
use Rattle.pm_logic.specs.declared.limits.TheConstants.{MAX_LEVELS}
use Rattle.pm_logic.specs.declared.formula.Formula.{Formula}
use Rattle.pm_logic.specs.declared.formula.Formula.TheViews as formula
use Rattle.pm_logic.specs.declared.formula.Pred.{Pred}
use Rattle.pm_logic.specs.Size.{depth_of}
use Rattle.pm_tokens.specs.declared.symbol.Symbol.TheVariants as s
use Rattle.pm_tokens.specs.Tokens.{Token, name, number, symbol, Place, place}
use Rattle.pm_text.specs.declared.level.Level.TheVariants.{Wands}
use Rattle.pm_terms.specs.Scope.{Names, callables, callables_in}
use Rattle.pm_terms.specs.Steps.{◌>>=◌, made, sees, offset, expect, natural, digits, all_of}
use Rattle.pm_text.specs.FormulaReading.{formula_in}
use Rattle.pm_patterns.specs.PatternReading.{name_in}
use Rattle.pm_script.specs.declared.sentence.Sentence.{Sentence}
use Rattle.pm_script.specs.declared.sentence.Sentence.TheVariants as sentence
use Rattle.pm_script.specs.declared.words.Form.{Form}
use Rattle.pm_script.specs.declared.words.SentenceForm.{SentenceForm}
use Rattle.pm_script.specs.Words.{bytes, sentence_words, form_of, sentence_form_of}
use Rattle.pm_script.specs.SentenceReading.{Deeps, too_deep, carried, mapped, param_in, next_param, some_params, params, brace_in, body_in, grouped_params, defined, predicate, conclusion, statement, statement_tree, lemma, undo, formed, directive_by, sentence_by, sentence_in, no_deep, sentence_of}
use Rattle.pm_grammar.specs.FormulaGrammar.{End, IsFormula}
use Rattle.pm_grammar.specs.ReadingLaws.{tokens_at}
use Rattle.pm_grammar.proofs.Steps.{bind_ok, ok_to, made_ok, guard_ok, either, sees_ok}
use Rattle.pm_grammar.proofs.TermsDerived.{and_ok, digits_ok}
use Rattle.pm_grammar.proofs.Sound.{parts}
use Rattle.pm_script_grammar.specs.PatternGrammar.{in_parentheses, name_as}
use Rattle.pm_script_grammar.specs.SentenceGrammar as g
use Rattle.pm_script_grammar.specs.SentenceGrammar.{params_as, Differ, IsDirective, IsSentence}
use Rattle.pm_script_grammar.specs.SentenceLaws.{SentencesAreSound}
use Rattle.pm_script_grammar.proofs.Sound.{Found, Sound, given, changed, behind_symbol, followed, chosen, after_symbol}
use Rattle.pm_script_grammar.proofs.PatternsDerived.{Within, enclosed, Spelled, name_sound}
use Rattle.pm_script_grammar.proofs.PartsDerived.{both_are, Tree, plain_sound, formula_tree_sound, IsAnyFormula}
use Rattle.pm_script_grammar.proofs.DirectivesDerived.{row_has, directive_sound}
use Rattle.pm_script_grammar.proofs.Fitted.{no_deep_ok}

-- ---- parameters

-- further names, each behind a comma
unfoldable pub commas : Names → List Token
commas [] = []
commas (x ∷ xs) = symbol s.Comma ∷ name x ∷ commas xs

pub behind_first : (x : List ℕ) (xs : Names) → params_as (x ∷ xs) ≡ name x ∷ commas xs
unfolding commas
behind_first x [] = refl
behind_first x (y ∷ xs) = ap (λ (ts : List Token). name x ∷ symbol s.Comma ∷ ts) (behind_first y xs)

absent_push : (x w : List ℕ) (xs : Names) → ¬ (w ≡ x) → ((i : ℕ) → ¬ (slice_get xs i ≡ Some x)) → (i : ℕ) → ¬ (slice_get (xs ++ w ∷ []) i ≡ Some x)
absent_push x w [] ne h zero = λ e. ne cc
absent_push x w [] ne h (suc i) = λ e. h i e
absent_push x w (y ∷ ys) ne h zero = h zero
absent_push x w (y ∷ ys) ne h (suc i) = absent_push x w ys ne (λ j. h (suc j)) i

-- none of the names is this one
abbrev New : List ℕ → Names → Type 0
New w seen = list_any (bytes_eq w) seen ≡ false

or_no : (a b : Bool) → (a || b) ≡ false → (a ≡ false) × (b ≡ false)
or_no true b e = absurd cc
or_no false b e = (refl, e)

differ_push : (w : List ℕ) (seen : Names) → New w seen → Differ seen → Differ (seen ++ w ∷ [])
differ_push w [] new d = (λ i e. absurd (nothing i e), tt)
  where
    nothing : (i : ℕ) → ¬ (slice_get [] i ≡ Some w)
    nothing i = λ e. cc
differ_push w (x ∷ seen) new d =
    let o = or_no (bytes_eq w x) (list_any (bytes_eq w) seen) new in
    (absent_push x w seen (λ e. let same = (bytes_eq-Decides w x).1 e in cc) d.0, differ_push w seen o.1 d.1)

module _ (stop : ℕ) where
  abbrev Grown : Names → List Token → Names → Type 0
  Grown seen ys all = (list : Names) × (ys ≡ commas list) × (all ≡ seen ++ list) × (Differ seen → Differ all)

  param_ok : (seen : Names) (ts : List Place) (x : List ℕ × List Place) → param_in stop seen ts ≡ Ok x → (Found (Spelled name_as) ts x) × New x.0 seen
  unfolding param_in
  param_ok seen ts x e =
      let b = bind_ok (name_in stop ts) (λ x. cond (list_any (bytes_eq x.0) seen) _ (Ok x)) x e in
      either (list_any (bytes_eq b.0.0) seen) _ _ _ b.2 (Found (Spelled name_as) ts x × New x.0 seen)
      (λ there k. absurd cc)
      (λ new k. ok_to (λ (y : List ℕ × List Place). Found (Spelled name_as) ts y × New y.0 seen) b.0 x k ((name_sound stop).ok ts b.0 b.1, new))

  none_more : (seen : Names) → Sound (Grown seen) (λ ts. Ok (seen, ts))
  unfolding commas
  none_more seen = given seen ([], refl, sym (append-nil seen), λ d. d)

  params_carried : (n : ℕ) (seen : Names) → Sound (Grown seen) (carried (sees s.Comma) (next_param stop) n seen)
  unfolding carried next_param commas
  params_carried zero seen = none_more seen
  params_carried (suc n) seen = record {
    ok = λ ts x e. either (sees s.Comma ts) _ _ _ e (Found (Grown seen) ts x)
        (λ comma k.
        let b = bind_ok (next_param stop seen ts) (λ y. carried (sees s.Comma) (next_param stop) n y.0 y.1) x k in
        let m = made_ok (λ w. seen ++ w ∷ []) (param_in stop seen (drop 1 ts)) b.0 b.1 in
        let p = param_ok seen (drop 1 ts) (m.0, b.0.1) m.1 in
        let later = (params_carried n b.0.0).ok b.0.1 x b.2 in
        record {
          before = symbol s.Comma ∷ (p.0.before ++ later.before);
          split = sees_ok s.Comma ts comma ∙ ap (λ (us : List Token). symbol s.Comma ∷ us) (p.0.split ∙ ap (λ (us : List Token). p.0.before ++ us) later.split ∙ sym (append_assoc p.0.before later.before (tokens_at x.1)));
          is = (
            m.0 ∷ later.is.0,
            ap (λ (us : List Token). symbol s.Comma ∷ us) (both_are p.0.is later.is.1),
            later.is.2 ∙ ap (λ (us : Names). us ++ later.is.0) (sym m.2) ∙ append_assoc seen (m.0 ∷ []) later.is.0,
            λ d. later.is.3 (subst Differ m.2 (differ_push m.0 seen p.1 d)),
          );
        })
        (λ ends k. (none_more seen).ok ts x k);
  }

  abbrev Params : List Token → Names → Type 0
  Params ys xs = (ys ≡ params_as xs) × Differ xs

  some_params_sound : Sound Params (some_params stop)
  unfolding some_params
  some_params_sound = record {
    ok = λ ts x e.
        let b = bind_ok (name_in stop ts) (λ y. carried (sees s.Comma) (next_param stop) (length y.1) (y.0 ∷ []) y.1) x e in
        let first = (name_sound stop).ok ts b.0 b.1 in
        let later = (params_carried (length b.0.1) (b.0.0 ∷ [])).ok b.0.1 x b.2 in
        record {
          before = first.before ++ later.before;
          split = first.split ∙ ap (λ (us : List Token). first.before ++ us) later.split ∙ sym (append_assoc first.before later.before (tokens_at x.1));
          is = (
            both_are first.is later.is.1 ∙ sym (behind_first b.0.0 later.is.0) ∙ sym (ap params_as later.is.2),
            later.is.3 (λ i e. cc, tt),
          );
        };
  }

  params_sound : Sound Params (params stop)
  unfolding params
  params_sound = chosen (sees s.Close) (given [] (refl, tt)) some_params_sound

module _ (stop : ℕ) (preds : List Pred) (names : Names) where
  abbrev S : List Token → Sentence → Type 0
  S ys x = IsSentence preds names ys x

  grouped_params_sound : Sound (Within s.Open s.Close (Params stop)) (grouped_params stop)
  unfolding grouped_params
  grouped_params_sound = enclosed s.Open s.Close stop (params_sound stop)

  abbrev Defined : List ℕ → Names → List Token → Sentence → Type 0
  Defined p xs ys x = (e : End) × (zs : List Token) × (f : Formula) × (ys ≡ symbol s.Defines ∷ zs) × IsFormula (callables_in p (length xs) preds) xs Wands e zs f × (x ≡ sentence.Predicate p xs f)

  defined_sound : (p : List ℕ) (xs : Names) → Sound (Tree (Defined p xs)) (defined stop preds names p xs)
  unfolding defined body_in
  defined_sound p xs = behind_symbol {P = λ ys x. (e : End) × (f : Formula) × IsFormula (callables_in p (length xs) preds) xs Wands e ys f × (x.0 ≡ sentence.Predicate p xs f)} s.Defines stop
      (changed (λ y. (sentence.Predicate p xs y.0, y.1)) (formula_tree_sound stop (callables_in p (length xs) preds) xs) (λ ys y k. (k.0, y.0, k.1, refl)))
      (λ ys x k. (k.0, ys, k.1, refl, k.2, k.3))

  predicate_sound : Sound (λ ys x. S (name (bytes "Predicate") ∷ ys) x.0) (predicate stop preds names)
  unfolding predicate
  predicate_sound = followed {P = Spelled name_as} {Q = λ p ys x. (xs : Names) × (us zs : List Token) × (ys ≡ us ++ zs) × Within s.Open s.Close (Params stop) us xs × Defined p xs zs x.0} {R = λ ys x. S (name (bytes "Predicate") ∷ ys) x.0} {next = λ p ts. grouped_params stop ts >>= λ xs. defined stop preds names p xs.0 xs.1} (name_sound stop)
      (λ p. followed {P = Within s.Open s.Close (Params stop)} {Q = λ xs ys x. Defined p xs ys x.0} {next = λ xs ts. defined stop preds names p xs ts} grouped_params_sound (λ xs. defined_sound p xs) (λ us zs xs x k q. (xs, us, zs, refl, k, q)))
      (λ ws ys p x k q.
      let whole : ws ++ ys ≡ name p ∷ (in_parentheses (params_as q.0) ++ symbol s.Defines ∷ q.5.1) = both_are k (q.3 ∙ both_are (q.4.1 ∙ ap in_parentheses q.4.2.0) q.5.3) in
      subst (S (name (bytes "Predicate") ∷ (ws ++ ys))) (sym q.5.5) (subst (λ (ts : List Token). S (name (bytes "Predicate") ∷ ts) (sentence.Predicate p q.0 q.5.2)) (sym whole) (g.predicate p q.0 q.4.2.1 q.5.4)))

  -- `F` or `F ⊢ F`
  abbrev Stated : List Token → Formula → Type 0
  Stated ys f = (n : List ℕ) → S (name (bytes "Lemma") ∷ name n ∷ symbol s.Colon ∷ ys) (sentence.Lemma n f)

  formula_sound : (room : ℕ) → Sound (IsAnyFormula stop (callables 0 preds) []) (formula_in stop (callables 0 preds) room Wands [])
  formula_sound room = record { ok = λ ts x e. let d = parts.formulas stop room (callables 0 preds) [] ts x.1 x.0 e in record { before = d.1.0; split = d.1.1; is = (d.0, d.1.2) } }

  statement_sound : Sound Stated (statement stop preds names)
  unfolding statement conclusion
  statement_sound = followed {P = IsAnyFormula stop (callables 0 preds) []} {Q = λ f ys h. (xs : List Token) → IsAnyFormula stop (callables 0 preds) [] xs f → Stated (xs ++ ys) h} {R = Stated} {next = λ f ts. conclusion stop preds names f ts} (formula_sound MAX_LEVELS)
      (λ f. after_symbol {P = λ ys h. (xs : List Token) → IsAnyFormula stop (callables 0 preds) [] xs f → Stated (xs ++ symbol s.Entails ∷ ys) h} {one = λ us. made (formula.Wand f) (formula_in stop (callables 0 preds) (MAX_LEVELS - 1) Wands [] us)} s.Entails
      (changed (formula.Wand f) (formula_sound (MAX_LEVELS - 1)) (λ ys h k xs first n. g.entailment n first.1 k.1))
      (λ ys h k. k)
      (given f (λ xs first n. subst (λ (ts : List Token). S (name (bytes "Lemma") ∷ name n ∷ symbol s.Colon ∷ ts) (sentence.Lemma n f)) (sym (append-nil xs)) (g.lemma n first.1))))
      (λ xs ys f h p q. q xs p)

  statement_tree_sound : Sound (Tree Stated) (statement_tree stop preds names)
  unfolding statement_tree
  statement_tree_sound = record {
    ok = λ ts x e.
        let m = made_ok (λ f. (f, too_deep (depth_of f) (offset stop ts))) (statement stop preds names ts) x e in
        let found = statement_sound.ok ts (m.0, x.1) m.1 in
        record { before = found.before; split = found.split; is = subst (Stated found.before) (ap (λ y. y.0) m.2) found.is };
  }

  lemma_sound : Sound (λ ys x. S (name (bytes "Lemma") ∷ ys) x.0) (lemma stop preds names)
  unfolding lemma
  lemma_sound = followed {P = Spelled name_as} {Q = λ n ys x. S (name (bytes "Lemma") ∷ name n ∷ ys) x.0} {next = λ n ts. expect s.Colon stop ts >>= λ rest. mapped (sentence.Lemma n) (statement_tree stop preds names rest)} (name_sound stop)
      (λ n. behind_symbol {P = λ ys x. S (name (bytes "Lemma") ∷ name n ∷ symbol s.Colon ∷ ys) x.0} s.Colon stop
      (changed (λ y. (sentence.Lemma n y.0, y.1)) statement_tree_sound (λ ys y k. k n))
      (λ ys x k. k))
      (λ ws ys n x k q. subst (λ (ts : List Token). S (name (bytes "Lemma") ∷ (ts ++ ys)) x.0) (sym k) q)

  number_read : (ts : List Place) (x : ℕ × List Place) → digits stop natural ts ≡ Ok x → Found (λ ys n. (ys ≡ number n ∷ []) × (n < 2 ^ 63)) ts x
  number_read ts x e =
      let n = digits_ok stop natural ts x e in
      let h = guard_ok (ltb n.0 (2 ^ 63)) n.0 x.0 _ n.3 in
      record { before = number n.0 ∷ []; split = n.2; is = (ap (λ m. number m ∷ []) h.1, subst (λ m. m < 2 ^ 63) h.1 (ltb-true n.0 (2 ^ 63) h.0)) }

  undo_read : (ts : List Place) (x : (Sentence × Deeps) × List Place) → undo stop preds names ts ≡ Ok x → Found (λ ys x. S (name (bytes "Undo") ∷ ys) x.0) ts x
  unfolding undo
  undo_read [] x e = (given {P = λ ys x. S (name (bytes "Undo") ∷ ys) x.0} (sentence.Undo 1, None) g.undo).ok [] x e
  undo_read (t ∷ ts) x e = (plain_sound {P = λ ys x. S (name (bytes "Undo") ∷ ys) x} (changed sentence.Undo (record { ok = number_read }) (λ ys n k. subst (λ (us : List Token). S (name (bytes "Undo") ∷ us) (sentence.Undo n)) (sym k.0) (g.undo_steps k.1)))).ok (t ∷ ts) x e

  abbrev Row : List ℕ × SentenceForm → Type 0
  Row r = Sound (λ ys x. S (name r.0 ∷ ys) x.0) (formed stop preds names r.1)

  rows : AllByRecursion Row sentence_words
  unfolding sentence_words formed
  rows = (
    predicate_sound,
    (
      lemma_sound,
      (
        given (sentence.Proof, None) g.proof,
        (
          given (sentence.Qed, None) g.qed,
          (
            given (sentence.Abort, None) g.abort,
            (
              given (sentence.Restart, None) g.restart,
              (
                given (sentence.Show, None) g.show,
                (record { ok = undo_read }, tt),
              ),
            ),
          ),
        ),
      ),
    ),
  )

  directive_found : (w : List ℕ) (at : ℕ) (o : Option Form) → form_of w ≡ o → Sound (λ ys x. S (name w ∷ ys) x.0) (directive_by stop preds names at o)
  directive_found w at None k = record { ok = λ ts x e. absurd cc }
  directive_found w at (Some f) k = changed (λ y. (sentence.Directive y.0, y.1)) (directive_sound stop (callables 0 preds) names w f k) (λ ys y is. g.directive is)

  word_sound : (w : List ℕ) (at : ℕ) (o : Option SentenceForm) → sentence_form_of w ≡ o → Sound (λ ys x. S (name w ∷ ys) x.0) (sentence_by stop preds names at w o)
  unfolding sentence_form_of
  word_sound w at None k = directive_found w at (form_of w) refl
  word_sound w at (Some f) k = row_has Row sentence_words rows w f k

  sentence_read : (ts : List Place) (x : (Sentence × Deeps) × List Place) → sentence_in stop preds names ts ≡ Ok x → Found (Tree S) ts x
  unfolding sentence_in brace_in
  sentence_read [] x e = absurd cc
  sentence_read (place (name w) at ∷ ts) x e =
      let found = (word_sound w at (sentence_form_of w) refl).ok ts x e in
      record { before = name w ∷ found.before; split = ap (λ (us : List Token). name w ∷ us) found.split; is = found.is }
  sentence_read (place (number n) at ∷ ts) x e = absurd cc
  sentence_read (place (symbol r) at ∷ ts) x e = either (sees s.OpenBrace (place (symbol r) at ∷ ts)) _ _ _ e (Found (Tree S) (place (symbol r) at ∷ ts) x)
      (λ opens k. ok_to (Found (Tree S) (place (symbol r) at ∷ ts)) ((sentence.Enter, None), ts) x k (record { before = symbol s.OpenBrace ∷ []; split = sees_ok s.OpenBrace (place (symbol r) at ∷ ts) opens; is = g.enter }))
      (λ other k. either (sees s.CloseBrace (place (symbol r) at ∷ ts)) _ _ _ k (Found (Tree S) (place (symbol r) at ∷ ts) x)
      (λ closes k. ok_to (Found (Tree S) (place (symbol r) at ∷ ts)) ((sentence.Leave, None), ts) x k (record { before = symbol s.CloseBrace ∷ []; split = sees_ok s.CloseBrace (place (symbol r) at ∷ ts) closes; is = g.leave }))
      (λ none k. absurd cc))

no_tokens : (ts : List Place) → length ts ≡ 0 → tokens_at ts ≡ []
no_tokens [] e = refl
no_tokens (t ∷ ts) e = absurd cc

pub sentences_sound : SentencesAreSound
unfolding sentence_of all_of
sentences_sound preds names end stop ts x e =
    let a = bind_ok (all_of end stop (sentence_in stop preds names ts)) no_deep x e in
    let n = no_deep_ok a.0 x a.2 in
    let b = bind_ok (sentence_in stop preds names ts) _ a.0 a.1 in
    let h = guard_ok (length b.0.1 == 0 && (stop == end)) b.0.0 a.0 _ b.2 in
    let found = sentence_read stop preds names ts b.0 b.1 in
    let none = no_tokens b.0.1 ((Decides-eqb (length b.0.1) 0).0 (and_ok (length b.0.1 == 0) (stop == end) h.0).0) in
    let all : found.before ≡ tokens_at ts = sym (found.split ∙ ap (λ (us : List Token). found.before ++ us) none ∙ append-nil found.before) in
    subst (λ (us : List Token). IsSentence preds names us x) all (subst (λ y. IsSentence preds names found.before y) (ap (λ y. y.0) h.1 ∙ n.0) found.is)
