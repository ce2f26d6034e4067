-- What is read of a sentence is in range.
use Rattle.std.proofs.Common.{◌≡◌, ℕ, ◌≤◌, ◌-◌, Bool, true, false, ◌&&◌, ◌==◌, leb, leb-true, List, [], ◌∷◌, drop, length, Option, Some, None, Result, Ok, Err, refl, sym, ap, subst, ◌∙◌}
use Rattle.pm_logic.specs.declared.limits.TheConstants.{MAX_LEVELS}
use Rattle.pm_logic.specs.declared.formula.Formula.{Formula}
use Rattle.pm_logic.specs.declared.formula.Formula.TheViews as formula
use Rattle.pm_logic.specs.declared.formula.Formula.TheBlock as block
use Rattle.pm_logic.specs.declared.formula.Pred.{Pred}
use Rattle.pm_logic.specs.Size.{depth_of}
use denote.Hole.Carrier as carrier
use Rattle.pm_names.specs.Names.{is_name}
use Rattle.pm_tokens.specs.declared.mode.Mode.TheVariants.{Start}
use Rattle.pm_tokens.specs.declared.symbol.Symbol.TheVariants as s
use Rattle.pm_tokens.specs.Tokens.{name, number, symbol, Place, place}
use Rattle.pm_tokens.specs.Names.{are_named}
use Rattle.pm_tokens.specs.Texts.{tokens}
use Rattle.pm_tokens.proofs.Named.{lex_named}
use Rattle.pm_terms.specs.declared.fault.TextFault.{TextFault}
use Rattle.pm_text.specs.declared.level.Level.TheVariants.{Wands}
use Rattle.pm_terms.specs.Scope.{Names, Callables, callables, callables_in}
use Rattle.pm_terms.specs.Steps.{◌>>=◌, made, sees, offset, expect, natural, digits, all_of, counted_from}
use Rattle.pm_text.specs.FormulaReading.{formula_in}
use Rattle.pm_patterns.specs.PatternReading.{name_in}
use Rattle.pm_script.specs.declared.sentence.Sentence.{Sentence}
use Rattle.pm_script.specs.declared.sentence.Sentence.TheVariants as sentence
use Rattle.pm_script.specs.declared.words.Form.{Form}
use Rattle.pm_script.specs.declared.words.SentenceForm.{SentenceForm}
use Rattle.pm_script.specs.declared.words.SentenceForm.TheVariants as form
use Rattle.pm_script.specs.Words.{form_of, sentence_form_of}
use Rattle.pm_script.specs.SentenceReading.{Deeps, too_deep, formula_tree, directive_in, brace_in, body_in, grouped_params, defined, predicate, conclusion, statement, statement_tree, lemma, undo, formed, directive_by, sentence_by, sentence_in, no_deep, sentence_of, read_sentence}
use Rattle.pm_grammar.proofs.Steps.{bind_ok, done, ok_is, ok_to, made_ok, guard_ok, either}
use Rattle.pm_grammar.proofs.TermsDerived.{and_ok}
use Rattle.pm_grammar.proofs.Sound.{parts}
use Rattle.pm_dtext.specs.Ranges.{InRange}
use Rattle.pm_dtext.specs.Texts.{arities_of}
use Rattle.pm_script_grammar.specs.Fitting.{AreListed, with_own, StatementFits, DefinitionFits, WhatIsReadFits}
use Rattle.pm_script_grammar.proofs.Derived.{formula_fits, derived_fits}

-- ---- names

named_in : (stop : ℕ) (ts : List Place) (x : List ℕ × List Place) → are_named ts ≡ true → name_in stop ts ≡ Ok x → is_name x.0 ≡ true
unfolding name_in
named_in stop [] x h e = absurd cc
named_in stop (place (name w) at ∷ ts) x h e = ap is_name (sym (ap (λ y. y.0) (ok_is (w, ts) x e))) ∙ (and_ok (is_name w) (are_named ts) h).0
named_in stop (place (number n) at ∷ ts) x h e = absurd cc
named_in stop (place (symbol r) at ∷ ts) x h e = absurd cc

-- ---- trees

depth_ok : (depth at : ℕ) → too_deep depth at ≡ None → depth ≤ MAX_LEVELS
depth_ok depth at e = go (leb depth MAX_LEVELS) refl
  where
    go : (b : Bool) → leb depth MAX_LEVELS ≡ b → depth ≤ MAX_LEVELS
    go true h = leb-true depth MAX_LEVELS h
    go false h = let some : too_deep depth at ≡ Some at = rw h refl in absurd cc

module _ (arities : List ℕ) (stop : ℕ) (preds : Callables) (listed : AreListed arities preds) where
  read_fits : (room : ℕ) (names : Names) (ts : List Place) (x : Formula × List Place) → formula_in stop preds room Wands names ts ≡ Ok x → InRange arities (length names) x.0
  read_fits room names ts x e =
      let d = parts.formulas stop room preds names ts x.1 x.0 e in
      formula_fits arities preds listed names Wands d.0 d.1.0 x.0 d.1.2

  tree_fits : (names : Names) (ts : List Place) (x : (Formula × Deeps) × List Place) → formula_tree stop preds names ts ≡ Ok x → x.0.1 ≡ None → InRange arities (length names) x.0.0 × (depth_of x.0.0 ≤ MAX_LEVELS)
  unfolding formula_tree
  tree_fits names ts x e none =
      let m = made_ok (λ f. (f, too_deep (depth_of f) (offset stop ts))) (formula_in stop preds MAX_LEVELS Wands names ts) x e in
      let same : m.0 ≡ x.0.0 = ap (λ y. y.0) m.2 in
      let deep : too_deep (depth_of m.0) (offset stop ts) ≡ None = ap (λ y. y.1) m.2 ∙ none in
      subst (λ f. InRange arities (length names) f × (depth_of f ≤ MAX_LEVELS)) same (read_fits MAX_LEVELS names ts (m.0, x.1) m.1, depth_ok (depth_of m.0) (offset stop ts) deep)

-- ---- sentences

abbrev Fits : List Pred → Sentence → Type 0
Fits preds (sentence.Lemma n f) = StatementFits preds n f
Fits preds (sentence.Predicate p xs f) = DefinitionFits preds p xs f
Fits preds x = Unit {0}

module _ (stop : ℕ) (preds : List Pred) (names : Names) where
  abbrev Read : Type 0
  Read = (Sentence × Deeps) × List Place

  statement_fits : (ts : List Place) (x : Formula × List Place) → statement stop preds names ts ≡ Ok x → InRange (arities_of preds) 0 x.0
  unfolding block.shape-the_row-Formula-0 block.hidden-the_row-Formula-0 carrier.hidden statement conclusion InRange
  statement_fits ts x e =
      let b = bind_ok (formula_in stop (callables 0 preds) MAX_LEVELS Wands [] ts) (λ f. conclusion stop preds names f.0 f.1) x e in
      let first = read_fits (arities_of preds) stop (callables 0 preds) (derived_fits.table preds) MAX_LEVELS [] ts b.0 b.1 in
      either (sees s.Entails b.0.1) _ _ _ b.2 (InRange (arities_of preds) 0 x.0)
      (λ there k.
      let m = made_ok (formula.Wand b.0.0) (formula_in stop (callables 0 preds) (MAX_LEVELS - 1) Wands [] (drop 1 b.0.1)) x k in
      subst (InRange (arities_of preds) 0) m.2 (first, read_fits (arities_of preds) stop (callables 0 preds) (derived_fits.table preds) (MAX_LEVELS - 1) [] (drop 1 b.0.1) (m.0, x.1) m.1))
      (λ alone k. ok_to (λ (y : Formula × List Place). InRange (arities_of preds) 0 y.0) b.0 x k first)

  lemma_fits : (ts : List Place) (x : Read) → are_named ts ≡ true → lemma stop preds names ts ≡ Ok x → x.0.1 ≡ None → Fits preds x.0.0
  unfolding lemma statement_tree
  lemma_fits ts x named e none =
      let n = bind_ok (name_in stop ts) (λ n. expect s.Colon stop n.1 >>= λ rest. made (λ y. (sentence.Lemma n.0 y.0, y.1)) (statement_tree stop preds names rest)) x e in
      let c = bind_ok (expect s.Colon stop n.0.1) (λ rest. made (λ y. (sentence.Lemma n.0.0 y.0, y.1)) (statement_tree stop preds names rest)) x n.2 in
      let m = made_ok (λ y. (sentence.Lemma n.0.0 y.0, y.1)) (statement_tree stop preds names c.0) x c.2 in
      let t = made_ok (λ f. (f, too_deep (depth_of f) (offset stop c.0))) (statement stop preds names c.0) (m.0, x.1) m.1 in
      let deep : too_deep (depth_of t.0) (offset stop c.0) ≡ None = ap (λ y. y.1) t.2 ∙ ap (λ y. y.1) m.2 ∙ none in
      let same : sentence.Lemma n.0.0 t.0 ≡ x.0.0 = ap (λ f. sentence.Lemma n.0.0 f) (ap (λ y. y.0) t.2) ∙ ap (λ y. y.0) m.2 in
      subst (Fits preds) same (record { named = named_in stop ts n.0 named n.1; in_range = statement_fits c.0 (t.0, x.1) t.1; levels = depth_ok (depth_of t.0) (offset stop c.0) deep })

  predicate_fits : (ts : List Place) (x : Read) → are_named ts ≡ true → predicate stop preds names ts ≡ Ok x → x.0.1 ≡ None → Fits preds x.0.0
  unfolding predicate defined body_in
  predicate_fits ts x named e none =
      let p = bind_ok (name_in stop ts) (λ p. grouped_params stop p.1 >>= λ xs. defined stop preds names p.0 xs.0 xs.1) x e in
      let xs = bind_ok (grouped_params stop p.0.1) (λ xs. defined stop preds names p.0.0 xs.0 xs.1) x p.2 in
      let d = bind_ok (expect s.Defines stop xs.0.1) (λ rest. made (λ y. (sentence.Predicate p.0.0 xs.0.0 y.0, y.1)) (body_in stop preds names p.0.0 xs.0.0 rest)) x xs.2 in
      let m = made_ok (λ y. (sentence.Predicate p.0.0 xs.0.0 y.0, y.1)) (body_in stop preds names p.0.0 xs.0.0 d.0) x d.2 in
      let own = callables_in p.0.0 (length xs.0.0) preds in
      let t = tree_fits (with_own preds (length xs.0.0)) stop own (derived_fits.own p.0.0 (length xs.0.0) preds) xs.0.0 d.0 (m.0, x.1) m.1 (ap (λ y. y.1) m.2 ∙ none) in
      subst (Fits preds) (ap (λ y. y.0) m.2) (record { named = named_in stop ts p.0 named p.1; in_range = t.0; levels = t.1 })

  alone_fits : (y : Sentence) (ts : List Place) (x : Read) → Fits preds y → done ((y, None), ts) ≡ Ok x → Fits preds x.0.0
  alone_fits y ts x h e = ok_to (λ (z : Read). Fits preds z.0.0) ((y, None), ts) x e h

  undo_fits : (ts : List Place) (x : Read) → undo stop preds names ts ≡ Ok x → Fits preds x.0.0
  unfolding undo
  undo_fits [] x e = alone_fits (sentence.Undo 1) [] x tt e
  undo_fits (t ∷ ts) x e =
      let m = made_ok (λ y. (y, None)) _ x e in
      let n = made_ok sentence.Undo (digits stop natural (t ∷ ts)) (m.0, x.1) m.1 in
      subst (Fits preds) (n.2 ∙ ap (λ y. y.0) m.2) tt

  formed_fits : (f : SentenceForm) (ts : List Place) (x : Read) → are_named ts ≡ true → formed stop preds names f ts ≡ Ok x → x.0.1 ≡ None → Fits preds x.0.0
  unfolding formed
  formed_fits form.Predicate ts x named e none = predicate_fits ts x named e none
  formed_fits form.Lemma ts x named e none = lemma_fits ts x named e none
  formed_fits form.Proof ts x named e none = alone_fits sentence.Proof ts x tt e
  formed_fits form.Qed ts x named e none = alone_fits sentence.Qed ts x tt e
  formed_fits form.Abort ts x named e none = alone_fits sentence.Abort ts x tt e
  formed_fits form.Restart ts x named e none = alone_fits sentence.Restart ts x tt e
  formed_fits form.Show ts x named e none = alone_fits sentence.Show ts x tt e
  formed_fits form.Undo ts x named e none = undo_fits ts x e

  directive_fits : (at : ℕ) (o : Option Form) (ts : List Place) (x : Read) → directive_by stop preds names at o ts ≡ Ok x → Fits preds x.0.0
  directive_fits at None ts x e = absurd cc
  directive_fits at (Some f) ts x e =
      let m = made_ok (λ y. (sentence.Directive y.0, y.1)) (directive_in stop (callables 0 preds) names f ts) x e in
      subst (Fits preds) (ap (λ y. y.0) m.2) tt

  word_fits : (at : ℕ) (w : List ℕ) (o : Option SentenceForm) (ts : List Place) (x : Read) → are_named ts ≡ true → sentence_by stop preds names at w o ts ≡ Ok x → x.0.1 ≡ None → Fits preds x.0.0
  word_fits at w None ts x named e none = directive_fits at (form_of w) ts x e
  word_fits at w (Some f) ts x named e none = formed_fits f ts x named e none

  sentence_fits : (ts : List Place) (x : Read) → are_named ts ≡ true → sentence_in stop preds names ts ≡ Ok x → x.0.1 ≡ None → Fits preds x.0.0
  unfolding sentence_in brace_in
  sentence_fits [] x named e none = absurd cc
  sentence_fits (place (name w) at ∷ ts) x named e none = word_fits at w (sentence_form_of w) ts x (and_ok (is_name w) (are_named ts) named).1 e none
  sentence_fits (place (number n) at ∷ ts) x named e none = absurd cc
  sentence_fits (place (symbol r) at ∷ ts) x named e none = either (sees s.OpenBrace (place (symbol r) at ∷ ts)) _ _ _ e (Fits preds x.0.0)
      (λ opens k. alone_fits sentence.Enter ts x tt k)
      (λ other k. either (sees s.CloseBrace (place (symbol r) at ∷ ts)) _ _ _ k (Fits preds x.0.0) (λ closes k. alone_fits sentence.Leave ts x tt k) (λ none k. absurd cc))

-- ---- whole texts

pub no_deep_ok : {A : Type 0} (x : A × Deeps) (y : A) → no_deep x ≡ Ok y → (x.0 ≡ y) × (x.1 ≡ None)
no_deep_ok (x, None) y e = (ok_is x y e, refl)
no_deep_ok (x, Some at) y e = absurd cc

counted_ok : {A : Type 0} (base : ℕ) (read : Result A TextFault) (x : A) → counted_from base read ≡ Ok x → read ≡ Ok x
counted_ok base (Ok y) x e = e
counted_ok base (Err f) x e = absurd cc

whole_fits : (preds : List Pred) (names : Names) (end stop : ℕ) (ts : List Place) (x : Sentence) → are_named ts ≡ true → sentence_of preds names end stop ts ≡ Ok x → Fits preds x
unfolding sentence_of all_of
whole_fits preds names end stop ts x named e =
    let a = bind_ok (all_of end stop (sentence_in stop preds names ts)) no_deep x e in
    let n = no_deep_ok a.0 x a.2 in
    let b = bind_ok (sentence_in stop preds names ts) _ a.0 a.1 in
    let g = guard_ok (length b.0.1 == 0 && (stop == end)) b.0.0 a.0 _ b.2 in
    subst (Fits preds) (ap (λ y. y.0) g.1 ∙ n.0) (sentence_fits stop preds names ts b.0 named b.1 (ap (λ y. y.1) g.1 ∙ n.1))

text_fits : (base : ℕ) (preds : List Pred) (names : Names) (text : List ℕ) (x : Sentence) → read_sentence base preds names text ≡ Ok x → Fits preds x
unfolding read_sentence
text_fits base preds names text x e =
    let found = tokens text in
    whole_fits preds names (length text) found.1 found.0 x (lex_named Start 0 0 text) (counted_ok base (sentence_of preds names (length text) found.1 found.0) x e)

pub sentences_fit : WhatIsReadFits
sentences_fit = record {
  lemmas = λ base preds names text n f e. text_fits base preds names text (sentence.Lemma n f) e;
  predicates = λ base preds names text p xs f e. text_fits base preds names text (sentence.Predicate p xs f) e;
}
