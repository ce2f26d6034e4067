-- Reading of sentences. A sentence begins with a word, which says what follows. To add a form of sentence: a variant in
-- src/sentence.rt or src/directive.rt, its word in Words, its equation here and its reader in src/, and a constructor of
-- SentenceGrammar in pm_script_grammar; then `rt check` in both, and what it does in pm_run.
use Rattle.std.specs.Prelude.{ℕ, zero, suc, ◌-◌, Bool, true, false, ◌&&◌, ◌||◌, not, nat_le, if◌then◌else◌, List, [], ◌∷◌, ◌++◌, drop, length, map, codes, Option, Some, None, Result, Ok, Err}
use Rattle.std.specs.List.{list_any}
use Rattle.std.specs.Str.{bytes_eq}
use Rattle.pm_logic.specs.declared.limits.TheConstants.{MAX_LEVELS}
use Rattle.pm_logic.specs.declared.formula.Term.{Term}
use Rattle.pm_logic.specs.declared.formula.Pure.{Pure}
use Rattle.pm_logic.specs.declared.formula.Formula.{Formula}
use Rattle.pm_logic.specs.declared.formula.Formula.TheViews as formula
use Rattle.pm_logic.specs.declared.formula.Pred.{Pred}
use Rattle.pm_logic.specs.Size.{term_depth, pure_depth, depth_of}
use Rattle.pm_tokens.specs.declared.symbol.Symbol.TheVariants as s
use Rattle.pm_tokens.specs.Tokens.{name, number, symbol, Place, place}
use Rattle.pm_tokens.specs.Texts.{tokens}
use Rattle.pm_terms.specs.declared.fault.TextFault.{TextFault}
use Rattle.pm_terms.specs.declared.fault.TextFault.TheVariants.{Unexpected, Deep}
use Rattle.pm_text.specs.declared.level.Level.TheVariants.{Wands}
use Rattle.pm_terms.specs.declared.level.PureLevel.TheVariants.{Ors}
use Rattle.pm_terms.specs.Scope.{Names, Callables, callables, callables_in}
use Rattle.pm_terms.specs.Steps.{Read, ◌>>=◌, made, sees, offset, unexpected, expect, closed_by, natural, digits, all_of, counted_from}
use Rattle.pm_terms.specs.TermReading.{operand_in, sum_in}
use Rattle.pm_terms.specs.PureReading.{pure_in}
use Rattle.pm_text.specs.FormulaReading.{formula_in}
use Rattle.pm_patterns.specs.declared.pattern.Sel.{Sel}
use Rattle.pm_patterns.specs.declared.pattern.Spat.{Spat}
use Rattle.pm_patterns.specs.declared.pattern.Pat.{Pat}
use Rattle.pm_patterns.specs.declared.pattern.Pat.TheVariants as pat
use Rattle.pm_patterns.specs.declared.pattern.Head.{Head}
use Rattle.pm_patterns.specs.declared.pattern.Head.TheVariants.{Hyp, Lemma as Proved}
use Rattle.pm_patterns.specs.declared.pattern.ProofTerm.{ProofTerm}
use Rattle.pm_patterns.specs.declared.pattern.Cert.{Cert}
use Rattle.pm_script.specs.declared.directive.Directive.{Directive}
use Rattle.pm_script.specs.declared.directive.Directive.TheVariants as d
use Rattle.pm_script.specs.declared.sentence.Sentence.{Sentence}
use Rattle.pm_script.specs.declared.sentence.Sentence.TheVariants as sentence
use Rattle.pm_script.specs.declared.words.Form.{Form}
use Rattle.pm_script.specs.declared.words.Form.TheVariants as form
use Rattle.pm_script.specs.declared.words.PlainForm.{PlainForm}
use Rattle.pm_script.specs.declared.words.PlainForm.TheVariants as plain_form
use Rattle.pm_script.specs.declared.words.SentenceForm.{SentenceForm}
use Rattle.pm_script.specs.declared.words.SentenceForm.TheVariants as sentence_form
use Rattle.pm_script.specs.Words.{form_of, sentence_form_of}
use Rattle.pm_patterns.specs.PatternReading.{name_in, quoted, quoted_name, quoted_names, grouped_names, quoted_sels, quoted_pattern, bound_pattern, quoted_intros, further_intros, quoted_premise, quoted_spats, quoted_cert}

-- ---- what is read, with the offset of its first tree that is deeper than MAX_LEVELS

abbrev pub Deeps : Type 0
Deeps = Option ℕ

abbrev pub ReadIn : Type 0 → Type 0
ReadIn A = Read (A × Deeps)

abbrev pub deep_where : (shallow : Bool) → ℕ → Deeps
deep_where shallow at = if shallow then None else Some at

abbrev pub too_deep : ℕ → ℕ → Deeps
too_deep depth at = deep_where (nat_le depth MAX_LEVELS) at

abbrev pub first_deep : Deeps → Deeps → Deeps
first_deep (Some at) later = Some at
first_deep None later = later

-- without trees
abbrev pub plain : {A : Type 0} → Read A → ReadIn A
plain read = made (λ x. (x, None)) read

abbrev pub mapped : {A B : Type 0} → (A → B) → ReadIn A → ReadIn B
mapped f read = made (λ x. (f x.0, x.1)) read

-- one part with trees, and one without
abbrev pub then_read : {A B C : Type 0} → (A → B → C) → ReadIn A → (List Place → Read B) → ReadIn C
then_read f read next = read >>= λ x. made (λ y. (f x.0.0 y, x.0.1)) (next x.1)

-- ---- lists

-- Steps one after another, as long as the tokens go on, each from what the one before found. A step takes a token at least, so that there are no more than tokens.
unfoldable pub carried : {S : Type 0} → (List Place → Bool) → (S → List Place → Read S) → ℕ → S → List Place → Read S
carried goes_on step zero found ts = Ok (found, ts)
carried goes_on step (suc n) found ts = if goes_on ts then (step found ts >>= λ x. carried goes_on step n x.0 x.1) else Ok (found, ts)

abbrev pub first_of : {A : Type 0} → A × Deeps → List A × Deeps
first_of x = (x.0 ∷ [], x.1)

-- one tree more
abbrev pub with_tree : {A : Type 0} → List A × Deeps → A × Deeps → List A × Deeps
with_tree found x = (found.0 ++ x.0 ∷ [], first_deep found.1 x.1)

-- ---- words

unfoldable pub sees_word : List ℕ → List Place → Bool
sees_word w [] = false
sees_word w (place (name x) at ∷ ts) = bytes_eq x w
sees_word w (place (number n) at ∷ ts) = false
sees_word w (place (symbol r) at ∷ ts) = false

-- a word before a quote
unfoldable pub sees_keyword : List ℕ → List Place → Bool
sees_keyword w ts = sees_word w ts && sees s.Quote (drop 1 ts)

-- behind `%I`, if it is there
abbrev pub without_marker : List Place → List Place
without_marker ts = if sees s.Intuitionistic ts then drop 1 ts else ts

-- ---- directives

abbrev pub both_certs : Cert → Option Cert → List Cert
both_certs c None = c ∷ []
both_certs c (Some e) = c ∷ e ∷ []

abbrev pub alone : Directive → List Place → Read Directive
alone x ts = Ok (x, ts)

module _ (stop : ℕ) where
  unfoldable pub expect_word : List ℕ → List Place → Result (List Place) TextFault
  expect_word w ts = if sees_word w ts then Ok (drop 1 ts) else Err (unexpected stop ts)

  -- behind this word
  abbrev pub behind_word : {A : Type 0} → List ℕ → (List Place → Read A) → List Place → Read A
  behind_word w part ts = expect_word w ts >>= part

  -- a part, and none where the tokens are at an end
  unfoldable pub if_any : {A : Type 0} → (List Place → Read A) → List Place → Read (Option A)
  if_any part [] = Ok (None, [])
  if_any part (t ∷ ts) = made Some (part (t ∷ ts))

  -- the same, and no selections where the tokens are at an end
  unfoldable pub any_sels : List Place → Read (List Sel)
  any_sels [] = Ok ([], [])
  any_sels (t ∷ ts) = quoted_sels stop (t ∷ ts)

  -- introduction items behind others, and no further ones where the tokens are at an end
  unfoldable pub any_intros : List Pat → List Place → Read (List Pat)
  any_intros found [] = Ok (found, [])
  any_intros found (t ∷ ts) = further_intros stop found (t ∷ ts)

  -- ---- parameters of a predicate: names that differ, with commas between

  -- a name, or the fault at one that stands before
  unfoldable pub param_in : Names → List Place → Read (List ℕ)
  param_in seen ts = name_in stop ts >>= λ x. if list_any (bytes_eq x.0) seen then Err (unexpected stop ts) else Ok x

  -- a further one behind a comma
  unfoldable pub next_param : Names → List Place → Read Names
  next_param seen ts = made (λ x. seen ++ x ∷ []) (param_in seen (drop 1 ts))

  unfoldable pub some_params : List Place → Read Names
  some_params ts = name_in stop ts >>= λ x. carried (sees s.Comma) next_param (length x.1) (x.0 ∷ []) x.1

  unfoldable pub params : List Place → Read Names
  params ts = if sees s.Close ts then Ok ([], ts) else some_params ts

  -- `( x , … )`
  unfoldable pub grouped_params : List Place → Read Names
  grouped_params ts = expect s.Open stop ts >>= λ rest. closed_by s.Close stop (params rest)

  -- ---- parts without trees

  -- a hypothesis, or a lemma where one may stand
  unfoldable pub head_in : (lemmas : Bool) → List Place → Read Head
  head_in lemmas ts = if not lemmas || sees s.Quote ts then made Hyp (quoted_name stop ts) else made Proved (name_in stop ts)

  -- a head alone as a proof term
  abbrev pub only_head : (lemmas : Bool) → List Place → ReadIn ProofTerm
  only_head lemmas ts = plain (made (λ h. record { head = h; terms = []; spats = [] }) (head_in lemmas ts))

  -- `with "spat …"`, if there is one
  unfoldable pub spats_in : List Place → Read (List Spat)
  spats_in ts = if sees_word (codes "with") ts then quoted_spats stop (drop 1 ts) else Ok ([], ts)

  -- `as "pat"`, where so many patterns may stand one in another
  unfoldable pub as_pattern : ℕ → List Place → Read Pat
  as_pattern room ts = behind_word (codes "as") (quoted_pattern stop room) ts

  -- `as "pat"`, or `as ( x … ) "pat"`
  unfoldable pub as_bound : List Place → Read Pat
  as_bound ts = behind_word (codes "as") (bound_pattern stop) ts

  unfoldable pub as_name : List Place → Read (List ℕ)
  as_name ts = behind_word (codes "as") (quoted_name stop) ts

  unfoldable pub in_name : List Place → Read (List ℕ)
  in_name ts = behind_word (codes "in") (quoted_name stop) ts

  unfoldable pub into_name : List Place → Read (List ℕ)
  into_name ts = behind_word (codes "into") (quoted_name stop) ts

  -- `%I`, if it is there, `with "[ … ]" as "pat"`
  unfoldable pub asserted : List Place → Read (Spat × Pat)
  asserted ts = behind_word (codes "with") (quoted_premise stop) (without_marker ts) >>= λ how. made (λ p. (how.0, p)) (as_pattern MAX_LEVELS how.1)

  -- `( x )`
  unfoldable pub grouped_name : List Place → Read (List ℕ)
  grouped_name ts = expect s.Open stop ts >>= λ rest. closed_by s.Close stop (name_in stop rest)

  -- `as ( x ) "pat"`
  unfoldable pub allocated : List Place → Read (List ℕ × Pat)
  allocated ts = behind_word (codes "as") grouped_name ts >>= λ x. made (λ p. (x.0, p)) (quoted_pattern stop MAX_LEVELS x.1)

  -- ---- directives without trees, behind their first word

  -- `( x … )`, and introduction items if there are any
  unfoldable pub named_intros : List Place → Read Directive
  named_intros ts = grouped_names stop ts >>= λ xs. made d.Intros (any_intros (map pat.PureName xs.0) xs.1)

  unfoldable pub intros : List Place → Read Directive
  intros ts = if sees s.Open ts then named_intros ts else made d.Intros (quoted_intros stop ts)

  -- `"H" into "K"`
  unfoldable pub rename : List Place → Read Directive
  rename ts = quoted_name stop ts >>= λ x. made (d.Rename x.0) (into_name x.1)

  -- `( x … )`, and selections if there are any
  unfoldable pub named_revert : List Place → Read Directive
  named_revert ts = grouped_names stop ts >>= λ xs. made (d.Revert xs.0) (any_sels xs.1)

  unfoldable pub revert : List Place → Read Directive
  revert ts = if sees s.Open ts then named_revert ts else made (d.Revert []) (quoted_sels stop ts)

  unfoldable pub two_names : List Place → Read (List ℕ × List ℕ)
  two_names ts = name_in stop ts >>= λ x. made (λ y. (x.0, y)) (name_in stop x.1)

  unfoldable pub quoted_two : List Place → Read (List ℕ × List ℕ)
  quoted_two ts = quoted stop two_names ts

  unfoldable pub combine : List Place → Read Directive
  combine ts = quoted_two ts >>= λ both. made (d.Combine both.0.0 both.0.1) (as_pattern MAX_LEVELS both.1)

  -- behind the minus, if there is one
  unfoldable pub rewrite_by : (back : Bool) → List Place → Read Directive
  rewrite_by back ts = quoted_name stop ts >>= λ x. made (d.Rewrite back x.0) (if_any in_name x.1)

  unfoldable pub rewrite : List Place → Read Directive
  rewrite ts = if sees s.Minus ts then rewrite_by true (drop 1 ts) else rewrite_by false ts

  -- one certificate or two
  unfoldable pub certs_in : List Place → Read (List Cert)
  certs_in ts = quoted_cert stop ts >>= λ c. made (both_certs c.0) (if_any (quoted_cert stop) c.1)

  -- `with` and certificates
  unfoldable pub with_certs : List Place → Read Directive
  with_certs ts = made d.LinearWith (behind_word (codes "with") certs_in ts)

  unfoldable pub linear : List Place → Read Directive
  linear [] = Ok (d.Linear, [])
  linear (t ∷ ts) = with_certs (t ∷ ts)

  -- the directive of this form
  unfoldable pub plain_in : PlainForm → List Place → Read Directive
  plain_in plain_form.Intros ts = intros ts
  plain_in plain_form.Split ts = alone d.Split ts
  plain_in plain_form.SplitL ts = made d.SplitL (if_any (quoted_names stop) ts)
  plain_in plain_form.SplitR ts = made d.SplitR (if_any (quoted_names stop) ts)
  plain_in plain_form.Left ts = alone d.Left ts
  plain_in plain_form.Right ts = alone d.Right ts
  plain_in plain_form.Assumption ts = alone d.Assumption ts
  plain_in plain_form.ExFalso ts = alone d.ExFalso ts
  plain_in plain_form.Done ts = alone d.Done ts
  plain_in plain_form.Exact ts = made d.Exact (quoted_name stop ts)
  plain_in plain_form.Clear ts = made d.Clear (quoted_sels stop ts)
  plain_in plain_form.Rename ts = rename ts
  plain_in plain_form.Revert ts = revert ts
  plain_in plain_form.Frame ts = made d.Frame (if_any (quoted_sels stop) ts)
  plain_in plain_form.ModIntro ts = alone d.ModIntro ts
  plain_in plain_form.Next ts = alone d.Next ts
  plain_in plain_form.Loeb ts = made d.Loeb (as_name ts)
  plain_in plain_form.Unfold ts = made d.Unfold (if_any (quoted_name stop) ts)
  plain_in plain_form.Combine ts = combine ts
  plain_in plain_form.PureIntro ts = alone d.PureIntro ts
  plain_in plain_form.Rewrite ts = rewrite ts
  plain_in plain_form.Linear ts = linear ts

  -- ---- trees, before which so many constructs may still be opened

  module _ (preds : Callables) (names : Names) where
    unfoldable pub term_tree : List Place → ReadIn Term
    term_tree ts = made (λ t. (t, too_deep (term_depth t) (offset stop ts))) (sum_in stop names MAX_LEVELS ts)

    unfoldable pub operand_tree : List Place → ReadIn Term
    operand_tree ts = made (λ t. (t, too_deep (term_depth t) (offset stop ts))) (operand_in stop names MAX_LEVELS ts)

    unfoldable pub pure_tree : List Place → ReadIn Pure
    pure_tree ts = made (λ p. (p, too_deep (pure_depth p) (offset stop ts))) (pure_in stop names MAX_LEVELS Ors ts)

    unfoldable pub formula_tree : List Place → ReadIn Formula
    formula_tree ts = made (λ f. (f, too_deep (depth_of f) (offset stop ts))) (formula_in stop preds MAX_LEVELS Wands names ts)

    -- a formula in parentheses
    unfoldable pub grouped_formula : List Place → ReadIn Formula
    grouped_formula ts = expect s.Open stop ts >>= λ rest. closed_by s.Close stop (formula_tree rest)

    -- a pure formula in parentheses
    unfoldable pub grouped_pure : List Place → ReadIn Pure
    grouped_pure ts = expect s.Open stop ts >>= λ rest. closed_by s.Close stop (pure_tree rest)

    -- a further term behind a comma
    unfoldable pub next_term : List Term × Deeps → List Place → ReadIn (List Term)
    next_term found ts = made (with_tree found) (term_tree (drop 1 ts))

    -- one term or more, with commas between
    unfoldable pub some_terms : List Place → ReadIn (List Term)
    some_terms ts = term_tree ts >>= λ x. carried (sees s.Comma) next_term (length x.1) (first_of x.0) x.1

    -- ---- proof terms

    -- further operands, up to the parenthesis or a `with` that a quote follows
    unfoldable pub goes_on : List Place → Bool
    goes_on ts = not (sees s.Close ts) && not (sees_keyword (codes "with") ts)

    unfoldable pub next_operand : List Term × Deeps → List Place → ReadIn (List Term)
    next_operand found ts = made (with_tree found) (operand_tree ts)

    -- one operand or more
    unfoldable pub some_operands : List Place → ReadIn (List Term)
    some_operands ts = operand_tree ts >>= λ x. carried goes_on next_operand (length x.1) (first_of x.0) x.1

    -- `$! A …`, if there is one
    unfoldable pub terms_in : List Place → ReadIn (List Term)
    terms_in ts = if sees s.Terms ts then some_operands (drop 1 ts) else Ok (([], None), ts)

    -- behind a head
    unfoldable pub behind_head : Head → List Place → ReadIn ProofTerm
    behind_head h ts = then_read (λ xs ps. record { head = h; terms = xs; spats = ps }) (terms_in ts) spats_in

    -- between parentheses
    unfoldable pub arguments_in : (lemmas : Bool) → List Place → ReadIn ProofTerm
    arguments_in lemmas ts = head_in lemmas ts >>= λ h. behind_head h.0 h.1

    -- a head, or one with its terms and patterns in parentheses
    unfoldable pub proof_term : (lemmas : Bool) → List Place → ReadIn ProofTerm
    proof_term lemmas ts =
        if sees s.Open ts then closed_by s.Close stop (arguments_in lemmas (drop 1 ts))
        else only_head lemmas ts

    -- ---- directives with trees, behind their first word

    unfoldable pub destruct : List Place → ReadIn Directive
    destruct ts = then_read d.Destruct (proof_term true ts) as_bound

    unfoldable pub pose_proof : List Place → ReadIn Directive
    pose_proof ts = then_read d.PoseProof (proof_term true ts) (as_pattern MAX_LEVELS)

    -- the pattern stands in one for the update
    unfoldable pub eliminate : List Place → ReadIn Directive
    eliminate ts = then_read d.Mod (proof_term true ts) (as_pattern (MAX_LEVELS - 1))

    unfoldable pub specialize : List Place → ReadIn Directive
    specialize ts = mapped d.Specialize (proof_term false ts)

    unfoldable pub apply : List Place → ReadIn Directive
    apply ts = mapped d.Apply (proof_term true ts)

    unfoldable pub assert : List Place → ReadIn Directive
    assert ts = then_read (λ f (p : Spat × Pat). d.Assert f p.0 p.1) (grouped_formula ts) asserted

    unfoldable pub exists_in : List Place → ReadIn Directive
    exists_in ts = mapped d.Exists (some_terms ts)

    unfoldable pub fold : List Place → ReadIn Directive
    fold ts = then_read d.Fold (grouped_formula ts) in_name

    unfoldable pub write : List Place → ReadIn Directive
    write ts = quoted_name stop ts >>= λ x. mapped (d.Write x.0) (operand_tree x.1)

    unfoldable pub alloc : List Place → ReadIn Directive
    alloc ts = then_read (λ t (p : List ℕ × Pat). d.Alloc t p.0 p.1) (operand_tree ts) allocated

    unfoldable pub cases : List Place → ReadIn Directive
    cases ts = then_read d.Cases (grouped_pure ts) as_name

    -- the directive of this form, behind its first word
    unfoldable pub directive_in : Form → List Place → ReadIn Directive
    directive_in (form.Plain f) ts = plain (plain_in f ts)
    directive_in form.Destruct ts = destruct ts
    directive_in form.PoseProof ts = pose_proof ts
    directive_in form.Mod ts = eliminate ts
    directive_in form.Specialize ts = specialize ts
    directive_in form.Apply ts = apply ts
    directive_in form.Assert ts = assert ts
    directive_in form.Exists ts = exists_in ts
    directive_in form.Fold ts = fold ts
    directive_in form.Write ts = write ts
    directive_in form.Alloc ts = alloc ts
    directive_in form.Cases ts = cases ts

-- ---- sentences

unfoldable pub brace_in : (stop : ℕ) → List Place → ReadIn Sentence
brace_in stop ts =
    if sees s.OpenBrace ts then Ok ((sentence.Enter, None), drop 1 ts)
    else if sees s.CloseBrace ts then Ok ((sentence.Leave, None), drop 1 ts)
    else Err (unexpected stop ts)

module _ (stop : ℕ) (preds : List Pred) (names : Names) where
  -- the body of a predicate, which may call the predicate itself
  unfoldable pub body_in : List ℕ → Names → List Place → ReadIn Formula
  body_in p xs ts = formula_tree stop (callables_in p (length xs) preds) xs ts

  -- `:= F` behind the name and the parameters
  unfoldable pub defined : List ℕ → Names → List Place → ReadIn Sentence
  defined p xs ts = expect s.Defines stop ts >>= λ rest. mapped (sentence.Predicate p xs) (body_in p xs rest)

  -- `p ( x , … ) := F`
  unfoldable pub predicate : List Place → ReadIn Sentence
  predicate ts = name_in stop ts >>= λ p. grouped_params stop p.1 >>= λ xs. defined p.0 xs.0 xs.1

  -- `⊢ F` behind a formula, if it stands there, which makes a wand and is open as one
  unfoldable pub conclusion : Formula → List Place → Read Formula
  conclusion f ts =
      if sees s.Entails ts then made (formula.Wand f) (formula_in stop (callables 0 preds) (MAX_LEVELS - 1) Wands [] (drop 1 ts)) else Ok (f, ts)

  -- `F` or `F ⊢ F`, with no variables
  unfoldable pub statement : List Place → Read Formula
  statement ts = formula_in stop (callables 0 preds) MAX_LEVELS Wands [] ts >>= λ f. conclusion f.0 f.1

  unfoldable pub statement_tree : List Place → ReadIn Formula
  statement_tree ts = made (λ f. (f, too_deep (depth_of f) (offset stop ts))) (statement ts)

  -- `n : F` or `n : F ⊢ F`
  unfoldable pub lemma : List Place → ReadIn Sentence
  lemma ts = name_in stop ts >>= λ n. expect s.Colon stop n.1 >>= λ rest. mapped (sentence.Lemma n.0) (statement_tree rest)

  -- a number of steps, one where none is named
  unfoldable pub undo : List Place → ReadIn Sentence
  undo [] = Ok ((sentence.Undo 1, None), [])
  undo (t ∷ ts) = plain (made sentence.Undo (digits stop natural (t ∷ ts)))

  abbrev pub sentence_alone : Sentence → List Place → ReadIn Sentence
  sentence_alone x ts = Ok ((x, None), ts)

  -- the sentence of this form, behind its first word
  unfoldable pub formed : SentenceForm → List Place → ReadIn Sentence
  formed sentence_form.Predicate ts = predicate ts
  formed sentence_form.Lemma ts = lemma ts
  formed sentence_form.Proof ts = sentence_alone sentence.Proof ts
  formed sentence_form.Qed ts = sentence_alone sentence.Qed ts
  formed sentence_form.Abort ts = sentence_alone sentence.Abort ts
  formed sentence_form.Restart ts = sentence_alone sentence.Restart ts
  formed sentence_form.Show ts = sentence_alone sentence.Show ts
  formed sentence_form.Undo ts = undo ts

  -- behind the first word, which is at this offset
  abbrev pub directive_by : ℕ → Option Form → List Place → ReadIn Sentence
  directive_by at (Some f) ts = mapped sentence.Directive (directive_in stop (callables 0 preds) names f ts)
  directive_by at None ts = Err (Unexpected at)

  abbrev pub sentence_by : ℕ → List ℕ → Option SentenceForm → List Place → ReadIn Sentence
  sentence_by at w (Some f) ts = formed f ts
  sentence_by at w None ts = directive_by at (form_of w) ts

  unfoldable pub sentence_in : List Place → ReadIn Sentence
  sentence_in [] = Err (Unexpected stop)
  sentence_in (place (name w) at ∷ ts) = sentence_by at w (sentence_form_of w) ts
  sentence_in (place (number n) at ∷ ts) = Err (Unexpected at)
  sentence_in (place (symbol r) at ∷ ts) = brace_in stop (place (symbol r) at ∷ ts)

-- the value, where none of its trees is too deep
abbrev pub no_deep : {A : Type 0} → A × Deeps → Result A TextFault
no_deep (x, None) = Ok x
no_deep (x, Some at) = Err (Deep at)

unfoldable pub sentence_of : List Pred → Names → (end stop : ℕ) → List Place → Result Sentence TextFault
sentence_of preds names end stop ts = all_of end stop (sentence_in stop preds names ts) >>= no_deep

-- the sentence of a text whose first byte is at the offset base
unfoldable pub read_sentence : (base : ℕ) → List Pred → Names → List ℕ → Result Sentence TextFault
read_sentence base preds names text =
    let found = tokens text in
    counted_from base (sentence_of preds names (length text) found.1 found.0)
