-- The terms that are read of a directive fit the variables in scope.
use Rattle.std.proofs.Common.{◌≡◌, ℕ, zero, suc, ◌≤◌, Bool, true, false, ◌&&◌, ◌==◌, cond, leb, leb-true, List, [], ◌∷◌, ◌++◌, drop, length, map, reverse, Option, Some, None, Result, Ok, Err, refl, sym, ap, subst, ◌∙◌, arith}
use Rattle.std.proofs.lemmas.List.{length-reverse}
use Rattle.std.specs.List.{AllByRecursion}
use Rattle.pm_logic.specs.declared.limits.TheConstants.{MAX_LEVELS}
use Rattle.pm_logic.specs.declared.formula.Term.{Term}
use Rattle.pm_logic.specs.declared.formula.Term.TheVariants.{Lit, Var}
use Rattle.pm_logic.specs.declared.formula.Formula.{Formula}
use Rattle.pm_logic.specs.declared.formula.Pred.{Pred}
use Rattle.pm_logic.specs.Trees.{add, sub, neg, scale}
use Rattle.pm_logic.specs.Scope.{TermScoped}
use Rattle.pm_logic.specs.Size.{term_depth}
use Rattle.pm_tokens.specs.declared.symbol.Symbol.TheVariants as s
use Rattle.pm_tokens.specs.Tokens.{name, number, symbol, Place, place}
use Rattle.pm_tokens.specs.Texts.{tokens}
use Rattle.pm_terms.specs.declared.fault.TextFault.{TextFault}
use Rattle.pm_terms.specs.Scope.{Names, Callables, callables}
use Rattle.pm_terms.specs.Steps.{Read, ◌>>=◌, made, sees, offset, expect, natural, digits, all_of, counted_from}
use Rattle.pm_terms.specs.TermReading.{operand_in, sum_in}
use Rattle.pm_grammar.specs.TermGrammar.{operand, sum}
use Rattle.pm_grammar.proofs.Steps.{bind_ok, done, ok_is, ok_to, made_ok, guard_ok, closed_ok, either}
use Rattle.pm_grammar.proofs.Sound.{parts}
use Rattle.pm_dtext.specs.Ranges.{TermInRange}
use Rattle.pm_patterns.specs.declared.pattern.Head.{Head}
use Rattle.pm_patterns.specs.declared.pattern.ProofTerm.{ProofTerm}
use Rattle.pm_patterns.specs.declared.pattern.Spat.{Spat}
use Rattle.pm_patterns.specs.declared.pattern.Pat.{Pat}
use Rattle.pm_patterns.specs.declared.pattern.Pat.TheVariants as pat
use Rattle.pm_patterns.specs.PatternReading.{name_in, quoted_name, grouped_names}
use Rattle.pm_script.specs.declared.directive.Directive.{Directive}
use Rattle.pm_script.specs.declared.directive.Directive.TheVariants as directive
use Rattle.pm_script.specs.declared.sentence.Sentence.{Sentence}
use Rattle.pm_script.specs.declared.sentence.Sentence.TheVariants as sentence
use Rattle.pm_script.specs.declared.words.Form.{Form}
use Rattle.pm_script.specs.declared.words.Form.TheVariants as form
use Rattle.pm_script.specs.declared.words.PlainForm.{PlainForm}
use Rattle.pm_script.specs.declared.words.PlainForm.TheVariants as plain_form
use Rattle.pm_script.specs.declared.words.SentenceForm.{SentenceForm}
use Rattle.pm_script.specs.declared.words.SentenceForm.TheVariants as sentence_form
use Rattle.pm_script.specs.Words.{form_of, sentence_form_of}
use Rattle.pm_script.specs.SentenceReading.{Deeps, ReadIn, too_deep, first_deep, plain, mapped, then_read, carried, first_of, with_tree, if_any, any_sels, any_intros, as_pattern, as_bound, as_name, in_name, into_name, asserted, allocated, alone, named_intros, intros, rename, named_revert, revert, quoted_two, combine, rewrite_by, rewrite, with_certs, linear, plain_in, term_tree, operand_tree, grouped_formula, grouped_pure, next_term, some_terms, goes_on, next_operand, some_operands, terms_in, head_in, only_head, spats_in, behind_head, arguments_in, proof_term, destruct, pose_proof, eliminate, specialize, apply, assert, exists_in, fold, write, alloc, cases, directive_in, brace_in, body_in, grouped_params, defined, predicate, statement_tree, lemma, undo, formed, no_deep, directive_by, sentence_by, sentence_in, sentence_of, read_sentence}
use Rattle.pm_script_grammar.proofs.Derived.{derived_fits}
use Rattle.pm_script_grammar.proofs.Fitted.{no_deep_ok}
use Rattle.pm_proof.specs.Valid.{TermFits}
use Rattle.pm_goal.specs.declared.goal.Goal.{Goal}
use Rattle.pm_directives.specs.Steps.{terms_of, FitsGoal}
use Rattle.pm_run.specs.declared.running.Running.{Running}
use Rattle.pm_run.specs.Runs.{scope_by}
use Rattle.pm_run.specs.Keeping.{TermsFit, FitsFirst, scope_of, IsHanded}

-- ---- terms

term_scoped : (k : ℕ) (t : Term) → TermInRange k t → TermScoped k t
unfolding TermInRange TermScoped
term_scoped k (Lit z) h = tt
term_scoped k (Var i) h = h
term_scoped k (add a b) h = (term_scoped k a h.0, term_scoped k b h.1)
term_scoped k (sub a b) h = (term_scoped k a h.0, term_scoped k b h.1)
term_scoped k (neg t) h = term_scoped k t h
term_scoped k (scale z t) h = term_scoped k t h.1

shallow : (depth at : ℕ) → too_deep depth at ≡ None → depth ≤ MAX_LEVELS
shallow depth at e = go (leb depth MAX_LEVELS) refl
  where
    go : (b : Bool) → leb depth MAX_LEVELS ≡ b → depth ≤ MAX_LEVELS
    go true h = leb-true depth MAX_LEVELS h
    go false h = let some : too_deep depth at ≡ Some at = rw h refl in absurd cc

both_none : (a b : Deeps) → first_deep a b ≡ None → (a ≡ None) × (b ≡ None)
both_none (Some at) b e = absurd cc
both_none None b e = (refl, e)

all_end : {A : Type 0} (P : A → Type 0) (xs : List A) (x : A) → AllByRecursion P xs → P x → AllByRecursion P (xs ++ x ∷ [])
all_end P [] x all here = (here, tt)
all_end P (y ∷ xs) x all here = (all.0, all_end P xs x all.1 here)

-- where none of them is too deep, they fit
abbrev AllFit : ℕ → List Term × Deeps → Type 0
AllFit k x = x.1 ≡ None → AllByRecursion (TermFits k) x.0

module _ (stop : ℕ) (preds : Callables) (names : Names) where
  abbrev k : ℕ
  k = length names

  term_fits : (ts : List Place) (x : (Term × Deeps) × List Place) → term_tree stop preds names ts ≡ Ok x → x.0.1 ≡ None → TermFits k x.0.0
  unfolding term_tree
  term_fits ts x e none =
      let m = made_ok (λ t. (t, too_deep (term_depth t) (offset stop ts))) (sum_in stop names MAX_LEVELS ts) x e in
      let same : m.0 ≡ x.0.0 = ap (λ y. y.0) m.2 in
      let deep : too_deep (term_depth m.0) (offset stop ts) ≡ None = ap (λ y. y.1) m.2 ∙ none in
      let d = parts.terms stop MAX_LEVELS names ts x.1 m.0 m.1 in
      let low : term_depth m.0 ≤ MAX_LEVELS = shallow (term_depth m.0) (offset stop ts) deep in
      subst (TermFits k) same (record { scoped = term_scoped k m.0 (derived_fits.terms names sum d.0 m.0 d.2); levels = omega (arith, low) })

  operand_fits : (ts : List Place) (x : (Term × Deeps) × List Place) → operand_tree stop preds names ts ≡ Ok x → x.0.1 ≡ None → TermFits k x.0.0
  unfolding operand_tree
  operand_fits ts x e none =
      let m = made_ok (λ t. (t, too_deep (term_depth t) (offset stop ts))) (operand_in stop names MAX_LEVELS ts) x e in
      let same : m.0 ≡ x.0.0 = ap (λ y. y.0) m.2 in
      let deep : too_deep (term_depth m.0) (offset stop ts) ≡ None = ap (λ y. y.1) m.2 ∙ none in
      let d = parts.operands stop MAX_LEVELS names ts x.1 m.0 m.1 in
      let low : term_depth m.0 ≤ MAX_LEVELS = shallow (term_depth m.0) (offset stop ts) deep in
      subst (TermFits k) same (record { scoped = term_scoped k m.0 (derived_fits.terms names operand d.0 m.0 d.2); levels = omega (arith, low) })

  next_fits : (found : List Term × Deeps) (ts : List Place) (x : (List Term × Deeps) × List Place) → next_term stop preds names found ts ≡ Ok x → AllFit k found → AllFit k x.0
  unfolding next_term
  next_fits found ts x e all = λ none.
      let m = made_ok (with_tree found) (term_tree stop preds names (drop 1 ts)) x e in
      let b = both_none found.1 m.0.1 (ap (λ y. y.1) m.2 ∙ none) in
      subst (AllByRecursion (TermFits k)) (ap (λ y. y.0) m.2) (all_end (TermFits k) found.0 m.0.0 (all b.0) (term_fits (drop 1 ts) (m.0, x.1) m.1 b.1))

  more_fit : (n : ℕ) (found : List Term × Deeps) (ts : List Place) (x : (List Term × Deeps) × List Place) → carried (sees s.Comma) (next_term stop preds names) n found ts ≡ Ok x → AllFit k found → AllFit k x.0
  unfolding carried
  more_fit zero found ts x e all = ok_to (λ (y : (List Term × Deeps) × List Place). AllFit k y.0) (found, ts) x e all
  more_fit (suc n) found ts x e all = either (sees s.Comma ts) _ _ _ e (AllFit k x.0)
      (λ there r.
      let b = bind_ok (next_term stop preds names found ts) (λ y. carried (sees s.Comma) (next_term stop preds names) n y.0 y.1) x r in
      more_fit n b.0.0 b.0.1 x b.2 (next_fits found ts b.0 b.1 all))
      (λ other r. ok_to (λ (y : (List Term × Deeps) × List Place). AllFit k y.0) (found, ts) x r all)

  terms_fit : (ts : List Place) (x : (List Term × Deeps) × List Place) → some_terms stop preds names ts ≡ Ok x → AllFit k x.0
  unfolding some_terms
  terms_fit ts x e =
      let b = bind_ok (term_tree stop preds names ts) (λ y. carried (sees s.Comma) (next_term stop preds names) (length y.1) (first_of y.0) y.1) x e in
      more_fit (length b.0.1) (first_of b.0.0) b.0.1 x b.2 (λ none. (term_fits ts b.0 b.1 none, tt))

  -- ---- operands

  next_operand_fits : (found : List Term × Deeps) (ts : List Place) (x : (List Term × Deeps) × List Place) → next_operand stop preds names found ts ≡ Ok x → AllFit k found → AllFit k x.0
  unfolding next_operand
  next_operand_fits found ts x e all = λ none.
      let m = made_ok (with_tree found) (operand_tree stop preds names ts) x e in
      let b = both_none found.1 m.0.1 (ap (λ y. y.1) m.2 ∙ none) in
      subst (AllByRecursion (TermFits k)) (ap (λ y. y.0) m.2) (all_end (TermFits k) found.0 m.0.0 (all b.0) (operand_fits ts (m.0, x.1) m.1 b.1))

  more_operands_fit : (n : ℕ) (found : List Term × Deeps) (ts : List Place) (x : (List Term × Deeps) × List Place) → carried (goes_on stop preds names) (next_operand stop preds names) n found ts ≡ Ok x → AllFit k found → AllFit k x.0
  unfolding carried
  more_operands_fit zero found ts x e all = ok_to (λ (y : (List Term × Deeps) × List Place). AllFit k y.0) (found, ts) x e all
  more_operands_fit (suc n) found ts x e all = either (goes_on stop preds names ts) _ _ _ e (AllFit k x.0)
      (λ there r.
      let b = bind_ok (next_operand stop preds names found ts) (λ y. carried (goes_on stop preds names) (next_operand stop preds names) n y.0 y.1) x r in
      more_operands_fit n b.0.0 b.0.1 x b.2 (next_operand_fits found ts b.0 b.1 all))
      (λ other r. ok_to (λ (y : (List Term × Deeps) × List Place). AllFit k y.0) (found, ts) x r all)

  operands_fit : (ts : List Place) (x : (List Term × Deeps) × List Place) → some_operands stop preds names ts ≡ Ok x → AllFit k x.0
  unfolding some_operands
  operands_fit ts x e =
      let b = bind_ok (operand_tree stop preds names ts) (λ y. carried (goes_on stop preds names) (next_operand stop preds names) (length y.1) (first_of y.0) y.1) x e in
      more_operands_fit (length b.0.1) (first_of b.0.0) b.0.1 x b.2 (λ none. (operand_fits ts b.0 b.1 none, tt))

  given_terms_fit : (ts : List Place) (x : (List Term × Deeps) × List Place) → terms_in stop preds names ts ≡ Ok x → AllFit k x.0
  unfolding terms_in
  given_terms_fit ts x e = either (sees s.Terms ts) _ _ _ e (AllFit k x.0)
      (λ there r. operands_fit (drop 1 ts) x r)
      (λ other r. ok_to (λ (y : (List Term × Deeps) × List Place). AllFit k y.0) (([], None), ts) x r (λ none. tt))

  -- ---- proof terms

  abbrev ProofFits : (ProofTerm × Deeps) × List Place → Type 0
  ProofFits x = x.0.1 ≡ None → AllByRecursion (TermFits k) x.0.0.terms

  behind_fits : (h : Head) (ts : List Place) (x : (ProofTerm × Deeps) × List Place) → behind_head stop preds names h ts ≡ Ok x → ProofFits x
  unfolding behind_head
  behind_fits h ts x e = λ none.
      let b = bind_ok (terms_in stop preds names ts) (λ y. made (λ ps. let t : ProofTerm = record { head = h; terms = y.0.0; spats = ps } in (t, y.0.1)) (spats_in stop y.1)) x e in
      let m = made_ok (λ ps. let t : ProofTerm = record { head = h; terms = b.0.0.0; spats = ps } in (t, b.0.0.1)) (spats_in stop b.0.1) x b.2 in
      subst (λ (y : ProofTerm). AllByRecursion (TermFits k) y.terms) (ap (λ y. y.0) m.2) (given_terms_fit ts b.0 b.1 (ap (λ y. y.1) m.2 ∙ none))

  head_alone_fits : (lemmas : Bool) (ts : List Place) (x : (ProofTerm × Deeps) × List Place) → only_head stop lemmas ts ≡ Ok x → ProofFits x
  head_alone_fits lemmas ts x e = λ none.
      let m = made_ok (λ (t : ProofTerm). let d : Deeps = None in (t, d)) (made (λ h. let t : ProofTerm = record { head = h; terms = []; spats = [] } in t) (head_in stop lemmas ts)) x e in
      let n = made_ok (λ h. let t : ProofTerm = record { head = h; terms = []; spats = [] } in t) (head_in stop lemmas ts) (m.0, x.1) m.1 in
      subst (λ (y : ProofTerm). AllByRecursion (TermFits k) y.terms) (n.2 ∙ ap (λ y. y.0) m.2) tt

  proof_fits : (lemmas : Bool) (ts : List Place) (x : (ProofTerm × Deeps) × List Place) → proof_term stop preds names lemmas ts ≡ Ok x → ProofFits x
  unfolding proof_term arguments_in
  proof_fits lemmas ts x e = either (sees s.Open ts) _ _ _ e (ProofFits x)
      (λ there r.
      let c = closed_ok s.Close stop (arguments_in stop preds names lemmas (drop 1 ts)) x r in
      let b = bind_ok (head_in stop lemmas (drop 1 ts)) (λ h. behind_head stop preds names h.0 h.1) (x.0, c.0) c.1 in
      behind_fits b.0.0 b.0.1 (x.0, c.0) b.2)
      (λ other r. head_alone_fits lemmas ts x r)

  -- ---- directives

  then_proof : {B : Type 0} (f : ProofTerm → B → Directive) (lemmas : Bool) (ts : List Place) (next : List Place → Read B) (x : (Directive × Deeps) × List Place) → ((t : ProofTerm) (y : B) → terms_of (f t y) ≡ t.terms) → then_read f (proof_term stop preds names lemmas ts) next ≡ Ok x → x.0.1 ≡ None → TermsFit k x.0.0
  then_proof f lemmas ts next x is e none =
      let b = bind_ok (proof_term stop preds names lemmas ts) (λ y. made (λ z. (f y.0.0 z, y.0.1)) (next y.1)) x e in
      let m = made_ok (λ z. (f b.0.0.0 z, b.0.0.1)) (next b.0.1) x b.2 in
      subst (TermsFit k) (ap (λ y. y.0) m.2) (subst (AllByRecursion (TermFits k)) (sym (is b.0.0.0 m.0)) (proof_fits lemmas ts b.0 b.1 (ap (λ y. y.1) m.2 ∙ none)))

  of_proof : (f : ProofTerm → Directive) (lemmas : Bool) (ts : List Place) (x : (Directive × Deeps) × List Place) → ((t : ProofTerm) → terms_of (f t) ≡ t.terms) → mapped f (proof_term stop preds names lemmas ts) ≡ Ok x → x.0.1 ≡ None → TermsFit k x.0.0
  of_proof f lemmas ts x is e none =
      let m = made_ok (λ y. (f y.0, y.1)) (proof_term stop preds names lemmas ts) x e in
      subst (TermsFit k) (ap (λ y. y.0) m.2) (subst (AllByRecursion (TermFits k)) (sym (is m.0.0)) (proof_fits lemmas ts (m.0, x.1) m.1 (ap (λ y. y.1) m.2 ∙ none)))

  exists_fit : (ts : List Place) (x : (Directive × Deeps) × List Place) → exists_in stop preds names ts ≡ Ok x → x.0.1 ≡ None → TermsFit k x.0.0
  unfolding exists_in
  exists_fit ts x e none =
      let m = made_ok (λ y. (directive.Exists y.0, y.1)) (some_terms stop preds names ts) x e in
      subst (TermsFit k) (ap (λ y. y.0) m.2) (terms_fit ts (m.0, x.1) m.1 (ap (λ y. y.1) m.2 ∙ none))

  -- others have none

  abbrev IsOther : Directive → Type 0
  IsOther x = TermsFit k x

  made_other : {A : Type 0} (f : A → Directive) (read : Read A) (x : Directive × List Place) → ((a : A) → IsOther (f a)) → made f read ≡ Ok x → IsOther x.0
  made_other f read x other e = let m = made_ok f read x e in subst IsOther m.2 (other m.0)

  bound_other : {A B : Type 0} (f : A → B → Directive) (read : Read A) (next : List Place → Read B) (x : Directive × List Place) → ((a : A) (b : B) → IsOther (f a b)) → (read >>= λ y. made (f y.0) (next y.1)) ≡ Ok x → IsOther x.0
  bound_other f read next x other e = let b = bind_ok read (λ y. made (f y.0) (next y.1)) x e in made_other (f b.0.0) (next b.0.1) x (other b.0.0) b.2

  alone_other : (y : Directive) (ts : List Place) (x : Directive × List Place) → IsOther y → done (y, ts) ≡ Ok x → IsOther x.0
  alone_other y ts x other e = ok_to (λ (z : Directive × List Place). IsOther z.0) (y, ts) x e other

  rewrite_other : (back : Bool) (ts : List Place) (x : Directive × List Place) → rewrite_by stop back ts ≡ Ok x → IsOther x.0
  unfolding rewrite_by
  rewrite_other back ts x e = bound_other (directive.Rewrite back) (quoted_name stop ts) (if_any stop (in_name stop)) x (λ a b. tt) e

  linear_other : (ts : List Place) (x : Directive × List Place) → linear stop ts ≡ Ok x → IsOther x.0
  unfolding linear with_certs
  linear_other [] x e = alone_other directive.Linear [] x tt e
  linear_other (t ∷ ts) x e = made_other directive.LinearWith _ x (λ a. tt) e

  plain_other : (f : PlainForm) (ts : List Place) (x : Directive × List Place) → plain_in stop f ts ≡ Ok x → IsOther x.0
  unfolding plain_in intros named_intros rename revert named_revert combine rewrite
  plain_other plain_form.Intros ts x e = either (sees s.Open ts) _ _ _ e (IsOther x.0)
      (λ there r. let b = bind_ok (grouped_names stop ts) (λ xs. made directive.Intros (any_intros stop (map pat.PureName xs.0) xs.1)) x r in made_other directive.Intros _ x (λ a. tt) b.2)
      (λ other r. made_other directive.Intros _ x (λ a. tt) r)
  plain_other plain_form.Split ts x e = alone_other directive.Split ts x tt e
  plain_other plain_form.SplitL ts x e = made_other directive.SplitL _ x (λ a. tt) e
  plain_other plain_form.SplitR ts x e = made_other directive.SplitR _ x (λ a. tt) e
  plain_other plain_form.Left ts x e = alone_other directive.Left ts x tt e
  plain_other plain_form.Right ts x e = alone_other directive.Right ts x tt e
  plain_other plain_form.Assumption ts x e = alone_other directive.Assumption ts x tt e
  plain_other plain_form.ExFalso ts x e = alone_other directive.ExFalso ts x tt e
  plain_other plain_form.Done ts x e = alone_other directive.Done ts x tt e
  plain_other plain_form.Exact ts x e = made_other directive.Exact _ x (λ a. tt) e
  plain_other plain_form.Clear ts x e = made_other directive.Clear _ x (λ a. tt) e
  plain_other plain_form.Rename ts x e = bound_other directive.Rename (quoted_name stop ts) (into_name stop) x (λ a b. tt) e
  plain_other plain_form.Revert ts x e = either (sees s.Open ts) _ _ _ e (IsOther x.0)
      (λ there r. bound_other directive.Revert (grouped_names stop ts) (any_sels stop) x (λ a b. tt) r)
      (λ other r. made_other (directive.Revert []) _ x (λ a. tt) r)
  plain_other plain_form.Frame ts x e = made_other directive.Frame _ x (λ a. tt) e
  plain_other plain_form.ModIntro ts x e = alone_other directive.ModIntro ts x tt e
  plain_other plain_form.Next ts x e = alone_other directive.Next ts x tt e
  plain_other plain_form.Loeb ts x e = made_other directive.Loeb _ x (λ a. tt) e
  plain_other plain_form.Unfold ts x e = made_other directive.Unfold _ x (λ a. tt) e
  plain_other plain_form.Combine ts x e = bound_other (λ (both : List ℕ × List ℕ). directive.Combine both.0 both.1) (quoted_two stop ts) (as_pattern stop MAX_LEVELS) x (λ a b. tt) e
  plain_other plain_form.PureIntro ts x e = alone_other directive.PureIntro ts x tt e
  plain_other plain_form.Rewrite ts x e = either (sees s.Minus ts) _ _ _ e (IsOther x.0) (λ there r. rewrite_other true (drop 1 ts) x r) (λ other r. rewrite_other false ts x r)
  plain_other plain_form.Linear ts x e = linear_other ts x e

  mapped_other : {A : Type 0} (f : A → Directive) (read : ReadIn A) (x : (Directive × Deeps) × List Place) → ((a : A) → IsOther (f a)) → mapped f read ≡ Ok x → IsOther x.0.0
  mapped_other f read x other e = let m = made_ok (λ y. (f y.0, y.1)) read x e in subst IsOther (ap (λ y. y.0) m.2) (other m.0.0)

  then_other : {A B : Type 0} (f : A → B → Directive) (read : ReadIn A) (next : List Place → Read B) (x : (Directive × Deeps) × List Place) → ((a : A) (b : B) → IsOther (f a b)) → then_read f read next ≡ Ok x → IsOther x.0.0
  then_other f read next x other e =
      let b = bind_ok read (λ y. made (λ z. (f y.0.0 z, y.0.1)) (next y.1)) x e in
      let m = made_ok (λ z. (f b.0.0.0 z, b.0.0.1)) (next b.0.1) x b.2 in
      subst IsOther (ap (λ y. y.0) m.2) (other b.0.0.0 m.0)

  write_other : (ts : List Place) (x : (Directive × Deeps) × List Place) → write stop preds names ts ≡ Ok x → IsOther x.0.0
  unfolding write
  write_other ts x e =
      let b = bind_ok (quoted_name stop ts) (λ y. mapped (directive.Write y.0) (operand_tree stop preds names y.1)) x e in
      mapped_other (directive.Write b.0.0) (operand_tree stop preds names b.0.1) x (λ a. tt) b.2

  directive_fits : (f : Form) (ts : List Place) (x : (Directive × Deeps) × List Place) → directive_in stop preds names f ts ≡ Ok x → x.0.1 ≡ None → TermsFit k x.0.0
  unfolding directive_in destruct pose_proof eliminate specialize apply assert fold alloc cases
  directive_fits (form.Plain f) ts x e none =
      let m = made_ok (λ y. (y, None)) (plain_in stop f ts) x e in
      subst IsOther (ap (λ y. y.0) m.2) (plain_other f ts (m.0, x.1) m.1)
  directive_fits form.Destruct ts x e none = then_proof directive.Destruct true ts (as_bound stop) x (λ t p. refl) e none
  directive_fits form.PoseProof ts x e none = then_proof directive.PoseProof true ts (as_pattern stop MAX_LEVELS) x (λ t p. refl) e none
  directive_fits form.Mod ts x e none = then_other directive.Mod (proof_term stop preds names true ts) _ x (λ a b. tt) e
  directive_fits form.Specialize ts x e none = of_proof directive.Specialize false ts x (λ t. refl) e none
  directive_fits form.Apply ts x e none = mapped_other directive.Apply (proof_term stop preds names true ts) x (λ a. tt) e
  directive_fits form.Assert ts x e none = then_other (λ f (p : Spat × Pat). directive.Assert f p.0 p.1) (grouped_formula stop preds names ts) (asserted stop) x (λ a b. tt) e
  directive_fits form.Exists ts x e none = exists_fit ts x e none
  directive_fits form.Fold ts x e none = then_other directive.Fold (grouped_formula stop preds names ts) (in_name stop) x (λ a b. tt) e
  directive_fits form.Write ts x e none = write_other ts x e
  directive_fits form.Alloc ts x e none = then_other (λ t (p : List ℕ × Pat). directive.Alloc t p.0 p.1) (operand_tree stop preds names ts) (allocated stop) x (λ a b. tt) e
  directive_fits form.Cases ts x e none = then_other directive.Cases (grouped_pure stop preds names ts) (as_name stop) x (λ a b. tt) e

-- ---- sentences

abbrev IsFitting : ℕ → Sentence → Type 0
IsFitting k (sentence.Directive x) = TermsFit k x
IsFitting k x = Unit {0}

module _ (stop : ℕ) (preds : List Pred) (names : Names) where
  abbrev Reads : (Sentence × Deeps) × List Place → Type 0
  Reads x = x.0.1 ≡ None → IsFitting (length names) x.0.0

  alone_fits : (y : Sentence) (ts : List Place) (x : (Sentence × Deeps) × List Place) → IsFitting (length names) y → done ((y, None), ts) ≡ Ok x → Reads x
  alone_fits y ts x h e = λ none. ok_to (λ (z : (Sentence × Deeps) × List Place). IsFitting (length names) z.0.0) ((y, None), ts) x e h

  changed_fits : {A : Type 0} (f : A → Sentence) (read : ReadIn A) (x : (Sentence × Deeps) × List Place) → ((a : A) → IsFitting (length names) (f a)) → mapped f read ≡ Ok x → Reads x
  changed_fits f read x h e = λ none. let m = made_ok (λ y. (f y.0, y.1)) read x e in subst (IsFitting (length names)) (ap (λ y. y.0) m.2) (h m.0.0)

  predicate_fits : (ts : List Place) (x : (Sentence × Deeps) × List Place) → predicate stop preds names ts ≡ Ok x → Reads x
  unfolding predicate defined
  predicate_fits ts x e =
      let p = bind_ok (name_in stop ts) (λ p. grouped_params stop p.1 >>= λ xs. defined stop preds names p.0 xs.0 xs.1) x e in
      let xs = bind_ok (grouped_params stop p.0.1) (λ xs. defined stop preds names p.0.0 xs.0 xs.1) x p.2 in
      let d = bind_ok (expect s.Defines stop xs.0.1) (λ rest. mapped (sentence.Predicate p.0.0 xs.0.0) (body_in stop preds names p.0.0 xs.0.0 rest)) x xs.2 in
      changed_fits (sentence.Predicate p.0.0 xs.0.0) (body_in stop preds names p.0.0 xs.0.0 d.0) x (λ a. tt) d.2

  lemma_fits : (ts : List Place) (x : (Sentence × Deeps) × List Place) → lemma stop preds names ts ≡ Ok x → Reads x
  unfolding lemma
  lemma_fits ts x e =
      let n = bind_ok (name_in stop ts) (λ n. expect s.Colon stop n.1 >>= λ rest. mapped (sentence.Lemma n.0) (statement_tree stop preds names rest)) x e in
      let c = bind_ok (expect s.Colon stop n.0.1) (λ rest. mapped (sentence.Lemma n.0.0) (statement_tree stop preds names rest)) x n.2 in
      changed_fits (sentence.Lemma n.0.0) (statement_tree stop preds names c.0) x (λ a. tt) c.2

  undo_fits : (ts : List Place) (x : (Sentence × Deeps) × List Place) → undo stop preds names ts ≡ Ok x → Reads x
  unfolding undo
  undo_fits [] x e = alone_fits (sentence.Undo 1) [] x tt e
  undo_fits (t ∷ ts) x e = λ none.
      let m = made_ok (λ y. (y, None)) _ x e in
      let n = made_ok sentence.Undo (digits stop natural (t ∷ ts)) (m.0, x.1) m.1 in
      subst (IsFitting (length names)) (n.2 ∙ ap (λ y. y.0) m.2) tt

  formed_fits : (f : SentenceForm) (ts : List Place) (x : (Sentence × Deeps) × List Place) → formed stop preds names f ts ≡ Ok x → Reads x
  unfolding formed
  formed_fits sentence_form.Predicate ts x e = predicate_fits ts x e
  formed_fits sentence_form.Lemma ts x e = lemma_fits ts x e
  formed_fits sentence_form.Proof ts x e = alone_fits sentence.Proof ts x tt e
  formed_fits sentence_form.Qed ts x e = alone_fits sentence.Qed ts x tt e
  formed_fits sentence_form.Abort ts x e = alone_fits sentence.Abort ts x tt e
  formed_fits sentence_form.Restart ts x e = alone_fits sentence.Restart ts x tt e
  formed_fits sentence_form.Show ts x e = alone_fits sentence.Show ts x tt e
  formed_fits sentence_form.Undo ts x e = undo_fits ts x e

  by_directive : (at : ℕ) (o : Option Form) (ts : List Place) (x : (Sentence × Deeps) × List Place) → directive_by stop preds names at o ts ≡ Ok x → Reads x
  by_directive at None ts x e = absurd cc
  by_directive at (Some f) ts x e = λ none.
      let m = made_ok (λ y. (sentence.Directive y.0, y.1)) (directive_in stop (callables 0 preds) names f ts) x e in
      subst (IsFitting (length names)) (ap (λ y. y.0) m.2) (directive_fits stop (callables 0 preds) names f ts (m.0, x.1) m.1 (ap (λ y. y.1) m.2 ∙ none))

  by_word : (at : ℕ) (w : List ℕ) (o : Option SentenceForm) (ts : List Place) (x : (Sentence × Deeps) × List Place) → sentence_by stop preds names at w o ts ≡ Ok x → Reads x
  by_word at w None ts x e = by_directive at (form_of w) ts x e
  by_word at w (Some f) ts x e = formed_fits f ts x e

  sentence_fits : (ts : List Place) (x : (Sentence × Deeps) × List Place) → sentence_in stop preds names ts ≡ Ok x → Reads x
  unfolding sentence_in brace_in
  sentence_fits [] x e = absurd cc
  sentence_fits (place (name w) at ∷ ts) x e = by_word at w (sentence_form_of w) ts x e
  sentence_fits (place (number n) at ∷ ts) x e = absurd cc
  sentence_fits (place (symbol r) at ∷ ts) x e = either (sees s.OpenBrace (place (symbol r) at ∷ ts)) _ _ _ e (Reads x)
      (λ opens g. alone_fits sentence.Enter ts x tt g)
      (λ other g. either (sees s.CloseBrace (place (symbol r) at ∷ ts)) _ _ _ g (Reads x) (λ closes h. alone_fits sentence.Leave ts x tt h) (λ none h. absurd cc))

-- ---- whole texts

counted_ok : {A : Type 0} (base : ℕ) (read : Result A TextFault) (x : A) → counted_from base read ≡ Ok x → read ≡ Ok x
counted_ok base (Ok y) x e = e
counted_ok base (Err f) x e = absurd cc

whole_fits : (preds : List Pred) (names : Names) (end stop : ℕ) (ts : List Place) (x : Sentence) → sentence_of preds names end stop ts ≡ Ok x → IsFitting (length names) x
unfolding sentence_of all_of
whole_fits preds names end stop ts x e =
    let a = bind_ok (all_of end stop (sentence_in stop preds names ts)) no_deep x e in
    let n = no_deep_ok a.0 x a.2 in
    let b = bind_ok (sentence_in stop preds names ts) _ a.0 a.1 in
    let g = guard_ok (length b.0.1 == 0 && (stop == end)) b.0.0 a.0 _ b.2 in
    subst (IsFitting (length names)) (ap (λ y. y.0) g.1 ∙ n.0) (sentence_fits stop preds names ts b.0 b.1 (ap (λ y. y.1) g.1 ∙ n.1))

text_fits : (base : ℕ) (preds : List Pred) (names : Names) (text : List ℕ) (x : Sentence) → read_sentence base preds names text ≡ Ok x → IsFitting (length names) x
unfolding read_sentence
text_fits base preds names text x e =
    let found = tokens text in
    whole_fits preds names (length text) found.1 found.0 x (counted_ok base (sentence_of preds names (length text) found.1 found.0) x e)

pub handed : (r : Running) (base : ℕ) (text : List ℕ) (x : Sentence) → read_sentence base r.preds.list (scope_of r) text ≡ Ok x → IsHanded r x
handed r base text x e = go x (text_fits base r.preds.list (scope_of r) text x e)
  where
    go : (y : Sentence) → IsFitting (length (scope_of r)) y → IsHanded r y
    go (sentence.Directive d) h = h
    go y h = tt

-- ---- the goal that a directive is for

pub fits_first : (x : Directive) (lemma_name : List ℕ) (statement : Formula) (gs : List Goal) → TermsFit (length (scope_by (Some (record { name = lemma_name; statement = statement; goals = gs })))) x → FitsFirst x gs
fits_first x lemma_name statement [] h = tt
fits_first x lemma_name statement (g ∷ gs) h = subst (λ n. TermsFit n x) (length-reverse g.vars) h
