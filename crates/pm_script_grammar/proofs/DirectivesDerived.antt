-- Directives that are read are derived by the grammar.
use Rattle.std.proofs.Common.{◌≡◌, ◌⊎◌, inl, inr, ℕ, ◌-◌, Bool, true, false, List, [], ◌∷◌, ◌++◌, map, Option, Some, None, Ok, refl, sym, ap, subst, ◌∙◌, append-nil}
use Rattle.std.specs.Prelude.{codes}
use Rattle.std.specs.List.{AllByRecursion}
use Rattle.std.specs.Str.{bytes_eq}
use Rattle.std.proofs.lemmas.Slice.Eq.{bytes_eq-Decides}
use Rattle.pm_logic.specs.declared.limits.TheConstants.{MAX_LEVELS}
use Rattle.pm_logic.specs.declared.formula.Term.{Term}
use Rattle.pm_tokens.specs.declared.symbol.Symbol.TheVariants as s
use Rattle.pm_tokens.specs.Tokens.{Token, name, Place}
use Rattle.pm_terms.specs.declared.level.PureLevel.TheVariants.{Ors}
use Rattle.pm_terms.specs.Scope.{Names, Callables}
use Rattle.pm_terms.specs.Steps.{made, sees}
use Rattle.pm_patterns.specs.declared.pattern.Sel.{Sel}
use Rattle.pm_patterns.specs.declared.pattern.Spat.{Spat}
use Rattle.pm_patterns.specs.declared.pattern.Pat.{Pat}
use Rattle.pm_patterns.specs.declared.pattern.Pat.TheVariants as pat
use Rattle.pm_patterns.specs.declared.pattern.Cert.{Cert}
use Rattle.pm_patterns.specs.PatternReading.{name_in, further_intros, quoted_cert}
use Rattle.pm_script.specs.declared.directive.Directive.{Directive}
use Rattle.pm_script.specs.declared.directive.Directive.TheVariants as d
use Rattle.pm_script.specs.declared.words.Form.{Form}
use Rattle.pm_script.specs.declared.words.Form.TheVariants as form
use Rattle.pm_script.specs.declared.words.PlainForm.{PlainForm}
use Rattle.pm_script.specs.declared.words.PlainForm.TheVariants as plain_form
use Rattle.pm_tokens.specs.Words.{lookup}
use Rattle.pm_script.specs.Words.{bytes, directive_words, form_of}
use Rattle.pm_script.specs.SentenceReading.{mapped, if_any, any_sels, any_intros, as_pattern, in_name, into_name, named_intros, intros, rename, named_revert, revert, two_names, quoted_two, combine, rewrite_by, rewrite, both_certs, certs_in, with_certs, linear, plain_in, operand_tree, destruct, pose_proof, eliminate, specialize, apply, assert, exists_in, fold, write, alloc, cases, directive_in}
use Rattle.pm_grammar.specs.TermGrammar.{IsTerm, operand}
use Rattle.pm_grammar.specs.PureGrammar.{IsPure}
use Rattle.pm_grammar.specs.FormulaGrammar.{AreTerms}
use Rattle.pm_grammar.proofs.Steps.{ok_to, either}
use Rattle.pm_script_grammar.specs.PatternGrammar.{in_quotes, in_parentheses, all_as, name_as, names_as, HasOne, sel_as, AreIntros, IsCert}
use Rattle.pm_script_grammar.specs.SentenceGrammar as g
use Rattle.pm_script_grammar.specs.SentenceGrammar.{if_some, HasOneIfSome, variables, minus_if, IsDirective}
use Rattle.pm_script_grammar.proofs.Sound.{Found, Sound, widened, given, changed, followed, chosen, after_symbol}
use Rattle.pm_script_grammar.proofs.PatternsDerived.{Within, Quoted, quotes, Spelled, SomeOf, name_sound, quoted_name_sound, quoted_names_sound, grouped_names_sound, quoted_sels_sound, intros_sound, quoted_intros_sound}
use Rattle.pm_script_grammar.proofs.CertsDerived.{quoted_cert_sound}
use Rattle.pm_script_grammar.proofs.PartsDerived.{with_word, Worded, worded, IfAny, any_sound, both_are, Tree, plain_sound, mapped_sound, then_sound, operand_tree_sound, grouped_formula_sound, grouped_pure_sound, some_terms_sound, proof_term_sound, IsAnyFormula, IsOne, as_pattern_sound, as_bound_sound, as_name_sound, in_name_sound, into_name_sound, Asserted, asserted_sound, Allocated, allocated_sound, ProofTermOf}

module _ (stop : ℕ) (preds : Callables) (names : Names) where
  abbrev D : List ℕ → List Token → Directive → Type 0
  D w ys x = IsDirective preds names w ys x

  written : (w : List ℕ) (us vs : List Token) (x : Directive) → us ≡ vs → D w vs x → D w us x
  written w us vs x e h = subst (λ (ts : List Token). D w ts x) (sym e) h

  -- ---- without trees

  one_quoted : (ys : List Token) (x : List ℕ) → Quoted (Spelled name_as) ys x → ys ≡ g.quoted x
  one_quoted ys x k = k.1 ∙ ap in_quotes k.2

  some_quoted : {A : Type 0} (tokens : A → List Token) (ys : List Token) (list : List A) → Quoted (SomeOf stop tokens) ys list → (ys ≡ in_quotes (all_as tokens list)) × HasOne list
  some_quoted tokens ys list k = (k.1 ∙ ap in_quotes k.2.0, k.2.1)

  any_quoted : {A : Type 0} (tokens : A → List Token) (ys : List Token) (o : Option (List A)) → IfAny (Quoted (SomeOf stop tokens)) ys o → (ys ≡ if_some (λ list. in_quotes (all_as tokens list)) o) × HasOneIfSome o
  any_quoted tokens ys None k = (k, tt)
  any_quoted tokens ys (Some list) k = some_quoted tokens ys list k

  some_names : (ys : List Token) (xs : Names) → Within s.Open s.Close (SomeOf stop name_as) ys xs → (ys ≡ in_parentheses (names_as xs)) × HasOne xs
  some_names ys xs k = (k.1 ∙ ap in_parentheses k.2.0, k.2.1)

  Further : List Pat → List Token → List Pat → Type 0
  Further found ys ps = ((ys ≡ []) × (ps ≡ found)) ⊎ ((zs : List Token) × (qs : List Pat) × (ys ≡ in_quotes zs) × AreIntros zs qs × (ps ≡ found ++ qs))

  further_read : (found : List Pat) (ts : List Place) (x : List Pat × List Place) → any_intros stop found ts ≡ Ok x → Found (Further found) ts x
  unfolding any_intros further_intros Further
  further_read found [] x e = ok_to (Found (Further found) []) (found, []) x e (record { before = []; split = refl; is = inl (refl, refl) })
  further_read found (t ∷ ts) x e = widened ((quotes {P = λ zs ps. (qs : List Pat) × AreIntros zs qs × (ps ≡ found ++ qs)} stop (changed (λ qs. found ++ qs) (intros_sound stop) (λ ys qs is. (qs, is, refl)))).ok (t ∷ ts) x e) (λ ys ps k. inr (k.0, k.2.0, k.1, k.2.1, k.2.2))

  intros_are : (us ys : List Token) (xs : Names) (ps : List Pat) → us ≡ in_parentheses (names_as xs) → HasOne xs → Further (variables xs) ys ps → D (bytes "iIntros") (us ++ ys) (d.Intros ps)
  unfolding Further
  intros_are us ys [] ps e one k = absurd one
  intros_are us ys (x ∷ xs) ps e one (inl k) =
      subst (λ (ps : List Pat). D (bytes "iIntros") (us ++ ys) (d.Intros ps)) (sym k.1) (written (bytes "iIntros") (us ++ ys) (in_parentheses (names_as (x ∷ xs))) _ (both_are e k.0 ∙ append-nil (in_parentheses (names_as (x ∷ xs)))) (g.intros_names x xs))
  intros_are us ys (x ∷ xs) ps e one (inr k) =
      subst (λ (ps : List Pat). D (bytes "iIntros") (us ++ ys) (d.Intros ps)) (sym k.4) (written (bytes "iIntros") (us ++ ys) (in_parentheses (names_as (x ∷ xs)) ++ in_quotes k.0) _ (both_are e k.2) (g.intros_both x xs k.3))

  named_intros_sound : Sound (D (bytes "iIntros")) (named_intros stop)
  unfolding named_intros
  named_intros_sound = followed {P = Within s.Open s.Close (SomeOf stop name_as)} {Q = λ xs ys x. (ps : List Pat) × Further (variables xs) ys ps × (x ≡ d.Intros ps)} {R = D (bytes "iIntros")} {next = λ xs ts. made d.Intros (any_intros stop (map pat.PureName xs) ts)} (grouped_names_sound stop)
      (λ xs. changed d.Intros (record { ok = further_read (variables xs) }) (λ ys ps is. (ps, is, refl)))
      (λ us ys xs x p q. let n = some_names us xs p in subst (D (bytes "iIntros") (us ++ ys)) (sym q.2) (intros_are us ys xs q.0 n.0 n.1 q.1))

  intros_all : Sound (D (bytes "iIntros")) (intros stop)
  unfolding intros
  intros_all = chosen (sees s.Open) named_intros_sound (changed d.Intros (quoted_intros_sound stop) (λ ys ps k. written (bytes "iIntros") ys (in_quotes k.0) (d.Intros ps) k.1 (g.intros k.2)))

  rename_sound : Sound (D (bytes "iRename")) (rename stop)
  unfolding rename
  rename_sound = followed {P = Quoted (Spelled name_as)} {Q = λ x ys r. (y : List ℕ) × Worded (bytes "into") (Quoted (Spelled name_as)) ys y × (r ≡ d.Rename x y)} {R = D (bytes "iRename")} {next = λ x ts. made (d.Rename x) (into_name stop ts)} (quoted_name_sound stop)
      (λ x. changed (d.Rename x) (into_name_sound stop preds names) (λ ys y k. (y, k, refl)))
      (λ us ys x r p q. subst (D (bytes "iRename") (us ++ ys)) (sym q.2) (written (bytes "iRename") (us ++ ys) _ (d.Rename x q.0) (both_are (one_quoted us x p) (q.1.1 ∙ ap (λ (ts : List Token). name (bytes "into") ∷ ts) (one_quoted q.1.0 q.0 q.1.2))) (g.rename x q.0)))

  Selected : List Token → List Sel → Type 0
  Selected ys ss = ((ys ≡ []) × (ss ≡ [])) ⊎ Quoted (SomeOf stop sel_as) ys ss

  selected_read : (ts : List Place) (x : List Sel × List Place) → any_sels stop ts ≡ Ok x → Found Selected ts x
  unfolding any_sels Selected
  selected_read [] x e = ok_to (Found Selected []) ([], []) x e (record { before = []; split = refl; is = inl (refl, refl) })
  selected_read (t ∷ ts) x e = widened ((quoted_sels_sound stop).ok (t ∷ ts) x e) (λ ys ss k. inr k)

  revert_are : (us ys : List Token) (xs : Names) (ss : List Sel) → us ≡ in_parentheses (names_as xs) → HasOne xs → Selected ys ss → D (bytes "iRevert") (us ++ ys) (d.Revert xs ss)
  unfolding Selected
  revert_are us ys xs ss e one (inl k) =
      subst (λ (ss : List Sel). D (bytes "iRevert") (us ++ ys) (d.Revert xs ss)) (sym k.1) (written (bytes "iRevert") (us ++ ys) (in_parentheses (names_as xs)) _ (both_are e k.0 ∙ append-nil (in_parentheses (names_as xs))) (g.revert_names xs one))
  revert_are us ys xs ss e one (inr k) = let q = some_quoted sel_as ys ss k in written (bytes "iRevert") (us ++ ys) _ (d.Revert xs ss) (both_are e q.0) (g.revert_both xs ss one q.1)

  named_revert_sound : Sound (D (bytes "iRevert")) (named_revert stop)
  unfolding named_revert
  named_revert_sound = followed {P = Within s.Open s.Close (SomeOf stop name_as)} {Q = λ xs ys x. (ss : List Sel) × Selected ys ss × (x ≡ d.Revert xs ss)} {R = D (bytes "iRevert")} {next = λ xs ts. made (d.Revert xs) (any_sels stop ts)} (grouped_names_sound stop)
      (λ xs. changed (d.Revert xs) (record { ok = selected_read }) (λ ys ss is. (ss, is, refl)))
      (λ us ys xs x p q. let n = some_names us xs p in subst (D (bytes "iRevert") (us ++ ys)) (sym q.2) (revert_are us ys xs q.0 n.0 n.1 q.1))

  revert_sound : Sound (D (bytes "iRevert")) (revert stop)
  unfolding revert
  revert_sound = chosen (sees s.Open) named_revert_sound (changed (d.Revert []) (quoted_sels_sound stop) (λ ys ss k. let q = some_quoted sel_as ys ss k in written (bytes "iRevert") ys _ (d.Revert [] ss) q.0 (g.revert_sels ss q.1)))

  Two : List Token → List ℕ × List ℕ → Type 0
  Two ys x = ys ≡ name x.0 ∷ name x.1 ∷ []

  two_sound : Sound Two (two_names stop)
  unfolding two_names Two
  two_sound = followed {P = Spelled name_as} {Q = λ x ys r. (ys ≡ name_as r.1) × (r.0 ≡ x)} {R = Two} {next = λ x ts. made (λ y. (x, y)) (name_in stop ts)} (name_sound stop)
      (λ x. changed (λ y. (x, y)) (name_sound stop) (λ ys y is. (is, refl)))
      (λ us ys x r p q. both_are (p ∙ ap name_as (sym q.1)) q.0)

  combine_sound : Sound (D (bytes "iCombine")) (combine stop)
  unfolding combine quoted_two Two
  combine_sound = followed {P = Quoted Two} {Q = λ both ys r. (p : Pat) × Worded (bytes "as") (Quoted (IsOne stop preds names)) ys p × (r ≡ d.Combine both.0 both.1 p)} {R = D (bytes "iCombine")} {next = λ both ts. made (d.Combine both.0 both.1) (as_pattern stop MAX_LEVELS ts)} (quotes stop two_sound)
      (λ both. changed (d.Combine both.0 both.1) (as_pattern_sound stop preds names MAX_LEVELS) (λ ys p k. (p, k, refl)))
      (λ us ys both r p q. subst (D (bytes "iCombine") (us ++ ys)) (sym q.2)
      (written (bytes "iCombine") (us ++ ys) (in_quotes (name both.0 ∷ name both.1 ∷ []) ++ name (bytes "as") ∷ in_quotes q.1.2.0) (d.Combine both.0 both.1 q.0) (both_are (p.1 ∙ ap in_quotes p.2) (q.1.1 ∙ ap (λ (ts : List Token). name (bytes "as") ∷ ts) q.1.2.1)) (g.combine both.0 both.1 q.1.2.2)))

  rewrite_are : (back : Bool) (x : List ℕ) (us ys : List Token) (o : Option (List ℕ)) → us ≡ g.quoted x → IfAny (Worded (bytes "in") (Quoted (Spelled name_as))) ys o → D (bytes "iRewrite") (minus_if back ++ (us ++ ys)) (d.Rewrite back x o)
  rewrite_are back x us ys None e k = written (bytes "iRewrite") (minus_if back ++ (us ++ ys)) _ (d.Rewrite back x None) (ap (λ (ts : List Token). minus_if back ++ ts) (both_are e k ∙ append-nil (g.quoted x))) (g.rewrite back x)
  rewrite_are back x us ys (Some y) e k = written (bytes "iRewrite") (minus_if back ++ (us ++ ys)) _ (d.Rewrite back x (Some y)) (ap (λ (ts : List Token). minus_if back ++ ts) (both_are e (k.1 ∙ ap (λ (ts : List Token). name (bytes "in") ∷ ts) (one_quoted k.0 y k.2)))) (g.rewrite_in back x y)

  rewrite_by_sound : (back : Bool) → Sound (λ ys x. D (bytes "iRewrite") (minus_if back ++ ys) x) (rewrite_by stop back)
  unfolding rewrite_by
  rewrite_by_sound back = followed {P = Quoted (Spelled name_as)} {Q = λ x ys r. (o : Option (List ℕ)) × IfAny (Worded (bytes "in") (Quoted (Spelled name_as))) ys o × (r ≡ d.Rewrite back x o)} {R = λ ys x. D (bytes "iRewrite") (minus_if back ++ ys) x} {next = λ x ts. made (d.Rewrite back x) (if_any stop (in_name stop) ts)} (quoted_name_sound stop)
      (λ x. changed (d.Rewrite back x) (any_sound stop (in_name_sound stop preds names)) (λ ys o k. (o, k, refl)))
      (λ us ys x r p q. subst (D (bytes "iRewrite") (minus_if back ++ (us ++ ys))) (sym q.2) (rewrite_are back x us ys q.0 (one_quoted us x p) q.1))

  rewrite_sound : Sound (D (bytes "iRewrite")) (rewrite stop)
  unfolding rewrite
  rewrite_sound = after_symbol {one = rewrite_by stop true} s.Minus (rewrite_by_sound true) (λ ys x is. is) (rewrite_by_sound false)

  certs_are : (us ys : List Token) (c : Cert) (o : Option Cert) → Quoted (IsCert true) us c → IfAny (Quoted (IsCert true)) ys o → D (bytes "linear") (name (bytes "with") ∷ (us ++ ys)) (d.LinearWith (both_certs c o))
  certs_are us ys c None p k = written (bytes "linear") (name (bytes "with") ∷ (us ++ ys)) (name (bytes "with") ∷ in_quotes p.0) (d.LinearWith (c ∷ [])) (ap (λ (ts : List Token). name (bytes "with") ∷ ts) (both_are p.1 k ∙ append-nil (in_quotes p.0))) (g.linear_with p.2)
  certs_are us ys c (Some e) p k = written (bytes "linear") (name (bytes "with") ∷ (us ++ ys)) (name (bytes "with") ∷ (in_quotes p.0 ++ in_quotes k.0)) (d.LinearWith (c ∷ e ∷ [])) (ap (λ (ts : List Token). name (bytes "with") ∷ ts) (both_are p.1 k.1)) (g.linear_with_two p.2 k.2)

  certs_sound : Sound (λ ys cs. D (bytes "linear") (name (bytes "with") ∷ ys) (d.LinearWith cs)) (certs_in stop)
  unfolding certs_in
  certs_sound = followed {P = Quoted (IsCert true)} {Q = λ c ys cs. (o : Option Cert) × IfAny (Quoted (IsCert true)) ys o × (cs ≡ both_certs c o)} {R = λ ys cs. D (bytes "linear") (name (bytes "with") ∷ ys) (d.LinearWith cs)} {next = λ c ts. made (both_certs c) (if_any stop (quoted_cert stop) ts)} (quoted_cert_sound stop)
      (λ c. changed (both_certs c) (any_sound stop (quoted_cert_sound stop)) (λ ys o k. (o, k, refl)))
      (λ us ys c cs p q. subst (λ (cs : List Cert). D (bytes "linear") (name (bytes "with") ∷ (us ++ ys)) (d.LinearWith cs)) (sym q.2) (certs_are us ys c q.0 p q.1))

  linear_read : (ts : List Place) (x : Directive × List Place) → linear stop ts ≡ Ok x → Found (D (bytes "linear")) ts x
  unfolding linear with_certs
  linear_read [] x e = ok_to (Found (D (bytes "linear")) []) (d.Linear, []) x e (record { before = []; split = refl; is = g.linear })
  linear_read (t ∷ ts) x e =
      (changed {P = Worded (bytes "with") (λ ys cs. D (bytes "linear") (name (bytes "with") ∷ ys) (d.LinearWith cs))} {Q = D (bytes "linear")} d.LinearWith (worded stop (codes "with") (bytes "with") with_word certs_sound) (λ ys cs k. written (bytes "linear") ys _ (d.LinearWith cs) k.1 k.2)).ok (t ∷ ts) x e

  -- ---- with trees

  abbrev Row : List ℕ → Form → Type 0
  Row w f = Sound (Tree (D w)) (directive_in stop preds names f)

  plain_row : (w : List ℕ) (f : PlainForm) → Sound (D w) (plain_in stop f) → Row w (form.Plain f)
  unfolding directive_in
  plain_row w f h = plain_sound h

  destruct_row : Row (bytes "iDestruct") form.Destruct
  unfolding directive_in destruct
  destruct_row = then_sound (D (bytes "iDestruct")) d.Destruct (proof_term_sound stop preds names true) (as_bound_sound stop preds names) (λ xs ys t p k q. written (bytes "iDestruct") (xs ++ ys) (xs ++ name (bytes "as") ∷ q.0) (d.Destruct t p) (ap (λ (ts : List Token). xs ++ ts) q.1) (g.destruct k.0 q.2))

  -- behind `as`, a pattern in quotes
  as_quoted : (xs ys : List Token) (p : Pat) (q : Worded (bytes "as") (Quoted (IsOne stop preds names)) ys p) → xs ++ ys ≡ xs ++ name (bytes "as") ∷ in_quotes q.2.0
  as_quoted xs ys p q = ap (λ (ts : List Token). xs ++ ts) (q.1 ∙ ap (λ (ts : List Token). name (bytes "as") ∷ ts) q.2.1)

  pose_row : Row (bytes "iPoseProof") form.PoseProof
  unfolding directive_in pose_proof
  pose_row = then_sound (D (bytes "iPoseProof")) d.PoseProof (proof_term_sound stop preds names true) (as_pattern_sound stop preds names MAX_LEVELS) (λ xs ys t p k q. written (bytes "iPoseProof") (xs ++ ys) _ (d.PoseProof t p) (as_quoted xs ys p q) (g.pose_proof k.0 q.2.2))

  eliminate_row : Row (bytes "iMod") form.Mod
  unfolding directive_in eliminate
  eliminate_row = then_sound (D (bytes "iMod")) d.Mod (proof_term_sound stop preds names true) (as_pattern_sound stop preds names (MAX_LEVELS - 1)) (λ xs ys t p k q. written (bytes "iMod") (xs ++ ys) _ (d.Mod t p) (as_quoted xs ys p q) (g.eliminate k.0 q.2.2))

  specialize_row : Row (bytes "iSpecialize") form.Specialize
  unfolding directive_in specialize
  specialize_row = mapped_sound {P = ProofTermOf stop preds names false} (D (bytes "iSpecialize")) d.Specialize (proof_term_sound stop preds names false) (λ ys t k. g.specialize k.0 (k.1 refl))

  apply_row : Row (bytes "iApply") form.Apply
  unfolding directive_in apply
  apply_row = mapped_sound {P = ProofTermOf stop preds names true} (D (bytes "iApply")) d.Apply (proof_term_sound stop preds names true) (λ ys t k. g.apply k.0)

  assert_row : Row (bytes "iAssert") form.Assert
  unfolding directive_in assert
  assert_row = then_sound {P = Within s.Open s.Close (IsAnyFormula stop preds names)} {Q = Asserted stop preds names} (D (bytes "iAssert")) (λ q (p : Spat × Pat). d.Assert q p.0 p.1) (grouped_formula_sound stop preds names) (asserted_sound stop preds names)
      (λ xs ys q a k r. written (bytes "iAssert") (xs ++ ys) _ (d.Assert q a.0 a.1)
      (both_are k.1 (r.3 ∙ ap (λ (ts : List Token). g.marker_if r.0 ++ name (bytes "with") ∷ (in_quotes ts ++ name (bytes "as") ∷ in_quotes r.2)) r.4.0)) (g.assert r.0 a.0 r.4.1 k.2.1 r.5))

  exists_row : Row (bytes "iExists") form.Exists
  unfolding directive_in exists_in
  exists_row = mapped_sound {P = AreTerms names} (D (bytes "iExists")) d.Exists (some_terms_sound stop preds names) (λ ys ts k. g.exists k)

  fold_row : Row (bytes "iFold") form.Fold
  unfolding directive_in fold
  fold_row = then_sound {P = Within s.Open s.Close (IsAnyFormula stop preds names)} (D (bytes "iFold")) d.Fold (grouped_formula_sound stop preds names) (in_name_sound stop preds names)
      (λ xs ys q x k r. written (bytes "iFold") (xs ++ ys) _ (d.Fold q x) (both_are k.1 (r.1 ∙ ap (λ (ts : List Token). name (bytes "in") ∷ ts) (one_quoted r.0 x r.2))) (g.fold x k.2.1))

  write_row : Row (bytes "iWrite") form.Write
  unfolding directive_in write
  write_row = followed {P = Quoted (Spelled name_as)} {Q = λ x ys r. (t : Term) × IsTerm names operand ys t × (r.0 ≡ d.Write x t)} {R = Tree (D (bytes "iWrite"))} {next = λ x ts. mapped (d.Write x) (operand_tree stop preds names ts)} (quoted_name_sound stop)
      (λ x. changed (λ y. (d.Write x y.0, y.1)) (operand_tree_sound stop preds names) (λ ys t is. (t.0, is, refl)))
      (λ us ys x r p q. subst (D (bytes "iWrite") (us ++ ys)) (sym q.2) (written (bytes "iWrite") (us ++ ys) (g.quoted x ++ ys) (d.Write x q.0) (ap (λ (ts : List Token). ts ++ ys) (one_quoted us x p)) (g.write x q.1)))

  alloc_row : Row (bytes "iAlloc") form.Alloc
  unfolding directive_in alloc
  alloc_row = then_sound {P = IsTerm names operand} {Q = Allocated stop preds names} (D (bytes "iAlloc")) (λ t (p : List ℕ × Pat). d.Alloc t p.0 p.1) (operand_tree_sound stop preds names) (allocated_sound stop preds names)
      (λ xs ys t a k r. written (bytes "iAlloc") (xs ++ ys) _ (d.Alloc t a.0 a.1) (ap (λ (ts : List Token). xs ++ ts) r.1) (g.alloc a.0 k r.2))

  cases_row : Row (bytes "iCases") form.Cases
  unfolding directive_in cases
  cases_row = then_sound {P = Within s.Open s.Close (IsPure names Ors)} (D (bytes "iCases")) d.Cases (grouped_pure_sound stop preds names) (as_name_sound stop preds names)
      (λ xs ys q x k r. written (bytes "iCases") (xs ++ ys) _ (d.Cases q x) (both_are k.1 (r.1 ∙ ap (λ (ts : List Token). name (bytes "as") ∷ ts) (one_quoted r.0 x r.2))) (g.cases x k.2))

  loeb_sound : (w : List ℕ) → ((x : List ℕ) → D w (name (bytes "as") ∷ g.quoted x) (d.Loeb x)) → Sound (D w) (plain_in stop plain_form.Loeb)
  unfolding plain_in
  loeb_sound w h = changed d.Loeb (as_name_sound stop preds names) (λ ys x k. written w ys _ (d.Loeb x) (k.1 ∙ ap (λ (ts : List Token). name (bytes "as") ∷ ts) (one_quoted k.0 x k.2)) (h x))

  unfold_are : (ys : List Token) (o : Option (List ℕ)) → IfAny (Quoted (Spelled name_as)) ys o → ys ≡ if_some g.quoted o
  unfold_are ys None k = k
  unfold_are ys (Some x) k = one_quoted ys x k

  plain_rows : AllByRecursion (λ (r : List ℕ × PlainForm). Sound (D r.0) (plain_in stop r.1)) (
      (bytes "iSplitL", plain_form.SplitL) ∷ (bytes "iSplitR", plain_form.SplitR) ∷ (bytes "iExact", plain_form.Exact) ∷ (bytes "iClear", plain_form.Clear) ∷ (bytes "iFrame", plain_form.Frame) ∷ (bytes "iUnfold", plain_form.Unfold) ∷ [])
  unfolding plain_in
  plain_rows = (
    changed d.SplitL (any_sound stop (quoted_names_sound stop)) (λ ys o k. let q = any_quoted name_as ys o k in written (bytes "iSplitL") ys _ (d.SplitL o) q.0 (g.split_left o q.1)),
    (
      changed d.SplitR (any_sound stop (quoted_names_sound stop)) (λ ys o k. let q = any_quoted name_as ys o k in written (bytes "iSplitR") ys _ (d.SplitR o) q.0 (g.split_right o q.1)),
      (
        changed d.Exact (quoted_name_sound stop) (λ ys x k. written (bytes "iExact") ys _ (d.Exact x) (one_quoted ys x k) (g.exact x)),
        (
          changed d.Clear (quoted_sels_sound stop) (λ ys ss k. let q = some_quoted sel_as ys ss k in written (bytes "iClear") ys _ (d.Clear ss) q.0 (g.clear ss q.1)),
          (
            changed d.Frame (any_sound stop (quoted_sels_sound stop)) (λ ys o k. let q = any_quoted sel_as ys o k in written (bytes "iFrame") ys _ (d.Frame o) q.0 (g.frame o q.1)),
            (changed d.Unfold (any_sound stop (quoted_name_sound stop)) (λ ys o k. written (bytes "iUnfold") ys _ (d.Unfold o) (unfold_are ys o k) (g.unfold_call o)), tt),
          ),
        ),
      ),
    ),
  )

  alone_sound : (w : List ℕ) (x : Directive) → D w [] x → Sound (D w) (λ ts. Ok (x, ts))
  alone_sound w x h = given x h

  all_rows : AllByRecursion (λ (r : List ℕ × Form). Row r.0 r.1) directive_words
  unfolding directive_words plain_in
  all_rows = (
    plain_row (bytes "iIntros") plain_form.Intros intros_all,
    (
      destruct_row,
      (
        pose_row,
        (
          eliminate_row,
          (
            specialize_row,
            (
              apply_row,
              (
                assert_row,
                (
                  plain_row (bytes "iSplit") plain_form.Split (alone_sound (bytes "iSplit") d.Split g.split),
                  (
                    plain_row (bytes "iSplitL") plain_form.SplitL plain_rows.0,
                    (
                      plain_row (bytes "iSplitR") plain_form.SplitR plain_rows.1.0,
                      (
                        plain_row (bytes "iLeft") plain_form.Left (alone_sound (bytes "iLeft") d.Left g.left),
                        (
                          plain_row (bytes "iRight") plain_form.Right (alone_sound (bytes "iRight") d.Right g.right),
                          (
                            plain_row (bytes "iAssumption") plain_form.Assumption (alone_sound (bytes "iAssumption") d.Assumption g.assumption_of),
                            (
                              plain_row (bytes "iExFalso") plain_form.ExFalso (alone_sound (bytes "iExFalso") d.ExFalso g.ex_falso),
                              (
                                plain_row (bytes "done") plain_form.Done (alone_sound (bytes "done") d.Done g.done),
                                (
                                  exists_row,
                                  (
                                    plain_row (bytes "iExact") plain_form.Exact plain_rows.1.1.0,
                                    (
                                      plain_row (bytes "iClear") plain_form.Clear plain_rows.1.1.1.0,
                                      (
                                        plain_row (bytes "iRename") plain_form.Rename rename_sound,
                                        (
                                          plain_row (bytes "iRevert") plain_form.Revert revert_sound,
                                          (
                                            plain_row (bytes "iFrame") plain_form.Frame plain_rows.1.1.1.1.0,
                                            (
                                              plain_row (bytes "iModIntro") plain_form.ModIntro (alone_sound (bytes "iModIntro") d.ModIntro g.mod_intro),
                                              (
                                                plain_row (bytes "iNext") plain_form.Next (alone_sound (bytes "iNext") d.Next g.next_step),
                                                (
                                                  plain_row (bytes "iLöb") plain_form.Loeb (loeb_sound (bytes "iLöb") g.loeb),
                                                  (
                                                    plain_row (bytes "iLoeb") plain_form.Loeb (loeb_sound (bytes "iLoeb") g.loeb_ascii),
                                                    (
                                                      plain_row (bytes "iUnfold") plain_form.Unfold plain_rows.1.1.1.1.1.0,
                                                      (
                                                        fold_row,
                                                        (
                                                          plain_row (bytes "iCombine") plain_form.Combine combine_sound,
                                                          (
                                                            write_row,
                                                            (
                                                              alloc_row,
                                                              (
                                                                plain_row (bytes "iPureIntro") plain_form.PureIntro (alone_sound (bytes "iPureIntro") d.PureIntro g.pure_intro),
                                                                (
                                                                  plain_row (bytes "iRewrite") plain_form.Rewrite rewrite_sound,
                                                                  (
                                                                    cases_row,
                                                                    (
                                                                      plain_row (bytes "linear") plain_form.Linear (record { ok = linear_read }),
                                                                      tt,
                                                                    ),
                                                                  ),
                                                                ),
                                                              ),
                                                            ),
                                                          ),
                                                        ),
                                                      ),
                                                    ),
                                                  ),
                                                ),
                                              ),
                                            ),
                                          ),
                                        ),
                                      ),
                                    ),
                                  ),
                                ),
                              ),
                            ),
                          ),
                        ),
                      ),
                    ),
                  ),
                ),
              ),
            ),
          ),
        ),
      ),
    ),
  )

-- what stands beside a word has what the rows have
pub row_has : {A : Type 0} (P : List ℕ × A → Type 0) (rows : List (List ℕ × A)) → AllByRecursion P rows → (w : List ℕ) (x : A) → lookup rows w ≡ Some x → P (w, x)
unfolding lookup
row_has P [] h w x e = absurd cc
row_has P (r ∷ rows) h w x e = either (bytes_eq w r.0) _ _ _ e (P (w, x))
    (λ here k. let same : r.1 ≡ x = cc in subst (λ y. P (w, y)) same (subst (λ v. P (v, r.1)) (sym ((bytes_eq-Decides w r.0).0 here)) h.0))
    (λ later k. row_has P rows h.1 w x k)

pub directive_sound : (stop : ℕ) (preds : Callables) (names : Names) (w : List ℕ) (f : Form) → form_of w ≡ Some f → Sound (Tree (IsDirective preds names w)) (directive_in stop preds names f)
unfolding form_of
directive_sound stop preds names w f e = row_has (λ (r : List ℕ × Form). Sound (Tree (IsDirective preds names r.0)) (directive_in stop preds names r.1)) directive_words (all_rows stop preds names) w f e
