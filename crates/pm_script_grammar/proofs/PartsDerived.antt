-- Parts of directives that are read are derived by the grammar.
use Rattle.std.proofs.Common.{◌≡◌, ℕ, zero, suc, Bool, true, false, cond, List, [], ◌∷◌, ◌++◌, length, drop, Option, Some, None, Ok, refl, sym, ap, subst, ◌∙◌, append_assoc, append-nil}
use Rattle.std.specs.Prelude.{codes}
use lib.Utf8.{encode}
use Rattle.std.proofs.lemmas.Slice.Eq.{bytes_eq-Decides}
use Rattle.pm_logic.specs.declared.limits.TheConstants.{MAX_LEVELS}
use Rattle.pm_logic.specs.declared.formula.Term.{Term}
use Rattle.pm_logic.specs.declared.formula.Formula.{Formula}
use Rattle.pm_logic.specs.Size.{term_depth, pure_depth, depth_of}
use Rattle.pm_tokens.specs.declared.symbol.Symbol.TheVariants as s
use Rattle.pm_tokens.specs.Tokens.{Token, name, number, symbol, Place, place}
use Rattle.pm_terms.specs.declared.level.PureLevel.TheVariants.{Ors}
use Rattle.pm_text.specs.declared.level.Level.TheVariants.{Wands}
use Rattle.pm_terms.specs.Scope.{Names, Callables}
use Rattle.pm_terms.specs.Steps.{Read, ◌>>=◌, made, sees, offset, closed_by}
use Rattle.pm_terms.specs.TermReading.{operand_in, sum_in}
use Rattle.pm_terms.specs.PureReading.{pure_in}
use Rattle.pm_text.specs.FormulaReading.{formula_in}
use Rattle.pm_patterns.specs.declared.pattern.Spat.{Spat}
use Rattle.pm_patterns.specs.declared.pattern.Pat.{Pat}
use Rattle.pm_patterns.specs.declared.pattern.Head.{Head}
use Rattle.pm_patterns.specs.declared.pattern.Head.TheVariants.{Hyp, Lemma as Proved}
use Rattle.pm_patterns.specs.declared.pattern.ProofTerm.{ProofTerm}
use Rattle.pm_patterns.specs.declared.extent.Extent.TheVariants.{One}
use Rattle.pm_patterns.specs.PatternReading.{quoted_name, quoted_pattern, quoted_premise}
use Rattle.pm_script.specs.Words.{bytes}
use Rattle.pm_script.specs.SentenceReading.{Deeps, ReadIn, too_deep, plain, mapped, then_read, carried, first_of, with_tree, sees_word, expect_word, behind_word, if_any, head_in, only_head, spats_in, as_pattern, as_bound, as_name, in_name, into_name, asserted, grouped_name, allocated, term_tree, operand_tree, pure_tree, formula_tree, grouped_formula, grouped_pure, next_term, some_terms, goes_on, next_operand, some_operands, terms_in, behind_head, arguments_in, proof_term}
use Rattle.pm_grammar.specs.TermGrammar.{IsTerm, sum, operand}
use Rattle.pm_grammar.specs.PureGrammar.{IsPure}
use Rattle.pm_grammar.specs.FormulaGrammar as f
use Rattle.pm_grammar.specs.FormulaGrammar.{AreTerms, End, IsFormula}
use Rattle.pm_grammar.specs.ReadingLaws.{tokens_at}
use Rattle.pm_grammar.proofs.Steps.{bind_ok, ok_to, made_ok, guard_ok, either, sees_ok}
use Rattle.pm_grammar.proofs.Sound.{parts}
use Rattle.pm_script_grammar.specs.PatternGrammar.{in_quotes, in_parentheses, name_as, AreAll, none, some, HasOne, IsPattern, IsBoundPattern, spats_as}
use Rattle.pm_script_grammar.specs.SentenceGrammar as g
use Rattle.pm_script_grammar.specs.SentenceGrammar.{marker_if, IsHead, AreGiven, AreWith, IsProofTerm, IsHyp}
use Rattle.pm_script_grammar.proofs.Sound.{Found, Sound, wider, given, changed, closed, followed, chosen, after_symbol}
use Rattle.pm_script_grammar.proofs.PatternsDerived.{Within, enclosed, Quoted, Spelled, IsPremise, name_sound, quoted_name_sound, quoted_pattern_sound, bound_pattern_sound, quoted_premise_sound, quoted_spats_sound}

-- ---- words

word_ok : (w : List ℕ) (ts : List Place) → sees_word w ts ≡ true → tokens_at ts ≡ name w ∷ tokens_at (drop 1 ts)
unfolding sees_word
word_ok w [] h = absurd cc
word_ok w (place (name x) at ∷ ts) h = ap (λ x. name x ∷ tokens_at ts) ((bytes_eq-Decides x w).0 h)
word_ok w (place (number n) at ∷ ts) h = absurd cc
word_ok w (place (symbol r) at ∷ ts) h = absurd cc

abbrev pub Worded : {A : Type 0} → List ℕ → (List Token → A → Type 0) → List Token → A → Type 0
Worded w P ys a = (zs : List Token) × (ys ≡ name w ∷ zs) × P zs a

-- the words in bytes
pub as_word : codes "as" ≡ bytes "as"
unfolding encode
as_word = refl

pub in_word : codes "in" ≡ bytes "in"
unfolding encode
in_word = refl

pub into_word : codes "into" ≡ bytes "into"
unfolding encode
into_word = refl

pub with_word : codes "with" ≡ bytes "with"
unfolding encode
with_word = refl

pub worded : {A : Type 0} {P : List Token → A → Type 0} {read : List Place → Read A} (stop : ℕ) (w v : List ℕ) → w ≡ v → Sound P read → Sound (Worded v P) (λ ts. behind_word stop w read ts)
unfolding expect_word
worded {read = read} stop w v same h = record {
  ok = λ ts x e.
      let b = bind_ok (expect_word stop w ts) read x e in
      let there = guard_ok (sees_word w ts) (drop 1 ts) b.0 _ b.1 in
      let found = h.ok b.0 x b.2 in
      record { before = name w ∷ found.before; split = word_ok w ts there.0 ∙ ap (λ us. name w ∷ tokens_at us) there.1 ∙ ap (λ us. name w ∷ us) found.split; is = (found.before, ap (λ x. name x ∷ found.before) same, found.is) };
}

-- a part, and none at an end
abbrev pub IfAny : {A : Type 0} → (List Token → A → Type 0) → List Token → Option A → Type 0
IfAny P ys None = ys ≡ []
IfAny P ys (Some a) = P ys a

any_read : {A : Type 0} {P : List Token → A → Type 0} {read : List Place → Read A} (stop : ℕ) → Sound P read → (ts : List Place) (x : Option A × List Place) → if_any stop read ts ≡ Ok x → Found (IfAny P) ts x
unfolding if_any
any_read {P = P} stop h [] x e = ok_to (Found (IfAny P) []) (None, []) x e (record { before = []; split = refl; is = refl })
any_read {P = P} stop h (t ∷ ts) x e = (changed {Q = IfAny P} Some h (λ ys a is. is)).ok (t ∷ ts) x e

pub any_sound : {A : Type 0} {P : List Token → A → Type 0} {read : List Place → Read A} (stop : ℕ) → Sound P read → Sound (IfAny P) (if_any stop read)
any_sound stop h = record { ok = any_read stop h }

pub both_are : {xs us ys vs : List Token} → xs ≡ us → ys ≡ vs → xs ++ ys ≡ us ++ vs
both_are {us = us} {ys = ys} e f = ap (λ (v : List Token). v ++ ys) e ∙ ap (λ (v : List Token). us ++ v) f

-- ---- trees

-- whatever the depths
abbrev pub Tree : {A : Type 0} → (List Token → A → Type 0) → List Token → A × Deeps → Type 0
Tree P ys x = P ys x.0

pub plain_sound : {A : Type 0} {P : List Token → A → Type 0} {read : List Place → Read A} → Sound P read → Sound (Tree P) (λ ts. plain (read ts))
plain_sound h = changed (λ x. (x, None)) h (λ ys a is. is)

pub mapped_sound : {A B : Type 0} {P : List Token → A → Type 0} (Q : List Token → B → Type 0) {read : List Place → ReadIn A} (f : A → B) → Sound (Tree P) read → ((ys : List Token) (a : A) → P ys a → Q ys (f a)) → Sound (Tree Q) (λ ts. mapped f (read ts))
mapped_sound {P = P} Q f h g = changed {P = Tree P} {Q = Tree Q} (λ x. (f x.0, x.1)) h (λ ys x is. g ys x.0 is)

-- a part with trees and one without
pub then_sound : {A B C : Type 0} {P : List Token → A → Type 0} {Q : List Token → B → Type 0} (R : List Token → C → Type 0) {read : List Place → ReadIn A} {next : List Place → Read B} (f : A → B → C)
    → Sound (Tree P) read → Sound Q next → ((xs ys : List Token) (a : A) (b : B) → P xs a → Q ys b → R (xs ++ ys) (f a b)) → Sound (Tree R) (λ ts. then_read f (read ts) next)
then_sound {P = P} {Q = Q} R {next = next} f h k g = followed {P = Tree P} {Q = λ a ys c. (b : _) × Q ys b × (c.0 ≡ f a.0 b)} {R = Tree R} {next = λ a ts. made (λ y. (f a.0 y, a.1)) (next ts)} h
    (λ a. changed (λ y. (f a.0 y, a.1)) k (λ ys b is. (b, is, refl)))
    (λ xs ys a c p q. subst (R (xs ++ ys)) (sym q.2) (g xs ys a.0 q.0 p q.1))

module _ (stop : ℕ) (preds : Callables) (names : Names) where
  pub term_tree_sound : Sound (Tree (IsTerm names sum)) (term_tree stop preds names)
  unfolding term_tree
  term_tree_sound = record {
    ok = λ ts x e.
        let m = made_ok (λ t. (t, too_deep (term_depth t) (offset stop ts))) (sum_in stop names MAX_LEVELS ts) x e in
        let d = parts.terms stop MAX_LEVELS names ts x.1 m.0 m.1 in
        record { before = d.0; split = d.1; is = subst (IsTerm names sum d.0) (ap (λ y. y.0) m.2) d.2 };
  }

  pub operand_tree_sound : Sound (Tree (IsTerm names operand)) (operand_tree stop preds names)
  unfolding operand_tree
  operand_tree_sound = record {
    ok = λ ts x e.
        let m = made_ok (λ t. (t, too_deep (term_depth t) (offset stop ts))) (operand_in stop names MAX_LEVELS ts) x e in
        let d = parts.operands stop MAX_LEVELS names ts x.1 m.0 m.1 in
        record { before = d.0; split = d.1; is = subst (IsTerm names operand d.0) (ap (λ y. y.0) m.2) d.2 };
  }

  pub pure_tree_sound : Sound (Tree (IsPure names Ors)) (pure_tree stop preds names)
  unfolding pure_tree
  pure_tree_sound = record {
    ok = λ ts x e.
        let m = made_ok (λ t. (t, too_deep (pure_depth t) (offset stop ts))) (pure_in stop names MAX_LEVELS Ors ts) x e in
        let d = parts.pures stop MAX_LEVELS names Ors ts x.1 m.0 m.1 in
        record { before = d.0; split = d.1; is = subst (IsPure names Ors d.0) (ap (λ y. y.0) m.2) d.2 };
  }

  abbrev pub IsAnyFormula : List Token → Formula → Type 0
  IsAnyFormula ys q = (e : End) × IsFormula preds names Wands e ys q

  pub formula_tree_sound : Sound (Tree IsAnyFormula) (formula_tree stop preds names)
  unfolding formula_tree
  formula_tree_sound = record {
    ok = λ ts x e.
        let m = made_ok (λ t. (t, too_deep (depth_of t) (offset stop ts))) (formula_in stop preds MAX_LEVELS Wands names ts) x e in
        let d = parts.formulas stop MAX_LEVELS preds names ts x.1 m.0 m.1 in
        record { before = d.1.0; split = d.1.1; is = subst (IsAnyFormula d.1.0) (ap (λ y. y.0) m.2) (d.0, d.1.2) };
  }

  pub grouped_formula_sound : Sound (Tree (Within s.Open s.Close IsAnyFormula)) (grouped_formula stop preds names)
  unfolding grouped_formula
  grouped_formula_sound = enclosed {P = Tree IsAnyFormula} s.Open s.Close stop formula_tree_sound

  pub grouped_pure_sound : Sound (Tree (Within s.Open s.Close (IsPure names Ors))) (grouped_pure stop preds names)
  unfolding grouped_pure
  grouped_pure_sound = enclosed {P = Tree (IsPure names Ors)} s.Open s.Close stop pure_tree_sound

  -- ---- lists of trees

  -- one tree more in the list
  abbrev Adds : (List Token → Term → Type 0) → List Term × Deeps → List Token → List Term × Deeps → Type 0
  Adds P found ys x = (t : Term) × P ys t × (x.0 ≡ found.0 ++ t ∷ [])

  abbrev Grows : (List Token → Term → Type 0) → List Term × Deeps → List Token → List Term × Deeps → Type 0
  Grows P found ys x = (list : List Term) × AreAll P ys list × (x.0 ≡ found.0 ++ list)

  carried_sound : {P : List Token → Term → Type 0} (go : List Place → Bool) (step : List Term × Deeps → List Place → ReadIn (List Term))
      → ((found : List Term × Deeps) (ts : List Place) (x : (List Term × Deeps) × List Place) → go ts ≡ true → step found ts ≡ Ok x → Found (Adds P found) ts x)
      → (n : ℕ) (found : List Term × Deeps) → Sound (Grows P found) (carried go step n found)
  unfolding carried
  carried_sound go step h zero found = given found ([], none, sym (append-nil found.0))
  carried_sound {P = P} go step h (suc n) found = record {
    ok = λ ts x e. either (go ts) _ _ _ e (Found (Grows P found) ts x)
        (λ more k.
        let b = bind_ok (step found ts) (λ y. carried go step n y.0 y.1) x k in
        let first = h found ts b.0 more b.1 in
        let later = (carried_sound {P = P} go step h n b.0.0).ok b.0.1 x b.2 in
        record {
          before = first.before ++ later.before;
          split = first.split ∙ ap (λ us. first.before ++ us) later.split ∙ sym (append_assoc first.before later.before (tokens_at x.1));
          is = (first.is.0 ∷ later.is.0, some first.is.1 later.is.1, later.is.2 ∙ ap (λ us. us ++ later.is.0) first.is.2 ∙ append_assoc found.0 (first.is.0 ∷ []) later.is.0);
        })
        (λ ends k. (given {P = Grows P found} found ([], none, sym (append-nil found.0))).ok ts x k);
  }

  -- a comma and a term
  abbrev Comma : List Token → Term → Type 0
  Comma ys t = (zs : List Token) × (ys ≡ symbol s.Comma ∷ zs) × IsTerm names sum zs t

  with_commas_are : (xs ys : List Token) (t : Term) (list : List Term) → IsTerm names sum xs t → AreAll Comma ys list → AreTerms names (xs ++ ys) (t ∷ list)
  with_commas_are xs _ t _ is none = subst (λ us. AreTerms names us (t ∷ [])) (sym (append-nil xs)) (f.last is)
  with_commas_are xs _ t _ is (some {xs = us} {ys = ys} {a = a} {list = list} k more) =
      subst (λ us. AreTerms names (xs ++ (us ++ ys)) (t ∷ a ∷ list)) (sym k.1) (f.comma is (with_commas_are k.0 ys a list k.2 more))

  pub some_terms_sound : Sound (Tree (AreTerms names)) (some_terms stop preds names)
  unfolding some_terms next_term
  some_terms_sound = record {
    ok = λ ts x e.
        let b = bind_ok (term_tree stop preds names ts) (λ y. carried (sees s.Comma) (next_term stop preds names) (length y.1) (first_of y.0) y.1) x e in
        let first = term_tree_sound.ok ts b.0 b.1 in
        let later = (carried_sound {P = Comma} (sees s.Comma) (next_term stop preds names) step (length b.0.1) (first_of b.0.0)).ok b.0.1 x b.2 in
        record {
          before = first.before ++ later.before;
          split = first.split ∙ ap (λ us. first.before ++ us) later.split ∙ sym (append_assoc first.before later.before (tokens_at x.1));
          is = subst (AreTerms names (first.before ++ later.before)) (sym later.is.2) (with_commas_are first.before later.before b.0.0.0 later.is.0 first.is later.is.1);
        };
  }
    where
      step : (found : List Term × Deeps) (ts : List Place) (x : (List Term × Deeps) × List Place) → sees s.Comma ts ≡ true → next_term stop preds names found ts ≡ Ok x → Found (Adds Comma found) ts x
      step found ts x comma e =
          let m = made_ok (with_tree found) (term_tree stop preds names (drop 1 ts)) x e in
          let d = term_tree_sound.ok (drop 1 ts) (m.0, x.1) m.1 in
          record { before = symbol s.Comma ∷ d.before; split = sees_ok s.Comma ts comma ∙ ap (λ us. symbol s.Comma ∷ us) d.split; is = (m.0.0, (d.before, refl, d.is), sym (ap (λ y. y.0) m.2)) }

  abbrev SomeOperands : List Token → List Term → Type 0
  SomeOperands ys list = AreAll (IsTerm names operand) ys list × HasOne list

  some_operands_sound : Sound (Tree SomeOperands) (some_operands stop preds names)
  unfolding some_operands next_operand
  some_operands_sound = record {
    ok = λ ts x e.
        let b = bind_ok (operand_tree stop preds names ts) (λ y. carried (goes_on stop preds names) (next_operand stop preds names) (length y.1) (first_of y.0) y.1) x e in
        let first = operand_tree_sound.ok ts b.0 b.1 in
        let later = (carried_sound {P = IsTerm names operand} (goes_on stop preds names) (next_operand stop preds names) step (length b.0.1) (first_of b.0.0)).ok b.0.1 x b.2 in
        record {
          before = first.before ++ later.before;
          split = first.split ∙ ap (λ us. first.before ++ us) later.split ∙ sym (append_assoc first.before later.before (tokens_at x.1));
          is = subst (SomeOperands (first.before ++ later.before)) (sym later.is.2) (some first.is later.is.1, tt);
        };
  }
    where
      step : (found : List Term × Deeps) (ts : List Place) (x : (List Term × Deeps) × List Place) → goes_on stop preds names ts ≡ true → next_operand stop preds names found ts ≡ Ok x → Found (Adds (IsTerm names operand) found) ts x
      step found ts x more e =
          let m = made_ok (with_tree found) (operand_tree stop preds names ts) x e in
          let d = operand_tree_sound.ok ts (m.0, x.1) m.1 in
          record { before = d.before; split = d.split; is = (m.0.0, d.is, sym (ap (λ y. y.0) m.2)) }

  -- ---- proof terms

  pub terms_in_sound : Sound (Tree (AreGiven preds names)) (terms_in stop preds names)
  unfolding terms_in
  terms_in_sound = after_symbol {P = λ ys x. AreGiven preds names (symbol s.Terms ∷ ys) x.0} {one = some_operands stop preds names} s.Terms (wider some_operands_sound (λ ys x is. g.given is)) (λ ys x is. is) (given ([], None) g.nothing)

  with_is : (ys : List Token) (list : List Spat) → Worded (bytes "with") (Quoted (λ ys list. (ys ≡ spats_as list) × HasOne list)) ys list → AreWith preds names ys list
  with_is ys [] k = absurd k.2.2.1
  with_is ys (p ∷ ps) k = subst (λ us. AreWith preds names us (p ∷ ps)) (sym (k.1 ∙ ap (λ us. name (bytes "with") ∷ us) (k.2.1 ∙ ap in_quotes k.2.2.0))) (g.with_some p ps)

  spats_in_sound : Sound (AreWith preds names) (spats_in stop)
  unfolding spats_in
  spats_in_sound = record {
    ok = λ ts x e. either (sees_word (codes "with") ts) _ _ _ e (Found (AreWith preds names) ts x)
        (λ there k.
        let found = (quoted_spats_sound stop).ok (drop 1 ts) x k in
        record { before = name (codes "with") ∷ found.before; split = word_ok (codes "with") ts there ∙ ap (λ us. name (codes "with") ∷ us) found.split; is = with_is (name (codes "with") ∷ found.before) x.0 (found.before, ap (λ w. name w ∷ found.before) with_word, found.is) })
        (λ nowhere k. (given {P = AreWith preds names} [] g.nothing_with).ok ts x k);
  }

  -- a lemma where one may stand
  abbrev HeadOf : Bool → List Token → Head → Type 0
  HeadOf lemmas ys h = IsHead preds names ys h × (lemmas ≡ false → IsHyp preds names h)

  hyp_sound : (lemmas : Bool) → Sound (HeadOf lemmas) (λ ts. made Hyp (quoted_name stop ts))
  hyp_sound lemmas = changed Hyp (quoted_name_sound stop) (λ ys x k. (subst (λ us. IsHead preds names us (Hyp x)) (sym (k.1 ∙ ap in_quotes k.2)) (g.hypothesis x), λ e. tt))

  head_sound : (lemmas : Bool) → Sound (HeadOf lemmas) (head_in stop lemmas)
  unfolding head_in
  head_sound true = chosen (sees s.Quote) (hyp_sound true) (changed Proved (name_sound stop) (λ ys x is. (subst (λ us. IsHead preds names us (Proved x)) (sym is) (g.proved x), λ e. absurd cc)))
  head_sound false = hyp_sound false

  abbrev pub ProofTermOf : Bool → List Token → ProofTerm → Type 0
  ProofTermOf lemmas ys t = IsProofTerm preds names ys t × (lemmas ≡ false → IsHyp preds names t.head)

  only_head_sound : (lemmas : Bool) → Sound (Tree (ProofTermOf lemmas)) (λ ts. only_head stop lemmas ts)
  only_head_sound lemmas = plain_sound (changed (λ h. record { head = h; terms = []; spats = [] }) (head_sound lemmas) (λ ys h is. (g.bare is.0, is.1)))

  abbrev Inner : Bool → List Token → ProofTerm → Type 0
  Inner lemmas ys t = ProofTermOf lemmas (in_parentheses ys) t

  behind_head_sound : (h : Head) → Sound (Tree (λ ys t. (xs : List Token) → IsHead preds names xs h → IsProofTerm preds names (in_parentheses (xs ++ ys)) t × (t.head ≡ h))) (behind_head stop preds names h)
  unfolding behind_head
  behind_head_sound h = then_sound {P = AreGiven preds names} {Q = AreWith preds names} (λ ys t. (xs : List Token) → IsHead preds names xs h → IsProofTerm preds names (in_parentheses (xs ++ ys)) t × (t.head ≡ h)) (λ ts ps. record { head = h; terms = ts; spats = ps }) terms_in_sound spats_in_sound (λ ys zs ts ps p q xs first. (g.in_group first p q, refl))

  arguments_sound : (lemmas : Bool) → Sound (Tree (Inner lemmas)) (arguments_in stop preds names lemmas)
  unfolding arguments_in
  arguments_sound lemmas = followed {P = HeadOf lemmas} {R = Tree (Inner lemmas)} {next = λ h ts. behind_head stop preds names h ts} (head_sound lemmas) (λ h. behind_head_sound h)
      (λ xs ys h t p q. let k = q xs p.0 in (k.0, λ e. subst (IsHyp preds names) (sym k.1) (p.1 e)))

  pub proof_term_sound : (lemmas : Bool) → Sound (Tree (ProofTermOf lemmas)) (proof_term stop preds names lemmas)
  unfolding proof_term
  proof_term_sound lemmas = after_symbol {P = λ ys t. ProofTermOf lemmas (symbol s.Open ∷ ys) t.0} {one = λ us. closed_by s.Close stop (arguments_in stop preds names lemmas us)} s.Open
      (closed {P = Tree (Inner lemmas)} s.Close stop (arguments_sound lemmas) (λ ys t is. is)) (λ ys t is. is) (only_head_sound lemmas)

  -- ---- keywords

  abbrev pub IsOne : List Token → Pat → Type 0
  IsOne ys p = IsPattern One ys p

  pub as_pattern_sound : (room : ℕ) → Sound (Worded (bytes "as") (Quoted IsOne)) (as_pattern stop room)
  unfolding as_pattern
  as_pattern_sound room = worded stop (codes "as") (bytes "as") as_word (quoted_pattern_sound stop room)

  pub as_bound_sound : Sound (Worded (bytes "as") IsBoundPattern) (as_bound stop)
  unfolding as_bound
  as_bound_sound = worded stop (codes "as") (bytes "as") as_word (bound_pattern_sound stop)

  pub as_name_sound : Sound (Worded (bytes "as") (Quoted (Spelled name_as))) (as_name stop)
  unfolding as_name
  as_name_sound = worded stop (codes "as") (bytes "as") as_word (quoted_name_sound stop)

  pub in_name_sound : Sound (Worded (bytes "in") (Quoted (Spelled name_as))) (in_name stop)
  unfolding in_name
  in_name_sound = worded stop (codes "in") (bytes "in") in_word (quoted_name_sound stop)

  pub into_name_sound : Sound (Worded (bytes "into") (Quoted (Spelled name_as))) (into_name stop)
  unfolding into_name
  into_name_sound = worded stop (codes "into") (bytes "into") into_word (quoted_name_sound stop)

  -- ---- premises and allocations

  Marked : List Token → Spat × Pat → Type 0
  Marked ys a = (zs us : List Token) × (ys ≡ name (bytes "with") ∷ (in_quotes zs ++ name (bytes "as") ∷ in_quotes us)) × IsPremise stop zs a.0 × IsOne us a.1

  abbrev pub Asserted : List Token → Spat × Pat → Type 0
  Asserted ys a = (marked : Bool) × (zs us : List Token) × (ys ≡ marker_if marked ++ name (bytes "with") ∷ (in_quotes zs ++ name (bytes "as") ∷ in_quotes us)) × IsPremise stop zs a.0 × IsOne us a.1

  abbrev behind_marker : List Place → Read (Spat × Pat)
  behind_marker ts = behind_word stop (codes "with") (quoted_premise stop) ts >>= λ how. made (λ p. (how.0, p)) (as_pattern stop MAX_LEVELS how.1)

  marked_sound : Sound Marked behind_marker
  unfolding Marked
  marked_sound = followed {P = Worded (bytes "with") (Quoted (IsPremise stop))} {Q = λ how ys a. (us : List Token) × (ys ≡ name (bytes "as") ∷ in_quotes us) × IsOne us a.1 × (a.0 ≡ how)} {R = Marked} {next = λ how ts. made (λ p. (how, p)) (as_pattern stop MAX_LEVELS ts)}
      (worded stop (codes "with") (bytes "with") with_word (quoted_premise_sound stop))
      (λ how. changed (λ p. (how, p)) (as_pattern_sound MAX_LEVELS) (λ ys p k. (k.2.0, k.1 ∙ ap (λ us. name (bytes "as") ∷ us) k.2.1, k.2.2, refl)))
      (λ xs ys how a p q. (p.2.0, q.0, both_are (p.1 ∙ ap (λ us. name (bytes "with") ∷ us) p.2.1) q.1, subst (IsPremise stop p.2.0) (sym q.3) p.2.2, q.2))

  asserted_by : (b : Bool) (ts : List Place) (x : (Spat × Pat) × List Place) → sees s.Intuitionistic ts ≡ b → behind_marker (cond b (drop 1 ts) ts) ≡ Ok x → Found Asserted ts x
  unfolding Marked
  asserted_by true ts x there e =
      let d = marked_sound.ok (drop 1 ts) x e in
      record { before = symbol s.Intuitionistic ∷ d.before; split = sees_ok s.Intuitionistic ts there ∙ ap (λ us. symbol s.Intuitionistic ∷ us) d.split; is = (true, d.is.0, d.is.1, ap (λ us. symbol s.Intuitionistic ∷ us) d.is.2, d.is.3, d.is.4) }
  asserted_by false ts x there e = let d = marked_sound.ok ts x e in record { before = d.before; split = d.split; is = (false, d.is.0, d.is.1, d.is.2, d.is.3, d.is.4) }

  pub asserted_sound : Sound Asserted (asserted stop)
  unfolding asserted
  asserted_sound = record { ok = λ ts x e. asserted_by (sees s.Intuitionistic ts) ts x refl e }

  grouped_name_sound : Sound (Within s.Open s.Close (Spelled name_as)) (grouped_name stop)
  unfolding grouped_name
  grouped_name_sound = enclosed s.Open s.Close stop (name_sound stop)

  abbrev pub Allocated : List Token → List ℕ × Pat → Type 0
  Allocated ys a = (us : List Token) × (ys ≡ name (bytes "as") ∷ (in_parentheses (name a.0 ∷ []) ++ in_quotes us)) × IsOne us a.1

  pub allocated_sound : Sound Allocated (allocated stop)
  unfolding allocated
  allocated_sound = followed {P = Worded (bytes "as") (Within s.Open s.Close (Spelled name_as))} {Q = λ w ys a. (us : List Token) × (ys ≡ in_quotes us) × IsOne us a.1 × (a.0 ≡ w)} {R = Allocated} {next = λ w ts. made (λ p. (w, p)) (quoted_pattern stop MAX_LEVELS ts)}
      (worded stop (codes "as") (bytes "as") as_word grouped_name_sound)
      (λ w. changed (λ p. (w, p)) (quoted_pattern_sound stop MAX_LEVELS) (λ ys p k. (k.0, k.1, k.2, refl)))
      (λ xs ys w a p q. (q.0, both_are (p.1 ∙ ap (λ us. name (bytes "as") ∷ us) (p.2.1 ∙ ap in_parentheses (p.2.2 ∙ ap name_as (sym q.3)))) q.1, q.2))
