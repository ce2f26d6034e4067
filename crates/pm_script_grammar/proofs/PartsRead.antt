-- Parts of directives that the grammar derives are read, unless they are too deep.
use Rattle.std.proofs.Common.{◌≡◌, inl, inr, ℕ, zero, suc, ℤ, ◌≤◌, Bool, true, false, ◌&&◌, List, [], ◌∷◌, ◌++◌, length, drop, Option, Some, None, Result, Ok, refl, sym, ap, subst, ◌∙◌, append_assoc, append-nil, length-append, arith}
use Rattle.std.specs.Prelude.{codes}
use Rattle.std.proofs.lemmas.Slice.Eq.{bytes_eq-Decides}
use Rattle.pm_logic.specs.declared.limits.TheConstants.{MAX_LEVELS}
use Rattle.pm_logic.specs.declared.formula.Term.{Term}
use Rattle.pm_logic.specs.Size.{term_depth, pure_depth, depth_of}
use Rattle.pm_tokens.specs.declared.symbol.Symbol.{Symbol}
use Rattle.pm_tokens.specs.declared.symbol.Symbol.TheVariants as s
use Rattle.pm_tokens.specs.Tokens.{Token, name, number, symbol, Place, place}
use Rattle.pm_terms.specs.declared.fault.TextFault.{TextFault}
use Rattle.pm_terms.specs.declared.level.PureLevel.TheVariants.{Ors}
use Rattle.pm_text.specs.declared.level.Level.TheVariants.{Wands}
use Rattle.pm_terms.specs.Scope.{Names, Callables}
use Rattle.pm_terms.specs.Steps.{Read, ◌>>=◌, made, same_symbol, sees, offset, expect, closed_by}
use Rattle.pm_terms.specs.TermReading.{operand_in, sum_in}
use Rattle.pm_terms.specs.PureReading.{comparison_of, next_comparison, pure_in}
use Rattle.pm_text.specs.FormulaReading.{infix_of, formula_in}
use Rattle.pm_patterns.specs.PatternReading.{name_in, quoted_name}
use Rattle.pm_patterns.specs.declared.pattern.Spat.{Spat}
use Rattle.pm_patterns.specs.declared.pattern.Head.{Head}
use Rattle.pm_patterns.specs.declared.pattern.Head.TheVariants.{Hyp}
use Rattle.pm_patterns.specs.declared.pattern.ProofTerm.{ProofTerm}
use Rattle.pm_script.specs.Words.{bytes}
use Rattle.pm_script.specs.SentenceReading.{Deeps, ReadIn, too_deep, mapped, then_read, sees_word, sees_keyword, expect_word, behind_word, if_any, head_in, spats_in, term_tree, operand_tree, pure_tree, formula_tree, grouped_formula, grouped_pure, carried, first_of, with_tree, next_term, some_terms, goes_on, next_operand, some_operands, terms_in, behind_head, arguments_in, proof_term}
use Rattle.pm_grammar.specs.TermGrammar as t
use Rattle.pm_grammar.specs.TermGrammar.{IsLiteral, positive, negative, IsTerm, sum, operand}
use Rattle.pm_grammar.specs.PureGrammar.{IsPure}
use Rattle.pm_grammar.specs.FormulaGrammar as f
use Rattle.pm_grammar.specs.FormulaGrammar.{AreTerms, End, closed, body, IsFormula}
use Rattle.pm_grammar.specs.Parts.{TermEnds, PureEnds, FormulaEnds, reach}
use Rattle.pm_grammar.proofs.Steps.{put, skip, put-append, Again, symbol_is}
use Rattle.pm_grammar.proofs.TermsRead.{sum_read, operand_read}
use Rattle.pm_grammar.proofs.PuresRead.{pure_read}
use Rattle.pm_grammar.proofs.FormulasRead.{formula_read}
use Rattle.pm_script_grammar.specs.PatternGrammar.{in_quotes, AreAll, none, some, HasOne, spats_as}
use Rattle.pm_script_grammar.specs.SentenceGrammar as g
use Rattle.pm_script_grammar.specs.SentenceGrammar.{IsHead, AreGiven, AreWith, IsProofTerm, IsHyp}
use Rattle.pm_script_grammar.proofs.PatternsDerived.{Within}
use Rattle.pm_script_grammar.proofs.PartsDerived.{Worded, with_word, IfAny, IsAnyFormula, ProofTermOf}
use Rattle.pm_script_grammar.proofs.Complete.{Okay, sees_itself, then_okay, at_okay, length-put, Complete, Any, Sees, Split}
use Rattle.pm_script_grammar.proofs.PatternsRead.{made_okay}
use Rattle.pm_script_grammar.proofs.QuotedRead.{c_quoted_name, c_quoted_spats}

-- ---- words

pub word_there : (w v : List ℕ) (at : ℕ) (ts : List Place) → w ≡ v → sees_word w (place (name v) at ∷ ts) ≡ true
unfolding sees_word
word_there w v at ts e = (bytes_eq-Decides v w).1 (sym e)

pub c_worded : {A : Type 0} {P : List Token → A → Type 0} {E : List Place → Type 0} {read : List Place → Read A} (stop : ℕ) (w v : List ℕ) → w ≡ v → Complete P E read → Complete (Worded v P) E (λ ts. behind_word stop w read ts)
unfolding expect_word
c_worded {read = read} stop w v same h = record {
  ok = λ o ys a rest is ends.
      let us : List Place = put (λ n. o (suc n)) is.0 ++ rest in
      let there = word_there w v (o 0) us same in
      at_okay (λ ts. behind_word stop w read ts) (put o ys ++ rest) (place (name v) (o 0) ∷ us) (a, rest) (ap (λ (t : List Token). put o t ++ rest) is.1) (rw there (h.ok (λ n. o (suc n)) is.0 a rest is.2 ends));
}

abbrev pub AtEnd : List Place → Type 0
AtEnd rest = rest ≡ []

-- a part, and none at the end
pub c_any : {A : Type 0} {P : List Token → A → Type 0} {read : List Place → Read A} (stop : ℕ) → Complete P Any read → ((ys : List Token) (a : A) → P ys a → 1 ≤ length ys) → Complete (IfAny P) AtEnd (if_any stop read)
unfolding if_any
c_any {A = A} {P = P} {read = read} stop h one = record { ok = go }
  where
    some_read : (o : ℕ → ℕ) (ys : List Token) (a : A) (rest : List Place) → P ys a → Okay (if_any stop read (put o ys ++ rest)) (Some a, rest)
    some_read o [] a rest is = absurd (let k = one [] a is in omega (arith, k))
    some_read o (y ∷ ys) a rest is = then_okay (read (put o (y ∷ ys) ++ rest)) (λ x. Ok (Some x.0, x.1)) (a, rest) (Some a, rest) (h.ok o (y ∷ ys) a rest is tt) (inl refl)

    none_read : (o : ℕ → ℕ) (ys : List Token) (rest : List Place) → ys ≡ [] → rest ≡ [] → Okay (if_any stop read (put o ys ++ rest)) (None, rest)
    none_read o [] [] e ends = inl refl
    none_read o (y ∷ ys) rest e ends = absurd cc
    none_read o [] (t ∷ rest) e ends = absurd cc

    go : (o : ℕ → ℕ) (ys : List Token) (a : Option A) (rest : List Place) → IfAny P ys a → rest ≡ [] → Okay (if_any stop read (put o ys ++ rest)) (a, rest)
    go o ys None rest is ends = none_read o ys rest is ends
    go o ys (Some a) rest is ends = some_read o ys a rest is

-- ---- trees, whatever the depths

pub record CompleteTree {A : Type 0} (P : List Token → A → Type 0) (Ends : List Place → Type 0) (read : List Place → ReadIn A) : Type 0 where
  pub ok : (o : ℕ → ℕ) (ys : List Token) (a : A) (rest : List Place) → P ys a → Ends rest → (deeps : Deeps) × Okay (read (put o ys ++ rest)) ((a, deeps), rest)

pub t_mapped : {A B : Type 0} {P : List Token → A → Type 0} {Q : List Token → B → Type 0} {E : List Place → Type 0} {read : List Place → ReadIn A} (f : A → B) → CompleteTree P E read → ((ys : List Token) (b : B) → Q ys b → (a : A) × P ys a × (b ≡ f a)) → CompleteTree Q E (λ ts. mapped f (read ts))
t_mapped {read = read} f h k = record {
  ok = λ o ys b rest is ends.
      let p = k ys b is in
      let d = h.ok o ys p.0 rest p.1 ends in
      (d.0, then_okay (read (put o ys ++ rest)) (λ x. Ok ((f x.0.0, x.0.1), x.1)) ((p.0, d.0), rest) ((b, d.0), rest) d.1 (inl (ap (λ y. Ok ((y, d.0), rest)) (sym p.2))));
}

-- a part with trees and one without
pub t_then : {A B C : Type 0} {P : List Token → A → Type 0} {Q : List Token → B → Type 0} {R : List Token → C → Type 0} {E F : List Place → Type 0} {read : List Place → ReadIn A} {next : List Place → Read B} (f : A → B → C)
    → CompleteTree P E read → Complete Q F next → ((zs : List Token) (c : C) → R zs c → (b : B) × (s : Split P (λ a ys b. Q ys b) E F zs b) × (c ≡ f s.value b)) → CompleteTree R F (λ ts. then_read f (read ts) next)
t_then {read = read} {next = next} f h k g = record {
  ok = λ o zs c rest is ends.
      let q = g zs c is in
      let p = q.1 in
      let us : List Place = put (skip p.left o) p.right ++ rest in
      let d = h.ok o p.left p.value us p.first (p.between (skip p.left o) rest ends) in
      let whole : put o zs ++ rest ≡ put o p.left ++ us = ap (λ (v : List Token). put o v ++ rest) p.whole ∙ put-append o p.left p.right rest in
      let second = then_okay (next us) (λ y. Ok ((f p.value y.0, d.0), y.1)) (q.0, rest) ((c, d.0), rest) (k.ok (skip p.left o) p.right q.0 rest p.second ends) (inl (ap (λ y. Ok ((y, d.0), rest)) (sym q.2))) in (
        d.0,
        at_okay (λ ts. then_read f (read ts) next) (put o zs ++ rest) (put o p.left ++ us) ((c, d.0), rest) whole
            (then_okay (read (put o p.left ++ us)) (λ x. made (λ y. (f x.0.0 y, x.0.1)) (next x.1)) ((p.value, d.0), us) ((c, d.0), rest) d.1 second),
      );
}

-- a part without trees, and one with
pub t_followed : {A B : Type 0} {P : List Token → A → Type 0} {Q : A → List Token → B → Type 0} {R : List Token → B → Type 0} {E F : List Place → Type 0} {read : List Place → Read A} {next : A → List Place → ReadIn B}
    → Complete P E read → ((a : A) → CompleteTree (Q a) F (next a)) → ((zs : List Token) (b : B) → R zs b → Split P Q E F zs b) → CompleteTree R F (λ ts. read ts >>= λ a. next a.0 a.1)
t_followed {read = read} {next = next} h k g = record {
  ok = λ o zs b rest is ends.
      let p = g zs b is in
      let us : List Place = put (skip p.left o) p.right ++ rest in
      let whole : put o zs ++ rest ≡ put o p.left ++ us = ap (λ (v : List Token). put o v ++ rest) p.whole ∙ put-append o p.left p.right rest in
      let d = (k p.value).ok (skip p.left o) p.right b rest p.second ends in
      (d.0, at_okay (λ ts. read ts >>= λ a. next a.0 a.1) (put o zs ++ rest) (put o p.left ++ us) ((b, d.0), rest) whole (then_okay (read (put o p.left ++ us)) (λ a. next a.0 a.1) (p.value, us) ((b, d.0), rest) (h.ok o p.left p.value us p.first (p.between (skip p.left o) rest ends)) d.1));
}

pub t_behind : {A : Type 0} {P Q : List Token → A → Type 0} {E : List Place → Type 0} {read : List Place → ReadIn A} (t : Symbol) (stop : ℕ) → CompleteTree P E read → ((ys : List Token) (a : A) → Q ys a → (zs : List Token) × (ys ≡ symbol t ∷ zs) × P zs a) → CompleteTree Q E (λ ts. expect t stop ts >>= read)
unfolding expect
t_behind {read = read} t stop h k = record {
  ok = λ o ys a rest is ends.
      let p = k ys a is in
      let us : List Place = put (λ n. o (suc n)) p.0 ++ rest in
      let seen = sees_itself t (o 0) us in
      let d = h.ok (λ n. o (suc n)) p.0 a rest p.2 ends in
      (d.0, at_okay (λ ts. expect t stop ts >>= read) (put o ys ++ rest) (place (symbol t) (o 0) ∷ us) ((a, d.0), rest) (ap (λ (v : List Token). put o v ++ rest) p.1) (rw seen d.1));
}

pub t_closed : {A : Type 0} {P Q : List Token → A → Type 0} {E : List Place → Type 0} {read : List Place → ReadIn A} (Last : List Place → Type 0) (t : Symbol) (stop : ℕ) → ((at : ℕ) (us : List Place) → E (place (symbol t) at ∷ us)) → CompleteTree P E read
    → ((ys : List Token) (a : A) → Q ys a → (zs : List Token) × (ys ≡ zs ++ symbol t ∷ []) × P zs a) → CompleteTree Q Last (λ ts. closed_by t stop (read ts))
unfolding closed_by expect
t_closed {read = read} Last t stop e h k = record {
  ok = λ o ys a rest is ends.
      let p = k ys a is in
      let at : ℕ = skip p.0 o 0 in
      let us : List Place = place (symbol t) at ∷ rest in
      let d = h.ok o p.0 a us p.2 (e at rest) in
      let whole : put o ys ++ rest ≡ put o p.0 ++ us = ap (λ (v : List Token). put o v ++ rest) p.1 ∙ put-append o p.0 (symbol t ∷ []) rest in
      let seen = sees_itself t at rest in
      (d.0, at_okay (λ ts. closed_by t stop (read ts)) (put o ys ++ rest) (put o p.0 ++ us) ((a, d.0), rest) whole (then_okay (read (put o p.0 ++ us)) (λ x. expect t stop x.1 >>= λ r. Ok (x.0, r)) ((a, d.0), us) ((a, d.0), rest) d.1 (inl (rw seen refl))));
}

pub t_enclosed : {A : Type 0} {P : List Token → A → Type 0} {E : List Place → Type 0} {read : List Place → ReadIn A} (l r : Symbol) (stop : ℕ) → ((at : ℕ) (us : List Place) → E (place (symbol r) at ∷ us)) → CompleteTree P E read
    → CompleteTree (Within l r P) Any (λ ts. expect l stop ts >>= λ rest. closed_by r stop (read rest))
t_enclosed {P = P} {read = read} l r stop e h =
    t_behind {P = λ ys a. (zs : List Token) × (ys ≡ zs ++ symbol r ∷ []) × P zs a} {Q = Within l r P} {read = λ rest. closed_by r stop (read rest)} l stop
    (t_closed {P = P} {Q = λ ys a. (zs : List Token) × (ys ≡ zs ++ symbol r ∷ []) × P zs a} {read = read} Any r stop e h (λ ys a k. k))
    (λ ys a k. (k.0 ++ symbol r ∷ [], k.1, (k.0, refl, k.2)))

-- ---- where trees end

pub close_formula : (at : ℕ) (us : List Place) → FormulaEnds Wands (place (symbol s.Close) at ∷ us)
unfolding sees same_symbol infix_of
close_formula at us = record { no_location = refl; no_infix = (refl, refl, refl) }

pub entails_formula : (at : ℕ) (us : List Place) → FormulaEnds Wands (place (symbol s.Entails) at ∷ us)
unfolding sees same_symbol infix_of
entails_formula at us = record { no_location = refl; no_infix = (refl, refl, refl) }

pub end_formula : FormulaEnds Wands []
unfolding sees
end_formula = record { no_location = refl; no_infix = (refl, refl, refl) }

pub ends_either : (e : End) (rest : List Place) → FormulaEnds Wands rest → FormulaEnds (reach e Wands) rest
ends_either closed rest h = h
ends_either body rest h = h

close_pure : (at : ℕ) (us : List Place) → PureEnds Ors (place (symbol s.Close) at ∷ us)
unfolding sees same_symbol next_comparison comparison_of
close_pure at us = record { no_term = record { no_plus = refl; no_minus = refl; no_times = refl }; no_comparison = refl; no_infix = (refl, refl) }

comma_term : (at : ℕ) (us : List Place) → TermEnds (place (symbol s.Comma) at ∷ us)
unfolding sees same_symbol
comma_term at us = record { no_plus = refl; no_minus = refl; no_times = refl }

pub end_terms : TermEnds [] × (sees s.Comma [] ≡ false)
unfolding sees
end_terms = (record { no_plus = refl; no_minus = refl; no_times = refl }, refl)

-- read again as read or too deep
pub okay : {A : Type 0} {P : Type 0} (read : Result A TextFault) (x : A) → Again P read x → Okay read x
okay read x (inl found) = inl found
okay read x (inr deep) = inr deep.0

module _ (stop : ℕ) (preds : Callables) (names : Names) where
  -- the value with its depth
  tree_okay : {A : Type 0} (depth : A → ℕ) (read : Read A) (at : ℕ) (a : A) (rest : List Place) → Okay read (a, rest) → (deeps : Deeps) × Okay (made {A = A} {B = A × Deeps} (λ t. (t, too_deep (depth t) at)) read) ((a, deeps), rest)
  tree_okay depth read at a rest h = (too_deep (depth a) at, then_okay read (λ x. Ok ((x.0, too_deep (depth x.0) at), x.1)) (a, rest) ((a, too_deep (depth a) at), rest) h (inl refl))

  pub t_term : CompleteTree (IsTerm names sum) TermEnds (term_tree stop preds names)
  unfolding term_tree
  t_term = record { ok = λ o ys a rest is ends. tree_okay term_depth (sum_in stop names MAX_LEVELS (put o ys ++ rest)) (offset stop (put o ys ++ rest)) a rest (okay _ _ (sum_read stop names ys a is MAX_LEVELS o rest ends)) }

  pub t_operand : CompleteTree (IsTerm names operand) Any (operand_tree stop preds names)
  unfolding operand_tree
  t_operand = record { ok = λ o ys a rest is ends. tree_okay term_depth (operand_in stop names MAX_LEVELS (put o ys ++ rest)) (offset stop (put o ys ++ rest)) a rest (okay _ _ (operand_read stop names ys a is MAX_LEVELS o rest)) }

  pub t_pure : CompleteTree (IsPure names Ors) (PureEnds Ors) (pure_tree stop preds names)
  unfolding pure_tree
  t_pure = record { ok = λ o ys a rest is ends. tree_okay pure_depth (pure_in stop names MAX_LEVELS Ors (put o ys ++ rest)) (offset stop (put o ys ++ rest)) a rest (okay _ _ (pure_read stop names Ors ys a is MAX_LEVELS o rest ends)) }

  pub t_formula : CompleteTree (IsAnyFormula stop preds names) (FormulaEnds Wands) (formula_tree stop preds names)
  unfolding formula_tree
  t_formula = record { ok = λ o ys a rest is ends. tree_okay depth_of (formula_in stop preds MAX_LEVELS Wands names (put o ys ++ rest)) (offset stop (put o ys ++ rest)) a rest (okay _ _ (formula_read stop preds names Wands is.0 ys a is.1 MAX_LEVELS o rest (ends_either is.0 rest ends))) }

  pub t_grouped_formula : CompleteTree (Within s.Open s.Close (IsAnyFormula stop preds names)) Any (grouped_formula stop preds names)
  unfolding grouped_formula
  t_grouped_formula = t_enclosed s.Open s.Close stop close_formula t_formula

  pub t_grouped_pure : CompleteTree (Within s.Open s.Close (IsPure names Ors)) Any (grouped_pure stop preds names)
  unfolding grouped_pure
  t_grouped_pure = t_enclosed s.Open s.Close stop close_pure t_pure

  -- ---- lists of trees

  record Steps (P : List Token → Term → Type 0) (Between Ends : List Place → Type 0) (go : List Place → Bool) (step : List Term × Deeps → List Place → ReadIn (List Term)) : Type 0 where
    steps : (found : List Term × Deeps) (o : ℕ → ℕ) (xs : List Token) (a : Term) (us : List Place) → P xs a → Between us → (deeps : Deeps) × Okay (step found (put o xs ++ us)) ((found.0 ++ a ∷ [], deeps), us)
    starts : (o : ℕ → ℕ) (xs : List Token) (a : Term) (us : List Place) → P xs a → Between us → go (put o xs ++ us) ≡ true
    begins : (o : ℕ → ℕ) (xs : List Token) (a : Term) (us : List Place) → P xs a → Between (put o xs ++ us)
    ends : (rest : List Place) → Ends rest → Between rest
    stops : (rest : List Place) → Ends rest → go rest ≡ false
    one : (xs : List Token) (a : Term) → P xs a → 1 ≤ length xs

  between_all : {P : List Token → Term → Type 0} {B E : List Place → Type 0} {go : List Place → Bool} {step : List Term × Deeps → List Place → ReadIn (List Term)} → Steps P B E go step → (o : ℕ → ℕ) (ys : List Token) (list : List Term) (rest : List Place) → AreAll P ys list → E rest → B (put o ys ++ rest)
  between_all h o _ _ rest none e = h.ends rest e
  between_all {B = B} h o _ _ rest (some {xs = xs} {ys = ys} {a = a} k more) e = subst B (sym (put-append o xs ys rest)) (h.begins o xs a (put (skip xs o) ys ++ rest) k)

  carried_read : {P : List Token → Term → Type 0} {B E : List Place → Type 0} (go : List Place → Bool) (step : List Term × Deeps → List Place → ReadIn (List Term)) → Steps P B E go step
      → (n : ℕ) (found : List Term × Deeps) (o : ℕ → ℕ) (ys : List Token) (list : List Term) (rest : List Place) → AreAll P ys list → length ys ≤ n → E rest → (deeps : Deeps) × Okay (carried go step n found (put o ys ++ rest)) ((found.0 ++ list, deeps), rest)
  unfolding carried
  carried_read go step h zero found o _ _ rest none le e = (found.1, inl (ap (λ (v : List Term). Ok ((v, found.1), rest)) (sym (append-nil found.0))))
  carried_read go step h (suc n) found o _ _ rest none le e = let stop = h.stops rest e in (found.1, rw stop (inl (ap (λ (v : List Term). Ok ((v, found.1), rest)) (sym (append-nil found.0)))))
  carried_read go step h zero found o _ _ rest (some {xs = xs} {ys = ys} {a = a} k more) le e = absurd (omega (arith, h.one xs a k, le, length-append xs ys))
  carried_read {P = P} {B = B} {E = E} go step h (suc n) found o _ _ rest (some {xs = xs} {ys = ys} {a = a} {list = list} k more) le e =
      let us : List Place = put (skip xs o) ys ++ rest in
      let behind = between_all {P = P} {B = B} {E = E} {go = go} {step = step} h (skip xs o) ys list rest more e in
      let first = h.steps found o xs a us k behind in
      let later = carried_read {P = P} {B = B} {E = E} go step h n (found.0 ++ a ∷ [], first.0) (skip xs o) ys list rest more (omega (arith, h.one xs a k, le, length-append xs ys)) e in
      let begun = h.starts o xs a us k behind in
      let same : ((found.0 ++ a ∷ []) ++ list, later.0) ≡ (found.0 ++ a ∷ list, later.0) = ap (λ (v : List Term). (v, later.0)) (append_assoc found.0 (a ∷ []) list) in (
        later.0,
        at_okay (λ ts. carried go step (suc n) found ts) (put o (xs ++ ys) ++ rest) (put o xs ++ us) ((found.0 ++ a ∷ list, later.0), rest) (put-append o xs ys rest)
            (rw begun (then_okay (step found (put o xs ++ us)) (λ x. carried go step n x.0 x.1) ((found.0 ++ a ∷ [], first.0), us) ((found.0 ++ a ∷ list, later.0), rest) first.1
            (subst (λ y. Okay (carried go step n (found.0 ++ a ∷ [], first.0) us) (y, rest)) same later.1))),
      )

  abbrev Comma : List Token → Term → Type 0
  Comma ys t = (zs : List Token) × (ys ≡ symbol s.Comma ∷ zs) × IsTerm names sum zs t

  -- the first of some terms, and the others behind their commas
  first_term : (zs : List Token) (list : List Term) → AreTerms names zs list → (xs ys : List Token) × (a : Term) × (more : List Term) × (zs ≡ xs ++ ys) × (list ≡ a ∷ more) × IsTerm names sum xs a × AreAll Comma ys more
  first_term zs _ (f.last {a = a} h) = (zs, [], a, [], sym (append-nil zs), refl, h, none)
  first_term _ _ (f.comma {xs = xs} {ys = ys} {a = a} {ts = ts} h k) =
      let q = first_term ys ts k in
      (xs, symbol s.Comma ∷ ys, a, ts, refl, refl, h, subst (λ (v : List Token). AreAll Comma (symbol s.Comma ∷ v) ts) (sym q.4) (subst (AreAll Comma (symbol s.Comma ∷ (q.0 ++ q.1))) (sym q.5) (some (q.0, refl, q.6) q.7)))

  abbrev TermsEnd : List Place → Type 0
  TermsEnd rest = TermEnds rest × (sees s.Comma rest ≡ false)

  comma_steps : Steps Comma TermEnds TermsEnd (sees s.Comma) (next_term stop preds names)
  unfolding next_term
  comma_steps = record {
    steps = λ found o xs a us is b.
        let d = t_term.ok (λ n. o (suc n)) is.0 a us is.2 b in
        let result : List Term × Deeps = with_tree found (a, d.0) in (
          result.1,
          at_okay (next_term stop preds names found) (put o xs ++ us) (place (symbol s.Comma) (o 0) ∷ (put (λ n. o (suc n)) is.0 ++ us)) (result, us) (ap (λ (v : List Token). put o v ++ us) is.1)
              (then_okay (term_tree stop preds names (put (λ n. o (suc n)) is.0 ++ us)) (λ x. Ok (with_tree found x.0, x.1)) ((a, d.0), us) (result, us) d.1 (inl refl)),
        );
    starts = λ o xs a us is b. ap (λ (v : List Token). sees s.Comma (put o v ++ us)) is.1 ∙ sees_itself s.Comma (o 0) (put (λ n. o (suc n)) is.0 ++ us);
    begins = λ o xs a us is. subst (λ (v : List Token). TermEnds (put o v ++ us)) (sym is.1) (comma_term (o 0) (put (λ n. o (suc n)) is.0 ++ us));
    ends = λ rest e. e.0;
    stops = λ rest e. e.1;
    one = λ xs a is. subst (λ (v : List Token). 1 ≤ length v) (sym is.1) (omega arith);
  }

  pub t_some_terms : CompleteTree (AreTerms names) TermsEnd (some_terms stop preds names)
  unfolding some_terms
  t_some_terms = record {
    ok = λ o zs list rest is e.
        let q = first_term zs list is in
        let us : List Place = put (skip q.0 o) q.1 ++ rest in
        let first = t_term.ok o q.0 q.2 us q.6 (between_all {P = Comma} {B = TermEnds} {E = TermsEnd} {go = sees s.Comma} {step = next_term stop preds names} comma_steps (skip q.0 o) q.1 q.3 rest q.7 e) in
        let later = carried_read {P = Comma} {B = TermEnds} {E = TermsEnd} (sees s.Comma) (next_term stop preds names) comma_steps (length us) (q.2 ∷ [], first.0) (skip q.0 o) q.1 q.3 rest q.7 (length-put (skip q.0 o) q.1 rest) e in
        let whole : put o zs ++ rest ≡ put o q.0 ++ us = ap (λ (v : List Token). put o v ++ rest) q.4 ∙ put-append o q.0 q.1 rest in (
          later.0,
          at_okay (some_terms stop preds names) (put o zs ++ rest) (put o q.0 ++ us) ((list, later.0), rest) whole
              (subst (λ (v : List Term). Okay (some_terms stop preds names (put o q.0 ++ us)) ((v, later.0), rest)) (sym q.5)
              (then_okay (term_tree stop preds names (put o q.0 ++ us)) (λ x. carried (sees s.Comma) (next_term stop preds names) (length x.1) (first_of x.0) x.1) ((q.2, first.0), us) ((q.2 ∷ q.3, later.0), rest) first.1 later.1)),
        );
  }

  -- ---- operands

  keyword_ends : (ts : List Place) → sees s.Quote (drop 1 ts) ≡ false → sees_keyword (codes "with") ts ≡ false
  unfolding sees_keyword
  keyword_ends ts e = go (sees_word (codes "with") ts) (sees s.Quote (drop 1 ts)) e
    where
      go : (a b : Bool) → b ≡ false → (a && b) ≡ false
      go true b h = h
      go false b h = refl

  record OperandStarts (ts : List Place) : Type 0 where
    no_close : sees s.Close ts ≡ false
    no_quote : sees s.Quote ts ≡ false
    no_word : sees_keyword (codes "with") ts ≡ false

  literal_starts : (xs : List Token) (z : ℤ) → IsLiteral xs z → (o : ℕ → ℕ) (us : List Place) → OperandStarts (put o xs ++ us)
  unfolding sees same_symbol sees_keyword sees_word
  literal_starts xs z (positive low) o us = record { no_close = refl; no_quote = refl; no_word = refl }
  literal_starts xs z (negative low) o us = record { no_close = refl; no_quote = refl; no_word = refl }

  variable_starts : (x : List ℕ) (at : ℕ) (us : List Place) → sees s.Quote us ≡ false → OperandStarts (place (name x) at ∷ us)
  unfolding sees
  variable_starts x at us e = record { no_close = refl; no_quote = refl; no_word = keyword_ends (place (name x) at ∷ us) e }

  group_starts : (at : ℕ) (us : List Place) → OperandStarts (place (symbol s.Open) at ∷ us)
  unfolding sees same_symbol sees_keyword sees_word
  group_starts at us = record { no_close = refl; no_quote = refl; no_word = refl }

  operand_starts : (xs : List Token) (a : Term) → IsTerm names operand xs a → (o : ℕ → ℕ) (us : List Place) → sees s.Quote us ≡ false → OperandStarts (put o xs ++ us)
  operand_starts _ _ (t.variable {x = x} h) o us e = variable_starts x (o 0) us e
  operand_starts xs _ (t.literal {z = z} h) o us e = literal_starts xs z h o us
  operand_starts _ a (t.group {xs = xs} h) o us e = group_starts (o 0) (put (λ n. o (suc n)) (xs ++ symbol s.Close ∷ []) ++ us)

  operand_begins : (xs : List Token) (a : Term) → IsTerm names operand xs a → (o : ℕ → ℕ) (us : List Place) → sees s.Quote (put o xs ++ us) ≡ false
  unfolding sees same_symbol
  operand_begins _ _ (t.variable h) o us = refl
  operand_begins xs _ (t.literal {z = z} h) o us = let k = literal_starts xs z h o us in k.no_quote
  operand_begins _ a (t.group h) o us = refl

  operand_one : (xs : List Token) (a : Term) → IsTerm names operand xs a → 1 ≤ length xs
  operand_one _ _ (t.variable h) = omega arith
  operand_one xs _ (t.literal (positive low)) = omega arith
  operand_one xs _ (t.literal (negative low)) = omega arith
  operand_one _ a (t.group h) = omega arith

  abbrev OperandsEnd : List Place → Type 0
  OperandsEnd rest = (sees s.Quote rest ≡ false) × (goes_on stop preds names rest ≡ false)

  operand_steps : Steps (IsTerm names operand) (λ us. sees s.Quote us ≡ false) OperandsEnd (goes_on stop preds names) (next_operand stop preds names)
  unfolding next_operand goes_on
  operand_steps = record {
    steps = λ found o xs a us is b.
        let d = t_operand.ok o xs a us is tt in
        let result : List Term × Deeps = with_tree found (a, d.0) in
        (result.1, then_okay (operand_tree stop preds names (put o xs ++ us)) (λ x. Ok (with_tree found x.0, x.1)) ((a, d.0), us) (result, us) d.1 (inl refl));
    starts = λ o xs a us is b. let k = operand_starts xs a is o us b in let close = k.no_close in let word = k.no_word in rw (close, word) refl;
    begins = λ o xs a us is. operand_begins xs a is o us;
    ends = λ rest e. e.0;
    stops = λ rest e. e.1;
    one = operand_one;
  }

  abbrev SomeOperands : List Token → List Term → Type 0
  SomeOperands ys list = AreAll (IsTerm names operand) ys list × HasOne list

  operands_read : (o : ℕ → ℕ) (zs : List Token) (list : List Term) (rest : List Place) → AreAll (IsTerm names operand) zs list → HasOne list → OperandsEnd rest → (deeps : Deeps) × Okay (some_operands stop preds names (put o zs ++ rest)) ((list, deeps), rest)
  unfolding some_operands
  operands_read o _ _ rest none one e = absurd one
  operands_read o _ _ rest (some {xs = xs} {ys = ys} {a = a} {list = list} k more) one e =
      let us : List Place = put (skip xs o) ys ++ rest in
      let first = t_operand.ok o xs a us k tt in
      let later = carried_read {P = IsTerm names operand} {B = λ us. sees s.Quote us ≡ false} {E = OperandsEnd} (goes_on stop preds names) (next_operand stop preds names) operand_steps (length us) (a ∷ [], first.0) (skip xs o) ys list rest more (length-put (skip xs o) ys rest) e in (
        later.0,
        at_okay (some_operands stop preds names) (put o (xs ++ ys) ++ rest) (put o xs ++ us) ((a ∷ list, later.0), rest) (put-append o xs ys rest)
            (then_okay (operand_tree stop preds names (put o xs ++ us)) (λ x. carried (goes_on stop preds names) (next_operand stop preds names) (length x.1) (first_of x.0) x.1) ((a, first.0), us) ((a ∷ list, later.0), rest) first.1 later.1),
      )

  -- ---- proof terms

  abbrev GivenEnd : List Place → Type 0
  GivenEnd rest = OperandsEnd rest × (sees s.Terms rest ≡ false)

  given_read : (ys : List Token) (list : List Term) → AreGiven preds names ys list → (o : ℕ → ℕ) (rest : List Place) → GivenEnd rest → (deeps : Deeps) × Okay (terms_in stop preds names (put o ys ++ rest)) ((list, deeps), rest)
  unfolding terms_in
  given_read _ _ g.nothing o rest e = let ends = e.1 in (None, rw ends (inl refl))
  given_read _ list (g.given {xs = xs} h) o rest e = let seen = sees_itself s.Terms (o 0) (put (λ n. o (suc n)) xs ++ rest) in let d = operands_read (λ n. o (suc n)) xs list rest h.0 h.1 e.0 in (d.0, rw seen d.1)

  t_given : CompleteTree (AreGiven preds names) GivenEnd (terms_in stop preds names)
  t_given = record { ok = λ o ys list rest is e. given_read ys list is o rest e }

  close_is : (rest : List Place) → sees s.Close rest ≡ true → (at : ℕ) × (us : List Place) × (rest ≡ place (symbol s.Close) at ∷ us)
  unfolding sees
  close_is [] e = absurd cc
  close_is (place (name w) at ∷ us) e = absurd cc
  close_is (place (number n) at ∷ us) e = absurd cc
  close_is (place (symbol r) at ∷ us) e = (at, us, ap (λ r. place (symbol r) at ∷ us) (symbol_is r s.Close e))

  close_ends : (at : ℕ) (us : List Place) → GivenEnd (place (symbol s.Close) at ∷ us) × (sees_word (codes "with") (place (symbol s.Close) at ∷ us) ≡ false)
  unfolding sees same_symbol goes_on sees_word
  close_ends at us = (((refl, refl), refl), refl)

  close_all : (rest : List Place) → sees s.Close rest ≡ true → GivenEnd rest × (sees_word (codes "with") rest ≡ false)
  close_all rest e = let c = close_is rest e in subst (λ (v : List Place). GivenEnd v × (sees_word (codes "with") v ≡ false)) (sym c.2) (close_ends c.0 c.1)

  with_ends : (at quote : ℕ) (us : List Place) → GivenEnd (place (name (bytes "with")) at ∷ place (symbol s.Quote) quote ∷ us)
  unfolding sees goes_on sees_keyword
  with_ends at quote us =
      let there = word_there (codes "with") (bytes "with") at (place (symbol s.Quote) quote ∷ us) with_word in
      let seen = sees_itself s.Quote quote us in
      ((refl, rw (there, seen) refl), refl)

  with_read : (ys : List Token) (list : List Spat) → AreWith preds names ys list → (o : ℕ → ℕ) (rest : List Place) → sees s.Close rest ≡ true → Okay (spats_in stop (put o ys ++ rest)) (list, rest)
  unfolding spats_in
  with_read _ _ g.nothing_with o rest e = let c = close_all rest e in let ends = c.1 in rw ends (inl refl)
  with_read _ _ (g.with_some p ps) o rest e =
      let us : List Place = put (λ n. o (suc n)) (in_quotes (spats_as (p ∷ ps))) ++ rest in
      let there = word_there (codes "with") (bytes "with") (o 0) us with_word in
      rw there ((c_quoted_spats stop).ok (λ n. o (suc n)) (in_quotes (spats_as (p ∷ ps))) (p ∷ ps) rest (spats_as (p ∷ ps), refl, (refl, tt)) tt)

  c_with : Complete (AreWith preds names) (Sees s.Close) (spats_in stop)
  c_with = record { ok = λ o ys list rest is e. with_read ys list is o rest e }

  with_behind : (ys : List Token) (list : List Spat) → AreWith preds names ys list → (o : ℕ → ℕ) (rest : List Place) → sees s.Close rest ≡ true → GivenEnd (put o ys ++ rest)
  with_behind _ _ g.nothing_with o rest e = let c = close_all rest e in c.0
  with_behind _ _ (g.with_some p ps) o rest e = with_ends (o 0) (o 1) (put (λ n. o (suc (suc n))) (spats_as (p ∷ ps) ++ symbol s.Quote ∷ []) ++ rest)

  record Behind (h : Head) (us : List Token) (v : ProofTerm) : Type 0 where
    given : List Token
    withs : List Token
    terms : List Term
    spats : List Spat
    split : us ≡ given ++ withs
    are_given : AreGiven preds names given terms
    are_with : AreWith preds names withs spats
    value : v ≡ record { head = h; terms = terms; spats = spats }

  t_behind_head : (h : Head) → CompleteTree (Behind h) (Sees s.Close) (behind_head stop preds names h)
  unfolding behind_head
  t_behind_head h = t_then {Q = AreWith preds names} {R = Behind h} {E = GivenEnd} {F = Sees s.Close} (λ ts ps. record { head = h; terms = ts; spats = ps }) t_given c_with
      (λ us v b. (b.spats, record { left = b.given; right = b.withs; value = b.terms; whole = b.split; first = b.are_given; second = b.are_with; between = λ o rest e. with_behind b.withs b.spats b.are_with o rest e }, b.value))

  head_read : (lemmas : Bool) (ys : List Token) (h : Head) → IsHead preds names ys h → (lemmas ≡ false → IsHyp preds names h) → (o : ℕ → ℕ) (rest : List Place) → Okay (head_in stop lemmas (put o ys ++ rest)) (h, rest)
  unfolding head_in name_in sees same_symbol
  head_read true _ _ (g.hypothesis x) ok o rest = made_okay Hyp (quoted_name stop (put o (g.quoted x) ++ rest)) x rest ((c_quoted_name stop).ok o (g.quoted x) x rest (name x ∷ [], refl, refl) tt)
  head_read false _ _ (g.hypothesis x) ok o rest = made_okay Hyp (quoted_name stop (put o (g.quoted x) ++ rest)) x rest ((c_quoted_name stop).ok o (g.quoted x) x rest (name x ∷ [], refl, refl) tt)
  head_read true _ _ (g.proved x) ok o rest = inl refl
  head_read false _ _ (g.proved x) ok o rest = absurd (ok refl)

  abbrev HeadOf : Bool → List Token → Head → Type 0
  HeadOf lemmas ys h = IsHead preds names ys h × (lemmas ≡ false → IsHyp preds names h)

  c_head : {E : List Place → Type 0} (lemmas : Bool) → Complete (HeadOf lemmas) E (head_in stop lemmas)
  c_head lemmas = record { ok = λ o ys h rest is e. head_read lemmas ys h is.0 is.1 o rest }

  record Arguments (lemmas : Bool) (us : List Token) (v : ProofTerm) : Type 0 where
    first : List Token
    later : List Token
    top : Head
    split : us ≡ first ++ later
    is_head : HeadOf lemmas first top
    are : Behind top later v

  t_arguments : (lemmas : Bool) → CompleteTree (Arguments lemmas) (Sees s.Close) (arguments_in stop preds names lemmas)
  unfolding arguments_in
  t_arguments lemmas = t_followed {P = HeadOf lemmas} {Q = Behind} {R = Arguments lemmas} {E = Any} {F = Sees s.Close} {next = λ h ts. behind_head stop preds names h ts} (c_head lemmas) t_behind_head
      (λ us v b. record { left = b.first; right = b.later; value = b.top; whole = b.split; first = b.is_head; second = b.are; between = λ o rest e. tt })

  t_in_group : (lemmas : Bool) → CompleteTree (λ ys v. (zs : List Token) × (ys ≡ zs ++ symbol s.Close ∷ []) × Arguments lemmas zs v) Any (λ us. closed_by s.Close stop (arguments_in stop preds names lemmas us))
  t_in_group lemmas = t_closed {P = Arguments lemmas} Any s.Close stop (sees_itself s.Close) (t_arguments lemmas) (λ ys v k. k)

  head_starts : (ys : List Token) (h : Head) → IsHead preds names ys h → (o : ℕ → ℕ) (rest : List Place) → sees s.Open (put o ys ++ rest) ≡ false
  unfolding sees same_symbol
  head_starts _ _ (g.hypothesis x) o rest = refl
  head_starts _ _ (g.proved x) o rest = refl

  proof_read : (lemmas : Bool) (ys : List Token) (v : ProofTerm) → IsProofTerm preds names ys v → (lemmas ≡ false → IsHyp preds names v.head) → (o : ℕ → ℕ) (rest : List Place) → (deeps : Deeps) × Okay (proof_term stop preds names lemmas (put o ys ++ rest)) ((v, deeps), rest)
  unfolding proof_term
  proof_read lemmas ys _ (g.bare {h = h} is) ok o rest =
      let starts = head_starts ys h is o rest in (
        None,
        rw starts (then_okay (made (λ h. record { head = h; terms = []; spats = [] }) (head_in stop lemmas (put o ys ++ rest))) (λ x. Ok ((x.0, None), x.1)) (record { head = h; terms = []; spats = [] }, rest) ((record { head = h; terms = []; spats = [] }, None), rest)
            (made_okay (λ h. record { head = h; terms = []; spats = [] }) (head_in stop lemmas (put o ys ++ rest)) h rest (head_read lemmas ys h is ok o rest)) (inl refl)),
      )
  proof_read lemmas _ _ (g.in_group {xs = xs} {ys = ys} {zs = zs} {h = h} {ts = ts} {ps = ps} is p q) ok o rest =
      let all : List Token = xs ++ (ys ++ zs) in
      let seen = sees_itself s.Open (o 0) (put (λ n. o (suc n)) (all ++ symbol s.Close ∷ []) ++ rest) in
      let behind : Behind h (ys ++ zs) (record { head = h; terms = ts; spats = ps }) = record { given = ys; withs = zs; terms = ts; spats = ps; split = refl; are_given = p; are_with = q; value = refl } in
      let arguments : Arguments lemmas all (record { head = h; terms = ts; spats = ps }) = record { first = xs; later = ys ++ zs; top = h; split = refl; is_head = (is, ok); are = behind } in
      let d = (t_in_group lemmas).ok (λ n. o (suc n)) (all ++ symbol s.Close ∷ []) (record { head = h; terms = ts; spats = ps }) rest (all, refl, arguments) tt in
      (d.0, rw seen d.1)

  pub t_proof_term : (lemmas : Bool) → CompleteTree (ProofTermOf stop preds names lemmas) Any (proof_term stop preds names lemmas)
  t_proof_term lemmas = record { ok = λ o ys v rest is e. proof_read lemmas ys v is.0 is.1 o rest }
