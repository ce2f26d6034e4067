-- Whole texts that the grammar derives are read, and no text is derived for two trees.
use Rattle.std.proofs.Common.{◌≡◌, ◌⊎◌, inl, inr, ℕ, suc, ◌<◌, ◌≤◌, Bool, true, false, cond, leb, le-leb, List, [], ◌++◌, Result, Ok, Err, refl, sym, ap, subst, ◌∙◌, append-nil, arith}
use Rattle.std.proofs.lemmas.Bool.Decides.{Decides-eqb}
use Rattle.pm_logic.specs.declared.limits.TheConstants.{MAX_LEVELS}
use Rattle.pm_logic.specs.declared.formula.Term.{Term}
use Rattle.pm_logic.specs.declared.formula.Pure.{Pure}
use Rattle.pm_logic.specs.declared.formula.Formula.{Formula}
use Rattle.pm_logic.specs.Size.{term_depth, pure_depth, depth_of}
use Rattle.pm_tokens.specs.Tokens.{Token, Place}
use Rattle.pm_terms.specs.declared.fault.TextFault.{TextFault}
use Rattle.pm_terms.specs.declared.fault.TextFault.TheVariants.{Deep}
use Rattle.pm_terms.specs.declared.level.PureLevel.TheVariants.{Ors}
use Rattle.pm_text.specs.declared.level.Level.TheVariants.{Wands}
use Rattle.pm_terms.specs.Scope.{Names, Callables}
use Rattle.pm_terms.specs.Steps.{Read, sees, offset, all_of, shallow}
use Rattle.pm_terms.specs.TermReading.{operand_in, sum_in}
use Rattle.pm_terms.specs.PureReading.{next_comparison, pure_in}
use Rattle.pm_text.specs.FormulaReading.{formula_in, term_of, pure_of, formula_of}
use Rattle.pm_grammar.specs.TermGrammar.{IsTerm, sum}
use Rattle.pm_grammar.specs.PureGrammar.{IsPure}
use Rattle.pm_grammar.specs.FormulaGrammar.{End, closed, body, IsFormula}
use Rattle.pm_grammar.specs.Openings.{openings}
use Rattle.pm_grammar.specs.ReadingLaws.{tokens_at, IsDeep, ReadingIsComplete, ShallowIsRead, GrammarIsUnambiguous}
use Rattle.pm_grammar.specs.Parts.{TermEnds, PureEnds, FormulaEnds, reach, IsReadAs, PartsAreRead}
use Rattle.pm_grammar.proofs.Steps.{put, placed, Again, done, ok_is}
use Rattle.pm_grammar.proofs.TermsRead.{sum_read, operand_read}
use Rattle.pm_grammar.proofs.PuresRead.{pure_read}
use Rattle.pm_grammar.proofs.FormulasRead.{formula_read}

-- ---- whole texts

module _ {A : Type 0} (depth : A → ℕ) (end at : ℕ) (read : Read A) (a : A) where
  abbrev whole : Result A TextFault
  whole = shallow depth at (all_of end end read)

  all_read : read ≡ Ok (a, []) → all_of end end read ≡ Ok a
  unfolding all_of
  all_read found = rw (found, (Decides-eqb end end).1 refl) refl

  whole_read : read ≡ Ok (a, []) → depth a ≤ MAX_LEVELS → whole ≡ Ok a
  unfolding shallow
  whole_read found le = rw (all_read found, le-leb (depth a) MAX_LEVELS le) refl

  whole_again : {P : Type 0} → Again P read (a, []) → (whole ≡ Ok a) ⊎ IsDeep whole
  unfolding shallow all_of
  whole_again (inl found) = rw (all_read found) (go (leb (depth a) MAX_LEVELS))
    where
      go : (b : Bool) → (cond b (done a) (Err (Deep at)) ≡ Ok a) ⊎ IsDeep (cond b (done a) (Err (Deep at)))
      go true = inl refl
      go false = inr (at, refl)
  whole_again (inr deep) = inr (deep.0.0, rw deep.0.1 refl)

-- there is room enough
surely : {A : Type 0} (room n : ℕ) (read : Result A TextFault) (x : A) → n < room → Again (room ≤ n) read x → read ≡ Ok x
surely room n read x lt (inl found) = found
surely room n read x lt (inr deep) = let le = deep.1 in absurd (omega (arith, lt, le))

one : {A : Type 0} (read : Read A) (a b : A) → read ≡ Ok (a, []) → read ≡ Ok (b, []) → a ≡ b
one read a b f g = ap (λ x. x.0) (ok_is (a, []) (b, []) (sym f ∙ g))

-- ---- what the end is

term_end : TermEnds []
unfolding sees
term_end = record { no_plus = refl; no_minus = refl; no_times = refl }

pure_end : PureEnds Ors []
unfolding sees next_comparison
pure_end = record { no_term = term_end; no_comparison = refl; no_infix = (refl, refl) }

formula_end : (e : End) → FormulaEnds (reach e Wands) []
unfolding sees
formula_end closed = record { no_location = refl; no_infix = (refl, refl, refl) }
formula_end body = record { no_location = refl; no_infix = (refl, refl, refl) }

-- ---- at the tokens of a text

-- from tokens that are put at offsets to a list that has them there
moved : {A : Type 0} (room : ℕ) (reader : List Place → Read A) (ts rest : List Place) (a : A) → ((o : ℕ → ℕ) → IsReadAs room (tokens_at ts) (reader (put o (tokens_at ts) ++ rest)) (a, rest)) → IsReadAs room (tokens_at ts) (reader (ts ++ rest)) (a, rest)
moved room reader ts rest a h = let p = placed ts in subst (λ (us : List Place). IsReadAs room (tokens_at ts) (reader (us ++ rest)) (a, rest)) p.1 (h p.0)

-- where nothing follows
alone : {A : Type 0} (room : ℕ) (reader : List Place → Read A) (ts : List Place) (a : A) → IsReadAs room (tokens_at ts) (reader (ts ++ [])) (a, []) → IsReadAs room (tokens_at ts) (reader ts) (a, [])
alone room reader ts a h = subst (λ (us : List Place). IsReadAs room (tokens_at ts) (reader us) (a, [])) (append-nil ts) h

pub parts : PartsAreRead
parts = record {
  terms = λ stop room names ts rest a is ends. moved room (sum_in stop names room) ts rest a (λ o. sum_read stop names (tokens_at ts) a is room o rest ends);
  operands = λ stop room names ts rest a is. moved room (operand_in stop names room) ts rest a (λ o. operand_read stop names (tokens_at ts) a is room o rest);
  pures = λ stop room names l ts rest p is ends. moved room (pure_in stop names room l) ts rest p (λ o. pure_read stop names l (tokens_at ts) p is room o rest ends);
  formulas = λ stop room preds names l e ts rest f is ends. moved room (formula_in stop preds room l names) ts rest f (λ o. formula_read stop preds names l e (tokens_at ts) f is room o rest ends);
}

module _ (stop room : ℕ) where
  term_again : (names : Names) (ts : List Place) (a : Term) → IsTerm names sum (tokens_at ts) a → IsReadAs room (tokens_at ts) (sum_in stop names room ts) (a, [])
  term_again names ts a is = alone room (sum_in stop names room) ts a (parts.terms stop room names ts [] a is term_end)

  pure_again : (names : Names) (ts : List Place) (p : Pure) → IsPure names Ors (tokens_at ts) p → IsReadAs room (tokens_at ts) (pure_in stop names room Ors ts) (p, [])
  pure_again names ts p is = alone room (pure_in stop names room Ors) ts p (parts.pures stop room names Ors ts [] p is pure_end)

  formula_again : (preds : Callables) (names : Names) (ts : List Place) (e : End) (f : Formula) → IsFormula preds names Wands e (tokens_at ts) f → IsReadAs room (tokens_at ts) (formula_in stop preds room Wands names ts) (f, [])
  formula_again preds names ts e f is = alone room (formula_in stop preds room Wands names) ts f (parts.formulas stop room preds names Wands e ts [] f is (formula_end e))

-- ---- the laws

pub complete : ReadingIsComplete
unfolding term_of pure_of formula_of
complete = record {
  terms = λ names end ts a is. whole_again term_depth end (offset end ts) (sum_in end names MAX_LEVELS ts) a (term_again end MAX_LEVELS names ts a is);
  pures = λ names end ts a is. whole_again pure_depth end (offset end ts) (pure_in end names MAX_LEVELS Ors ts) a (pure_again end MAX_LEVELS names ts a is);
  formulas = λ preds names end ts e a is. whole_again depth_of end (offset end ts) (formula_in end preds MAX_LEVELS Wands names ts) a (formula_again end MAX_LEVELS preds names ts e a is);
}

pub shallow_is_read : ShallowIsRead
unfolding term_of pure_of formula_of
shallow_is_read = record {
  terms = λ names end ts a is few low. whole_read term_depth end (offset end ts) (sum_in end names MAX_LEVELS ts) a (surely MAX_LEVELS (openings (tokens_at ts)) (sum_in end names MAX_LEVELS ts) (a, []) (omega (arith, few)) (term_again end MAX_LEVELS names ts a is)) low;
  pures = λ names end ts a is few low. whole_read pure_depth end (offset end ts) (pure_in end names MAX_LEVELS Ors ts) a (surely MAX_LEVELS (openings (tokens_at ts)) (pure_in end names MAX_LEVELS Ors ts) (a, []) (omega (arith, few)) (pure_again end MAX_LEVELS names ts a is)) low;
  formulas = λ preds names end ts e a is few low. whole_read depth_of end (offset end ts) (formula_in end preds MAX_LEVELS Wands names ts) a (surely MAX_LEVELS (openings (tokens_at ts)) (formula_in end preds MAX_LEVELS Wands names ts) (a, []) (omega (arith, few)) (formula_again end MAX_LEVELS preds names ts e a is)) low;
}

-- ---- one tree

abbrev offsets : ℕ → ℕ
offsets n = 0

term_found : (names : Names) (xs : List Token) (a : Term) → IsTerm names sum xs a → sum_in 0 names (suc (openings xs)) (put offsets xs ++ []) ≡ Ok (a, [])
term_found names xs a is = surely (suc (openings xs)) (openings xs) _ (a, []) (omega arith) (sum_read 0 names xs a is (suc (openings xs)) offsets [] term_end)

pure_found : (names : Names) (xs : List Token) (a : Pure) → IsPure names Ors xs a → pure_in 0 names (suc (openings xs)) Ors (put offsets xs ++ []) ≡ Ok (a, [])
pure_found names xs a is = surely (suc (openings xs)) (openings xs) _ (a, []) (omega arith) (pure_read 0 names Ors xs a is (suc (openings xs)) offsets [] pure_end)

formula_found : (preds : Callables) (names : Names) (xs : List Token) (e : End) (a : Formula) → IsFormula preds names Wands e xs a → formula_in 0 preds (suc (openings xs)) Wands names (put offsets xs ++ []) ≡ Ok (a, [])
formula_found preds names xs e a is = surely (suc (openings xs)) (openings xs) _ (a, []) (omega arith) (formula_read 0 preds names Wands e xs a is (suc (openings xs)) offsets [] (formula_end e))

pub unambiguous : GrammarIsUnambiguous
unambiguous = record {
  terms = λ names xs a b h k. one _ a b (term_found names xs a h) (term_found names xs b k);
  pures = λ names xs a b h k. one _ a b (pure_found names xs a h) (pure_found names xs b k);
  formulas = λ preds names xs d e a b h k. one _ a b (formula_found preds names xs d a h) (formula_found preds names xs e b k);
}
