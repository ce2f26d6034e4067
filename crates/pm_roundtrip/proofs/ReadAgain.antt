-- What is printed is read again.
use Rattle.std.proofs.Common.{◌≡◌, inl, inr, ℕ, ◌+◌, ◌<◌, List, length, Result, Ok, sym, ap, subst}
use Rattle.pm_logic.specs.declared.limits.TheConstants.{MAX_LEVELS}
use Rattle.pm_tokens.specs.Tokens.{Token, Place}
use Rattle.pm_tokens.specs.Texts.{tokens}
use Rattle.pm_terms.specs.declared.fault.TextFault.{TextFault}
use Rattle.pm_terms.specs.Scope.{callables}
use Rattle.pm_terms.specs.Steps.{counted_from, moved}
use Rattle.pm_terms.specs.declared.level.PureLevel.TheVariants.{Ors}
use Rattle.pm_text.specs.declared.level.Level.TheVariants.{Wands}
use Rattle.pm_text.specs.FormulaReading.{term_of, pure_of, formula_of}
use Rattle.pm_text.specs.TextReading.{read_term, read_pure, read_formula}
use Rattle.pm_grammar.specs.TermGrammar.{IsTerm, sum}
use Rattle.pm_grammar.specs.PureGrammar.{IsPure}
use Rattle.pm_grammar.specs.FormulaGrammar.{IsFormula}
use Rattle.pm_grammar.specs.Openings.{openings}
use Rattle.pm_grammar.specs.ReadingLaws.{tokens_at}
use Rattle.pm_grammar.proofs.Complete.{complete, shallow_is_read}
use Rattle.pm_print.specs.Printing.{Piece, term_pieces, pure_pieces, formula_pieces, text_of, tokens_of}
use Rattle.pm_roundtrip.specs.PrintingLaws.{IsLexed, IsReadAgain, PrintedIsRead, ShallowPrintedIsRead}
use Rattle.pm_roundtrip.proofs.Printed.{printing_is_lexed}
use Rattle.pm_roundtrip.proofs.FormulasDerived.{printing_is_derived}

-- offsets are counted from the text's first byte
counted : {A : Type 0} (base : ℕ) (x : A) (read : Result A TextFault) → IsReadAgain x read → IsReadAgain x (counted_from base read)
unfolding moved
counted base x read (inl e) = inl (ap (counted_from base) e)
counted base x read (inr deep) = inr (base + deep.0, ap (counted_from base) deep.1)

-- as the tokens that the grammar derives are read, so is the text
module _ {A : Type 0} (Derived : List Token → Type 0) (ps : List Piece) (lexed : IsLexed ps) (derived : Derived (tokens_of ps)) (reader : ℕ → ℕ → List Place → Result A TextFault) where
  read_at : (Q : Result A TextFault → Type 0) → ((end : ℕ) (ts : List Place) → tokens_at ts ≡ tokens_of ps → Derived (tokens_at ts) → Q (reader end end ts)) → Q (reader (length (text_of ps)) (tokens (text_of ps)).1 (tokens (text_of ps)).0)
  read_at Q h =
      let end = length (text_of ps) in
      let found = tokens (text_of ps) in
      subst (λ stop. Q (reader end stop found.0)) (sym lexed.end) (h end found.0 lexed.same (subst Derived (sym lexed.same) derived))

pub printed_is_read : PrintedIsRead
unfolding read_term read_pure read_formula
printed_is_read = record {
  terms = λ base names a w r. counted base a _
      (read_at (λ xs. IsTerm names sum xs a) (term_pieces 0 names a) (printing_is_lexed.terms names a w r) (printing_is_derived.terms names a w r) (λ end stop ts. term_of names end stop ts)
      (λ read. IsReadAgain a read) (λ end ts same d. complete.terms names end ts a d));
  pures = λ base names p w r. counted base p _
      (read_at (λ xs. IsPure names Ors xs p) (pure_pieces 0 names p) (printing_is_lexed.pures names p w r) (printing_is_derived.pures names p w r) (λ end stop ts. pure_of names end stop ts)
      (λ read. IsReadAgain p read) (λ end ts same d. complete.pures names end ts p d));
  formulas = λ base preds names f h.
      let derived = printing_is_derived.formulas preds names f h in
      counted base f _
      (read_at (λ xs. IsFormula (callables 0 preds) names Wands derived.0 xs f) (formula_pieces preds 0 names f) (printing_is_lexed.formulas preds names f h) derived.1 (λ end stop ts. formula_of (callables 0 preds) names end stop ts)
      (λ read. IsReadAgain f read) (λ end ts same d. complete.formulas (callables 0 preds) names end ts derived.0 f d));
}

pub shallow_printed_is_read : ShallowPrintedIsRead
unfolding read_term read_pure read_formula
shallow_printed_is_read = record {
  terms = λ base names a w r few levels. ap (λ read. counted_from base read)
      (read_at (λ xs. IsTerm names sum xs a) (term_pieces 0 names a) (printing_is_lexed.terms names a w r) (printing_is_derived.terms names a w r) (λ end stop ts. term_of names end stop ts)
      (λ read. read ≡ Ok a) (λ end ts same d. shallow_is_read.terms names end ts a d (subst (λ xs. openings xs < MAX_LEVELS) (sym same) few) levels));
  pures = λ base names p w r few levels. ap (λ read. counted_from base read)
      (read_at (λ xs. IsPure names Ors xs p) (pure_pieces 0 names p) (printing_is_lexed.pures names p w r) (printing_is_derived.pures names p w r) (λ end stop ts. pure_of names end stop ts)
      (λ read. read ≡ Ok p) (λ end ts same d. shallow_is_read.pures names end ts p d (subst (λ xs. openings xs < MAX_LEVELS) (sym same) few) levels));
  formulas = λ base preds names f h few levels.
      let derived = printing_is_derived.formulas preds names f h in
      ap (λ read. counted_from base read)
      (read_at (λ xs. IsFormula (callables 0 preds) names Wands derived.0 xs f) (formula_pieces preds 0 names f) (printing_is_lexed.formulas preds names f h) derived.1 (λ end stop ts. formula_of (callables 0 preds) names end stop ts)
      (λ read. read ≡ Ok f) (λ end ts same d. shallow_is_read.formulas (callables 0 preds) names end ts derived.0 f d (subst (λ xs. openings xs < MAX_LEVELS) (sym same) few) levels));
}
