-- Reading of texts, whose first byte is at the offset base.
use Rattle.std.specs.Prelude.{ℕ, List, length, Result}
use Rattle.pm_logic.specs.declared.formula.Term.{Term}
use Rattle.pm_logic.specs.declared.formula.Pure.{Pure}
use Rattle.pm_logic.specs.declared.formula.Formula.{Formula}
use Rattle.pm_logic.specs.declared.formula.Pred.{Pred}
use Rattle.pm_tokens.specs.Texts.{tokens}
use Rattle.pm_terms.specs.declared.fault.TextFault.{TextFault}
use Rattle.pm_terms.specs.Scope.{Names, callables}
use Rattle.pm_terms.specs.Steps.{counted_from}
use Rattle.pm_text.specs.FormulaReading.{term_of, pure_of, formula_of}

unfoldable pub read_term : (base : ℕ) → Names → List ℕ → Result Term TextFault
read_term base names text = let found = tokens text in counted_from base (term_of names (length text) found.1 found.0)

unfoldable pub read_pure : (base : ℕ) → Names → List ℕ → Result Pure TextFault
read_pure base names text = let found = tokens text in counted_from base (pure_of names (length text) found.1 found.0)

unfoldable pub read_formula : (base : ℕ) → List Pred → Names → List ℕ → Result Formula TextFault
read_formula base preds names text = let found = tokens text in counted_from base (formula_of (callables 0 preds) names (length text) found.1 found.0)
