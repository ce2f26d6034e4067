-- What is read at a symbol, by what the symbol opens.
use Rattle.std.proofs.Common.{◌≡◌, ℕ, true, false, List, ◌∷◌, refl}
use Rattle.pm_tokens.specs.declared.symbol.Symbol.{Symbol}
use Rattle.pm_tokens.specs.declared.symbol.Symbol.TheVariants as s
use Rattle.pm_tokens.specs.Tokens.{symbol, Place, place}
use Rattle.pm_terms.specs.declared.fault.TextFault.TheVariants.{Deep}
use Rattle.pm_terms.specs.Scope.{Names, Callables}
use Rattle.pm_terms.specs.TermReading.{deep_term}
use Rattle.pm_text.specs.FormulaReading.{Formulas, deep_operand, prefix_at}
use Rattle.pm_text.specs.Parts.{opening_of, opened, under, is_formula_only}

pub opened_symbol : (stop : ℕ) (preds : Callables) (self : Formulas) (room : ℕ) (names : Names) (r : Symbol) (at : ℕ) (ts : List Place)
    → prefix_at stop preds self room names (place (symbol r) at ∷ ts) ≡ opened stop preds self room names (opening_of r) (place (symbol r) at ∷ ts)
unfolding prefix_at opened under
opened_symbol stop preds self room names s.Later at ts = refl
opened_symbol stop preds self room names s.Persistently at ts = refl
opened_symbol stop preds self room names s.Update at ts = refl
opened_symbol stop preds self room names s.Forall at ts = refl
opened_symbol stop preds self room names s.Exists at ts = refl
opened_symbol stop preds self room names s.Open at ts = refl
opened_symbol stop preds self room names s.OpenPure at ts = refl
opened_symbol stop preds self room names s.Emp at ts = refl
opened_symbol stop preds self room names s.True at ts = refl
opened_symbol stop preds self room names s.False at ts = refl
opened_symbol stop preds self room names r at ts = refl

pub deep_only : (stop : ℕ) (preds : Callables) (names : Names) (r : Symbol) (at : ℕ) (ts : List Place) → is_formula_only (opening_of r) ≡ true
    → deep_operand stop preds names (place (symbol r) at ∷ ts) ≡ Deep at
unfolding deep_operand
deep_only stop preds names s.Later at ts h = refl
deep_only stop preds names s.Persistently at ts h = refl
deep_only stop preds names s.Update at ts h = refl
deep_only stop preds names s.Forall at ts h = refl
deep_only stop preds names s.Exists at ts h = refl
deep_only stop preds names s.OpenPure at ts h = refl
deep_only stop preds names s.Emp at ts h = refl
deep_only stop preds names s.True at ts h = refl
deep_only stop preds names s.False at ts h = refl
deep_only stop preds names r at ts h = cc

pub deep_location : (stop : ℕ) (preds : Callables) (names : Names) (r : Symbol) (at : ℕ) (ts : List Place) → is_formula_only (opening_of r) ≡ false
    → deep_operand stop preds names (place (symbol r) at ∷ ts) ≡ deep_term stop names (place (symbol r) at ∷ ts)
unfolding deep_operand
deep_location stop preds names s.Later at ts h = cc
deep_location stop preds names s.Persistently at ts h = cc
deep_location stop preds names s.Update at ts h = cc
deep_location stop preds names s.Forall at ts h = cc
deep_location stop preds names s.Exists at ts h = cc
deep_location stop preds names s.OpenPure at ts h = cc
deep_location stop preds names s.Emp at ts h = cc
deep_location stop preds names s.True at ts h = cc
deep_location stop preds names s.False at ts h = cc
deep_location stop preds names r at ts h = refl
