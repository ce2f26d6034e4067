-- What is in its ranges fits the rules.
use Rattle.std.proofs.Common.{ℕ, ◌≤◌, arith}
use Rattle.pm_logic.specs.declared.formula.Formula.{Formula}
use Rattle.pm_logic.specs.declared.formula.Preds.{Preds}
use Rattle.pm_rules.specs.Rules.{IsFit}
use Rattle.pm_dtext.specs.Ranges.{FormulaFits}
use Rattle.pm_dtext.specs.Texts.{arities_of}
use Rattle.pm_dtext.proofs.Scopes.{is_scoped}

pub is_fit : (preds : Preds) (k : ℕ) (f : Formula) → k ≤ 1001 → FormulaFits (arities_of preds.list) k f → IsFit preds k f
is_fit preds k f small h = record { scoped = is_scoped preds k f h.in_range; within = let d = h.levels in omega arith }
