-- The table at the head of a derivation text.
use Rattle.std.specs.Prelude.{ℕ, List, [], ◌∷◌}
use Rattle.pm_logic.specs.declared.formula.Pred.{Pred}
use Rattle.pm_logic.specs.Guard.{IsGuarded}
use Rattle.pm_dtext.specs.Spelling.{header_text, arities_text, pred_text}
use Rattle.pm_dtext.specs.Ranges.{AritiesFit, PredFits}
use Rattle.pm_dtext.specs.Texts.{names_of}
use Rattle.pm_check.specs.Fronts.{EachBehind}

abbrev pub preds_text : List Pred → List ℕ → List ℕ
preds_text [] rest = rest
preds_text (q ∷ preds) rest = pred_text q (preds_text preds rest)

-- the first line, the arities, and these predicates
abbrev pub table_text : List ℕ → List Pred → List ℕ → List ℕ
table_text arities preds rest = header_text (arities_text arities (preds_text preds rest))

-- these predicates begin a table of these arities: each is in its ranges, with a name that none before it has, and is guarded
pub record BeginsTable (arities : List ℕ) (preds : List Pred) : Type 0 where
  pub fit : AritiesFit arities
  pub each : EachBehind (λ before q. PredFits arities (names_of before) q) preds
  pub guarded : IsGuarded preds
