-- What lines contain, and when a line follows from the lines before it.
use Rattle.std.specs.Prelude.{◌≡◌, ℕ, zero, suc, List, [], ◌∷◌, ◌++◌, slice_get, Option, Some, None, Bool, true, false}
use Rattle.std.specs.List.{list_any}
use Rattle.std.specs.Option.{option_map, option_to_list}
use Rattle.std.specs.Str.{bytes_eq}
use Rattle.pm_logic.specs.declared.formula.Formula.TheVariants.{Pure as Fact}
use Rattle.pm_logic.specs.declared.formula.Pure.TheVariants.{True}
use Rattle.pm_logic.specs.declared.formula.Preds.{Preds}
use Rattle.pm_rules.specs.declared.rules.Rule.{Rule}
use Rattle.pm_rules.specs.declared.rules.Entail.{Entail}
use Rattle.pm_rules.specs.declared.rules.Unmet.{Unmet}
use Rattle.pm_rules.specs.Rules.{premises, RuleOk, rule_number, FirstUnmet, condition_number}
use Rattle.pm_dtext.specs.declared.line.Line.{Line}
use Rattle.pm_dtext.specs.declared.line.Line.TheVariants.{Step, Qed}
use Rattle.pm_check.specs.declared.checked.Statement.{Statement}
use Rattle.pm_check.specs.declared.fault.QedCondition.{QedCondition}
use Rattle.pm_check.specs.declared.fault.QedCondition.TheVariants.{Variables, LeftSide, Name}
use Rattle.pm_check.specs.declared.fault.Failed.{Failed}
use Rattle.pm_check.specs.declared.fault.Failed.TheVariants as failed

-- ---- what lines contain

-- the proof lines, in order
abbrev pub steps : List Line → List Entail
steps [] = []
steps (Step rule first second e ∷ ls) = e ∷ steps ls
steps (Qed name cited ∷ ls) = steps ls

-- the names of the statements, in order
abbrev pub names : List Line → List (List ℕ)
names [] = []
names (Step rule first second e ∷ ls) = names ls
names (Qed name cited ∷ ls) = name ∷ names ls

-- the proof line of a number, counted from 1
abbrev pub proof_line : List Entail → ℕ → Option Entail
proof_line es zero = None
proof_line es (suc k) = slice_get es k

-- the premise that a citation gives
abbrev pub cited : List Entail → Option ℕ → Option Entail
cited es None = None
cited es (Some n) = proof_line es n

-- under a name, the right side of a proof line
abbrev pub statement : List ℕ → Entail → Statement
statement name e = record { name = name; formula = e.right }

-- what lines state, in order, behind these proof lines
abbrev pub statements_behind : List Entail → List Line → List Statement
statements_behind es [] = []
statements_behind es (Step rule first second e ∷ ls) = statements_behind (es ++ e ∷ []) ls
statements_behind es (Qed name n ∷ ls) = option_to_list (option_map (statement name) (proof_line es n)) ++ statements_behind es ls

-- ---- when a line follows

-- the rule leads from the cited proof lines to the entailment
abbrev pub StepFollows : Preds → List Entail → Rule → Option ℕ → Option ℕ → Entail → Type 0
StepFollows preds es rule first second e = RuleOk preds rule (premises (cited es first) (cited es second)) e

abbrev pub is_used : List (List ℕ) → List ℕ → Bool
is_used used name = list_any (λ n. bytes_eq name n) used

-- the cited proof line has no variables, its left side is truth, and the name is new
pub record QedFollows (es : List Entail) (used : List (List ℕ)) (name : List ℕ) (n : ℕ) : Type 0 where
  pub line : Entail
  pub there : proof_line es n ≡ Some line
  pub closed : line.vars ≡ 0
  pub left : line.left ≡ Fact True
  pub new : is_used used name ≡ false

-- the line follows from these proof lines and names before it
abbrev pub LineFollows : Preds → List Entail → List (List ℕ) → Line → Type 0
LineFollows preds es used (Step rule first second e) = StepFollows preds es rule first second e
LineFollows preds es used (Qed name n) = QedFollows es used name n

-- ---- why a line doesn't follow

-- the number of the rule, and the first of its conditions that fails
pub record StepFails (preds : Preds) (es : List Entail) (rule : Rule) (first second : Option ℕ) (e : Entail) (unmet : Unmet) : Type 0 where
  pub rule_is : unmet.rule ≡ rule_number rule
  pub fails : FirstUnmet preds rule (premises (cited es first) (cited es second)) e unmet.condition

-- of a `qed` whose cited proof line is this: the condition fails, and those before it hold
abbrev pub FirstUnmetByQed : Entail → List (List ℕ) → List ℕ → QedCondition → Type 0
FirstUnmetByQed e used name Variables = ¬ (e.vars ≡ 0)
FirstUnmetByQed e used name LeftSide = (e.vars ≡ 0) × ¬ (e.left ≡ Fact True)
FirstUnmetByQed e used name Name = (e.vars ≡ 0) × (e.left ≡ Fact True) × (is_used used name ≡ true)

pub record QedFails (es : List Entail) (used : List (List ℕ)) (name : List ℕ) (n : ℕ) (condition : QedCondition) : Type 0 where
  pub line : Entail
  pub there : proof_line es n ≡ Some line
  pub fails : FirstUnmetByQed line used name condition

-- ---- the numbers that are printed

abbrev pub qed_condition_number : QedCondition → ℕ
qed_condition_number Variables = 1
qed_condition_number LeftSide = 2
qed_condition_number Name = 3

abbrev pub failed_rule : Failed → ℕ
failed_rule (failed.Step unmet) = unmet.rule
failed_rule (failed.Qed condition) = 68

abbrev pub failed_condition : Failed → ℕ
failed_condition (failed.Step unmet) = condition_number unmet.condition
failed_condition (failed.Qed condition) = qed_condition_number condition
