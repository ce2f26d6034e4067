-- What `goals` writes: the goals of a script's last state, and the line of what stopped the run.
use Rattle.std.specs.Prelude.{◌≡◌, ℕ, ◌+◌, List, [], ◌∷◌, ◌++◌, length, codes, All, Option, Some, None}
use Rattle.std.specs.Fmt.{decimal}
use Rattle.pm_logic.specs.declared.formula.Pred.{Pred}
use Rattle.pm_goal.specs.declared.goal.Goal.{Goal}
use Rattle.pm_display.specs.Goals.{shown_goal, IsShallow}
use Rattle.pm_run.specs.declared.stop.Stop.{Stop}
use Rattle.pm_run.specs.declared.stop.Stop.TheVariants as stop
use Rattle.pm_run.specs.Runs.{State}
use Rattle.pm_run.specs.Halting.{Halts, goals_of}
use Rattle.pm_top.specs.Printed.{line_feed}
use Rattle.pm_top.specs.RunTexts.{refusal_line, fault_line}
use Rattle.pm_top.specs.declared.status.Status.{Status}
use Rattle.pm_top.specs.declared.status.Status.TheVariants as status

-- ---- goals

-- the line before the goal of this number
abbrev pub goal_head : ℕ → List ℕ
goal_head k = codes "goal " ++ (decimal k ++ (codes ":" ++ line_feed))

abbrev pub numbered_goal : List Pred → ℕ → Goal → List ℕ
numbered_goal preds k goal = goal_head k ++ shown_goal preds goal

-- goals, of which the first has this number
unfoldable pub numbered_goals : List Pred → ℕ → List Goal → List ℕ
numbered_goals preds k [] = []
numbered_goals preds k (goal ∷ goals) = numbered_goal preds k goal ++ numbered_goals preds (k + 1) goals

abbrev pub count_line : ℕ → List ℕ
count_line n = codes "goals: " ++ (decimal n ++ line_feed)

-- the goals that are left, where a proof is open
abbrev pub proof_text : List Pred → Option (List Goal) → List ℕ
proof_text preds None = codes "no proof" ++ line_feed
proof_text preds (Some goals) = count_line (length goals) ++ numbered_goals preds 1 goals

-- ---- what stopped the run

abbrev pub stop_line : Option Stop → List ℕ
stop_line None = []
stop_line (Some (stop.Refused number offset refusal)) = refusal_line number offset refusal
stop_line (Some (stop.Unreadable fault)) = fault_line fault

abbrev pub stop_status : Option Stop → Status
stop_status None = status.Done
stop_status (Some (stop.Refused number offset refusal)) = status.Refused
stop_status (Some (stop.Unreadable fault)) = status.Unreadable

-- ---- both

abbrev pub halt_text : State → Option Stop → List ℕ
halt_text last by = proof_text last.preds (goals_of last.proof) ++ stop_line by

-- what `goals` answers to an input, and what it writes for it
pub record Shows (bytes : List ℕ) (s : Status) (text : List ℕ) : Type 0 where
  pub last : State
  pub by : Option Stop
  pub halts : Halts bytes last by
  pub status_is : s ≡ stop_status by
  pub text_is : text ≡ halt_text last by

-- ---- what can be printed

abbrev pub EachShallow : Option (List Goal) → Type 0
EachShallow None = Unit {0}
EachShallow (Some goals) = All IsShallow goals
