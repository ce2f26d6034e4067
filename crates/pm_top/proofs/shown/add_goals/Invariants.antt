use Rattle.std.proofs.Common.{◌≡◌, ◌++◌, take}
use Rattle.pm_top.specs.Shown.{numbered_goals}
use Rattle.pm_top.proofs.shown.add_goals.Given as goal

abbrev pub invariant-loop-i : goal.invariant-loop-i
invariant-loop-i l = l.text ≡ l.fn.text ++ numbered_goals l.preds.list 1 (take l.i l.goals)
