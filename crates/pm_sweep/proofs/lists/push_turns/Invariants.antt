use Rattle.pm_sweep.proofs.Appended.{IsAppended}
use Rattle.pm_sweep.proofs.lists.push_turns.Given as goal

abbrev pub invariant-loop-turn : goal.invariant-loop-turn
invariant-loop-turn l = IsAppended l.turns l.turn-index l.initial.out l.out
