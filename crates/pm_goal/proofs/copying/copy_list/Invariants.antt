use Rattle.std.proofs.Common.{◌≡◌, take}
use Rattle.pm_goal.proofs.copying.copy_list.Given as goal

abbrev pub invariant-loop-item : goal.invariant-loop-item
invariant-loop-item g l = l.out ≡ take l.item-index l.list
