use Rattle.std.proofs.Common.{◌-◌, [], ◌∷◌}
use Rattle.pm_goal.specs.declared.goal.Hyp.{Hyp}
use Rattle.pm_basic.specs.Renamings.{renamed_hyp}
use Rattle.pm_basic.proofs.Building.{IsBuilt}
use Rattle.pm_basic.proofs.renaming.renamed_hyps.Given as goal

abbrev pub invariant-loop-next : goal.invariant-loop-next
invariant-loop-next l = IsBuilt (λ (x : Hyp). renamed_hyp l.old l.new x ∷ []) l.hyps l.next l.out

abbrev pub decreases-loop-next : goal.decreases-loop-next
decreases-loop-next l = l.len - l.next
