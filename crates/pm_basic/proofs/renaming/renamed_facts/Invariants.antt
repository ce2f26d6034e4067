use Rattle.std.proofs.Common.{◌-◌, [], ◌∷◌}
use Rattle.pm_goal.specs.declared.goal.Fact.{Fact}
use Rattle.pm_basic.specs.Renamings.{renamed_fact}
use Rattle.pm_basic.proofs.Building.{IsBuilt}
use Rattle.pm_basic.proofs.renaming.renamed_facts.Given as goal

abbrev pub invariant-loop-next : goal.invariant-loop-next
invariant-loop-next l = IsBuilt (λ (x : Fact). renamed_fact l.old l.new x ∷ []) l.facts l.next l.out

abbrev pub decreases-loop-next : goal.decreases-loop-next
decreases-loop-next l = l.len - l.next
