use Rattle.std.proofs.Common.{◌-◌}
use Rattle.pm_goal.specs.declared.goal.Fact.{Fact}
use Rattle.pm_directives.proofs.Named.{IsNamed}
use Rattle.pm_directives.proofs.groups.push_fact_names.Given as goal

abbrev pub invariant-loop-next : goal.invariant-loop-next
invariant-loop-next l = IsNamed (λ (f : Fact). f.name) l.facts l.next l.initial.out l.out

abbrev pub decreases-loop-next : goal.decreases-loop-next
decreases-loop-next l = l.len - l.next
