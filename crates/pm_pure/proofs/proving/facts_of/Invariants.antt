use Rattle.std.proofs.Common.{◌-◌, []}
use Rattle.pm_logic.specs.declared.formula.Formula.TheVariants.{Pure as Assert}
use Rattle.pm_star.proofs.Pushes.{IsPushed}
use Rattle.pm_pure.proofs.proving.facts_of.Given as goal

abbrev pub invariant-loop-next : goal.invariant-loop-next
invariant-loop-next l = IsPushed (λ f. Assert f.pure) l.list l.next [] l.out

abbrev pub decreases-loop-next : goal.decreases-loop-next
decreases-loop-next l = l.len - l.next
