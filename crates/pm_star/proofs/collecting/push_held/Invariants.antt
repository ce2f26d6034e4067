use Rattle.pm_goal.specs.Left.{of_kind}
use Rattle.pm_star.proofs.Pushes.{IsPushed}
use Rattle.pm_star.proofs.collecting.push_held.Given as goal

abbrev pub invariant-loop-held : goal.invariant-loop-held
invariant-loop-held l = IsPushed (λ h. of_kind h.kind h.formula) l.list l.held-index l.initial.out l.out
