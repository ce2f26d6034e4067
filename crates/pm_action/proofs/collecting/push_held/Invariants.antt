use Rattle.pm_star.proofs.Pushes.{IsPushed}
use Rattle.pm_action.proofs.collecting.push_held.Given as goal

abbrev pub invariant-loop-held : goal.invariant-loop-held
invariant-loop-held l = IsPushed (λ h. h.formula) l.list l.held-index l.initial.out l.out
