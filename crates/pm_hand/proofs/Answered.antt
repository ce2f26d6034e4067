-- What an action answers where it refuses or wants memory.
use Rattle.std.proofs.Common.{◌≡◌, ℕ}
use Rattle.std.specs.Prelude.{Err}
use Rattle.pm_goal.specs.declared.work.Work.{Work}
use Rattle.pm_goal.specs.declared.refusal.Row.{Row}
use Rattle.pm_goal.specs.declared.refusal.StepFault.{StepFault}
use Rattle.pm_goal.specs.declared.refusal.StepFault.TheVariants as fault
use Rattle.pm_table.specs.Outcomes.{Outcome, gives, refused, refuse}
use Rattle.pm_table.specs.Works.{Named}
use Rattle.pm_action.specs.Acting.{Answers, Refuses}

pub wants_memory : (s : ℕ) (w : Work) (o : Outcome) (f : StepFault) → f ≡ fault.Memory → Answers s w o (Err f)
wants_memory s w (gives ps) fault.Memory e = tt
wants_memory s w (gives ps) (fault.Refused x) e = absurd cc
wants_memory s w (refused r) fault.Memory e = tt
wants_memory s w (refused r) (fault.Refused x) e = absurd cc

pub refuses : (s : ℕ) (w : Work) (row : Row) (name : Named) (f : StepFault) → Refuses row name f → Answers s w (refuse row name) (Err f)
refuses s w row name (fault.Refused x) e = e
refuses s w row name fault.Memory e = tt
