-- What an action answers where it refuses, wants memory, or follows its row.
use Rattle.std.proofs.Common.{◌≡◌, ℕ, sym, subst}
use Rattle.std.specs.Prelude.{[], ◌∷◌, Result, Err}
use Rattle.pm_goal.specs.declared.work.Work.{Work}
use Rattle.pm_goal.specs.declared.refusal.Row.{Row}
use Rattle.pm_goal.specs.declared.refusal.StepFault.{StepFault}
use Rattle.pm_goal.specs.declared.refusal.StepFault.TheVariants as fault
use Rattle.pm_proof.specs.declared.proof.Parts.{Parts}
use Rattle.pm_table.specs.declared.place.Place.{Place}
use Rattle.pm_table.specs.declared.place.Place.TheVariants.{Current as current}
use Rattle.pm_proof.specs.Trees.{Tree}
use Rattle.pm_table.specs.Outcomes.{Outcome, gives, refused, refuse, refuse_plain, one}
use Rattle.pm_table.specs.Limits.{limited}
use Rattle.pm_table.specs.Works.{Named}
use Rattle.pm_action.specs.Acting.{Answers, Refuses, Ends, IsActed, plainly}

pub wants_memory : (s : ℕ) (w : Work) (o : Outcome) (f : StepFault) → f ≡ fault.Memory → Answers s w o (Err f)
wants_memory s w (gives ps) fault.Memory e = tt
wants_memory s w (gives ps) (fault.Refused x) e = absurd cc
wants_memory s w (refused r) fault.Memory e = tt
wants_memory s w (refused r) (fault.Refused x) e = absurd cc

-- by the row's definition
pub follows : (s : ℕ) (w : Work) (o o1 : Outcome) (r : Result (Parts Place) StepFault) → o1 ≡ o → Answers s w (limited o) r → Answers s w (limited o1) r
follows s w o o1 r e a = subst (λ x. Answers s w (limited x) r) (sym e) a

refused_by : (s : ℕ) (w : Work) (row : Row) (name : Named) (f : StepFault) → Refuses row name f → Answers s w (refuse row name) (Err f)
refused_by s w row name (fault.Refused x) e = e
refused_by s w row name fault.Memory e = tt

pub refuses : (s : ℕ) (w : Work) (o : Outcome) (row : Row) (name : Named) (f : StepFault) → o ≡ refuse row name → Refuses row name f → Answers s w (limited o) (Err f)
refuses s w o row name f e h = follows s w (refuse row name) o (Err f) e (refused_by s w row name f h)

plainly_refused : (s : ℕ) (w : Work) (row : Row) (f : StepFault) → f ≡ fault.Refused (plainly row) → Answers s w (refuse_plain row) (Err f)
plainly_refused s w row (fault.Refused x) e = let same : x ≡ plainly row = cc in same
plainly_refused s w row fault.Memory e = absurd cc

pub refuses_plain : (s : ℕ) (w : Work) (o : Outcome) (row : Row) (f : StepFault) → o ≡ refuse_plain row → f ≡ fault.Refused (plainly row) → Answers s w (limited o) (Err f)
refuses_plain s w o row f e h = follows s w (refuse_plain row) o (Err f) e (plainly_refused s w row f h)

-- one work, from a proof that the action owes
pub answers_one : (s : ℕ) (w new : Work) (o : Outcome) (t : Tree) (r : Result (Parts Place) StepFault) → o ≡ one new → Ends (current [] new ∷ []) t r → IsActed s w (current [] new ∷ []) t → Answers s w (limited o) r
answers_one s w new o t r e ends acted = follows s w (one new) o r e (ends s w acted)
