-- Runs of actions one after another.
use Rattle.std.proofs.Common.{◌≡◌, ℕ, ◌+◌, List, refl, subst, arith}
use Rattle.std.specs.Prelude.{Result, Ok, Err}
use Rattle.pm_goal.specs.declared.refusal.StepFault.{StepFault}
use Rattle.pm_goal.specs.declared.refusal.StepFault.TheVariants as fault
use Rattle.pm_proof.specs.declared.proof.Parts.{Parts}
use Rattle.pm_table.specs.declared.place.Place.{Place}
use Rattle.pm_table.specs.Running.{Run, ran, stopped, adding, after}
use Rattle.pm_sweep.specs.Standing.{Stands, IsStanding, Leads, Follows}

-- the rules of both
sum_assoc : (m n k : ℕ) → (m + n) + k ≡ m + (n + k)
sum_assoc m n k = omega arith

leads_then : (old mid new : Parts Place) (n m : ℕ) → Leads old n mid → Leads mid m new → Leads old (n + m) new
leads_then old mid new n m first second w k s = subst (λ i. Stands w i new) (sum_assoc k n m) (second w (k + n) (first w k s))

adding_follows : (old mid : Parts Place) (n : ℕ) (r : Run) (result : Result (Parts Place) StepFault) → Leads old n mid → Follows mid r result → Follows old (adding n r) result
adding_follows old mid n (ran m ps) (Ok new) first f = (f.0, leads_then old mid new n m first f.1)
adding_follows old mid n (ran m ps) (Err (fault.Refused x)) first f = f
adding_follows old mid n (ran m ps) (Err fault.Memory) first f = tt
adding_follows old mid n (stopped r) (Ok new) first f = f
adding_follows old mid n (stopped r) (Err (fault.Refused x)) first f = f
adding_follows old mid n (stopped r) (Err fault.Memory) first f = tt

-- one run after another
pub then_follows : (old mid : Parts Place) (r : Run) (follows : List Place → Run) (result : Result (Parts Place) StepFault) → Follows old r (Ok mid) → Follows mid (follows mid.goals) result → Follows old (after r follows) result
then_follows old mid (ran n ps) follows result f g = subst (λ qs. Follows old (adding n (follows qs)) result) f.0 (adding_follows old mid n (follows mid.goals) result f.1 g)
then_follows old mid (stopped r) follows result f g = absurd f

-- where the first is refused, or memory is wanting
pub ends_follows : (old : Parts Place) (r : Run) (follows : List Place → Run) (e : StepFault) → Follows old r (Err e) → Follows old (after r follows) (Err e)
ends_follows old (ran n ps) follows (fault.Refused x) f = absurd f
ends_follows old (ran n ps) follows fault.Memory f = lost (adding n (follows ps))
  where
    lost : (s : Run) → Follows old s (Err fault.Memory)
    lost (ran m qs) = tt
    lost (stopped q) = tt
ends_follows old (stopped r) follows e f = f

-- nothing more
pub stays_follows : (old : Parts Place) → Follows old (ran 0 old.goals) (Ok old)
stays_follows old = (refl, λ w m s. subst (λ i. Stands w i old) (none m) s)
  where
    none : (m : ℕ) → m ≡ m + 0
    none m = omega arith

-- where the run has led, some work has led
pub stands_after : (old mid : Parts Place) (r : Run) → IsStanding old → Follows old r (Ok mid) → IsStanding mid
stands_after old mid (ran n ps) s f = record { work = s.work; rules = s.rules + n; stands = f.1 s.work s.rules s.stands }
stands_after old mid (stopped r) s f = absurd f
