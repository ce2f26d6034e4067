-- What is known of places and of a proof, and what a run of actions makes of them.
use Rattle.std.specs.Prelude.{◌≡◌, ℕ, ◌+◌, Bool, List, [], ◌∷◌, length, None, Result, Ok, Err}
use Rattle.pm_logic.specs.declared.formula.Preds.{Preds}
use Rattle.pm_goal.specs.declared.work.Work.{Work}
use Rattle.pm_goal.specs.declared.refusal.StepFault.{StepFault}
use Rattle.pm_goal.specs.declared.refusal.StepFault.TheVariants as fault
use Rattle.pm_proof.specs.Known.{Proves, Every}
use Rattle.pm_proof.specs.declared.proof.Parts.{Parts}
use Rattle.pm_table.specs.declared.place.Place.{Place}
use Rattle.pm_table.specs.Outcomes.{Outcome}
use Rattle.pm_table.specs.Limits.{limit_row, work_at, limited}
use Rattle.pm_table.specs.Patterns.{outcome_with}
use Rattle.pm_table.specs.Running.{Run, ran, stopped}
use Rattle.pm_table.specs.Scopes.{IsWorkScoped}
use Rattle.pm_table.specs.Stepping.{Each, NamesDiffer}
use Rattle.pm_proof.specs.Valid.{TermFits}
use Rattle.pm_sweep.specs.declared.act.Giving.{Giving}
use Rattle.pm_sweep.specs.declared.act.Giving.TheVariants as give
use Rattle.pm_sweep.specs.declared.act.Changing.{Changing}
use Rattle.pm_sweep.specs.declared.act.Changing.TheVariants as change
use Rattle.pm_sweep.specs.declared.act.Act.{Act}
use Rattle.pm_sweep.specs.declared.act.Act.TheVariants as act
use Rattle.pm_action.specs.Acting.{Answers}
use Rattle.pm_action.specs.Meanings.{meaning, meanings}

-- within the limits, with names that differ
pub record IsFit (w : Work) : Type 0 where
  pub within : limit_row w ≡ None
  pub apart : NamesDiffer w.goal

abbrev pub AreFit : List Place → Type 0
AreFit ps = Each (λ p. IsFit (work_at p)) ps

abbrev pub AreScoped : Preds → List Place → Type 0
AreScoped preds ps = Each (λ p. IsWorkScoped preds (work_at p)) ps

-- how deep a formula of a step's proof may be, and how many variables an entailment of it may have
abbrev pub DEEPEST : ℕ
DEEPEST = 600

abbrev pub WIDEST : ℕ
WIDEST = 300

-- places to which a work has led, each scoped wherever the work is, and a proof with at most so many rules of what the work means
-- from what they mean
pub record Stands (w : Work) (n : ℕ) (s : Parts Place) : Type 0 where
  pub proves : Proves Every (meaning w) (meanings s.goals) n DEEPEST WIDEST s.proof
  pub fit : AreFit s.goals
  pub scoped : (preds : Preds) → IsWorkScoped preds w → AreScoped preds s.goals
  pub over : Preds
  pub based : IsWorkScoped over w

-- some work has led there
pub record IsStanding (s : Parts Place) : Type 0 where
  pub work : Work
  pub rules : ℕ
  pub stands : Stands work rules s

-- from where some places stand, so many rules further
abbrev pub Leads : Parts Place → ℕ → Parts Place → Type 0
Leads old n new = (w : Work) (m : ℕ) → Stands w m old → Stands w (m + n) new

-- what code answers that runs actions from there
abbrev pub Follows : Parts Place → Run → Result (Parts Place) StepFault → Type 0
Follows old (ran n ps) (Ok new) = (new.goals ≡ ps) × Leads old n new
Follows old (ran n ps) (Err (fault.Refused x)) = ⊥
Follows old (ran n ps) (Err fault.Memory) = Unit {0}
Follows old (stopped r) (Ok new) = ⊥
Follows old (stopped r) (Err (fault.Refused x)) = x ≡ r
Follows old (stopped r) (Err fault.Memory) = Unit {0}

-- what it answers that runs them on one work
abbrev pub ReplacesWork : Work → Run → Result (Parts Place) StepFault → Type 0
ReplacesWork w (ran n ps) (Ok new) = (new.goals ≡ ps) × ((over : Preds) → IsWorkScoped over w → Stands w n new)
ReplacesWork w (ran n ps) (Err (fault.Refused x)) = ⊥
ReplacesWork w (ran n ps) (Err fault.Memory) = Unit {0}
ReplacesWork w (stopped r) (Ok new) = ⊥
ReplacesWork w (stopped r) (Err (fault.Refused x)) = x ≡ r
ReplacesWork w (stopped r) (Err fault.Memory) = Unit {0}

-- or on the work of a place
abbrev pub Replaces : Place → Run → Result (Parts Place) StepFault → Type 0
Replaces p r result = ReplacesWork (work_at p) r result

-- a work on which actions run
pub record IsSoundWork (w : Work) : Type 0 where
  pub fit : IsFit w
  pub over : Preds
  pub scoped : IsWorkScoped over w

abbrev pub IsSound : Place → Type 0
IsSound p = IsSoundWork (work_at p)

-- what is handed to an action fits the work
abbrev pub IsHandedToChange : Changing → Work → Type 0
IsHandedToChange (change.Exists t) w = TermFits (length w.goal.vars) t.now
IsHandedToChange _ w = Unit {0}

abbrev pub IsHandedToGive : Giving → Work → Type 0
IsHandedToGive (give.Term t) w = TermFits (length w.goal.vars) t.now

abbrev pub IsHandedTo : Act → Work → Type 0
IsHandedTo (act.Enter a) w = Unit {0}
IsHandedTo (act.Handle a) w = Unit {0}
IsHandedTo (act.Give a) w = IsHandedToGive a w
IsHandedTo (act.Change a) w = IsHandedToChange a w
IsHandedTo (act.Frame a) w = Unit {0}

abbrev pub IsHandedToAll : Act → List Place → Type 0
IsHandedToAll a ps = Each (λ p. IsHandedTo a (work_at p)) ps

-- ---- one action

-- what answers for the outcome with this turn behind its places, where the old one answers for the outcome
abbrev pub AnswersOpened : Bool → Result (Parts Place) StepFault → Result (Parts Place) StepFault → Type 0
AnswersOpened turn old new = (s : ℕ) (w : Work) (o : Outcome) → Answers s w (limited o) old → Answers s w (limited (outcome_with (turn ∷ []) o)) new
