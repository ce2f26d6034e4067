-- What the code of a directive and of a step answers.
use Rattle.std.specs.Prelude.{◌≡◌, ℕ, Bool, List, [], map, length, Result, Ok, Err}
use Rattle.std.specs.List.{AllByRecursion}
use Rattle.pm_logic.specs.declared.formula.Term.{Term}
use Rattle.pm_logic.specs.declared.formula.Preds.{Preds}
use Rattle.pm_goal.specs.declared.goal.Goal.{Goal}
use Rattle.pm_goal.specs.declared.work.Lemmas.{Lemmas}
use Rattle.pm_goal.specs.declared.refusal.StepFault.{StepFault}
use Rattle.pm_goal.specs.declared.refusal.StepFault.TheVariants as fault
use Rattle.pm_patterns.specs.declared.pattern.Head.{Head}
use Rattle.pm_patterns.specs.declared.pattern.ProofTerm.{ProofTerm}
use Rattle.pm_proof.specs.Known.{Proves, Every}
use Rattle.pm_proof.specs.Valid.{TermFits}
use Rattle.pm_proof.specs.declared.proof.Parts.{Parts}
use Rattle.pm_script.specs.declared.directive.Directive.{Directive}
use Rattle.pm_script.specs.declared.directive.Directive.TheVariants as d
use Rattle.pm_table.specs.declared.place.Place.{Place}
use Rattle.pm_table.specs.Limits.{resting, work_at}
use Rattle.pm_table.specs.Running.{Run, after}
use Rattle.pm_table.specs.Directives.{Stepped, goals, refused, run, step, step_rules, head_run, term_run}
use Rattle.pm_table.specs.Stepping.{Each}
use Rattle.pm_action.specs.Meanings.{meaning}
use Rattle.pm_sweep.specs.Standing.{IsFit, Follows, DEEPEST, WIDEST}
use Rattle.pm_table.specs.Scopes.{IsWorkScoped}

-- whatever predicates and lemmas there are: what is built uses none of them
abbrev pub FollowsTable : Directive → Parts Place → Result (Parts Place) StepFault → Type 0
FollowsTable directive old result = (preds : Preds) (lemmas : Lemmas) → Follows old (run preds lemmas directive old.goals) result

-- the head of a proof term that is a hypothesis, which is taken or lent; the whole term; the term, and a pattern for what it holds
abbrev pub HoldsHead : (taken : Bool) → Head → Parts Place → Result (Parts Place) StepFault → Type 0
HoldsHead taken h old result = (lemmas : Lemmas) → Follows old (head_run lemmas taken h old.goals) result

abbrev pub HoldsTerm : (taken : Bool) → ProofTerm → Parts Place → Result (Parts Place) StepFault → Type 0
HoldsTerm taken t old result = (lemmas : Lemmas) → Follows old (term_run lemmas taken t old.goals) result

abbrev pub ThenFollows : (taken : Bool) → ProofTerm → (List Place → Run) → Parts Place → Result (Parts Place) StepFault → Type 0
ThenFollows taken t follows old result = (lemmas : Lemmas) → Follows old (after (term_run lemmas taken t old.goals) follows) result

-- ---- terms that are handed in

-- a line of a derivation has room for them, in as many variables as each work has
abbrev pub AllVariables : ℕ → List Place → Type 0
AllVariables k ps = Each (λ p. length (work_at p).goal.vars ≡ k) ps

pub record TermsFitAll (ts : List Term) (ps : List Place) : Type 0 where
  pub vars : ℕ
  pub same : AllVariables vars ps
  pub fit : AllByRecursion (TermFits vars) ts

-- those that a directive hands to its actions
abbrev pub terms_of : Directive → List Term
terms_of (d.Exists ts) = ts
terms_of (d.Destruct t p) = t.terms
terms_of (d.PoseProof t p) = t.terms
terms_of (d.Specialize t) = t.terms
terms_of _ = []

abbrev pub DirectiveFits : Directive → List Place → Type 0
DirectiveFits directive ps = TermsFitAll (terms_of directive) ps

abbrev pub FitsGoal : Directive → Goal → Type 0
FitsGoal directive goal = AllByRecursion (TermFits (length goal.vars)) (terms_of directive)

-- ---- a step

-- a goal to which a step leads: within the limits, with names that differ, and scoped wherever the old one is
pub record IsLedTo (old new : Goal) : Type 0 where
  pub fit : IsFit (resting new)
  pub scoped : (preds : Preds) → IsWorkScoped preds (resting old) → IsWorkScoped preds (resting new)

abbrev pub Leaves : Goal → ℕ → List Goal → Parts Goal → Type 0
Leaves goal n gs parts = (parts.goals ≡ gs) × Proves Every (meaning (resting goal)) (map (λ g. meaning (resting g)) gs) n DEEPEST WIDEST parts.proof × AllByRecursion (IsLedTo goal) gs

-- what is answered by what the table gives
abbrev pub StepAnswers : Goal → ℕ → Stepped → Result (Parts Goal) StepFault → Type 0
StepAnswers goal n (goals gs) (Ok parts) = Leaves goal n gs parts
StepAnswers goal n (goals gs) (Err (fault.Refused x)) = ⊥
StepAnswers goal n (goals gs) (Err fault.Memory) = Unit {0}
StepAnswers goal n (refused r) (Ok parts) = ⊥
StepAnswers goal n (refused r) (Err (fault.Refused x)) = x ≡ r
StepAnswers goal n (refused r) (Err fault.Memory) = Unit {0}

abbrev pub Steps : Preds → Lemmas → Goal → Directive → Result (Parts Goal) StepFault → Type 0
Steps preds lemmas goal directive result = StepAnswers goal (step_rules preds lemmas goal directive) (step preds lemmas goal directive) result
