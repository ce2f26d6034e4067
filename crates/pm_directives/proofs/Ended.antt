-- Where a step ends: nothing is in hand, and each goal means what its place does.
use Rattle.std.proofs.Common.{◌≡◌, ℕ, ◌+◌, ◌≤◌, List, [], ◌∷◌, length, take, map, refl, sym, ◌∙◌, ap, ap₂, subst, arith}
use Rattle.std.specs.Prelude.{Result, Ok, Err}
use Rattle.std.specs.List.{AllByRecursion}
use Rattle.pm_logic.specs.declared.formula.Preds.{Preds}
use Rattle.pm_rules.specs.declared.rules.Entail.{Entail}
use Rattle.pm_goal.specs.declared.goal.Goal.{Goal}
use Rattle.pm_goal.specs.declared.work.Work.{Work}
use Rattle.pm_goal.specs.declared.work.Lemmas.{Lemmas}
use Rattle.pm_goal.specs.declared.refusal.StepFault.{StepFault}
use Rattle.pm_goal.specs.declared.refusal.StepFault.TheVariants as fault
use Rattle.pm_proof.specs.Known.{Proves, Every}
use Rattle.pm_proof.specs.declared.proof.Parts.{Parts}
use Rattle.pm_script.specs.declared.directive.Directive.{Directive}
use Rattle.pm_table.specs.declared.place.Place.{Place}
use Rattle.pm_table.specs.Limits.{resting, work_at}
use Rattle.pm_table.specs.Running.{Run, ran, stopped}
use Rattle.pm_table.specs.Scopes.{IsWorkScoped}
use Rattle.pm_table.specs.Stepping.{Each}
use Rattle.pm_table.specs.Hands.{EachPlace, IsEmptyHanded}
use Rattle.pm_table.specs.Directives.{goal_at, stepped, rules_of, run, run_on}
use Rattle.pm_table.proofs.Hands.{nothing_stays_in_hand}
use Rattle.pm_action.specs.Meanings.{meaning, meanings}
use Rattle.pm_sweep.specs.Standing.{IsFit, AreFit, AreScoped, Stands, Follows, DEEPEST, WIDEST}
use Rattle.pm_directives.specs.Built.{IsBuilt}
use Rattle.pm_directives.specs.Steps.{FollowsTable, IsLedTo, Leaves, StepAnswers, Steps}
use Rattle.pm_directives.proofs.Allowed.{well_placed}
use Rattle.pm_directives.proofs.Begun.{Begins}

-- ---- goals of places

pub record AreGoals (ps : List Place) (i : ℕ) (out : List Goal) : Type 0 where
  pub within : i ≤ length ps
  pub is : out ≡ map goal_at (take i ps)

-- ---- what they mean

means : Goal → Entail
means goal = meaning (resting goal)

rested : (w : Work) → w.held ≡ [] → w ≡ resting w.goal
rested w e = ap (λ hs. let v : Work = record { goal = w.goal; held = hs } in v) e

same_meanings : (ps : List Place) → Each IsEmptyHanded ps → meanings ps ≡ map (λ g. meaning (resting g)) (map goal_at ps)
same_meanings [] h = refl
same_meanings (p ∷ ps) h = ap₂ (λ e es. e ∷ es) (ap meaning (rested (work_at p) h.0)) (same_meanings ps h.1)

all_led : (old : Goal) (ps : List Place) → Each IsEmptyHanded ps → AreFit ps → ((preds : Preds) → IsWorkScoped preds (resting old) → AreScoped preds ps) → AllByRecursion (IsLedTo old) (map goal_at ps)
all_led old [] h fit scoped = tt
all_led old (p ∷ ps) h fit scoped = (
  record {
    fit = subst IsFit (rested (work_at p) h.0) fit.0;
    scoped = λ preds s. subst (IsWorkScoped preds) (rested (work_at p) h.0) (scoped preds s).0;
  },
  all_led old ps h.1 fit.1 (λ preds s. (scoped preds s).1),
)

-- ---- the step

leaves : (goal : Goal) (n : ℕ) (ps : List Place) (s : Parts Place) (new : Parts Goal) → Each IsEmptyHanded ps → s.goals ≡ ps → Stands (resting goal) n s → new.goals ≡ map goal_at s.goals → new.proof ≡ s.proof → Leaves goal n (map goal_at ps) new
leaves goal n ps s new empty goals st is same = (
  is ∙ ap (map goal_at) goals,
  subst (λ es. Proves Every (meaning (resting goal)) es n DEEPEST WIDEST new.proof) (ap meanings goals ∙ same_meanings ps empty) (subst (λ t. Proves Every (meaning (resting goal)) (meanings s.goals) n DEEPEST WIDEST t) (sym same) st.proves),
  all_led goal ps empty (subst AreFit goals st.fit) (λ preds h. subst (AreScoped preds) goals (st.scoped preds h)),
)

answers : (goal : Goal) (r : Run) (start s : Parts Place) (new : Parts Goal) → EachPlace IsEmptyHanded r → Stands (resting goal) 0 start → Follows start r (Ok s) → new.goals ≡ map goal_at s.goals → new.proof ≡ s.proof → StepAnswers goal (rules_of r) (stepped r) (Ok new)
answers goal (ran n ps) start s new empty st f is same = leaves goal n ps s new empty f.0 (subst (λ k. Stands (resting goal) k s) (none n) (f.1 (resting goal) 0 st)) is same
  where
    none : (n : ℕ) → 0 + n ≡ n
    none n = omega arith
answers goal (stopped x) start s new empty st f is same = absurd f

module _ (preds : Preds) (lemmas : Lemmas) (goal : Goal) (directive : Directive) (start : Parts Place) where
  there : Begins (resting goal) start → (result : Result (Parts Place) StepFault) → FollowsTable directive start result → Follows start (run_on preds lemmas goal directive) result
  there b result f = subst (λ ps. Follows start (run preds lemmas directive ps) result) b.0 (f preds lemmas)

  pub step_answers : (s : Parts Place) (new : Parts Goal) → IsBuilt directive → Begins (resting goal) start → FollowsTable directive start (Ok s) → new.goals ≡ map goal_at s.goals → new.proof ≡ s.proof → Steps preds lemmas goal directive (Ok new)
  step_answers s new built b f is same = answers goal (run_on preds lemmas goal directive) start s new (nothing_stays_in_hand preds lemmas goal directive (well_placed directive built)) b.1 (there b (Ok s) f) is same
