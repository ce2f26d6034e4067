-- Laws of steps.
use Rattle.std.specs.Prelude.{◌≡◌, ℕ, suc, ◌≤◌, cond, List, [], ◌∷◌, ◌++◌, length, map, None}
use Rattle.std.specs.Str.{bytes_eq}
use Rattle.pm_logic.specs.declared.formula.Preds.{Preds}
use Rattle.pm_goal.specs.declared.goal.Goal.{Goal}
use Rattle.pm_goal.specs.declared.work.Lemmas.{Lemmas}
use Rattle.pm_script.specs.declared.directive.Directive.{Directive}
use Rattle.pm_table.specs.Limits.{resting, limit_row}
use Rattle.pm_table.specs.Works.{Named}
use Rattle.pm_table.specs.Directives.{Stepped, goals, refused, step}
use Rattle.pm_table.specs.Scopes.{IsGoalScoped, AreBodiesScoped, AreLemmasScoped, IsDirectiveScoped}

abbrev pub Each : {A : Type 0} → (A → Type 0) → List A → Type 0
Each P [] = Unit {0}
Each P (x ∷ xs) = P x × Each P xs

-- P holds of each goal that a step gives
abbrev pub EachGoal : (Goal → Type 0) → Stepped → Type 0
EachGoal P (goals gs) = Each P gs
EachGoal P (refused r) = Unit {0}

-- the goal passes none of the limits
abbrev pub IsWithinLimits : Goal → Type 0
IsWithinLimits goal = limit_row (resting goal) ≡ None

-- A goal within the limits goes to goals within them, or is refused.
abbrev pub StepsStayWithinLimits : Type 0
StepsStayWithinLimits = (preds : Preds) (lemmas : Lemmas) (goal : Goal) (directive : Directive)
    → IsWithinLimits goal → EachGoal IsWithinLimits (step preds lemmas goal directive)

-- the names of variables, facts and hypotheses
abbrev pub names_of : Goal → List Named
names_of goal = goal.vars ++ (map (λ f. f.name) goal.pures ++ (map (λ h. h.name) goal.ints ++ map (λ h. h.name) goal.spats))

-- how many times a name stands in a list
abbrev pub times : Named → List Named → ℕ
times name [] = 0
times name (x ∷ xs) = cond (bytes_eq name x) (suc (times name xs)) (times name xs)

-- no name stands twice
abbrev pub NamesDiffer : Goal → Type 0
NamesDiffer goal = (name : Named) → times name (names_of goal) ≤ 1

-- The names of a new goal differ where those of the old one do.
abbrev pub StepsKeepNamesApart : Type 0
StepsKeepNamesApart = (preds : Preds) (lemmas : Lemmas) (goal : Goal) (directive : Directive)
    → NamesDiffer goal → EachGoal NamesDiffer (step preds lemmas goal directive)

-- A scoped goal goes to scoped goals, where the predicates' bodies and the lemmas are scoped, and what the directive gives is
-- scoped in the goal's variables.
abbrev pub StepsStayScoped : Type 0
StepsStayScoped = (preds : Preds) (lemmas : Lemmas) (goal : Goal) (directive : Directive)
    → AreBodiesScoped preds → AreLemmasScoped preds lemmas → IsGoalScoped preds goal → IsDirectiveScoped preds (length goal.vars) directive
    → EachGoal (IsGoalScoped preds) (step preds lemmas goal directive)
