-- Where the star of a goal is scoped, and how deep it is.
use Rattle.std.specs.Prelude.{ℕ, suc, ◌+◌, ◌≤◌, max, List, [], ◌∷◌, length}
use Rattle.std.specs.List.{AllByRecursion}
use Rattle.pm_logic.specs.declared.formula.Formula.{Formula}
use Rattle.pm_logic.specs.declared.formula.Preds.{Preds}
use Rattle.pm_logic.specs.Scope.{PureScoped, Scoped}
use Rattle.pm_logic.specs.Size.{pure_depth, depth_of}
use Rattle.pm_goal.specs.declared.goal.Goal.{Goal}
use Rattle.pm_goal.specs.declared.work.Work.{Work}

-- each fact and each hypothesis names only the first k variables, and predicates of the table with as many arguments as they take
pub record IsGoalScoped (preds : Preds) (k : ℕ) (goal : Goal) : Type 0 where
  pub pures : AllByRecursion (λ f. PureScoped k f.pure) goal.pures
  pub ints : AllByRecursion (λ h. Scoped preds k h.formula) goal.ints
  pub spats : AllByRecursion (λ h. Scoped preds k h.formula) goal.spats

-- those in hand do, too
pub record IsWorkScoped (preds : Preds) (k : ℕ) (work : Work) : Type 0 where
  pub goal : IsGoalScoped preds k work.goal
  pub held : AllByRecursion (λ h. Scoped preds k h.formula) work.held

-- how deep the star of these is: truth, in which it ends, is 2 deep, and each part is one more over what stands behind it
abbrev pub star_depth : List Formula → ℕ
star_depth [] = 2
star_depth (f ∷ fs) = suc (max (depth_of f) (star_depth fs))

-- no fact and no hypothesis is deeper than d
pub record IsGoalWithin (d : ℕ) (goal : Goal) : Type 0 where
  pub pures : AllByRecursion (λ f. pure_depth f.pure ≤ d) goal.pures
  pub ints : AllByRecursion (λ h. depth_of h.formula ≤ d) goal.ints
  pub spats : AllByRecursion (λ h. depth_of h.formula ≤ d) goal.spats

-- and none of those in hand is
pub record IsWorkWithin (d : ℕ) (work : Work) : Type 0 where
  pub goal : IsGoalWithin d work.goal
  pub held : AllByRecursion (λ h. depth_of h.formula ≤ d) work.held

-- how many facts and hypotheses there are
abbrev pub goal_count : Goal → ℕ
goal_count goal = length goal.pures + length goal.ints + length goal.spats

abbrev pub work_count : Work → ℕ
work_count work = goal_count work.goal + length work.held
