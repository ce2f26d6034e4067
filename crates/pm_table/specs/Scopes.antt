-- Which goals and works are scoped: their formulas name only variables that are there, and predicates of the table with as many
-- arguments as they take.
use Rattle.std.specs.Prelude.{ℕ, length, slice_get, MatchOption}
use Rattle.std.specs.List.{AllByRecursion}
use Rattle.pm_logic.specs.declared.formula.Preds.{Preds}
use Rattle.pm_logic.specs.Scope.{TermScoped, TermsScoped, PureScoped, Scoped}
use Rattle.pm_goal.specs.declared.goal.Goal.{Goal}
use Rattle.pm_goal.specs.declared.work.Work.{Work}
use Rattle.pm_goal.specs.declared.work.Lemmas.{Lemmas}
use Rattle.pm_script.specs.declared.directive.Directive.{Directive}
use Rattle.pm_script.specs.declared.directive.Directive.TheVariants as d

-- each fact, each hypothesis and the conclusion, in k variables
pub record GoalScopedIn (preds : Preds) (k : ℕ) (goal : Goal) : Type 0 where
  pub pures : AllByRecursion (λ f. PureScoped k f.pure) goal.pures
  pub ints : AllByRecursion (λ h. Scoped preds k h.formula) goal.ints
  pub spats : AllByRecursion (λ h. Scoped preds k h.formula) goal.spats
  pub concl : Scoped preds k goal.concl

-- and what is in hand
pub record WorkScopedIn (preds : Preds) (k : ℕ) (work : Work) : Type 0 where
  pub goal : GoalScopedIn preds k work.goal
  pub held : AllByRecursion (λ h. Scoped preds k h.formula) work.held

-- in the variables that the goal has
abbrev pub IsGoalScoped : Preds → Goal → Type 0
IsGoalScoped preds goal = GoalScopedIn preds (length goal.vars) goal

abbrev pub IsWorkScoped : Preds → Work → Type 0
IsWorkScoped preds work = WorkScopedIn preds (length work.goal.vars) work

-- each body is scoped in the parameters of its predicate
abbrev pub AreBodiesScoped : Preds → Type 0
AreBodiesScoped preds = (p : ℕ) → MatchOption (slice_get preds.list p) (Unit {0}) (λ q. Scoped preds q.arity q.body)

-- each lemma is scoped in no variables
abbrev pub AreLemmasScoped : Preds → Lemmas → Type 0
AreLemmasScoped preds lemmas = AllByRecursion (λ l. Scoped preds 0 l.formula) lemmas.list

-- the terms, the pure formula and the formula that a directive gives are scoped in k variables
unfoldable pub IsDirectiveScoped : Preds → ℕ → Directive → Type 0
IsDirectiveScoped preds k (d.Destruct t p) = TermsScoped k t.terms
IsDirectiveScoped preds k (d.PoseProof t p) = TermsScoped k t.terms
IsDirectiveScoped preds k (d.Specialize t) = TermsScoped k t.terms
IsDirectiveScoped preds k (d.Apply t) = TermsScoped k t.terms
IsDirectiveScoped preds k (d.Assert f s p) = Scoped preds k f
IsDirectiveScoped preds k (d.Exists ts) = TermsScoped k ts
IsDirectiveScoped preds k (d.Mod t p) = TermsScoped k t.terms
IsDirectiveScoped preds k (d.Fold f h) = Scoped preds k f
IsDirectiveScoped preds k (d.Write h t) = TermScoped k t
IsDirectiveScoped preds k (d.Alloc t l p) = TermScoped k t
IsDirectiveScoped preds k (d.Cases p h) = PureScoped k p
IsDirectiveScoped preds k _ = Unit {0}
