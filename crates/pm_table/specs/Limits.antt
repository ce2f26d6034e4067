-- How large works may be. This is tested after each action, work by work.
use Rattle.std.specs.Prelude.{ℕ, Bool, ◌+◌, nat_lt, max, List, [], ◌∷◌, ◌++◌, map, length, Option, Some, None, if◌then◌else◌}
use Rattle.pm_logic.specs.declared.limits.TheConstants.{MAX_HYPOTHESES, MAX_LEVELS, MAX_NODES, MAX_VARIABLES}
use Rattle.pm_logic.specs.declared.formula.Formula.{Formula}
use Rattle.pm_logic.specs.Size.{nodes_of, depth_of}
use Rattle.pm_goal.specs.declared.goal.Goal.{Goal}
use Rattle.pm_goal.specs.declared.work.Work.{Work}
use Rattle.pm_goal.specs.declared.refusal.Row.{Row}
use Rattle.pm_goal.specs.declared.refusal.Row.TheVariants.{TooManyVariables, TooManyHypotheses, TooManyNodes, TooDeep}
use Rattle.pm_goal.specs.Left.{facts, hyps}
use Rattle.pm_table.specs.Outcomes.{Outcome, gives, refused, refuse_plain, joined}
use Rattle.pm_table.specs.declared.place.Place.{Place}
use Rattle.pm_table.specs.declared.place.Place.TheVariants.{Finished as finished, Current as current}

-- a fact counts as a formula, and no box is counted
abbrev pub formulas : Goal → List Formula
formulas goal = facts goal.pures ++ (hyps goal.ints ++ (hyps goal.spats ++ (goal.concl ∷ [])))

abbrev pub work_formulas : Work → List Formula
work_formulas work = formulas work.goal ++ map (λ h. h.formula) work.held

abbrev pub all_nodes : List Formula → ℕ
all_nodes [] = 0
all_nodes (f ∷ fs) = nodes_of f + all_nodes fs

abbrev pub greatest_depth : List Formula → ℕ
greatest_depth [] = 0
greatest_depth (f ∷ fs) = max (depth_of f) (greatest_depth fs)

-- hypotheses and facts, those in hand included
abbrev pub hypotheses : Work → ℕ
hypotheses work = length work.goal.pures + (length work.goal.ints + (length work.goal.spats + length work.held))

abbrev pub row_where : Bool → Row → Option Row → Option Row
row_where holds row others = if holds then Some row else others

-- the first limit that a work passes
abbrev pub limit_row : Work → Option Row
limit_row work =
    row_where (nat_lt MAX_VARIABLES (length work.goal.vars)) TooManyVariables
    (row_where (nat_lt MAX_HYPOTHESES (hypotheses work)) TooManyHypotheses
    (row_where (nat_lt MAX_NODES (all_nodes (work_formulas work))) TooManyNodes
    (row_where (nat_lt MAX_LEVELS (greatest_depth (work_formulas work))) TooDeep
    None)))

-- the goal with nothing in hand
abbrev pub resting : Goal → Work
resting goal = record { goal = goal; held = [] }

abbrev pub work_at : Place → Work
work_at (finished goal) = resting goal
work_at (current turns work) = work

abbrev pub kept_or : Place → Option Row → Outcome
kept_or p None = gives (p ∷ [])
kept_or p (Some row) = refuse_plain row

-- the place, where its work is within the limits
abbrev pub within_limits : Place → Outcome
within_limits p = kept_or p (limit_row (work_at p))

abbrev pub all_within : List Place → Outcome
all_within [] = gives []
all_within (p ∷ ps) = joined (within_limits p) (all_within ps)

abbrev pub limited : Outcome → Outcome
limited (gives ps) = all_within ps
limited (refused r) = refused r
