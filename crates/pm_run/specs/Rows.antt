-- Tables of rows: the first whose condition holds is the answer.
use Rattle.std.specs.Prelude.{◌≡◌, ◌⊎◌, ℕ, ◌+◌, ◌<◌, Bool, if◌then◌else◌, length, Option, Some, None, nat_lt}
use Rattle.pm_logic.specs.declared.limits.TheConstants.{MAX_HYPOTHESES, MAX_LEVELS, MAX_NODES, MAX_VARIABLES}
use Rattle.pm_goal.specs.declared.goal.Goal.{Goal}
use Rattle.pm_goal.specs.declared.refusal.Row.{Row}
use Rattle.pm_goal.specs.declared.refusal.Row.TheVariants.{TooManyVariables, TooManyHypotheses, TooManyNodes, TooDeep}
use Rattle.pm_table.specs.Limits.{formulas, all_nodes, greatest_depth}

-- what a table answers: a row, or none
abbrev pub Table : Type 1
Table = Option Row → Type 0

abbrev pub when : Type 0 → Row → Table → Table
when condition row others answer = condition × (answer ≡ Some row) ⊎ (¬ condition) × others answer

-- the row, if it holds, and else what others answer
abbrev pub row_if : Bool → Row → Option Row → Option Row
row_if holds row others = if holds then Some row else others

abbrev pub no_row : Table
no_row answer = answer ≡ None

abbrev pub always : Row → Table
always row answer = answer ≡ Some row

-- ---- how large a goal may be

-- the row for so many variables and hypotheses, of so many nodes with the conclusion and so deep, and else what others answer
abbrev pub size_row : (vars count all deepest : ℕ) → Option Row → Option Row
size_row vars count all deepest others = row_if (nat_lt MAX_VARIABLES vars) TooManyVariables (row_if (nat_lt MAX_HYPOTHESES count) TooManyHypotheses (row_if (nat_lt MAX_NODES all) TooManyNodes (row_if (nat_lt MAX_LEVELS deepest) TooDeep others)))

-- hypotheses and facts
abbrev pub held : Goal → ℕ
held goal = length goal.pures + (length goal.ints + length goal.spats)

abbrev pub when_large : Goal → Table → Table
when_large goal others =
    when (MAX_VARIABLES < length goal.vars) TooManyVariables
    (when (MAX_HYPOTHESES < held goal) TooManyHypotheses
    (when (MAX_NODES < all_nodes (formulas goal)) TooManyNodes
    (when (MAX_LEVELS < greatest_depth (formulas goal)) TooDeep
    others)))
