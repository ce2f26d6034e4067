-- What a work that is handed to an action has few of.
use Rattle.std.proofs.Common.{◌<◌, ◌≤◌, ◌^◌, length, arith}
use Rattle.pm_logic.specs.declared.formula.TheConstants.{BOUND}
use Rattle.pm_goal.specs.declared.work.Work.{Work}
use Rattle.pm_star.specs.Scopes.{goal_count}
use Rattle.pm_action.specs.Acting.{IsHanded}

pub few_vars : (w : Work) → IsHanded w → length w.goal.vars < 2 ^ 32
few_vars w h = omega (arith, h.few)

pub bound_vars : (w : Work) → IsHanded w → length w.goal.vars ≤ BOUND
bound_vars w h = omega (arith, h.few)

pub few_parts : (w : Work) → IsHanded w → goal_count w.goal < 2 ^ 32
few_parts w h = omega (arith, h.few)
