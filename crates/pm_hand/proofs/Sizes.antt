-- What a work that is handed to an action has few of.
use Rattle.std.proofs.Common.{◌+◌, ◌<◌, ◌^◌, length, arith}
use Rattle.pm_goal.specs.declared.work.Work.{Work}
use Rattle.pm_table.specs.Limits.{hypotheses}
use Rattle.pm_action.specs.Acting.{IsHanded}
use Rattle.pm_action.specs.Naming.{IsFindable}

pub findable : (w : Work) → IsHanded w → IsFindable w.goal
findable w h = record { vars = omega (arith, h.few); pures = omega (arith, h.few); ints = omega (arith, h.few); spats = omega (arith, h.few) }

pub few_hypotheses : (w : Work) → IsHanded w → hypotheses w < 2 ^ 32
few_hypotheses w h = omega (arith, h.few)

pub few_vars : (w : Work) → IsHanded w → length w.goal.vars < 2 ^ 32
few_vars w h = omega (arith, h.few)

pub few_parts : (w : Work) → IsHanded w → length w.goal.pures + length w.goal.ints + length w.goal.spats < 2 ^ 32
few_parts w h = omega (arith, h.few)
