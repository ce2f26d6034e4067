use Rattle.std.proofs.Common.{sym, subst}
use Rattle.pm_goal.specs.Left.{of_kind, left_of_work}
use Rattle.pm_table.specs.Limits.{all_nodes, work_formulas}
use Rattle.pm_framing.specs.Parting.{IsApart, Opens}
use Rattle.pm_framing.proofs.Ended.{less_of, opens_truth, concludes_closed, concludes_open}
use Rattle.pm_framing.proofs.concluding.conclude.Goals as goal

pub opened-requires-clause-apart : goal.opened-requires-clause-apart
opened-requires-clause-apart c = subst (λ l. IsApart c.args.work.now (of_kind c.args.kind c.args.formula.now) l c.args.moved) (sym c.in_ok-left.ensures) c.requires.apart

pub close-requires-clause-left : goal.close-requires-clause-left
close-requires-clause-left c = less_of c.args.work.now (of_kind c.args.kind c.args.formula.now) (left_of_work c.args.rest) c.in_ok-left.left c.args.moved c.in_ok-left.ensures c.requires.apart

pub close-requires-clause-opened : goal.close-requires-clause-opened
close-requires-clause-opened c = opens_truth c.args.work.now c.in_ok-left.left c.args.framed.rest c.in_ok-open.open c.is_truth.result c.is_truth.ensures c.if-is_truth.true c.in_ok-open.ensures

pub go_on-requires-clause-opened : goal.go_on-requires-clause-opened
go_on-requires-clause-opened c = subst (λ l. Opens c.args.work.now l c.args.framed.rest c.in_ok-open.open) c.in_ok-left.ensures c.in_ok-open.ensures

pub returns-then-is_truth : goal.returns-then-is_truth
returns-then-is_truth c =
    concludes_closed (all_nodes (work_formulas c.args.work.now)) c.args.work.now c.args.rest c.args.framed.rest c.is_truth.result c.close.result c.is_truth.ensures c.if-is_truth.true c.close.ensures

pub returns-else-is_truth : goal.returns-else-is_truth
returns-else-is_truth c =
    concludes_open (all_nodes (work_formulas c.args.work.now)) c.args.work.now c.args.rest c.args.framed.rest c.is_truth.result c.go_on.result c.is_truth.ensures c.if-is_truth.false c.go_on.ensures
