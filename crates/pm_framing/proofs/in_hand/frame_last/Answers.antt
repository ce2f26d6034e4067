use Rattle.std.proofs.Common.{length, refl, sym, ap, subst}
use Rattle.pm_goal.specs.declared.work.Work.{Work}
use Rattle.pm_goal.specs.Left.{of_kind, left_of_work}
use Rattle.pm_table.specs.Limits.{limited, all_nodes, work_formulas}
use Rattle.pm_table.specs.Terms.{concluding}
use Rattle.pm_action.specs.Acting.{Answers}
use Rattle.pm_framing.specs.Parting.{IsApart}
use Rattle.pm_framing.proofs.Lasting.{proof_of}
use Rattle.pm_framing.proofs.in_hand.frame_last.Goals as goal

pub conclude-requires-clause-vars : goal.conclude-requires-clause-vars
conclude-requires-clause-vars c = ap (λ (x : Work). length x.goal.vars) c.in_ok-rest.ensures

pub conclude-requires-clause-apart : goal.conclude-requires-clause-apart
conclude-requires-clause-apart c =
    subst (λ (x : Work). IsApart c.args.work.now (of_kind c.args.held.now.kind c.args.held.now.formula) (left_of_work x) c.in_ok-moved.moved) (sym c.in_ok-rest.ensures) c.in_ok-moved.ensures

pub conclude-requires-clause-framed : goal.conclude-requires-clause-framed
conclude-requires-clause-framed c = proof_of (length c.args.work.now.goal.vars) (length c.args.work.now.goal.vars) c.args.held.now.formula c.args.work.now.goal.concl c.args.framed refl c.requires.framed

pub returns : goal.returns
returns c =
    subst (λ (x : Work). Answers (all_nodes (work_formulas c.args.work.now)) c.args.work.now (limited (concluding c.args.framed.rest x)) c.conclude.result) c.in_ok-rest.ensures c.conclude.ensures
