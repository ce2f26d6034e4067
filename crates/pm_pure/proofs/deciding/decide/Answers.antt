use Rattle.std.proofs.Common.{ap, ◌∙◌, arith}
use Rattle.pm_logic.specs.declared.formula.Pure.TheViews as pure_view
use Rattle.pm_pure.proofs.TwoCases.{decided}
use Rattle.pm_pure.proofs.deciding.decide.Goals as goal

pub both_cases-requires-clause-denial : goal.both_cases-requires-clause-denial
both_cases-requires-clause-denial c = c.in_ok-denial.ensures ∙ ap pure_view.Not c.in_ok-copy_pure.ensures

pub both_cases-requires-clause-first : goal.both_cases-requires-clause-first
both_cases-requires-clause-first c = record { name = c.args.name.now; is = c.in_ok-first.ensures }

pub both_cases-requires-clause-second : goal.both_cases-requires-clause-second
both_cases-requires-clause-second c = record { name = c.args.name.now; is = c.in_ok-second.ensures }

pub returns : goal.returns
returns c =
    decided c.args.work.now c.args.pure.now c.args.name.now _ c.in_ok-denial.denial c.in_ok-first.first c.in_ok-second.second c.in_ok-proof.proof c.finish_two.result
    (c.in_ok-denial.ensures ∙ ap pure_view.Not c.in_ok-copy_pure.ensures) c.in_ok-first.ensures c.in_ok-second.ensures (omega arith) c.in_ok-proof.ensures c.finish_two.ensures
