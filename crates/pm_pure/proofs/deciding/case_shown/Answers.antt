use Rattle.std.proofs.Common.{ap, arith}
use Rattle.pm_logic.specs.declared.formula.Formula.TheVariants.{Pure as Assert}
use Rattle.pm_pure.proofs.TwoCases.{facts_within, case_known, case_vars, case_meets}
use Rattle.pm_pure.proofs.deciding.case_shown.Goals as goal

pub sink_held-requires-clause-vars : goal.sink_held-requires-clause-vars
sink_held-requires-clause-vars c = omega (arith, c.requires.handed.few)

pub sink_held-requires-clause-place : goal.sink_held-requires-clause-place
sink_held-requires-clause-place c = facts_within c.args.work.now c.len-place.result c.len-place.ensures

pub compose-requires-clause-vars : goal.compose-requires-clause-vars
compose-requires-clause-vars c = case_vars c.args.work.now c.args.pure.now c.args.new.now c.requires.nothing c.requires.new (Assert c.in_ok-copy_pure.field-0) c.len-place.result c.in_ok-first.first c.in_ok-wanted.wanted c.in_ok-first.ensures c.in_ok-wanted.ensures

pub compose-requires-clause-meet : goal.compose-requires-clause-meet
compose-requires-clause-meet c = case_meets c.args.work.now c.args.pure.now c.args.new.now c.requires.nothing c.requires.new (Assert c.in_ok-copy_pure.field-0) c.len-place.result c.in_ok-first.first c.in_ok-wanted.wanted (ap Assert c.in_ok-copy_pure.ensures) c.len-place.ensures c.in_ok-first.ensures c.in_ok-wanted.ensures

pub returns : goal.returns
returns c =
    case_known c.args.work.now c.args.pure.now c.args.new.now c.requires.nothing c.requires.new (Assert c.in_ok-copy_pure.field-0) c.len-place.result c.in_ok-first.first c.in_ok-wanted.wanted c.in_ok-proof.proof
    (ap Assert c.in_ok-copy_pure.ensures) c.len-place.ensures c.in_ok-first.ensures c.in_ok-wanted.ensures c.in_ok-proof.ensures.proves
