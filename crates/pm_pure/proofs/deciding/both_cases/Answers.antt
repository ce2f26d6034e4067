use Rattle.pm_pure.proofs.TwoCases.{second_hole, first_hole, cases_known}
use Rattle.pm_pure.proofs.deciding.both_cases.Goals as goal

pub fill-half-requires : goal.fill-half-requires
fill-half-requires c = second_hole c.args.work.now c.args.pure.now c.args.denial.now c.args.first.now c.args.second.now c.requires.nothing c.requires.denial c.requires.first c.requires.second c.len-vars.result c.in_ok-left.left c.in_ok-step.step c.in_ok-fails.fails c.len-vars.ensures c.in_ok-left.ensures c.in_ok-step.ensures c.in_ok-fails.ensures

pub fill-proof-requires : goal.fill-proof-requires
fill-proof-requires c = first_hole c.args.work.now c.args.pure.now c.args.denial.now c.args.first.now c.args.second.now c.requires.nothing c.requires.denial c.requires.first c.requires.second c.len-vars.result c.in_ok-left.left c.in_ok-step.step c.in_ok-fails.fails c.fill-half.result c.in_ok-holds.holds c.len-vars.ensures c.in_ok-left.ensures c.in_ok-step.ensures c.in_ok-fails.ensures c.fill-half.ensures.proves c.in_ok-holds.ensures

pub returns : goal.returns
returns c = cases_known c.args.work.now c.args.pure.now c.args.denial.now c.args.first.now c.args.second.now c.requires.nothing c.requires.denial c.requires.first c.requires.second c.len-vars.result c.in_ok-left.left c.in_ok-step.step c.in_ok-fails.fails c.fill-half.result c.in_ok-holds.holds c.fill-proof.result c.len-vars.ensures c.in_ok-left.ensures c.in_ok-step.ensures c.in_ok-fails.ensures c.fill-half.ensures.proves c.in_ok-holds.ensures c.fill-proof.ensures.proves
