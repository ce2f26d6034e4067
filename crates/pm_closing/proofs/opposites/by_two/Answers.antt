use Rattle.std.proofs.Common.{◌+◌, [], ◌∷◌}
use Rattle.pm_goal.specs.declared.goal.Fact.{Fact}
use Rattle.pm_goal.specs.Left.{left_of_work}
use Rattle.pm_schemes.specs.Sketches.{deepest}
use Rattle.pm_action.specs.Meanings.{meaning}
use Rattle.pm_closing.proofs.Places.{within}
use Rattle.pm_closing.proofs.Opposed.{first_there, is_first, is_second, wants_two, two_acted, step_is, left_is}
use Rattle.pm_closing.proofs.opposites.by_two.Goals as goal

pub unreachable-requires : goal.unreachable-requires
unreachable-requires c = first_there c.args.work.now.goal.pures c.args.i c.args.j c.requires.opposite c.in_default.ensures

pub fact_place-requires-clause-within : goal.fact_place-requires-clause-within
fact_place-requires-clause-within c =
    within (λ (f : Fact). f.pure) c.args.work.now.goal.pures c.args.i c.in-Some.fact.now (is_first c.args.work.now.goal.pures c.args.i c.args.j c.in-Some.fact.now c.requires.opposite c.in-Some.ensures)

pub with_two-requires : goal.with_two-requires
with_two-requires c =
    let w = c.args.work.now in
    let p = c.in-Some.fact.now in
    let first = is_first w.goal.pures c.args.i c.args.j p c.requires.opposite c.in-Some.ensures in
    let second = is_second w.goal.pures c.args.i c.args.j p c.requires.opposite c.in-Some.ensures in
    let left = left_is w c.fact_place.result c.in_ok-holds.holds c.conclusion.result.now c.in_ok-holds.ensures c.conclusion.ensures in
    let step = step_is w c.len.result c.conclusion.result.now.left p c.in_ok-step.step c.len.ensures left c.in_ok-step.ensures in
    wants_two w c.args.i c.args.j c.fact_place.result c.fact_place-2.result p first second c.fact_place.ensures c.fact_place-2.ensures c.in_ok-step.step c.in_ok-holds.holds c.in_ok-fails.fails (meaning w)
    (deepest (left_of_work w ∷ w.goal.concl ∷ []) (p ∷ []) + 3) c.in_ok-holds.ensures c.in_ok-fails.ensures step

pub returns : goal.returns
returns c =
    let w = c.args.work.now in
    let p = c.in-Some.fact.now in
    let first = is_first w.goal.pures c.args.i c.args.j p c.requires.opposite c.in-Some.ensures in
    let second = is_second w.goal.pures c.args.i c.args.j p c.requires.opposite c.in-Some.ensures in
    let left = left_is w c.fact_place.result c.in_ok-holds.holds c.conclusion.result.now c.in_ok-holds.ensures c.conclusion.ensures in
    let step = step_is w c.len.result c.conclusion.result.now.left p c.in_ok-step.step c.len.ensures left c.in_ok-step.ensures in
    two_acted w c.args.i c.args.j c.fact_place.result c.fact_place-2.result p first second c.fact_place.ensures c.fact_place-2.ensures c.in_ok-step.step c.in_ok-holds.holds c.in_ok-fails.fails c.with_two.result
    c.in_ok-holds.ensures c.in_ok-fails.ensures step c.with_two.ensures
