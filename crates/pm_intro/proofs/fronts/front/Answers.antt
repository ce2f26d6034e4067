use Rattle.pm_star.specs.Levels.{right_side}
use Rattle.pm_intro.proofs.InFront.{fronted_at, front_meets, front_known}
use Rattle.pm_intro.proofs.fronts.front.Goals as goal

pub compose-requires-clause-meet : goal.compose-requires-clause-meet
compose-requires-clause-meet c = front_meets c.args.work.now c.args.held.now c.requires.last (right_side c.args.by) c.in_ok-fronted.fronted c.in_ok-step.step (fronted_at c.args.work.now c.in_ok-fronted.fronted c.last_place.result c.last_place.ensures c.in_ok-fronted.ensures) c.in_ok-step.ensures

pub returns : goal.returns
returns c = front_known c.args.work.now c.args.held.now c.requires.last (right_side c.args.by) c.in_ok-fronted.fronted c.in_ok-step.step c.in_ok-proof.proof (fronted_at c.args.work.now c.in_ok-fronted.fronted c.last_place.result c.last_place.ensures c.in_ok-fronted.ensures) c.in_ok-step.ensures c.in_ok-proof.ensures.proves
