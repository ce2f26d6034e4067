use Rattle.std.proofs.Common.{sym, ◌∙◌, insert}
use Rattle.pm_star.specs.Stars.{star, work_parts}
use Rattle.pm_hand.proofs.Handing.{before_within, double_meets, doubles}
use Rattle.pm_hand.proofs.taking.doubled.Goals as goal

pub compose-requires-clause-meet : goal.compose-requires-clause-meet
compose-requires-clause-meet c =
    double_meets c.args.work.now c.args.place c.in_ok-part.part c.in_ok-first.first c.in_ok-second.second (star (insert (work_parts c.args.work.now) c.count.result c.in_ok-part.part))
    (before_within c.args.work.now c.args.place c.requires.before) (c.requires.at ∙ sym c.in_ok-part.ensures) c.in_ok-first.ensures c.in_ok-second.ensures

pub returns : goal.returns
returns c =
    doubles c.args.work.now c.args.place c.count.result c.args.kind c.args.formula.now c.in_ok-part.part c.in_ok-first.first c.in_ok-second.second c.in_ok-proof.proof c.in_ok-part.ensures
    (before_within c.args.work.now c.args.place c.requires.before) c.requires.at c.count.ensures c.in_ok-first.ensures c.in_ok-second.ensures c.in_ok-proof.ensures.proves
