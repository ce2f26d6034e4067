use Rattle.std.proofs.Common.{length}
use Rattle.pm_goal.specs.Left.{left_of_work}
use Rattle.pm_star.specs.Stars.{work_parts}
use Rattle.pm_hand.proofs.Contradicted.{is_star, reaches_last}
use Rattle.pm_hand.proofs.contradicting.to_last.Goals as goal

pub first-requires : goal.first-requires
first-requires c = is_star (length c.args.work.now.goal.vars) (left_of_work c.args.work.now) (work_parts c.args.work.now) c.last_place.result c.in_ok-front.front _ _ _ c.in_ok-front.ensures

pub returns : goal.returns
returns c = reaches_last c.args.work.now c.args.held.now c.last_place.result c.in_ok-front.front c.in_ok-proof.proof c.requires.last c.last_place.ensures c.in_ok-front.ensures c.in_ok-proof.ensures
