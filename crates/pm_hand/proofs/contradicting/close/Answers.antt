use Rattle.pm_hand.proofs.Contradicted.{absurd_closes}
use Rattle.pm_hand.proofs.contradicting.close.Goals as goal

pub returns : goal.returns
returns c =
    absurd_closes c.args.work.now c.args.held.now c.len-vars.result c.in_ok-reached.reached c.in_ok-rest.rest c.in_ok-proof.proof c.requires.last c.requires.falsehood c.len-vars.ensures
    c.in_ok-reached.ensures c.in_ok-rest.ensures c.in_ok-proof.ensures.proves
