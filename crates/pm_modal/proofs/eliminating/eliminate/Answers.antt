use Rattle.pm_modal.proofs.Elims.{eliminated}
use Rattle.pm_modal.proofs.eliminating.eliminate.Goals as goal

pub returns : goal.returns
returns c =
    eliminated c.args.work.now c.args.held.now c.args.b.now c.args.c.now c.in_ok-rest.rest c.in_ok-new.new c.in_ok-proof.proof c.finish_one.result c.requires.last c.requires.update c.requires.concl c.in_ok-rest.ensures c.in_ok-new.ensures
    c.in_ok-proof.ensures c.finish_one.ensures
