use Rattle.std.proofs.Common.{◌≡◌, length, refl, Some}
use Rattle.pm_apply.proofs.Applied.{answer_known, some_premises, applied}
use Rattle.pm_apply.proofs.applying.give.Goals as goal

pub opened-requires-clause-by : goal.opened-requires-clause-by
opened-requires-clause-by c = some_premises c.args.work.now c.args.held.now c.args.whole.now c.args.shared.now c.args.reached c.requires.reached

pub returns : goal.returns
returns c =
    applied c.args.work.now c.args.held.now c.args.reached c.in_ok-places.places c.in_ok-whole_proof.whole_proof c.finish.result c.requires.last
    (answer_known c.args.work.now c.args.held.now (length c.args.work.now.goal.vars) c.args.whole.now c.args.shared.now (Some c.args.reached) refl c.requires.whole c.requires.shared c.requires.reached)
    c.in_ok-places.ensures c.in_ok-whole_proof.ensures c.finish.ensures
