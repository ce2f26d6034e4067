use Rattle.pm_apply.proofs.Applied.{premises_known, open_meets, open_vars, opens}
use Rattle.pm_apply.proofs.applying.opened.Goals as goal

pub compose-requires-clause-vars : goal.compose-requires-clause-vars
compose-requires-clause-vars c =
    let some = premises_known c.args.work.now c.args.held.now c.args.whole.now c.args.shared.now c.args.by c.requires.whole c.requires.shared c.requires.by in
    open_vars c.args.work.now c.args.held.now c.requires.last c.in_ok-moved.moved c.in_ok-inner.inner c.args.by some.0 c.in_ok-moved.ensures some.1 c.in_ok-inner.ensures

pub compose-requires-clause-meet : goal.compose-requires-clause-meet
compose-requires-clause-meet c =
    let some = premises_known c.args.work.now c.args.held.now c.args.whole.now c.args.shared.now c.args.by c.requires.whole c.requires.shared c.requires.by in
    open_meets c.args.work.now c.args.held.now c.requires.last c.in_ok-moved.moved c.in_ok-inner.inner c.args.by some.0 c.in_ok-moved.ensures some.1 c.in_ok-inner.ensures

pub returns : goal.returns
returns c = opens c.args.work.now c.args.held.now c.requires.last c.in_ok-moved.moved c.in_ok-inner.inner c.args.by c.in_ok-proof.proof c.in_ok-moved.ensures c.in_ok-inner.ensures c.in_ok-proof.ensures.proves
