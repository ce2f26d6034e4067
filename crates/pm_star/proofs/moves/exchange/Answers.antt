use Rattle.std.proofs.Common.{refl}
use Rattle.pm_star.proofs.Moving.{exchange_done, behind_slice}
use Rattle.pm_star.proofs.moves.exchange.Goals as goal

pub returns : goal.returns
returns c =
    exchange_done c.args.vars c.args.parts.now _ c.args.place c.in_ok-rest.rest c.args.by c.in_ok-proof.proof c.in_ok-proof-2.proof c.requires.place c.requires.left (behind_slice c.args.parts.now c.args.place c.in_ok-rest.rest c.in_ok-rest.ensures) refl c.in_ok-proof.ensures c.in_ok-proof-2.ensures
