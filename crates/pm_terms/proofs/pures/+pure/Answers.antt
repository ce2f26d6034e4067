use Rattle.std.proofs.Common.{◌≡◌, Err, sym, ap, arith}
use Rattle.pm_tokens.specs.Tokens.{places}
use Rattle.pm_terms.specs.Scope.{names_in}
use Rattle.pm_terms.specs.PureReading.{pure_in}
use Rattle.pm_terms.proofs.Deeper.{deeper}
use Rattle.pm_terms.proofs.pures.+pure.Goals as goal

pub pure_in-returns-then-room-eq0 : goal.pure_in-returns-then-room-eq0
unfolding pure_in
pure_in-returns-then-room-eq0 t c = let none : c.args.room ≡ 0 = omega arith in rw none (λ _. ap Err (sym c.deep_pure.ensures))

pub pure_in-returns-else-room-eq0 : goal.pure_in-returns-else-room-eq0
unfolding pure_in
pure_in-returns-else-room-eq0 t c =
    rw (deeper (λ n. pure_in c.args.context.now.stop (names_in c.args.bound.now c.args.context.now.vars) n c.args.level (places c.args.tokens.now)) c.args.room (omega arith)) c.pure_at.ensures
