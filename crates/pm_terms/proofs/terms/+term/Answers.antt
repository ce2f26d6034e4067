use Rattle.std.proofs.Common.{◌≡◌, Err, sym, ap, arith}
use Rattle.pm_tokens.specs.Tokens.{places}
use Rattle.pm_terms.specs.Scope.{names_in}
use Rattle.pm_terms.specs.TermReading.{term_in}
use Rattle.pm_terms.proofs.Deeper.{deeper}
use Rattle.pm_terms.proofs.terms.+term.Goals as goal

pub term_in-returns-then-room-eq0 : goal.term_in-returns-then-room-eq0
unfolding term_in
term_in-returns-then-room-eq0 t c = let none : c.args.room ≡ 0 = omega arith in rw none (λ _. ap Err (sym c.deep_term.ensures))

pub term_in-returns-else-room-eq0 : goal.term_in-returns-else-room-eq0
unfolding term_in
term_in-returns-else-room-eq0 t c =
    rw (deeper (λ n. term_in c.args.context.now.stop (names_in c.args.bound.now c.args.context.now.vars) n c.args.left c.args.signs (places c.args.tokens.now)) c.args.room (omega arith)) c.term_at.ensures
