use Rattle.std.proofs.Common.{◌≡◌, Err, sym, ap, arith}
use Rattle.pm_tokens.specs.Tokens.{places}
use Rattle.pm_terms.specs.Scope.{names_in}
use Rattle.pm_terms.specs.TermReading.{operand_in}
use Rattle.pm_terms.proofs.Deeper.{deeper}
use Rattle.pm_terms.proofs.terms.operand_in.Goals as goal

pub returns-then-room-eq0 : goal.returns-then-room-eq0
unfolding operand_in
returns-then-room-eq0 c = let none : c.args.room ≡ 0 = omega arith in rw none (λ _. ap Err (sym c.deep_term.ensures))

pub returns-else-room-eq0 : goal.returns-else-room-eq0
unfolding operand_in
returns-else-room-eq0 c =
    rw (deeper (λ n. operand_in c.args.context.now.stop (names_in c.args.bound.now c.args.context.now.vars) n (places c.args.tokens.now)) c.args.room (omega arith)) c.operand_at.ensures
