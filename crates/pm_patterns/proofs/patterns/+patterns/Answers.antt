use Rattle.std.proofs.Common.{◌≡◌, Err, sym, ap, arith}
use Rattle.pm_tokens.specs.Tokens.{places}
use Rattle.pm_patterns.specs.PatternReading.{pattern_in}
use Rattle.pm_patterns.proofs.Deeper.{deeper}
use Rattle.pm_patterns.proofs.patterns.+patterns.Goals as goal

pub pattern_in-returns-then-room-eq0 : goal.pattern_in-returns-then-room-eq0
unfolding pattern_in
pattern_in-returns-then-room-eq0 t c = let none : c.args.room ≡ 0 = omega arith in rw none (λ _. ap Err (sym c.deep_pattern.ensures))

pub pattern_in-returns-else-room-eq0 : goal.pattern_in-returns-else-room-eq0
unfolding pattern_in
pattern_in-returns-else-room-eq0 t c =
    rw (deeper (λ n. pattern_in c.args.stop n c.args.extent (places c.args.tokens.now)) c.args.room (omega arith)) c.pattern_at.ensures
