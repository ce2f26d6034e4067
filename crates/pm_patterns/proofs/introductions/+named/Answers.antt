use Rattle.std.proofs.Common.{arith}
use Rattle.pm_tokens.specs.Tokens.{places}
use Rattle.pm_patterns.proofs.Deeper.{no_room, with_room}
use Rattle.pm_patterns.proofs.introductions.+named.Goals as goal

pub named_pattern-returns-then-room-le1 : goal.named_pattern-returns-then-room-le1
named_pattern-returns-then-room-le1 t c = λ _. no_room c.args.stop c.args.room (places c.args.tokens.now) (omega arith) c.deep_name.ensures

pub named_pattern-returns-else-room-le1 : goal.named_pattern-returns-else-room-le1
named_pattern-returns-else-room-le1 t c =
    rw (with_room c.args.stop c.args.room (places c.args.tokens.now) (omega arith)) c.named_at.ensures
