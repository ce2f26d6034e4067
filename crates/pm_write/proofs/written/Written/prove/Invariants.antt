use Rattle.std.proofs.Common.{reverse, length, ◌<◌}
use Rattle.pm_write.proofs.Looping.{Goes}
use Rattle.pm_write.proofs.written.Written.prove.Given as goal

abbrev pub invariant-loop-part : goal.invariant-loop-part
invariant-loop-part l = Goes l.fn.self l.self l.earlier l.proof l.parts.items (reverse l.built.items) l.recalled.items × (0 < length l.recalled.items)

abbrev pub decreases-loop-part : goal.decreases-loop-part
decreases-loop-part l = length l.parts.items
