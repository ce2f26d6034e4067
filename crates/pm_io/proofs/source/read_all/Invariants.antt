use Rattle.std.proofs.Common.{◌≤◌, length, ◌-◌}
use Rattle.std.specs.Io.KnownBytes.{Consumes}
use Rattle.pm_io.proofs.source.read_all.Given as goal

-- what was taken is the front of what was left
abbrev pub invariant-loop-taken : goal.invariant-loop-taken
invariant-loop-taken g l =
    (g.S.Source.faults l.fn.source ≤ g.S.Source.faults l.source)
    × (length l.taken ≤ l.limit)
    × Consumes (g.S.Source.left l.fn.source) (g.S.Source.left l.source) l.taken

abbrev pub decreases-loop-taken : goal.decreases-loop-taken
decreases-loop-taken g l = l.limit - length l.taken
