use Rattle.std.proofs.Common.{◌≡◌, ◌≤◌, false}
use Rattle.std.specs.Prelude.{replicate}
use Rattle.pm_sweep.proofs.placing.passed.Given as goal

abbrev pub invariant-loop : goal.invariant-loop
invariant-loop l = (l.out ≡ replicate l.counter false) × (l.counter ≤ l.parts)
