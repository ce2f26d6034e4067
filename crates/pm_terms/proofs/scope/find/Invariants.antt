use Rattle.std.proofs.Common.{◌≡◌, ◌≤◌, ◌-◌, length, take}
use Rattle.std.specs.Str.{bytes_eq}
use Rattle.std.specs.List.{position_from}
use Rattle.pm_terms.specs.Scope.{names_in}
use Rattle.pm_terms.proofs.scope.find.Given as goal

abbrev pub invariant-loop-depth : goal.invariant-loop-depth
invariant-loop-depth l = record {
  below : l.depth ≤ length l.bound;
  same : position_from (bytes_eq l.name) (length l.bound - l.depth) (names_in (take l.depth l.bound) l.vars) ≡ position_from (bytes_eq l.name) 0 (names_in l.bound l.vars);
}

abbrev pub decreases-loop-depth : goal.decreases-loop-depth
decreases-loop-depth l = l.depth
