use Rattle.std.proofs.Common.{◌≡◌, ◌++◌, reverse, length}
use Rattle.pm_proof.proofs.joining.take_last.Given as goal

abbrev pub invariant-loop : goal.invariant-loop
invariant-loop l = record {
  count : length l.taken.items ≡ l.counter;
  order : reverse l.fn.finished.items ≡ l.taken.items ++ reverse l.finished.items;
}
