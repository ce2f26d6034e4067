use Rattle.std.proofs.Common.{◌≡◌, List, ◌++◌, map, length}
use Rattle.pm_rules.specs.declared.rules.Entail.{Entail}
use Rattle.pm_proof.specs.Trees.{conclusion, holes_of}
use Rattle.pm_proof.specs.Joins.{filled_from}
use Rattle.pm_proof.proofs.joining.fill_first.Given as goal

abbrev pub invariant-loop-last : goal.invariant-loop-last
invariant-loop-last l = record {
  first : (others : List Entail) × (holes_of l.proof ≡ map conclusion l.inner.items ++ others);
  tree : filled_from l.proof 0 l.inner.items ≡ filled_from l.fn.proof 0 l.fn.inner.items;
}

abbrev pub decreases-loop-last : goal.decreases-loop-last
decreases-loop-last l = length l.inner.items
