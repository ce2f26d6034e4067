use Rattle.std.proofs.Common.{◌≤◌}
use Rattle.pm_proof.specs.Nodes.{tree_of, turns}
use Rattle.pm_proof.proofs.proof.Proof.+gone.Given as goal

abbrev pub invariant-loop-node : goal.invariant-loop-node
invariant-loop-node l = turns (tree_of l.node) ≤ turns l.fn.self

abbrev pub decreases-loop-node : goal.decreases-loop-node
decreases-loop-node l = turns (tree_of l.node)
