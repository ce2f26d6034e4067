use Rattle.pm_proof.specs.Trees.{levels}
use Rattle.pm_proof.specs.Nodes.{tree_of}
use Rattle.pm_proof.proofs.filling.+fill_deep.Given as goal

abbrev pub decreases-fill_deep : goal.decreases-fill_deep
decreases-fill_deep l = levels (tree_of l.node.now)
