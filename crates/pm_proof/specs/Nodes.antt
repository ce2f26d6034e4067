-- The trees that the code's nodes are, and how many steps it takes to let one go.
use Rattle.std.specs.Prelude.{ℕ, ◌+◌, ◌*◌}
use Rattle.pm_proof.specs.Trees.{Tree, Hole, Axiom, First, Second, Both}
use Rattle.pm_proof.specs.declared.proof.Node.{Node}
use Rattle.pm_proof.specs.declared.proof.Node.TheVariants as n

abbrev pub tree_of : Node → Tree
tree_of (n.Hole e) = Hole e
tree_of (n.Axiom r e) = Axiom r e
tree_of (n.First r e a) = First r e a
tree_of (n.Second r e b) = Second r e b
tree_of (n.Both r e a b) = Both r e a b

-- the rules that have premises
abbrev pub inner : Tree → ℕ
inner (Hole e) = 0
inner (Axiom r e) = 0
inner (First r e a) = inner a + 1
inner (Second r e b) = inner b + 1
inner (Both r e a b) = inner a + inner b + 1

-- how many turns the loop of a drop takes at most
abbrev pub turns : Tree → ℕ
turns (Hole e) = 0
turns (Axiom r e) = 0
turns (First r e a) = turns a + 1
turns (Second r e b) = turns b + 1
turns (Both r e a b) = 2 * inner a + turns b + 1
