-- The parts of a tree, each before those of its premises.
use Rattle.std.specs.Prelude.{List, [], ◌∷◌, ◌++◌}
use Rattle.pm_proof.specs.Trees.{Tree, Hole, Axiom, First, Second, Both}

abbrev pub premises_of : Tree → List Tree
premises_of (Hole e) = []
premises_of (Axiom r e) = []
premises_of (First r e a) = a ∷ []
premises_of (Second r e b) = b ∷ []
premises_of (Both r e a b) = a ∷ b ∷ []

abbrev pub parts_of : Tree → List Tree
parts_of (Hole e) = Hole e ∷ []
parts_of (Axiom r e) = Axiom r e ∷ []
parts_of (First r e a) = First r e a ∷ parts_of a
parts_of (Second r e b) = Second r e b ∷ parts_of b
parts_of (Both r e a b) = Both r e a b ∷ (parts_of a ++ parts_of b)

abbrev pub parts_of_all : List Tree → List Tree
parts_of_all [] = []
parts_of_all (t ∷ ts) = parts_of t ++ parts_of_all ts
