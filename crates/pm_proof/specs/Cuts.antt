-- A tree cut in two, so many levels down on the way to a hole.
use Rattle.std.specs.Prelude.{ℕ, zero, suc, ◌-◌, nat_lt, if◌then◌else◌}
use Rattle.pm_proof.specs.Trees.{Tree, Hole, Axiom, First, Second, Both, hole_count, empty}

-- the lower part
abbrev pub part_at : Tree → ℕ → ℕ → Tree
part_at t i zero = t
part_at (Hole e) i (suc n) = Hole e
part_at (Axiom r e) i (suc n) = Axiom r e
part_at (First r e a) i (suc n) = part_at a i n
part_at (Second r e b) i (suc n) = part_at b i n
part_at (Both r e a b) i (suc n) = if nat_lt i (hole_count a) then part_at a i n else part_at b (i - hole_count a) n

-- the place of the hole in it
abbrev pub index_at : Tree → ℕ → ℕ → ℕ
index_at t i zero = i
index_at (Hole e) i (suc n) = i
index_at (Axiom r e) i (suc n) = i
index_at (First r e a) i (suc n) = index_at a i n
index_at (Second r e b) i (suc n) = index_at b i n
index_at (Both r e a b) i (suc n) = if nat_lt i (hole_count a) then index_at a i n else index_at b (i - hole_count a) n

-- the upper part, with a hole where the lower one was
abbrev pub rest_at : Tree → ℕ → ℕ → Tree
rest_at t i zero = Hole empty
rest_at (Hole e) i (suc n) = Hole empty
rest_at (Axiom r e) i (suc n) = Hole empty
rest_at (First r e a) i (suc n) = First r e (rest_at a i n)
rest_at (Second r e b) i (suc n) = Second r e (rest_at b i n)
rest_at (Both r e a b) i (suc n) = if nat_lt i (hole_count a) then Both r e (rest_at a i n) b else Both r e a (rest_at b (i - hole_count a) n)
