-- Proofs with others at their holes.
use Rattle.std.specs.Prelude.{ℕ, ◌+◌, ◌≤◌, max, Bool, []}
use Rattle.pm_rules.specs.declared.rules.Entail.{Entail}
use Rattle.pm_proof.specs.Trees.{Tree, conclusion}
use Rattle.pm_proof.specs.Known.{Proves, Every}
use Rattle.pm_schemes.specs.Sketches.{Sketch, claim, gaps}
use Rattle.pm_schemes.specs.Tests.{sides_uses, uses_of_all, are_among}

-- whether each letter of a gap stands in what is derived
abbrev pub is_stated : Sketch → Bool
is_stated x = are_among (uses_of_all (gaps x)) (sides_uses (claim x))

-- a proof of e, with at most n rules more than there are in x, and besides what is in that one no formula deeper than d and
-- no entailment in more than w variables
abbrev pub Closes : Tree → Entail → ℕ → ℕ → ℕ → Tree → Type 0
Closes x e n d w t = (m b k : ℕ) → w ≤ k → Proves Every (conclusion x) [] m b k x → Proves Every e [] (n + m) (max b d) k t

-- the same over two proofs
abbrev pub ClosesBoth : Tree → Tree → Entail → ℕ → ℕ → ℕ → Tree → Type 0
ClosesBoth x y e n d w t = (m p b k : ℕ) → w ≤ k → Proves Every (conclusion x) [] m b k x → Proves Every (conclusion y) [] p b k y → Proves Every e [] (n + m + p) (max b d) k t
