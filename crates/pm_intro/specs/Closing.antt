-- Proofs at the gaps of schemes, each letter of which stands in what is derived.
use Rattle.std.specs.Prelude.{ℕ, ◌+◌, ◌≤◌, List, ◌++◌}
use Rattle.pm_rules.specs.declared.rules.Entail.{Entail}
use Rattle.pm_proof.specs.Trees.{Tree, conclusion}
use Rattle.pm_proof.specs.Known.{Proves, Every}

-- a proof of e with the holes of x, with at most n rules more, no formula besides deeper than d, and no entailment besides in
-- more than w variables
abbrev pub Closes : Tree → Entail → ℕ → ℕ → ℕ → Tree → Type 0
Closes x e n d w t = (hs : List Entail) (m b k : ℕ) → d ≤ b → w ≤ k → Proves Every (conclusion x) hs m b k x → Proves Every e hs (n + m) b k t

-- the same over two proofs
abbrev pub ClosesBoth : Tree → Tree → Entail → ℕ → ℕ → ℕ → Tree → Type 0
ClosesBoth x y e n d w t = (hs gs : List Entail) (m p b k : ℕ) → d ≤ b → w ≤ k → Proves Every (conclusion x) hs m b k x → Proves Every (conclusion y) gs p b k y → Proves Every e (hs ++ gs) (n + m + p) b k t
