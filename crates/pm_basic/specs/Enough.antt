-- What suffices for a conclusion.
use Rattle.std.specs.Prelude.{◌≡◌, ℕ, ◌+◌, max, Bool, Option, None, Some, [], if◌then◌else◌}
use Rattle.pm_logic.specs.declared.formula.Formula.{Formula}
use Rattle.pm_logic.specs.Size.{depth_of}
use Rattle.pm_proof.specs.Trees.{Tree, entail}
use Rattle.pm_proof.specs.Known.{Proves, Every}
use Rattle.pm_classes.specs.declared.entry.One.{One}
use Rattle.pm_classes.specs.Classes.{Parts}

-- in k variables the formula f entails the conclusion c
abbrev pub Suffices : ℕ → Formula → Formula → Tree → Type 0
Suffices k c f t = Proves Every (entail k f c) [] 10 (max (depth_of f) (depth_of c) + 8) k t

pub record IsEnough (k : ℕ) (c f : Formula) (r : One) : Type 0 where
  pub formula : r.formula ≡ f
  pub proof : Suffices k c f r.proof

-- the formula with the proof that it suffices, or none where there is none
abbrev pub Enough : ℕ → Formula → Option Formula → Option One → Type 0
Enough k c None None = Unit {0}
Enough k c None (Some r) = ⊥
Enough k c (Some f) None = ⊥
Enough k c (Some f) (Some r) = IsEnough k c f r

-- the first part, or the second
abbrev pub picked : Bool → Parts → Formula
picked first p = if first then p.first else p.second
