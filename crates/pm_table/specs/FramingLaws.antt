-- What framing leaves.
use Rattle.std.specs.Prelude.{◌≡◌, ◌⊎◌, ◌≤◌, IfSome}
use Rattle.pm_logic.specs.declared.formula.Formula.{Formula}
use Rattle.pm_logic.specs.Size.{nodes_of, depth_of}
use Rattle.pm_table.specs.Framing.{truth, frame}

-- no more nodes than Q, and not deeper
pub record IsNoLarger (q rest : Formula) : Type 0 where
  pub nodes : nodes_of rest ≤ nodes_of q
  pub depth : depth_of rest ≤ depth_of q

abbrev pub IsLeft : Formula → Formula → Type 0
IsLeft q rest = (rest ≡ truth) ⊎ IsNoLarger q rest

-- What is left of Q is truth, or has no more nodes than Q and isn't deeper.
abbrev pub FramingShrinks : Type 0
FramingShrinks = (r q : Formula) → IfSome (frame r q) (IsLeft q)
