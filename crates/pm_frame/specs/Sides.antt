-- The rests of two sides that both lose the hypothesis.
use Rattle.std.specs.Prelude.{◌≡◌, ℕ, Bool, false, ◌||◌, if◌then◌else◌, Option, None, Some}
use Rattle.pm_logic.specs.declared.formula.Formula.{Formula}
use Rattle.pm_logic.specs.declared.formula.Formula.TheViews as view
use Rattle.pm_table.specs.Basic.{is_truth}
use Rattle.pm_table.specs.Framing.{truth}
use Rattle.pm_frame.specs.declared.framed.Framed.{Framed}
use Rattle.pm_frame.specs.Frames.{FrameProof}

-- the rest, and the side itself where there is none
abbrev pub rest_or : Formula → Option Formula → Formula
rest_or a None = a
rest_or a (Some g) = g

-- there is a rest, and it is truth
abbrev pub is_gone : Option Formula → Bool
is_gone None = false
is_gone (Some g) = is_truth g

pub record IsSide (k : ℕ) (r a : Formula) (o : Option Formula) (f : Framed) (gone : Bool) : Type 0 where
  pub rest : f.rest ≡ rest_or a o
  pub test : gone ≡ is_gone o
  pub proof : FrameProof k r a f.rest f.proof

-- what is left of A ∧ B, and of A ∨ B, where a side has a rest
abbrev pub and_rest : Formula → Formula → Option Formula → Option Formula → Formula
and_rest a b x y = if is_gone x then rest_or b y else if is_gone y then rest_or a x else view.And (rest_or a x) (rest_or b y)

abbrev pub or_rest : Formula → Formula → Option Formula → Option Formula → Formula
or_rest a b x y = if is_gone x || is_gone y then truth else view.Or (rest_or a x) (rest_or b y)
