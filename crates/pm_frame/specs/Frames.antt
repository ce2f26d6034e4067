-- What framing answers: what the table leaves of the conclusion, with a proof of it.
use Rattle.std.specs.Prelude.{◌≡◌, ℕ, ◌+◌, ◌*◌, ◌<◌, max, Option, None, Some, []}
use Rattle.pm_logic.specs.declared.formula.Formula.{Formula}
use Rattle.pm_logic.specs.declared.formula.Formula.TheViews as view
use Rattle.pm_logic.specs.declared.formula.TheConstants.{BOUND}
use Rattle.pm_logic.specs.Scope.{ScopedIn}
use Rattle.pm_logic.specs.Size.{depth_of, nodes_of}
use Rattle.pm_proof.specs.Trees.{Tree, entail}
use Rattle.pm_proof.specs.Known.{Proves, Every}
use Rattle.pm_table.specs.Framing.{frame}
use Rattle.pm_frame.specs.declared.framed.Framed.{Framed}

-- what is handed in: the hypothesis r and the conclusion q, scoped in k variables, and together not too deep for so many
pub record AreHanded (k : ℕ) (r q : Formula) : Type 0 where
  pub hypothesis : ScopedIn k r
  pub conclusion : ScopedIn k q
  pub within : k + (depth_of r + depth_of q) < BOUND

-- a proof of r ∗ g ⊢ q without holes, valid under every table and scoped where that is, with at most 200 rules for each node
-- of q, no formula deeper by more than 8 than r and q, and no more variables than the k and one for each level of q
abbrev pub FrameProof : ℕ → Formula → Formula → Formula → Tree → Type 0
FrameProof k r q g t = Proves Every (entail k (view.Sep r g) q) [] (200 * nodes_of q) (max (depth_of r) (depth_of q) + 8) (k + depth_of q) t

-- the rest g of q without r, with its proof
pub record IsFramed (k : ℕ) (r q g : Formula) (f : Framed) : Type 0 where
  pub rest : f.rest ≡ g
  pub proof : FrameProof k r q g f.proof

-- the rest with its proof, or none where there is none
abbrev pub FrameAnswers : ℕ → Formula → Formula → Option Formula → Option Framed → Type 0
FrameAnswers k r q None None = Unit {0}
FrameAnswers k r q None (Some f) = ⊥
FrameAnswers k r q (Some g) None = ⊥
FrameAnswers k r q (Some g) (Some f) = IsFramed k r q g f

-- by the table
abbrev pub FrameAnswer : ℕ → Formula → Formula → Option Framed → Type 0
FrameAnswer k r q f = FrameAnswers k r q (frame r q) f
