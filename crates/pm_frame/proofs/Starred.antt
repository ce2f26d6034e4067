-- The answers for separating conjunctions.
use Rattle.std.proofs.Common.{ℕ, suc, ◌+◌, ◌≡◌, ◌≤◌, ◌<◌, max, Bool, true, false, if◌then◌else◌, [], ◌∷◌, Option, None, Some, refl, sym, ap, ◌∙◌, arith}
use denote.Hole.Carrier as carrier
use Rattle.pm_logic.specs.declared.formula.Formula.{Formula}
use Rattle.pm_logic.specs.declared.formula.Formula.TheViews as view
use Rattle.pm_logic.specs.declared.formula.Formula.TheBlock as block
use Rattle.pm_logic.specs.Size.{depth_of, nodes_of}
use Rattle.pm_proof.specs.Trees.{entail}
use Rattle.pm_classes.specs.Closing.{Closes}
use Rattle.pm_classes.proofs.Sizes.{depth_sep, nodes_sep, has_nodes}
use Rattle.pm_table.specs.Basic.{is_truth}
use Rattle.pm_table.specs.Framing.{truth, star, frame}
use Rattle.pm_frame.specs.declared.framed.Framed.{Framed}
use Rattle.pm_frame.specs.Frames.{FrameAnswer, FrameAnswers}
use Rattle.pm_frame.proofs.Parts.{part, nothing, frame_none, frame_done, closed_frame}

-- ---- the rows

left_row : (a b g : Formula) (o u : Option Formula) (c : Bool) → o ≡ Some g → is_truth g ≡ c → star a b o u ≡ Some (if c then b else view.Sep g b)
unfolding block.shape-the_row-Formula-0 block.hidden-the_row-Formula-0 carrier.hidden star
left_row a b g o u c is test = ap (λ z. star a b z u) is ∙ ap (λ (t : Bool). Some (if t then b else view.Sep g b)) test

right_row : (a b g : Formula) (o u : Option Formula) (c : Bool) → o ≡ None → u ≡ Some g → is_truth g ≡ c → star a b o u ≡ Some (if c then a else view.Sep a g)
unfolding block.shape-the_row-Formula-0 block.hidden-the_row-Formula-0 carrier.hidden star
right_row a b g o u c isnt is test = ap (λ z. star a b z u) isnt ∙ ap (star a b None) is ∙ ap (λ (t : Bool). Some (if t then a else view.Sep a g)) test

neither_row : (a b : Formula) (o u : Option Formula) → o ≡ None → u ≡ None → star a b o u ≡ None
unfolding star
neither_row a b o u isnt is = ap (λ z. star a b z u) isnt ∙ ap (star a b None) is

-- ---- the answers

-- from the side that is framed
from_side : (k n d : ℕ) (r a q h : Formula) (o : Option Formula) (x f : Framed) → FrameAnswer k r a (Some x) → o ≡ Some h → f.rest ≡ h → Closes x.proof (entail k (view.Sep r h) q) n d k f.proof → n ≤ 200 → (depth_of x.rest ≤ max (depth_of a) 2 → d ≤ max (depth_of r) (depth_of q) + 8) → nodes_of a < nodes_of q → depth_of a < depth_of q → FrameAnswers k r q o (Some f)
from_side k n d r a q h o x f answer is rest closes hn hd nodes levels =
    let p = part k r a x answer in
    frame_done k r q h o f is rest (closed_frame k k n d k r a x.rest r q h x.proof f.proof p.proof closes hn (hd p.deep) (omega arith) nodes (omega (arith, levels)) (omega arith) (omega (arith, levels)))

pub left_done : (k n d : ℕ) (r a b h : Formula) (c : Bool) (x f : Framed) → FrameAnswer k r a (Some x) → is_truth x.rest ≡ c → h ≡ (if c then b else view.Sep x.rest b) → f.rest ≡ h → Closes x.proof (entail k (view.Sep r h) (view.Sep a b)) n d k f.proof → n ≤ 200 → (depth_of x.rest ≤ max (depth_of a) 2 → d ≤ max (depth_of r) (depth_of (view.Sep a b)) + 8) → FrameAnswers k r (view.Sep a b) (star a b (frame r a) (frame r b)) (Some f)
left_done k n d r a b h c x f answer test form rest closes hn hd = from_side k n d r a (view.Sep a b) h (star a b (frame r a) (frame r b)) x f answer (left_row a b x.rest (frame r a) (frame r b) c (part k r a x answer).row test ∙ ap Some (sym form)) rest closes hn hd (omega (arith, nodes_sep a b)) (omega (arith, depth_sep a b))

pub right_done : (k n d : ℕ) (r a b h : Formula) (c : Bool) (x f : Framed) → frame r a ≡ None → FrameAnswer k r b (Some x) → is_truth x.rest ≡ c → h ≡ (if c then a else view.Sep a x.rest) → f.rest ≡ h → Closes x.proof (entail k (view.Sep r h) (view.Sep a b)) n d k f.proof → n ≤ 200 → (depth_of x.rest ≤ max (depth_of b) 2 → d ≤ max (depth_of r) (depth_of (view.Sep a b)) + 8) → FrameAnswers k r (view.Sep a b) (star a b (frame r a) (frame r b)) (Some f)
right_done k n d r a b h c x f isnt answer test form rest closes hn hd = from_side k n d r b (view.Sep a b) h (star a b (frame r a) (frame r b)) x f answer (right_row a b x.rest (frame r a) (frame r b) c isnt (part k r b x answer).row test ∙ ap Some (sym form)) rest closes hn hd (omega (arith, nodes_sep a b)) (omega (arith, depth_sep a b))

pub neither_done : (k : ℕ) (r a b : Formula) → frame r a ≡ None → FrameAnswer k r b None → FrameAnswers k r (view.Sep a b) (star a b (frame r a) (frame r b)) None
neither_done k r a b isnt answer = frame_none k r (view.Sep a b) (star a b (frame r a) (frame r b)) (neither_row a b (frame r a) (frame r b) isnt (nothing k r b (frame r b) answer))
