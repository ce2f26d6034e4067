-- The answers for conjunctions and disjunctions.
use Rattle.std.proofs.Common.{ℕ, suc, ◌+◌, ◌*◌, ◌≡◌, ◌≤◌, ◌<◌, max, Bool, true, false, ◌&&◌, ◌||◌, if◌then◌else◌, [], ◌∷◌, Option, None, Some, is_none, IfSome, inl, inr, refl, sym, ap, subst, ◌∙◌, arith}
use denote.Hole.Carrier as carrier
use Rattle.pm_logic.specs.declared.formula.Formula.{Formula}
use Rattle.pm_logic.specs.declared.formula.Formula.TheViews as view
use Rattle.pm_logic.specs.declared.formula.Formula.TheBlock as block
use Rattle.pm_logic.specs.Size.{depth_of, nodes_of}
use Rattle.pm_proof.specs.Trees.{Tree, entail, conclusion}
use Rattle.pm_proof.specs.Known.{Proves, Every}
use Rattle.pm_proof.proofs.Fills.{weaker}
use Rattle.pm_schemes.specs.Sketches.{deepest}
use Rattle.pm_classes.specs.Closing.{Closes, ClosesBoth}
use Rattle.pm_classes.proofs.Sizes.{depth_sep, nodes_sep, has_nodes, has_levels}
use Rattle.pm_table.specs.Basic.{is_truth}
use Rattle.pm_table.specs.Framing.{truth, conjunction, disjunction, frame}
use Rattle.pm_table.specs.FramingLaws.{IsLeft}
use Rattle.pm_table.proofs.Framings.{framing_shrinks}
use Rattle.pm_frame.specs.declared.framed.Framed.{Framed}
use Rattle.pm_frame.specs.Frames.{FrameProof, IsFramed, FrameAnswer, FrameAnswers}
use Rattle.pm_frame.specs.Sides.{rest_or, is_gone, IsSide, and_rest, or_rest}
use Rattle.pm_frame.proofs.Parts.{part, nothing, rest_deep, truth_is, frame_none, frame_done, closed_frame, closed_both_frame}

-- ---- a side

pub some_side : (k : ℕ) (r a : Formula) (x : Framed) (gone : Bool) → FrameAnswer k r a (Some x) → gone ≡ is_truth x.rest → IsSide k r a (frame r a) x gone
some_side k r a x gone h test =
    let p = part k r a x h in
    record { rest = sym (ap (rest_or a) p.row); test = test ∙ sym (ap is_gone p.row); proof = p.proof }

pub no_side : (k : ℕ) (r a : Formula) (x : Framed) → FrameAnswer k r a None → x.rest ≡ a → Proves Every (entail k (view.Sep r a) a) [] 3 (deepest (r ∷ a ∷ []) [] + 1) k x.proof → IsSide k r a (frame r a) x false
no_side k r a x h rest p =
    let isnt = nothing k r a (frame r a) h in
    let proof : FrameProof k r a a x.proof = weaker Every (entail k (view.Sep r a) a) [] 3 (deepest (r ∷ a ∷ []) [] + 1) k (200 * nodes_of a) (max (depth_of r) (depth_of a) + 8) (k + depth_of a) x.proof (omega (arith, has_nodes a)) (omega (arith, has_levels a)) (omega arith) p in
    record { rest = rest ∙ sym (ap (rest_or a) isnt); test = sym (ap is_gone isnt); proof = subst (λ (z : Formula). FrameProof k r a z x.proof) (sym rest) proof }

or_deep : (a : Formula) (o : Option Formula) → IfSome o (IsLeft a) → depth_of (rest_or a o) ≤ max (depth_of a) 2
or_deep a None law = omega arith
or_deep a (Some g) law = rest_deep a g law

side_deep : (k : ℕ) (r a : Formula) (x : Framed) (gone : Bool) → IsSide k r a (frame r a) x gone → depth_of x.rest ≤ max (depth_of a) 2
side_deep k r a x gone s = subst (λ (z : Formula). depth_of z ≤ max (depth_of a) 2) (sym s.rest) (or_deep a (frame r a) (framing_shrinks r a))

gone_is : (a : Formula) (o : Option Formula) → is_gone o ≡ true → rest_or a o ≡ truth
gone_is a None h = absurd cc
gone_is a (Some g) h = truth_is g h

-- what its proof concludes, also where its rest is truth
pub side_concludes : (k : ℕ) (r a : Formula) (o : Option Formula) (x : Framed) (gone : Bool) → IsSide k r a o x gone → conclusion x.proof ≡ entail k (view.Sep r x.rest) a
side_concludes k r a o x gone s = s.proof.concludes

pub side_concludes_truth : (k : ℕ) (r a : Formula) (o : Option Formula) (x : Framed) (gone : Bool) → gone ≡ true → IsSide k r a o x gone → conclusion x.proof ≡ entail k (view.Sep r truth) a
side_concludes_truth k r a o x gone is s = s.proof.concludes ∙ ap (λ z. entail k (view.Sep r z) a) (s.rest ∙ gone_is a o (sym s.test ∙ is))

-- ---- the whole from its sides

from_both : (k n d : ℕ) (r a b q h : Formula) (x y f : Framed) (v w : Bool) → IsSide k r a (frame r a) x v → IsSide k r b (frame r b) y w → ClosesBoth x.proof y.proof (entail k (view.Sep r h) q) n d k f.proof → f.rest ≡ h → n ≤ 200 → (depth_of x.rest ≤ max (depth_of a) 2 → depth_of y.rest ≤ max (depth_of b) 2 → d ≤ max (depth_of r) (depth_of q) + 8) → nodes_of a + nodes_of b < nodes_of q → depth_of a < depth_of q → depth_of b < depth_of q → IsFramed k r q h f
from_both k n d r a b q h x y f v w s t closes rest hn hd nodes ha hb = record {
  rest = rest;
  proof = closed_both_frame k n d a b x.rest y.rest r q h x.proof y.proof f.proof s.proof t.proof closes hn (hd (side_deep k r a x v s) (side_deep k r b y w t)) nodes (omega (arith, ha)) (omega (arith, hb));
}

from_one : (k n d : ℕ) (r a q h : Formula) (x f : Framed) (v : Bool) → IsSide k r a (frame r a) x v → Closes x.proof (entail k (view.Sep r h) q) n d k f.proof → f.rest ≡ h → n ≤ 200 → d ≤ max (depth_of r) (depth_of q) + 8 → nodes_of a < nodes_of q → depth_of a < depth_of q → IsFramed k r q h f
from_one k n d r a q h x f v s closes rest hn hd nodes levels = record {
  rest = rest;
  proof = closed_frame k k n d k r a x.rest r q h x.proof f.proof s.proof closes hn hd (omega arith) nodes (omega (arith, levels)) (omega arith) (omega (arith, levels));
}

framed_as : (k : ℕ) (r q h g : Formula) (f : Framed) → h ≡ g → IsFramed k r q h f → IsFramed k r q g f
framed_as k r q h g f is p = subst (λ (z : Formula). IsFramed k r q z f) is p

-- both sides, of a node of this size
pub record IsNode (q a b : Formula) : Type 0 where
  pub nodes : nodes_of q ≡ suc (nodes_of a + nodes_of b)
  pub levels : depth_of q ≡ suc (max (depth_of a) (depth_of b))

-- ---- A ∧ B

module _ (k : ℕ) (r a b q : Formula) (x y f : Framed) (v w : Bool) (size : IsNode q a b) (s : IsSide k r a (frame r a) x v) (t : IsSide k r b (frame r b) y w) where
  and_first_is : v ≡ true → y.rest ≡ and_rest a b (frame r a) (frame r b)
  and_first_is g = t.rest ∙ sym (ap (λ (c : Bool). if c then rest_or b (frame r b) else if is_gone (frame r b) then rest_or a (frame r a) else view.And (rest_or a (frame r a)) (rest_or b (frame r b))) (sym s.test ∙ g))

  and_second_is : v ≡ false → w ≡ true → x.rest ≡ and_rest a b (frame r a) (frame r b)
  and_second_is g h = s.rest ∙ sym (ap (λ (c : Bool). if c then rest_or b (frame r b) else if is_gone (frame r b) then rest_or a (frame r a) else view.And (rest_or a (frame r a)) (rest_or b (frame r b))) (sym s.test ∙ g) ∙ ap (λ (c : Bool). if c then rest_or a (frame r a) else view.And (rest_or a (frame r a)) (rest_or b (frame r b))) (sym t.test ∙ h))

  and_both_is : v ≡ false → w ≡ false → view.And x.rest y.rest ≡ and_rest a b (frame r a) (frame r b)
  and_both_is g h = ap (λ z. view.And z y.rest) s.rest ∙ ap (view.And (rest_or a (frame r a))) t.rest ∙ sym (ap (λ (c : Bool). if c then rest_or b (frame r b) else if is_gone (frame r b) then rest_or a (frame r a) else view.And (rest_or a (frame r a)) (rest_or b (frame r b))) (sym s.test ∙ g) ∙ ap (λ (c : Bool). if c then rest_or a (frame r a) else view.And (rest_or a (frame r a)) (rest_or b (frame r b))) (sym t.test ∙ h))

  pub and_first_done : v ≡ true → f.rest ≡ y.rest → ClosesBoth x.proof y.proof (entail k (view.Sep r y.rest) q) 5 (deepest (r ∷ a ∷ b ∷ y.rest ∷ []) [] + 3) k f.proof → IsFramed k r q (and_rest a b (frame r a) (frame r b)) f
  and_first_done g rest closes = framed_as k r q y.rest (and_rest a b (frame r a) (frame r b)) f (and_first_is g) (from_both k 5 (deepest (r ∷ a ∷ b ∷ y.rest ∷ []) [] + 3) r a b q y.rest x y f v w s t closes rest (omega arith) (λ m n. omega (arith, m, n, size.levels, has_levels a)) (omega (arith, size.nodes)) (omega (arith, size.levels)) (omega (arith, size.levels)))

  pub and_second_done : v ≡ false → w ≡ true → f.rest ≡ x.rest → ClosesBoth x.proof y.proof (entail k (view.Sep r x.rest) q) 5 (deepest (r ∷ a ∷ b ∷ x.rest ∷ []) [] + 3) k f.proof → IsFramed k r q (and_rest a b (frame r a) (frame r b)) f
  and_second_done g h rest closes = framed_as k r q x.rest (and_rest a b (frame r a) (frame r b)) f (and_second_is g h) (from_both k 5 (deepest (r ∷ a ∷ b ∷ x.rest ∷ []) [] + 3) r a b q x.rest x y f v w s t closes rest (omega arith) (λ m n. omega (arith, m, n, size.levels, has_levels a)) (omega (arith, size.nodes)) (omega (arith, size.levels)) (omega (arith, size.levels)))

  pub and_both_done : v ≡ false → w ≡ false → f.rest ≡ view.And x.rest y.rest → ClosesBoth x.proof y.proof (entail k (view.Sep r (view.And x.rest y.rest)) q) 9 (deepest (r ∷ a ∷ b ∷ x.rest ∷ y.rest ∷ []) [] + 2) k f.proof → IsFramed k r q (and_rest a b (frame r a) (frame r b)) f
  and_both_done g h rest closes = framed_as k r q (view.And x.rest y.rest) (and_rest a b (frame r a) (frame r b)) f (and_both_is g h) (from_both k 9 (deepest (r ∷ a ∷ b ∷ x.rest ∷ y.rest ∷ []) [] + 2) r a b q (view.And x.rest y.rest) x y f v w s t closes rest (omega arith) (λ m n. omega (arith, m, n, size.levels, has_levels a)) (omega (arith, size.nodes)) (omega (arith, size.levels)) (omega (arith, size.levels)))

  -- ---- A ∨ B

  or_gone_is : (v || w) ≡ true → truth ≡ or_rest a b (frame r a) (frame r b)
  or_gone_is g = sym (ap (λ (c : Bool). if c then truth else view.Or (rest_or a (frame r a)) (rest_or b (frame r b))) (ap (λ (c : Bool). c || is_gone (frame r b)) (sym s.test) ∙ ap (λ (c : Bool). v || c) (sym t.test) ∙ g))

  or_both_is : (v || w) ≡ false → view.Or x.rest y.rest ≡ or_rest a b (frame r a) (frame r b)
  or_both_is g = ap (λ z. view.Or z y.rest) s.rest ∙ ap (view.Or (rest_or a (frame r a))) t.rest ∙ sym (ap (λ (c : Bool). if c then truth else view.Or (rest_or a (frame r a)) (rest_or b (frame r b))) (ap (λ (c : Bool). c || is_gone (frame r b)) (sym s.test) ∙ ap (λ (c : Bool). v || c) (sym t.test) ∙ g))

  pub or_first_done : v ≡ true → f.rest ≡ truth → Closes x.proof (entail k (view.Sep r truth) q) 2 (deepest (r ∷ a ∷ b ∷ []) [] + 3) k f.proof → IsFramed k r q (or_rest a b (frame r a) (frame r b)) f
  or_first_done g rest closes = framed_as k r q truth (or_rest a b (frame r a) (frame r b)) f (or_gone_is (ap (λ (c : Bool). c || w) g)) (from_one k 2 (deepest (r ∷ a ∷ b ∷ []) [] + 3) r a q truth x f v s closes rest (omega arith) (omega (arith, size.levels, has_levels a)) (omega (arith, size.nodes)) (omega (arith, size.levels)))

  pub or_second_done : v ≡ false → w ≡ true → f.rest ≡ truth → Closes y.proof (entail k (view.Sep r truth) q) 2 (deepest (r ∷ a ∷ b ∷ []) [] + 3) k f.proof → IsFramed k r q (or_rest a b (frame r a) (frame r b)) f
  or_second_done g h rest closes = framed_as k r q truth (or_rest a b (frame r a) (frame r b)) f (or_gone_is (ap (λ (c : Bool). c || w) g ∙ h)) (from_one k 2 (deepest (r ∷ a ∷ b ∷ []) [] + 3) r b q truth y f w t closes rest (omega arith) (omega (arith, size.levels, has_levels a)) (omega (arith, size.nodes)) (omega (arith, size.levels)))

  pub or_both_done : v ≡ false → w ≡ false → f.rest ≡ view.Or x.rest y.rest → ClosesBoth x.proof y.proof (entail k (view.Sep r (view.Or x.rest y.rest)) q) 14 (deepest (r ∷ a ∷ b ∷ x.rest ∷ y.rest ∷ []) [] + 2) k f.proof → IsFramed k r q (or_rest a b (frame r a) (frame r b)) f
  or_both_done g h rest closes = framed_as k r q (view.Or x.rest y.rest) (or_rest a b (frame r a) (frame r b)) f (or_both_is (ap (λ (c : Bool). c || w) g ∙ h)) (from_both k 14 (deepest (r ∷ a ∷ b ∷ x.rest ∷ y.rest ∷ []) [] + 2) r a b q (view.Or x.rest y.rest) x y f v w s t closes rest (omega arith) (λ m n. omega (arith, m, n, size.levels, has_levels a)) (omega (arith, size.nodes)) (omega (arith, size.levels)) (omega (arith, size.levels)))

-- ---- the rows

and_row : (a b : Formula) (o u : Option Formula) → (is_none o && is_none u) ≡ false → conjunction a b o u ≡ Some (and_rest a b o u)
unfolding block.shape-the_row-Formula-0 block.hidden-the_row-Formula-0 carrier.hidden conjunction
and_row a b (Some l) (Some r) h = refl
and_row a b (Some l) None h = refl
and_row a b None (Some r) h = refl
and_row a b None None h = absurd cc

or_false : (c : Bool) → c ≡ (c || false)
or_false true = refl
or_false false = refl

or_row : (a b : Formula) (o u : Option Formula) → (is_none o && is_none u) ≡ false → disjunction a b o u ≡ Some (or_rest a b o u)
unfolding block.shape-the_row-Formula-0 block.hidden-the_row-Formula-0 carrier.hidden disjunction
or_row a b (Some l) (Some r) h = refl
or_row a b (Some l) None h = ap (λ (c : Bool). Some (if c then truth else view.Or l b)) (or_false (is_truth l))
or_row a b None (Some r) h = refl
or_row a b None None h = absurd cc

and_none_row : (a b : Formula) (o u : Option Formula) → o ≡ None → u ≡ None → conjunction a b o u ≡ None
unfolding conjunction
and_none_row a b o u is at = ap (λ z. conjunction a b z u) is ∙ ap (conjunction a b None) at

or_none_row : (a b : Formula) (o u : Option Formula) → o ≡ None → u ≡ None → disjunction a b o u ≡ None
unfolding disjunction
or_none_row a b o u is at = ap (λ z. disjunction a b z u) is ∙ ap (disjunction a b None) at

-- the table has a rest exactly where the call has
alike : (k : ℕ) (r q : Formula) (o : Option Formula) (x : Option Framed) → FrameAnswers k r q o x → is_none x ≡ is_none o
alike k r q None None h = refl
alike k r q None (Some f) h = absurd h
alike k r q (Some g) None h = absurd h
alike k r q (Some g) (Some f) h = refl

is_nothing : (x : Option Framed) → is_none x ≡ true → x ≡ None
is_nothing None h = refl
is_nothing (Some f) h = absurd cc

first_true : (x y : Bool) → (x && y) ≡ true → (x ≡ true) × (y ≡ true)
first_true true y h = (refl, h)
first_true false y h = absurd cc

module _ (k : ℕ) (r a b q : Formula) (x y : Option Framed) (c : Bool) (test : c ≡ (is_none x && is_none y)) (h : FrameAnswer k r a x) (i : FrameAnswer k r b y) where
  table_test : c ≡ false → (is_none (frame r a) && is_none (frame r b)) ≡ false
  table_test fails = ap (λ (z : Bool). z && is_none (frame r b)) (sym (alike k r a (frame r a) x h)) ∙ ap (λ (z : Bool). is_none x && z) (sym (alike k r b (frame r b) y i)) ∙ sym test ∙ fails

  none_first : c ≡ true → frame r a ≡ None
  none_first holds = nothing k r a (frame r a) (subst (λ (z : Option Framed). FrameAnswer k r a z) (is_nothing x (first_true (is_none x) (is_none y) (sym test ∙ holds)).0) h)

  none_second : c ≡ true → frame r b ≡ None
  none_second holds = nothing k r b (frame r b) (subst (λ (z : Option Framed). FrameAnswer k r b z) (is_nothing y (first_true (is_none x) (is_none y) (sym test ∙ holds)).1) i)

  pub and_none : c ≡ true → FrameAnswers k r q (conjunction a b (frame r a) (frame r b)) None
  and_none holds = frame_none k r q (conjunction a b (frame r a) (frame r b)) (and_none_row a b (frame r a) (frame r b) (none_first holds) (none_second holds))

  pub or_none : c ≡ true → FrameAnswers k r q (disjunction a b (frame r a) (frame r b)) None
  or_none holds = frame_none k r q (disjunction a b (frame r a) (frame r b)) (or_none_row a b (frame r a) (frame r b) (none_first holds) (none_second holds))

  pub and_some : (f : Framed) → c ≡ false → IsFramed k r q (and_rest a b (frame r a) (frame r b)) f → FrameAnswers k r q (conjunction a b (frame r a) (frame r b)) (Some f)
  and_some f fails p = frame_done k r q (and_rest a b (frame r a) (frame r b)) (conjunction a b (frame r a) (frame r b)) f (and_row a b (frame r a) (frame r b) (table_test fails)) p.rest p.proof

  pub or_some : (f : Framed) → c ≡ false → IsFramed k r q (or_rest a b (frame r a) (frame r b)) f → FrameAnswers k r q (disjunction a b (frame r a) (frame r b)) (Some f)
  or_some f fails p = frame_done k r q (or_rest a b (frame r a) (frame r b)) (disjunction a b (frame r a) (frame r b)) f (or_row a b (frame r a) (frame r b) (table_test fails)) p.rest p.proof
