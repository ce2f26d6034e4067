-- How deep the formulas of shapes are.
use Rattle.std.proofs.Common.{ℕ, zero, suc, ◌+◌, ◌≤◌, ◌≡◌, inl, inr, max, List, [], ◌∷◌, refl, arith, slice_index_or}
use Rattle.std.proofs.Math.Nat.{le-max_left, le-max_right}
use Rattle.pm_logic.specs.declared.formula.Pure as P
use Rattle.pm_logic.specs.declared.formula.Pure.TheVariants.{True as Truth}
use Rattle.pm_logic.specs.declared.formula.Formula.{Formula}
use Rattle.pm_logic.specs.declared.formula.Formula.TheVariants.{Pure as Fact}
use Rattle.pm_logic.specs.declared.formula.Formula.TheViews as view
use Rattle.pm_logic.specs.Size.{depth_of, pure_depth}
use Rattle.pm_logic.proofs.Sizes.{depth_pair, depth_quantified, depth_modal, depth_pure, depth_true, depth_false, depth_both, depth_either, depth_not}
use Rattle.pm_rules.specs.declared.pattern.Unary.{Unary}
use Rattle.pm_rules.specs.declared.pattern.Unary.TheVariants as o
use Rattle.pm_rules.specs.declared.pattern.Binary.{Binary}
use Rattle.pm_rules.specs.declared.pattern.Binary.TheVariants as t
use Rattle.pm_rules.specs.PureShapes as pure
use Rattle.pm_rules.specs.PureShapes.{PureShape, pure_instance}
use Rattle.pm_rules.specs.Shapes as shape
use Rattle.pm_rules.specs.Shapes.{Shape, Letters, Sequent, instance, one, two}
use Rattle.pm_proof.specs.Trees.{depth, variables, side_depth}
use Rattle.pm_schemes.proofs.Shifts.{depth_shift}
use Rattle.pm_schemes.specs.Sketches.{Sketch, Gap, Axiom, One, Two, letters_at, entail_of, planted, pure_height, shape_height, sides_height, height, deepest_pure, deepest}

formula_deepest : (fs : List Formula) (ps : List P.Pure) (i : ℕ) → depth_of (slice_index_or fs i (Fact Truth)) ≤ deepest fs ps
formula_deepest [] [] i = omega (arith, depth_pure Truth, depth_true)
formula_deepest [] (p ∷ ps) i = omega (arith, formula_deepest [] ps i, le-max_right (pure_depth p) (deepest_pure ps))
formula_deepest (f ∷ fs) ps zero = le-max_left (depth_of f) (deepest fs ps)
formula_deepest (f ∷ fs) ps (suc i) = omega (arith, formula_deepest fs ps i, le-max_right (depth_of f) (deepest fs ps))

pure_deepest : (fs : List Formula) (ps : List P.Pure) (i : ℕ) → pure_depth (slice_index_or ps i Truth) ≤ deepest fs ps
pure_deepest [] [] i = omega (arith, depth_true)
pure_deepest [] (p ∷ ps) zero = le-max_left (pure_depth p) (deepest_pure ps)
pure_deepest [] (p ∷ ps) (suc i) = omega (arith, pure_deepest [] ps i, le-max_right (pure_depth p) (deepest_pure ps))
pure_deepest (f ∷ fs) ps i = omega (arith, pure_deepest fs ps i, le-max_right (depth_of f) (deepest fs ps))

pure_instance_depth : (fs : List Formula) (ps : List P.Pure) (x : PureShape) → pure_depth (pure_instance (letters_at fs ps).pure x) ≤ deepest fs ps + pure_height x
pure_instance_depth fs ps (pure.Letter i) = omega (arith, pure_deepest fs ps i)
pure_instance_depth fs ps pure.True = omega (arith, depth_true)
pure_instance_depth fs ps pure.False = omega (arith, depth_false)
pure_instance_depth fs ps (pure.And a b) = let e = depth_both (pure_instance (letters_at fs ps).pure a) (pure_instance (letters_at fs ps).pure b) in omega (arith, e, pure_instance_depth fs ps a, pure_instance_depth fs ps b)
pure_instance_depth fs ps (pure.Or a b) = let e = depth_either (pure_instance (letters_at fs ps).pure a) (pure_instance (letters_at fs ps).pure b) in omega (arith, e, pure_instance_depth fs ps a, pure_instance_depth fs ps b)
pure_instance_depth fs ps (pure.Not a) = let e = depth_not (pure_instance (letters_at fs ps).pure a) in omega (arith, e, pure_instance_depth fs ps a)

pub depth_one : (u : Unary) (f : Formula) → depth_of (one u f) ≡ suc (depth_of f)
depth_one o.All f = depth_quantified (view.All f) f (inl refl)
depth_one o.Ex f = depth_quantified (view.Ex f) f (inr refl)
depth_one o.Later f = depth_modal (view.Later f) f (inl refl)
depth_one o.Pers f = depth_modal (view.Pers f) f (inr (inl refl))
depth_one o.Upd f = depth_modal (view.Upd f) f (inr (inr refl))

pub depth_two : (u : Binary) (f g : Formula) → depth_of (two u f g) ≡ suc (max (depth_of f) (depth_of g))
depth_two t.Sep f g = depth_pair (view.Sep f g) f g (inl refl)
depth_two t.Wand f g = depth_pair (view.Wand f g) f g (inr (inl refl))
depth_two t.And f g = depth_pair (view.And f g) f g (inr (inr (inl refl)))
depth_two t.Or f g = depth_pair (view.Or f g) f g (inr (inr (inr (inl refl))))
depth_two t.Imp f g = depth_pair (view.Imp f g) f g (inr (inr (inr (inr refl))))

pub instance_depth : (fs : List Formula) (ps : List P.Pure) (x : Shape) → depth_of (instance (letters_at fs ps) x) ≤ deepest fs ps + shape_height x
instance_depth fs ps (shape.Letter i) = omega (arith, formula_deepest fs ps i)
instance_depth fs ps (shape.Shifted i) = omega (arith, depth_shift (slice_index_or fs i (Fact Truth)), formula_deepest fs ps i)
instance_depth fs ps (shape.Pure a) = let e = depth_pure (pure_instance (letters_at fs ps).pure a) in omega (arith, e, pure_instance_depth fs ps a)
instance_depth fs ps (shape.One u a) = let e = depth_one u (instance (letters_at fs ps) a) in omega (arith, e, instance_depth fs ps a)
instance_depth fs ps (shape.Two u a b) = let e = depth_two u (instance (letters_at fs ps) a) (instance (letters_at fs ps) b) in omega (arith, e, instance_depth fs ps a, instance_depth fs ps b)

sides_depth : (k : ℕ) (fs : List Formula) (ps : List P.Pure) (c : Sequent) → side_depth (entail_of k (letters_at fs ps) c) ≤ deepest fs ps + sides_height c
sides_depth k fs ps c = omega (arith, instance_depth fs ps c.left, instance_depth fs ps c.right)

pub planted_depth : (k : ℕ) (fs : List Formula) (ps : List P.Pure) (x : Sketch) → depth (planted k (letters_at fs ps) x) ≤ deepest fs ps + height x
planted_depth k fs ps (Gap c) = sides_depth k fs ps c
planted_depth k fs ps (Axiom r c) = sides_depth k fs ps c
planted_depth k fs ps (One r c a) = omega (arith, sides_depth k fs ps c, planted_depth k fs ps a)
planted_depth k fs ps (Two r c a b) = omega (arith, sides_depth k fs ps c, planted_depth k fs ps a, planted_depth k fs ps b)

pub planted_variables : (k : ℕ) (s : Letters) (x : Sketch) → variables (planted k s x) ≡ k
planted_variables k s (Gap c) = refl
planted_variables k s (Axiom r c) = refl
planted_variables k s (One r c a) = omega (arith, planted_variables k s a)
planted_variables k s (Two r c a b) = omega (arith, planted_variables k s a, planted_variables k s b)
