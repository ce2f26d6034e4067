-- Derivations over letters, and the trees that they stand for.
use Rattle.std.specs.Prelude.{ℕ, ◌+◌, max, List, [], ◌∷◌, ◌++◌, slice_index_or}
use Rattle.pm_logic.specs.declared.formula.Pure as P
use Rattle.pm_logic.specs.declared.formula.Pure.TheVariants.{True as Truth}
use Rattle.pm_logic.specs.declared.formula.Formula.{Formula}
use Rattle.pm_logic.specs.declared.formula.Formula.TheVariants.{Pure as Fact}
use Rattle.pm_logic.specs.Size.{depth_of, pure_depth}
use Rattle.pm_rules.specs.declared.rules.Entail.{Entail}
use Rattle.pm_rules.specs.declared.rules.Rule.{Rule}
use Rattle.pm_rules.specs.PureShapes as pure
use Rattle.pm_rules.specs.PureShapes.{PureShape}
use Rattle.pm_rules.specs.Shapes as shape
use Rattle.pm_rules.specs.Shapes.{Shape, Letters, Sequent, instance}
use Rattle.pm_proof.specs.Trees as tree
use Rattle.pm_proof.specs.Trees.{Tree, entail}

-- a gap, or a rule over no premise, one or two
pub data Sketch : Type 0 where
  Gap : Sequent → Sketch
  Axiom : Rule → Sequent → Sketch
  One : Rule → Sequent → Sketch → Sketch
  Two : Rule → Sequent → Sketch → Sketch → Sketch

-- what is derived
abbrev pub claim : Sketch → Sequent
claim (Gap c) = c
claim (Axiom r c) = c
claim (One r c a) = c
claim (Two r c a b) = c

-- and from what, from left to right
abbrev pub gaps : Sketch → List Sequent
gaps (Gap c) = c ∷ []
gaps (Axiom r c) = []
gaps (One r c a) = gaps a
gaps (Two r c a b) = gaps a ++ gaps b

-- the number of rules
abbrev pub steps : Sketch → ℕ
steps (Gap c) = 0
steps (Axiom r c) = 1
steps (One r c a) = steps a + 1
steps (Two r c a b) = steps a + steps b + 1

-- ---- at formulas in place of the letters

-- letter i stands for item i
abbrev pub letters_at : List Formula → List P.Pure → Letters
letters_at fs ps = record { formula = λ i. slice_index_or fs i (Fact Truth); pure = λ i. slice_index_or ps i Truth }

abbrev pub entail_of : ℕ → Letters → Sequent → Entail
entail_of k s c = entail k (instance s c.left) (instance s c.right)

-- the tree, in k variables
abbrev pub planted : ℕ → Letters → Sketch → Tree
planted k s (Gap c) = tree.Hole (entail_of k s c)
planted k s (Axiom r c) = tree.Axiom r (entail_of k s c)
planted k s (One r c a) = tree.First r (entail_of k s c) (planted k s a)
planted k s (Two r c a b) = tree.Both r (entail_of k s c) (planted k s a) (planted k s b)

-- ---- depths

-- how much deeper than its letters a shape is
abbrev pub pure_height : PureShape → ℕ
pure_height (pure.Letter i) = 0
pure_height pure.True = 1
pure_height pure.False = 1
pure_height (pure.And a b) = max (pure_height a) (pure_height b) + 1
pure_height (pure.Or a b) = max (pure_height a) (pure_height b) + 1
pure_height (pure.Not a) = pure_height a + 1

abbrev pub shape_height : Shape → ℕ
shape_height (shape.Letter i) = 0
shape_height (shape.Shifted i) = 0
shape_height (shape.Pure a) = pure_height a + 1
shape_height (shape.One o a) = shape_height a + 1
shape_height (shape.Two o a b) = max (shape_height a) (shape_height b) + 1

abbrev pub sides_height : Sequent → ℕ
sides_height c = max (shape_height c.left) (shape_height c.right)

abbrev pub height : Sketch → ℕ
height (Gap c) = sides_height c
height (Axiom r c) = sides_height c
height (One r c a) = max (sides_height c) (height a)
height (Two r c a b) = max (sides_height c) (max (height a) (height b))

-- the depth of the deepest of these, and at least that of ⌜True⌝
abbrev pub deepest_pure : List P.Pure → ℕ
deepest_pure [] = 2
deepest_pure (p ∷ ps) = max (pure_depth p) (deepest_pure ps)

abbrev pub deepest : List Formula → List P.Pure → ℕ
deepest [] ps = deepest_pure ps
deepest (f ∷ fs) ps = max (depth_of f) (deepest fs ps)
