-- How deep and how large a tree is: every constructor of formula, pure formula and term is one level and one node.
use Rattle.std.specs.Prelude.{ℕ, suc, ◌+◌, max, List, [], ◌∷◌}
use Rattle.pm_logic.specs.declared.formula.Term.{Term}
use Rattle.pm_logic.specs.declared.formula.Term.TheVariants.{Lit, Var}
use Rattle.pm_logic.specs.declared.formula.Pure.{Pure}
use Rattle.pm_logic.specs.declared.formula.Pure.TheVariants.{True, False, Eq, Le, Lt}
use Rattle.pm_logic.specs.declared.formula.Formula.{Formula}
use Rattle.pm_logic.specs.declared.formula.Formula.TheVariants.{Pure as Fact, Pts, Call}
use Rattle.pm_logic.specs.Trees.{add, sub, neg, scale, both, either, nope, Sep, Wand, And, Or, Imp, All, Ex, Later, Pers, Upd}

unfoldable pub term_depth : Term → ℕ
term_depth (Lit z) = 1
term_depth (Var i) = 1
term_depth (add s t) = suc (max (term_depth s) (term_depth t))
term_depth (sub s t) = suc (max (term_depth s) (term_depth t))
term_depth (neg t) = suc (term_depth t)
term_depth (scale z t) = suc (term_depth t)

-- the greatest depth of the terms, 0 where there is none
unfoldable pub terms_depth : List Term → ℕ
terms_depth [] = 0
terms_depth (t ∷ ts) = max (term_depth t) (terms_depth ts)

unfoldable pub pure_depth : Pure → ℕ
pure_depth True = 1
pure_depth False = 1
pure_depth (Eq s t) = suc (max (term_depth s) (term_depth t))
pure_depth (Le s t) = suc (max (term_depth s) (term_depth t))
pure_depth (Lt s t) = suc (max (term_depth s) (term_depth t))
pure_depth (both a b) = suc (max (pure_depth a) (pure_depth b))
pure_depth (either a b) = suc (max (pure_depth a) (pure_depth b))
pure_depth (nope a) = suc (pure_depth a)

unfoldable pub depth_of : Formula → ℕ
depth_of (Fact a) = suc (pure_depth a)
depth_of (Sep a b) = suc (max (depth_of a) (depth_of b))
depth_of (Wand a b) = suc (max (depth_of a) (depth_of b))
depth_of (And a b) = suc (max (depth_of a) (depth_of b))
depth_of (Or a b) = suc (max (depth_of a) (depth_of b))
depth_of (Imp a b) = suc (max (depth_of a) (depth_of b))
depth_of (All a) = suc (depth_of a)
depth_of (Ex a) = suc (depth_of a)
depth_of (Later a) = suc (depth_of a)
depth_of (Pers a) = suc (depth_of a)
depth_of (Upd a) = suc (depth_of a)
depth_of (Pts l u v) = suc (max (term_depth l) (term_depth v))
depth_of (Call q args) = suc (terms_depth args)

unfoldable pub term_nodes : Term → ℕ
term_nodes (Lit z) = 1
term_nodes (Var i) = 1
term_nodes (add s t) = suc (term_nodes s + term_nodes t)
term_nodes (sub s t) = suc (term_nodes s + term_nodes t)
term_nodes (neg t) = suc (term_nodes t)
term_nodes (scale z t) = suc (term_nodes t)

-- the nodes of the terms together
unfoldable pub terms_nodes : List Term → ℕ
terms_nodes [] = 0
terms_nodes (t ∷ ts) = term_nodes t + terms_nodes ts

unfoldable pub pure_nodes : Pure → ℕ
pure_nodes True = 1
pure_nodes False = 1
pure_nodes (Eq s t) = suc (term_nodes s + term_nodes t)
pure_nodes (Le s t) = suc (term_nodes s + term_nodes t)
pure_nodes (Lt s t) = suc (term_nodes s + term_nodes t)
pure_nodes (both a b) = suc (pure_nodes a + pure_nodes b)
pure_nodes (either a b) = suc (pure_nodes a + pure_nodes b)
pure_nodes (nope a) = suc (pure_nodes a)

unfoldable pub nodes_of : Formula → ℕ
nodes_of (Fact a) = suc (pure_nodes a)
nodes_of (Sep a b) = suc (nodes_of a + nodes_of b)
nodes_of (Wand a b) = suc (nodes_of a + nodes_of b)
nodes_of (And a b) = suc (nodes_of a + nodes_of b)
nodes_of (Or a b) = suc (nodes_of a + nodes_of b)
nodes_of (Imp a b) = suc (nodes_of a + nodes_of b)
nodes_of (All a) = suc (nodes_of a)
nodes_of (Ex a) = suc (nodes_of a)
nodes_of (Later a) = suc (nodes_of a)
nodes_of (Pers a) = suc (nodes_of a)
nodes_of (Upd a) = suc (nodes_of a)
nodes_of (Pts l u v) = suc (term_nodes l + term_nodes v)
nodes_of (Call q args) = suc (terms_nodes args)
