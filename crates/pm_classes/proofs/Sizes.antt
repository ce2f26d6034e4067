-- Depths and numbers of nodes, of formulas as code makes them.
use Rattle.std.proofs.Common.{suc, ◌+◌, ◌≡◌, ◌≤◌, max, inl, inr, refl, arith}
use Rattle.pm_logic.specs.declared.formula.Formula.{Formula}
use Rattle.pm_logic.specs.declared.formula.Formula.TheVariants.{Pure as Fact, Pts, Call}
use Rattle.pm_logic.specs.declared.formula.Formula.TheViews as view
use Rattle.pm_logic.specs.Trees.{Sep, Wand, And, Or, Imp, All, Ex, Later, Pers, Upd}
use Rattle.pm_logic.specs.Size.{depth_of, nodes_of}
use Rattle.pm_logic.proofs.Sizes.{depth_pair, depth_quantified, depth_modal, nodes_pair, nodes_quantified, nodes_modal}

pub has_nodes : (f : Formula) → 1 ≤ nodes_of f
unfolding nodes_of
has_nodes (Fact a) = omega arith
has_nodes (Sep a b) = omega arith
has_nodes (Wand a b) = omega arith
has_nodes (And a b) = omega arith
has_nodes (Or a b) = omega arith
has_nodes (Imp a b) = omega arith
has_nodes (All a) = omega arith
has_nodes (Ex a) = omega arith
has_nodes (Later a) = omega arith
has_nodes (Pers a) = omega arith
has_nodes (Upd a) = omega arith
has_nodes (Pts l u v) = omega arith
has_nodes (Call q args) = omega arith

pub has_levels : (f : Formula) → 1 ≤ depth_of f
unfolding depth_of
has_levels (Fact a) = omega arith
has_levels (Sep a b) = omega arith
has_levels (Wand a b) = omega arith
has_levels (And a b) = omega arith
has_levels (Or a b) = omega arith
has_levels (Imp a b) = omega arith
has_levels (All a) = omega arith
has_levels (Ex a) = omega arith
has_levels (Later a) = omega arith
has_levels (Pers a) = omega arith
has_levels (Upd a) = omega arith
has_levels (Pts l u v) = omega arith
has_levels (Call q args) = omega arith

pub depth_sep : (a b : Formula) → depth_of (view.Sep a b) ≡ suc (max (depth_of a) (depth_of b))
depth_sep a b = depth_pair (view.Sep a b) a b (inl refl)

pub depth_wand : (a b : Formula) → depth_of (view.Wand a b) ≡ suc (max (depth_of a) (depth_of b))
depth_wand a b = depth_pair (view.Wand a b) a b (inr (inl refl))

pub depth_and : (a b : Formula) → depth_of (view.And a b) ≡ suc (max (depth_of a) (depth_of b))
depth_and a b = depth_pair (view.And a b) a b (inr (inr (inl refl)))

pub depth_or : (a b : Formula) → depth_of (view.Or a b) ≡ suc (max (depth_of a) (depth_of b))
depth_or a b = depth_pair (view.Or a b) a b (inr (inr (inr (inl refl))))

pub depth_imp : (a b : Formula) → depth_of (view.Imp a b) ≡ suc (max (depth_of a) (depth_of b))
depth_imp a b = depth_pair (view.Imp a b) a b (inr (inr (inr (inr refl))))

pub depth_all : (a : Formula) → depth_of (view.All a) ≡ suc (depth_of a)
depth_all a = depth_quantified (view.All a) a (inl refl)

pub depth_ex : (a : Formula) → depth_of (view.Ex a) ≡ suc (depth_of a)
depth_ex a = depth_quantified (view.Ex a) a (inr refl)

pub depth_later : (a : Formula) → depth_of (view.Later a) ≡ suc (depth_of a)
depth_later a = depth_modal (view.Later a) a (inl refl)

pub depth_pers : (a : Formula) → depth_of (view.Pers a) ≡ suc (depth_of a)
depth_pers a = depth_modal (view.Pers a) a (inr (inl refl))

pub depth_upd : (a : Formula) → depth_of (view.Upd a) ≡ suc (depth_of a)
depth_upd a = depth_modal (view.Upd a) a (inr (inr refl))

pub nodes_sep : (a b : Formula) → nodes_of (view.Sep a b) ≡ suc (nodes_of a + nodes_of b)
nodes_sep a b = nodes_pair (view.Sep a b) a b (inl refl)

pub nodes_wand : (a b : Formula) → nodes_of (view.Wand a b) ≡ suc (nodes_of a + nodes_of b)
nodes_wand a b = nodes_pair (view.Wand a b) a b (inr (inl refl))

pub nodes_and : (a b : Formula) → nodes_of (view.And a b) ≡ suc (nodes_of a + nodes_of b)
nodes_and a b = nodes_pair (view.And a b) a b (inr (inr (inl refl)))

pub nodes_or : (a b : Formula) → nodes_of (view.Or a b) ≡ suc (nodes_of a + nodes_of b)
nodes_or a b = nodes_pair (view.Or a b) a b (inr (inr (inr (inl refl))))

pub nodes_imp : (a b : Formula) → nodes_of (view.Imp a b) ≡ suc (nodes_of a + nodes_of b)
nodes_imp a b = nodes_pair (view.Imp a b) a b (inr (inr (inr (inr refl))))

pub nodes_all : (a : Formula) → nodes_of (view.All a) ≡ suc (nodes_of a)
nodes_all a = nodes_quantified (view.All a) a (inl refl)

pub nodes_ex : (a : Formula) → nodes_of (view.Ex a) ≡ suc (nodes_of a)
nodes_ex a = nodes_quantified (view.Ex a) a (inr refl)

pub nodes_later : (a : Formula) → nodes_of (view.Later a) ≡ suc (nodes_of a)
nodes_later a = nodes_modal (view.Later a) a (inl refl)

pub nodes_pers : (a : Formula) → nodes_of (view.Pers a) ≡ suc (nodes_of a)
nodes_pers a = nodes_modal (view.Pers a) a (inr (inl refl))

pub nodes_upd : (a : Formula) → nodes_of (view.Upd a) ≡ suc (nodes_of a)
nodes_upd a = nodes_modal (view.Upd a) a (inr (inr refl))
