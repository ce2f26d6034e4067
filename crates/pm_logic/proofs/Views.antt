-- The variants as code makes them, without the shapes of their boxes.
use Rattle.std.proofs.Common.{◌≡◌, ℤ, refl}
use Rattle.pm_logic.specs.declared.formula.Term.{Term}
use Rattle.pm_logic.specs.declared.formula.Term.TheViews as term
use Rattle.pm_logic.specs.declared.formula.Term.TheBlock as term_block
use Rattle.pm_logic.specs.declared.formula.Pure.{Pure}
use Rattle.pm_logic.specs.declared.formula.Pure.TheViews as pure
use Rattle.pm_logic.specs.declared.formula.Pure.TheBlock as pure_block
use Rattle.pm_logic.specs.declared.formula.Formula.{Formula}
use Rattle.pm_logic.specs.declared.formula.Formula.TheViews as view
use Rattle.pm_logic.specs.declared.formula.Formula.TheBlock as block
use denote.Hole.Carrier as carrier
use Rattle.pm_logic.specs.Trees as tree

pub view_add : (a b : Term) → term.Add a b ≡ tree.add a b
unfolding term_block.shape-the_row-Term-0 term_block.hidden-the_row-Term-0 carrier.hidden
view_add a b = refl

pub view_sub : (a b : Term) → term.Sub a b ≡ tree.sub a b
unfolding term_block.shape-the_row-Term-0 term_block.hidden-the_row-Term-0 carrier.hidden
view_sub a b = refl

pub view_neg : (a : Term) → term.Neg a ≡ tree.neg a
unfolding term_block.shape-the_row-Term-0 term_block.hidden-the_row-Term-0 carrier.hidden
view_neg a = refl

pub view_scale : (z : ℤ) (a : Term) → term.Scale z a ≡ tree.scale z a
unfolding term_block.shape-the_row-Term-0 term_block.hidden-the_row-Term-0 carrier.hidden
view_scale z a = refl

pub view_both : (a b : Pure) → pure.And a b ≡ tree.both a b
unfolding pure_block.shape-the_row-Pure-0 pure_block.hidden-the_row-Pure-0 carrier.hidden
view_both a b = refl

pub view_either : (a b : Pure) → pure.Or a b ≡ tree.either a b
unfolding pure_block.shape-the_row-Pure-0 pure_block.hidden-the_row-Pure-0 carrier.hidden
view_either a b = refl

pub view_not : (a : Pure) → pure.Not a ≡ tree.nope a
unfolding pure_block.shape-the_row-Pure-0 pure_block.hidden-the_row-Pure-0 carrier.hidden
view_not a = refl

pub view_sep : (a b : Formula) → view.Sep a b ≡ tree.Sep a b
unfolding block.shape-the_row-Formula-0 block.hidden-the_row-Formula-0 carrier.hidden
view_sep a b = refl

pub view_wand : (a b : Formula) → view.Wand a b ≡ tree.Wand a b
unfolding block.shape-the_row-Formula-0 block.hidden-the_row-Formula-0 carrier.hidden
view_wand a b = refl

pub view_and : (a b : Formula) → view.And a b ≡ tree.And a b
unfolding block.shape-the_row-Formula-0 block.hidden-the_row-Formula-0 carrier.hidden
view_and a b = refl

pub view_or : (a b : Formula) → view.Or a b ≡ tree.Or a b
unfolding block.shape-the_row-Formula-0 block.hidden-the_row-Formula-0 carrier.hidden
view_or a b = refl

pub view_imp : (a b : Formula) → view.Imp a b ≡ tree.Imp a b
unfolding block.shape-the_row-Formula-0 block.hidden-the_row-Formula-0 carrier.hidden
view_imp a b = refl

pub view_all : (a : Formula) → view.All a ≡ tree.All a
unfolding block.shape-the_row-Formula-0 block.hidden-the_row-Formula-0 carrier.hidden
view_all a = refl

pub view_ex : (a : Formula) → view.Ex a ≡ tree.Ex a
unfolding block.shape-the_row-Formula-0 block.hidden-the_row-Formula-0 carrier.hidden
view_ex a = refl

pub view_later : (a : Formula) → view.Later a ≡ tree.Later a
unfolding block.shape-the_row-Formula-0 block.hidden-the_row-Formula-0 carrier.hidden
view_later a = refl

pub view_pers : (a : Formula) → view.Pers a ≡ tree.Pers a
unfolding block.shape-the_row-Formula-0 block.hidden-the_row-Formula-0 carrier.hidden
view_pers a = refl

pub view_upd : (a : Formula) → view.Upd a ≡ tree.Upd a
unfolding block.shape-the_row-Formula-0 block.hidden-the_row-Formula-0 carrier.hidden
view_upd a = refl
