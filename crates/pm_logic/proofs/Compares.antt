-- Changed trees, variant by variant, as they are compared.
use Rattle.std.proofs.Common.{◌≡◌, ℕ, suc, ◌+◌, max, refl, ap, sym, add-one}
use Rattle.pm_logic.specs.declared.formula.Term.{Term}
use Rattle.pm_logic.specs.declared.formula.Pure.{Pure, the_lemmas as pure_lemmas}
use Rattle.pm_logic.specs.declared.formula.Pure.TheVariants.{True, False, Eq, Le, Lt}
use Rattle.pm_logic.specs.declared.formula.Pure.TheViews as pure
use Rattle.pm_logic.specs.declared.formula.Pure.TheBlock as pure_block
use denote.Hole.Carrier as carrier
use Rattle.pm_logic.specs.declared.formula.Formula.{Formula, the_lemmas}
use Rattle.pm_logic.specs.declared.formula.Formula.TheViews as view
use Rattle.pm_logic.specs.declared.formula.Formula.TheBlock as block
use Rattle.pm_logic.specs.Changes.{changed_pure, changed}
use Rattle.pm_logic.specs.Size.{depth_of}
use Rattle.pm_logic.proofs.Changes.{changed_fact, changed_pts, changed_call}
use Rattle.pm_logic.proofs.Sizes.{formula_depths}

pub compared_true : (c : Term → Term) → changed_pure c True ≡ True
unfolding changed_pure
compared_true c = refl

pub compared_false : (c : Term → Term) → changed_pure c False ≡ False
unfolding changed_pure
compared_false c = refl

pub compared_eq : (c : Term → Term) (s t : Term) → changed_pure c (Eq s t) ≡ Eq (c s) (c t)
unfolding changed_pure
compared_eq c s t = refl

pub compared_le : (c : Term → Term) (s t : Term) → changed_pure c (Le s t) ≡ Le (c s) (c t)
unfolding changed_pure
compared_le c s t = refl

pub compared_lt : (c : Term → Term) (s t : Term) → changed_pure c (Lt s t) ≡ Lt (c s) (c t)
unfolding changed_pure
compared_lt c s t = refl

pub compared_both : (c : Term → Term) (a b : Pure) → changed_pure c (pure.And a b) ≡ pure.And (changed_pure c a) (changed_pure c b)
unfolding pure_block.shape-the_row-Pure-0 pure_block.hidden-the_row-Pure-0 carrier.hidden changed_pure
compared_both c a b = refl

pub compared_either : (c : Term → Term) (a b : Pure) → changed_pure c (pure.Or a b) ≡ pure.Or (changed_pure c a) (changed_pure c b)
unfolding pure_block.shape-the_row-Pure-0 pure_block.hidden-the_row-Pure-0 carrier.hidden changed_pure
compared_either c a b = refl

pub compared_not : (c : Term → Term) (a : Pure) → changed_pure c (pure.Not a) ≡ pure.Not (changed_pure c a)
unfolding pure_block.shape-the_row-Pure-0 pure_block.hidden-the_row-Pure-0 carrier.hidden changed_pure
compared_not c a = refl

pub compared_sep_formula : (c : ℕ → Term → Term) (d : ℕ) (a b : Formula) → changed c d (view.Sep a b) ≡ view.Sep (changed c d a) (changed c d b)
unfolding block.shape-the_row-Formula-0 block.hidden-the_row-Formula-0 carrier.hidden changed
compared_sep_formula c d a b = refl

pub compared_wand_formula : (c : ℕ → Term → Term) (d : ℕ) (a b : Formula) → changed c d (view.Wand a b) ≡ view.Wand (changed c d a) (changed c d b)
unfolding block.shape-the_row-Formula-0 block.hidden-the_row-Formula-0 carrier.hidden changed
compared_wand_formula c d a b = refl

pub compared_and_formula : (c : ℕ → Term → Term) (d : ℕ) (a b : Formula) → changed c d (view.And a b) ≡ view.And (changed c d a) (changed c d b)
unfolding block.shape-the_row-Formula-0 block.hidden-the_row-Formula-0 carrier.hidden changed
compared_and_formula c d a b = refl

pub compared_or_formula : (c : ℕ → Term → Term) (d : ℕ) (a b : Formula) → changed c d (view.Or a b) ≡ view.Or (changed c d a) (changed c d b)
unfolding block.shape-the_row-Formula-0 block.hidden-the_row-Formula-0 carrier.hidden changed
compared_or_formula c d a b = refl

pub compared_imp_formula : (c : ℕ → Term → Term) (d : ℕ) (a b : Formula) → changed c d (view.Imp a b) ≡ view.Imp (changed c d a) (changed c d b)
unfolding block.shape-the_row-Formula-0 block.hidden-the_row-Formula-0 carrier.hidden changed
compared_imp_formula c d a b = refl

pub compared_all : (c : ℕ → Term → Term) (d : ℕ) (a : Formula) → changed c d (view.All a) ≡ view.All (changed c (d + 1) a)
unfolding block.shape-the_row-Formula-0 block.hidden-the_row-Formula-0 carrier.hidden changed
compared_all c d a = ap (λ n. view.All (changed c n a)) (sym (add-one d))

pub compared_ex : (c : ℕ → Term → Term) (d : ℕ) (a : Formula) → changed c d (view.Ex a) ≡ view.Ex (changed c (d + 1) a)
unfolding block.shape-the_row-Formula-0 block.hidden-the_row-Formula-0 carrier.hidden changed
compared_ex c d a = ap (λ n. view.Ex (changed c n a)) (sym (add-one d))

pub compared_later : (c : ℕ → Term → Term) (d : ℕ) (a : Formula) → changed c d (view.Later a) ≡ view.Later (changed c d a)
unfolding block.shape-the_row-Formula-0 block.hidden-the_row-Formula-0 carrier.hidden changed
compared_later c d a = refl

pub compared_pers : (c : ℕ → Term → Term) (d : ℕ) (a : Formula) → changed c d (view.Pers a) ≡ view.Pers (changed c d a)
unfolding block.shape-the_row-Formula-0 block.hidden-the_row-Formula-0 carrier.hidden changed
compared_pers c d a = refl

pub compared_upd : (c : ℕ → Term → Term) (d : ℕ) (a : Formula) → changed c d (view.Upd a) ≡ view.Upd (changed c d a)
unfolding block.shape-the_row-Formula-0 block.hidden-the_row-Formula-0 carrier.hidden changed
compared_upd c d a = refl

pub depth_sep : (a b : Formula) → depth_of (view.Sep a b) ≡ suc (max (depth_of a) (depth_of b))
unfolding block.shape-the_row-Formula-0 block.hidden-the_row-Formula-0 carrier.hidden depth_of
depth_sep a b = refl

pub depth_wand : (a b : Formula) → depth_of (view.Wand a b) ≡ suc (max (depth_of a) (depth_of b))
unfolding block.shape-the_row-Formula-0 block.hidden-the_row-Formula-0 carrier.hidden depth_of
depth_wand a b = refl

pub depth_and : (a b : Formula) → depth_of (view.And a b) ≡ suc (max (depth_of a) (depth_of b))
unfolding block.shape-the_row-Formula-0 block.hidden-the_row-Formula-0 carrier.hidden depth_of
depth_and a b = refl

pub depth_or : (a b : Formula) → depth_of (view.Or a b) ≡ suc (max (depth_of a) (depth_of b))
unfolding block.shape-the_row-Formula-0 block.hidden-the_row-Formula-0 carrier.hidden depth_of
depth_or a b = refl

pub depth_imp : (a b : Formula) → depth_of (view.Imp a b) ≡ suc (max (depth_of a) (depth_of b))
unfolding block.shape-the_row-Formula-0 block.hidden-the_row-Formula-0 carrier.hidden depth_of
depth_imp a b = refl

pub ruleset pure_compares = (pure_lemmas, compared_true, compared_false, compared_eq, compared_le, compared_lt, compared_both, compared_either, compared_not)

pub ruleset compares = (the_lemmas, formula_depths, changed_fact, changed_pts, changed_call, compared_sep_formula, compared_wand_formula, compared_and_formula, compared_or_formula, compared_imp_formula, compared_all, compared_ex, compared_later, compared_pers, compared_upd, depth_sep, depth_wand, depth_and, depth_or, depth_imp)
