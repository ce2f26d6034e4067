-- The star of a work without a variable.
use Rattle.std.proofs.Common.{◌≡◌, ℕ, List, [], ◌∷◌, map, refl, ◌∙◌, ap, ap₂}
use denote.Hole.Carrier as carrier
use Rattle.pm_logic.specs.declared.formula.Pure.{Pure}
use Rattle.pm_logic.specs.declared.formula.Pure.TheVariants as pure
use Rattle.pm_logic.specs.declared.formula.Formula.{Formula}
use Rattle.pm_logic.specs.declared.formula.Formula.TheVariants.{Pure as Assert}
use Rattle.pm_logic.specs.declared.formula.Formula.TheViews as view
use Rattle.pm_logic.specs.declared.formula.Formula.TheBlock as block
use Rattle.pm_logic.specs.Substitution.{Sub, in_pure, in_formula}
use Rattle.pm_goal.specs.declared.goal.Hyp.{Hyp}
use Rattle.pm_goal.specs.declared.goal.Fact.{Fact}
use Rattle.pm_goal.specs.declared.goal.Goal.{Goal}
use Rattle.pm_goal.specs.declared.work.Kind.{Kind}
use Rattle.pm_goal.specs.declared.work.Kind.TheVariants as kind
use Rattle.pm_goal.specs.Left.{star_onto, of_kind, facts, hyps_as, hyps, left_of_work}
use Rattle.pm_table.specs.Occurrences.{without}
use Rattle.pm_table.specs.Limits.{resting}
use Rattle.pm_table.specs.Works.{Named, each_fact, each_hyp}
use Rattle.pm_table.specs.Basic.{without_var}

-- ---- substitution goes through the star

fill_sep : (f : Sub) (a b : Formula) → in_formula f (view.Sep a b) ≡ view.Sep (in_formula f a) (in_formula f b)
unfolding block.shape-the_row-Formula-0 block.hidden-the_row-Formula-0 carrier.hidden in_formula
fill_sep f a b = refl

fill_box : (f : Sub) (a : Formula) → in_formula f (view.Pers a) ≡ view.Pers (in_formula f a)
unfolding block.shape-the_row-Formula-0 block.hidden-the_row-Formula-0 carrier.hidden in_formula
fill_box f a = refl

fill_fact : (f : Sub) (p : Pure) → in_formula f (Assert p) ≡ Assert (in_pure f p)
unfolding in_formula
fill_fact f p = refl

fill_truth : (f : Sub) → in_formula f (Assert pure.True) ≡ Assert pure.True
unfolding in_formula in_pure
fill_truth f = refl

fill_kind : (f : Sub) (z : Kind) (a : Formula) → in_formula f (of_kind z a) ≡ of_kind z (in_formula f a)
fill_kind f kind.Int a = fill_box f a
fill_kind f kind.Spat a = refl

fill_star : (f : Sub) (fs : List Formula) (end : Formula) → in_formula f (star_onto fs end) ≡ star_onto (map (in_formula f) fs) (in_formula f end)
unfolding star_onto
fill_star f [] end = refl
fill_star f (x ∷ fs) end = fill_sep f x (star_onto fs end) ∙ ap (view.Sep (in_formula f x)) (fill_star f fs end)

fill_onto : (f : Sub) (fs gs : List Formula) (end end1 : Formula) → map (in_formula f) fs ≡ gs → in_formula f end ≡ end1 → in_formula f (star_onto fs end) ≡ star_onto gs end1
fill_onto f fs gs end end1 same last = fill_star f fs end ∙ ap₂ star_onto same last

fill_facts : (f : Sub) (fs : List Fact) → map (in_formula f) (facts fs) ≡ facts (each_fact (in_pure f) fs)
fill_facts f [] = refl
fill_facts f (x ∷ fs) = ap₂ (λ y ys. y ∷ ys) (fill_fact f x.pure) (fill_facts f fs)

fill_hyps : (f : Sub) (z : Kind) (hs : List Hyp) → map (in_formula f) (hyps_as z hs) ≡ hyps_as z (each_hyp (in_formula f) hs)
fill_hyps f z [] = refl
fill_hyps f z (x ∷ hs) = ap₂ (λ y ys. y ∷ ys) (fill_kind f z x.formula) (fill_hyps f z hs)

pub lost_star : (x : Named) (i : ℕ) (g : Goal) → in_formula (without i) (left_of_work (resting g)) ≡ left_of_work (resting (without_var x i g))
unfolding star_onto
lost_star x i g =
    let f : Sub = without i in
    fill_onto f (facts g.pures) _ _ _ (fill_facts f g.pures)
    (fill_onto f (hyps_as kind.Int g.ints) _ _ _ (fill_hyps f kind.Int g.ints)
    (fill_onto f (hyps g.spats) _ _ _ (fill_hyps f kind.Spat g.spats) (fill_truth f)))
