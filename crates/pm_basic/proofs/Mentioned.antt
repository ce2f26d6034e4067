-- Whether the hypotheses and facts of a goal mention a variable, by its star.
use Rattle.std.proofs.Common.{◌≡◌, ℕ, Bool, true, false, not, ◌||◌, List, [], ◌∷◌, refl, sym, ◌∙◌, ap, ap₂, arith, pos}
use Rattle.std.specs.Prelude.{nat_eq, IsTrue, ◌↔◌}
use Rattle.std.specs.List.{list_any}
use Rattle.std.proofs.lemmas.Bool.Decides.{nat_tests}
use denote.Hole.Carrier as carrier
use Rattle.pm_logic.specs.declared.formula.Pure.{Pure}
use Rattle.pm_logic.specs.declared.formula.Pure.TheVariants as pure
use Rattle.pm_logic.specs.declared.formula.Formula.{Formula}
use Rattle.pm_logic.specs.declared.formula.Formula.TheVariants.{Pure as Assert}
use Rattle.pm_logic.specs.declared.formula.Formula.TheViews as view
use Rattle.pm_logic.specs.declared.formula.Formula.TheBlock as block
use Rattle.pm_logic.specs.declared.formula.Term.TheVariants.{Lit, Var}
use Rattle.pm_logic.specs.Scope.{ScopedIn}
use Rattle.pm_logic.specs.Substitution.{in_formula, subst_of}
use Rattle.pm_goal.specs.declared.goal.Hyp.{Hyp}
use Rattle.pm_goal.specs.declared.goal.Fact.{Fact}
use Rattle.pm_goal.specs.declared.goal.Goal.{Goal}
use Rattle.pm_goal.specs.declared.work.Kind.{Kind}
use Rattle.pm_goal.specs.declared.work.Kind.TheVariants as kind
use Rattle.pm_goal.specs.declared.work.Work.{Work}
use Rattle.pm_goal.specs.Left.{star_onto, of_kind, facts, hyps_as, hyps, left_of_work}
use Rattle.pm_table.specs.Occurrences.{in_a_pure, in_a_formula}
use Rattle.pm_table.specs.Limits.{resting}
use Rattle.pm_table.specs.Basic.{mentions}
use Rattle.pm_basic.specs.Replacements.{zeroed, first_terms}
use Rattle.pm_basic.proofs.Composed.{formula_but, formula_kept}
use Rattle.pm_basic.proofs.Replaced.{first_fills}
use Rattle.pm_basic.proofs.Ending.{rested}

-- ---- in a star

in_sep : (i : ℕ) (a b : Formula) → in_a_formula i (view.Sep a b) ≡ in_a_formula i a || in_a_formula i b
unfolding block.shape-the_row-Formula-0 block.hidden-the_row-Formula-0 carrier.hidden in_a_formula
in_sep i a b = refl

in_box : (i : ℕ) (a : Formula) → in_a_formula i (view.Pers a) ≡ in_a_formula i a
unfolding block.shape-the_row-Formula-0 block.hidden-the_row-Formula-0 carrier.hidden in_a_formula
in_box i a = refl

in_fact : (i : ℕ) (p : Pure) → in_a_formula i (Assert p) ≡ in_a_pure i p
unfolding in_a_formula
in_fact i p = refl

in_truth : (i : ℕ) → in_a_formula i (Assert pure.True) ≡ false
unfolding in_a_formula in_a_pure
in_truth i = refl

in_kind : (i : ℕ) (z : Kind) (a : Formula) → in_a_formula i (of_kind z a) ≡ in_a_formula i a
in_kind i kind.Int a = in_box i a
in_kind i kind.Spat a = refl

grouped : (a b c : Bool) → a || (b || c) ≡ (a || b) || c
grouped true b c = refl
grouped false b c = refl

in_onto : (i : ℕ) (fs : List Formula) (end : Formula) → in_a_formula i (star_onto fs end) ≡ list_any (in_a_formula i) fs || in_a_formula i end
unfolding star_onto
in_onto i [] end = refl
in_onto i (f ∷ fs) end = in_sep i f (star_onto fs end) ∙ ap (λ b. in_a_formula i f || b) (in_onto i fs end) ∙ grouped (in_a_formula i f) (list_any (in_a_formula i) fs) (in_a_formula i end)

in_facts : (i : ℕ) (fs : List Fact) → list_any (in_a_formula i) (facts fs) ≡ list_any (λ (f : Fact). in_a_pure i f.pure) fs
in_facts i [] = refl
in_facts i (f ∷ fs) = ap₂ (λ a b. a || b) (in_fact i f.pure) (in_facts i fs)

in_hyps : (i : ℕ) (z : Kind) (hs : List Hyp) → list_any (in_a_formula i) (hyps_as z hs) ≡ list_any (λ (h : Hyp). in_a_formula i h.formula) hs
in_hyps i z [] = refl
in_hyps i z (h ∷ hs) = ap₂ (λ a b. a || b) (in_kind i z h.formula) (in_hyps i z hs)

in_part : (i : ℕ) (fs : List Formula) (end : Formula) (b c : Bool) → list_any (in_a_formula i) fs ≡ b → in_a_formula i end ≡ c → in_a_formula i (star_onto fs end) ≡ b || c
in_part i fs end b c e f = in_onto i fs end ∙ ap₂ (λ x y. x || y) e f

last_none : (a b c : Bool) → a || (b || (c || false)) ≡ (a || b) || c
last_none true b c = refl
last_none false true c = refl
last_none false false true = refl
last_none false false false = refl

in_star : (i : ℕ) (g : Goal) → in_a_formula i (left_of_work (resting g)) ≡ mentions i g
unfolding star_onto
in_star i g =
    let a : Bool = list_any (λ (f : Fact). in_a_pure i f.pure) g.pures in
    let b : Bool = list_any (λ (h : Hyp). in_a_formula i h.formula) g.ints in
    let c : Bool = list_any (λ (h : Hyp). in_a_formula i h.formula) g.spats in
    let truth : Formula = Assert pure.True in
    let owned : Formula = star_onto (hyps g.spats) truth in
    in_part i (facts g.pures) (star_onto (hyps_as kind.Int g.ints) owned) a (b || (c || false)) (in_facts i g.pures)
    (in_part i (hyps_as kind.Int g.ints) owned b (c || false) (in_hyps i kind.Int g.ints)
    (in_part i (hyps g.spats) truth c false (in_hyps i kind.Spat g.spats) (in_truth i)))
    ∙ last_none a b c

pub star_mentions : (i : ℕ) (w : Work) → w.held ≡ [] → in_a_formula i (left_of_work w) ≡ mentions i w.goal
star_mentions i w nothing = ap (λ (x : Work). in_a_formula i (left_of_work x)) (rested w nothing) ∙ in_star i w.goal

-- ---- by substitution

itself : (i : ℕ) → nat_eq i i ≡ true
itself i = grind (arith, nat_tests)

zero_there : (i : ℕ) → zeroed i i ≡ Lit (pos 0)
zero_there i = rw (itself i) refl

others_stay : (i x : ℕ) → nat_eq i x ≡ false → zeroed i x ≡ Var x
others_stay i x e = rw e refl

from_test : (i : ℕ) (star : Formula) (b c : Bool) → in_a_formula i star ≡ c → IsTrue b ↔ (star ≡ in_formula (zeroed i) star) → not b ≡ c
from_test i star true c e h = sym (sym e ∙ formula_kept i (zeroed i) (zero_there i) star (sym (h.0 refl)))
from_test i star false true e h = refl
from_test i star false false e h = let none : false ≡ true = h.1 (sym (formula_but i (zeroed i) (others_stay i) star e)) in absurd cc

-- the star with 0 for the variable is the star exactly where nothing mentions it
pub tested : (k i : ℕ) (w : Work) (star : Formula) (b : Bool) → w.held ≡ [] → star ≡ left_of_work w → ScopedIn k star → IsTrue b ↔ (star ≡ subst_of star (first_terms (zeroed i) k)) → not b ≡ mentions i w.goal
tested k i w star b nothing is scoped h =
    let fills : subst_of star (first_terms (zeroed i) k) ≡ in_formula (zeroed i) star = first_fills (zeroed i) k star scoped in
    from_test i star b (mentions i w.goal) (ap (in_a_formula i) is ∙ star_mentions i w nothing) (λ t. h.0 t ∙ fills, λ e. h.1 (e ∙ sym fills))
