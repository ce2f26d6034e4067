-- What stands at the places of the parts of a goal.
use Rattle.std.proofs.Common.{◌≡◌, ℕ, ◌+◌, ◌<◌, List, length, length-append, refl, ap, ◌∙◌, arith, Option, Some, None}
use Rattle.std.specs.Prelude.{slice_get, option_map}
use Rattle.std.proofs.lemmas.Option.{slice_get_within}
use Rattle.std.proofs.lemmas.List.{length-map}
use Rattle.pm_logic.specs.declared.formula.Pure.{Pure}
use Rattle.pm_logic.specs.declared.formula.Formula.{Formula}
use Rattle.pm_logic.specs.declared.formula.Formula.TheVariants.{Pure as Assert}
use Rattle.pm_logic.specs.declared.formula.Formula.TheViews as view
use Rattle.pm_goal.specs.declared.goal.Hyp.{Hyp}
use Rattle.pm_goal.specs.declared.goal.Fact.{Fact}
use Rattle.pm_goal.specs.declared.goal.Goal.{Goal}
use Rattle.pm_goal.specs.declared.work.Work.{Work}
use Rattle.pm_goal.specs.declared.work.Kind.TheVariants as kind
use Rattle.pm_goal.specs.Left.{of_kind, facts, hyps_as, hyps, held_parts}
use Rattle.pm_star.specs.Stars.{shared, parts, work_parts, part_at}
use Rattle.pm_star.proofs.Places.{fact_at, int_at, spat_at, in_goal_at}
use Rattle.pm_closing.specs.Ways.{IsPart}

shared_count : (goal : Goal) → length (shared goal) ≡ length goal.pures + length goal.ints
shared_count goal = omega (arith, length-append (facts goal.pures) (hyps_as kind.Int goal.ints), length-map goal.pures (λ (f : Fact). Assert f.pure), length-map goal.ints (λ (h : Hyp). of_kind kind.Int h.formula))

parts_count : (goal : Goal) → length (parts goal) ≡ length goal.pures + length goal.ints + length goal.spats
parts_count goal = omega (arith, shared_count goal, length-append (shared goal) (hyps goal.spats), length-map goal.spats (λ (h : Hyp). of_kind kind.Spat h.formula))

looked : {A B : Type 0} (part : A → B) (o : Option A) (y : B) → option_map part o ≡ Some y → (x : A) × (o ≡ Some x) × (part x ≡ y)
looked part None y e = absurd cc
looked part (Some x) y e = (x, refl, let same : part x ≡ y = cc in same)

pub within : {A B : Type 0} (part : A → B) (xs : List A) (i : ℕ) (y : B) → option_map part (slice_get xs i) ≡ Some y → i < length xs
within part xs i y e = let l = looked part (slice_get xs i) y e in slice_get_within xs i l.0 l.1

pub fact_part : (goal : Goal) (i place : ℕ) (p : Pure) → option_map (λ (f : Fact). f.pure) (slice_get goal.pures i) ≡ Some p → place ≡ i → IsPart goal (Assert p) place
fact_part goal i place p e at =
    let l = looked (λ (f : Fact). f.pure) (slice_get goal.pures i) p e in
    let lt : i < length goal.pures = slice_get_within goal.pures i l.0 l.1 in
    record {
      within = omega (arith, at, lt, parts_count goal);
      is = ap (part_at (parts goal)) at ∙ (fact_at goal i l.0 l.1 ∙ ap Assert l.2);
    }

pub int_part : (goal : Goal) (i place : ℕ) (f : Formula) → option_map (λ (h : Hyp). h.formula) (slice_get goal.ints i) ≡ Some f → place ≡ length goal.pures + i → IsPart goal (view.Pers f) place
int_part goal i place f e at =
    let l = looked (λ (h : Hyp). h.formula) (slice_get goal.ints i) f e in
    let lt : i < length goal.ints = slice_get_within goal.ints i l.0 l.1 in
    record {
      within = omega (arith, at, lt, parts_count goal);
      is = ap (part_at (parts goal)) at ∙ (int_at goal i l.0 l.1 ∙ ap view.Pers l.2);
    }

pub spat_part : (goal : Goal) (i place : ℕ) (f : Formula) → option_map (λ (h : Hyp). h.formula) (slice_get goal.spats i) ≡ Some f → place ≡ length goal.pures + length goal.ints + i → IsPart goal f place
spat_part goal i place f e at =
    let l = looked (λ (h : Hyp). h.formula) (slice_get goal.spats i) f e in
    let lt : i < length goal.spats = slice_get_within goal.spats i l.0 l.1 in
    let n : place ≡ length (shared goal) + i = omega (arith, at, shared_count goal) in
    record {
      within = omega (arith, at, lt, parts_count goal);
      is = ap (part_at (parts goal)) n ∙ (spat_at goal i l.0 l.1 ∙ l.2);
    }

-- ---- among the parts of a work

pub work_within : (w : Work) (f : Formula) (n : ℕ) → IsPart w.goal f n → n < length (work_parts w)
work_within w f n p = omega (arith, p.within, length-append (parts w.goal) (held_parts w.held))

pub work_part : (w : Work) (f : Formula) (n : ℕ) → IsPart w.goal f n → part_at (work_parts w) n ≡ f
work_part w f n p = in_goal_at w n p.within ∙ p.is
