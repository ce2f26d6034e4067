-- How many parts the star of a goal has, and which.
use Rattle.std.proofs.Common.{◌≡◌, ℕ, zero, suc, ◌+◌, ◌<◌, List, [], ◌∷◌, ◌++◌, length, Some, refl, sym, ap, ap₂, ◌∙◌, arith}
use Rattle.std.specs.Prelude.{slice_get, option_map}
use Rattle.std.proofs.lemmas.List.{length-append, length-map}
use Rattle.pm_logic.specs.declared.formula.Formula.{Formula}
use Rattle.pm_logic.specs.declared.formula.Formula.TheVariants.{Pure as Assert}
use Rattle.pm_goal.specs.declared.goal.Hyp.{Hyp}
use Rattle.pm_goal.specs.declared.goal.Goal.{Goal}
use Rattle.pm_goal.specs.declared.work.Work.{Work}
use Rattle.pm_goal.specs.declared.work.Kind.TheVariants as kind
use Rattle.pm_goal.specs.Left.{of_kind, facts, hyps_as, hyps, held_parts}
use Rattle.pm_star.specs.Stars.{shared, parts, work_parts, part_at}

-- ---- how many

pub shared_count : (goal : Goal) → length (shared goal) ≡ length goal.pures + length goal.ints
shared_count goal =
    length-append (facts goal.pures) (hyps_as kind.Int goal.ints)
    ∙ ap₂ (λ (m n : ℕ). m + n) (length-map goal.pures (λ f. Assert f.pure)) (length-map goal.ints (λ h. of_kind kind.Int h.formula))

pub goal_count : (goal : Goal) → length (parts goal) ≡ length (shared goal) + length goal.spats
goal_count goal =
    length-append (shared goal) (hyps goal.spats) ∙ ap (λ (n : ℕ). length (shared goal) + n) (length-map goal.spats (λ h. of_kind kind.Spat h.formula))

pub work_count : (work : Work) → length (work_parts work) ≡ length (parts work.goal) + length work.held
work_count work =
    length-append (parts work.goal) (held_parts work.held) ∙ ap (λ (n : ℕ). length (parts work.goal) + n) (length-map work.held (λ h. of_kind h.kind h.formula))

pub goal_total : (goal : Goal) → length (parts goal) ≡ length goal.pures + length goal.ints + length goal.spats
goal_total goal = goal_count goal ∙ ap (λ (n : ℕ). n + length goal.spats) (shared_count goal)

pub work_total : (work : Work) → length (work_parts work) ≡ length work.goal.pures + length work.goal.ints + length work.goal.spats + length work.held
work_total work = work_count work ∙ ap (λ (n : ℕ). n + length work.held) (goal_total work.goal)

-- ---- which

at_spat : (hs : List Hyp) (i : ℕ) (f : Formula) → Some f ≡ option_map (λ h. h.formula) (slice_get hs i) → f ≡ part_at (hyps hs) i
at_spat [] i f is = absurd (cc)
at_spat (h ∷ hs) zero f is = cc
at_spat (h ∷ hs) (suc i) f is = at_spat hs i f is

at_right : (xs ys : List Formula) (i : ℕ) → part_at (xs ++ ys) (length xs + i) ≡ part_at ys i
at_right [] ys i = ap (λ (n : ℕ). part_at ys n) (omega arith)
at_right (x ∷ xs) ys i = let on : length (x ∷ xs) + i ≡ suc (length xs + i) = omega arith in ap (λ (n : ℕ). part_at (x ∷ xs ++ ys) n) on ∙ at_right xs ys i

at_left : (xs ys : List Formula) (i : ℕ) → i < length xs → part_at xs i ≡ part_at (xs ++ ys) i
at_left [] ys i lt = absurd (omega arith)
at_left (x ∷ xs) ys zero lt = refl
at_left (x ∷ xs) ys (suc i) lt = at_left xs ys i (omega arith)

-- the spatial hypothesis i stands behind the facts and the intuitionistic ones
pub spat_part : (goal : Goal) (i place : ℕ) (f : Formula) → Some f ≡ option_map (λ h. h.formula) (slice_get goal.spats i) → place ≡ length goal.pures + length goal.ints + i → f ≡ part_at (parts goal) place
spat_part goal i place f is at =
    at_spat goal.spats i f is ∙ sym (at_right (shared goal) (hyps goal.spats) i) ∙ ap (λ (n : ℕ). part_at (parts goal) n) (sym (at ∙ ap (λ (n : ℕ). n + i) (sym (shared_count goal))))

pub spat_within : (goal : Goal) (i place : ℕ) → i < length goal.spats → place ≡ length goal.pures + length goal.ints + i → place < length (parts goal)
spat_within goal i place lt at = let c = goal_total goal in omega arith

pub part_held : (work : Work) (place : ℕ) (f : Formula) → place < length (parts work.goal) → f ≡ part_at (parts work.goal) place → f ≡ part_at (work_parts work) place
part_held work place f lt is = is ∙ at_left (parts work.goal) (held_parts work.held) place lt

pub within_held : (work : Work) (place : ℕ) → place < length (parts work.goal) → place < length (work_parts work)
within_held work place lt = let c = work_count work in omega arith
