-- How the spatial hypotheses are dealt to two goals.
use Rattle.std.specs.Prelude.{◌≡◌, ℕ, suc, ◌+◌, Bool, true, false, not, List, [], ◌∷◌, length, Option, Some, None, Result, Ok, Err, if◌then◌else◌}
use Rattle.pm_logic.specs.declared.formula.Formula.{Formula}
use Rattle.pm_logic.specs.declared.formula.Formula.TheViews as view
use Rattle.pm_goal.specs.declared.goal.Hyp.{Hyp}
use Rattle.pm_goal.specs.declared.goal.Goal.{Goal}
use Rattle.pm_goal.specs.declared.work.Work.{Work}
use Rattle.pm_goal.specs.Left.{left_of_work}
use Rattle.pm_goal.specs.declared.refusal.StepFault.{StepFault}
use Rattle.pm_proof.specs.Trees.{Tree, entail}
use Rattle.pm_proof.specs.Known.{Proves, Every}
use Rattle.pm_schemes.specs.Sketches.{deepest}
use Rattle.pm_table.specs.Outcomes.{Outcome}
use Rattle.pm_table.specs.Works.{Named, is_listed}
use Rattle.pm_table.specs.Limits.{limited, resting}
use Rattle.pm_table.specs.Basic.{chosen, unchosen, for, with_spats, all_spatial}
use Rattle.pm_action.specs.Meanings.{meaning}
use Rattle.pm_action.specs.Acting.{Answers}

-- whether the name goes to the side where the named ones go, or to the other
abbrev pub is_named : Option (List Named) → Named → Bool
is_named None x = true
is_named (Some list) x = is_listed list x

abbrev pub goes : (named : Bool) → Option (List Named) → Named → Bool
goes true list x = is_named list x
goes false list x = not (is_named list x)

-- the hypotheses that go to that side
abbrev pub side_of : (named : Bool) → Option (List Named) → List Hyp → List Hyp
side_of true list hs = chosen list hs
side_of false list hs = unchosen list hs

abbrev pub dealt_goal : (named : Bool) → Option (List Named) → Formula → Goal → Goal
dealt_goal named list c goal = for c (with_spats (side_of named list goal.spats) goal)

-- the hypothesis, where it goes
abbrev pub where_goes : Bool → Hyp → List Hyp
where_goes true h = h ∷ []
where_goes false h = []

abbrev pub where_place : Bool → ℕ → List ℕ
where_place true n = n ∷ []
where_place false n = []

-- the places of those whose names pass the test, the first of all having the place n
abbrev pub places_where : (Named → Bool) → ℕ → List Hyp → List ℕ
places_where test n [] = []
places_where test n (h ∷ hs) = if test h.name then n ∷ places_where test (suc n) hs else places_where test (suc n) hs

-- the stars of both goals
abbrev pub dealt_star : (named : Bool) → Option (List Named) → Goal → Formula
dealt_star named list goal =
    view.Sep (left_of_work (resting (with_spats (side_of named list goal.spats) goal))) (left_of_work (resting (with_spats (side_of (not named) list goal.spats) goal)))

-- from what both works mean, which are its holes, that their stars together entail both conclusions
abbrev pub BothSay : Work → Work → Tree → Type 0
BothSay w v t =
    let l = left_of_work w in
    let r = left_of_work v in
    Proves Every (entail (length w.goal.vars) (view.Sep l r) (view.Sep w.goal.concl v.goal.concl)) (meaning w ∷ meaning v ∷ []) 1 (deepest (l ∷ r ∷ w.goal.concl ∷ v.goal.concl ∷ []) [] + 1) (length w.goal.vars) t

-- ---- tests of names

-- where it isn't refused, what follows is the outcome
abbrev pub AreSpatial : Goal → List Named → Result (Unit {0}) StepFault → Type 0
AreSpatial goal list (Ok _) = (o : Outcome) → all_spatial goal list o ≡ o
AreSpatial goal list (Err f) = (s : ℕ) (w : Work) (o : Outcome) → Answers s w (limited (all_spatial goal list o)) (Err f)
