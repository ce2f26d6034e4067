-- Proof terms: heads, terms and premises; application and assertion; framing of hypotheses.
use Rattle.std.specs.Prelude.{ℕ, zero, suc, Bool, false, ◌||◌, List, [], ◌∷◌, map, filter, Option, Some, None, option_map, option_and_then, if◌then◌else◌}
use Rattle.pm_logic.specs.declared.formula.Term.{Term}
use Rattle.pm_logic.specs.declared.formula.Formula.{Formula}
use Rattle.pm_logic.specs.declared.formula.Formula.TheVariants.{Pure as Assert}
use Rattle.pm_logic.specs.Trees.{Pers}
use Rattle.pm_logic.specs.Substitution.{opened_of}
use Rattle.pm_logic.specs.Size.{nodes_of}
use Rattle.pm_goal.specs.declared.goal.Goal.{Goal}
use Rattle.pm_goal.specs.declared.work.Kind.{Kind}
use Rattle.pm_goal.specs.declared.work.Kind.TheVariants.{Int, Spat}
use Rattle.pm_goal.specs.declared.work.Held.{Held}
use Rattle.pm_goal.specs.declared.work.Work.{Work}
use Rattle.pm_goal.specs.declared.work.Lemma.{Lemma}
use Rattle.pm_goal.specs.declared.work.Lemmas.{Lemmas}
use Rattle.pm_goal.specs.declared.refusal.Row.TheVariants.{NoSuchHypothesis, NotUniversal, NotWand, NotThePremise, PremiseNotPersistent, PremiseNotPure, PremiseNotClosed, NoSuchLemma, ConclusionNotReached, NothingFramed}
use Rattle.pm_goal.specs.Find.{first_of_two}
use Rattle.pm_patterns.specs.declared.pattern.Pick.{Pick}
use Rattle.pm_patterns.specs.declared.pattern.Spat as premise_pattern
use Rattle.pm_patterns.specs.declared.pattern.Spat.TheVariants.{Name, Goal as With, Rest, Persistent, Pure as IsPure, Done}
use Rattle.pm_classes.specs.Persistence.{is_persistent}
use Rattle.pm_classes.specs.Classes.{Parts, into_wand, into_forall, from_pure}
use Rattle.pm_table.specs.Outcomes.{Outcome, gives, Action, closed, one, require, require_plain, require_some, require_entry, joined}
use Rattle.pm_table.specs.declared.place.Place.{Place}
use Rattle.pm_table.specs.declared.place.Place.TheVariants.{Finished as finished}
use Rattle.pm_table.specs.Works.{Named, hyp_named, fact_named, with_concl, without_named, without_spat, hyps_in, hyps_out, holding, hold, work_of, with_last}
use Rattle.pm_table.specs.Equality.{formula_eq}
use Rattle.pm_table.specs.Basic.{is_truth, all_spatial, is_done}
use Rattle.pm_table.specs.Framing.{frame}
use Rattle.std.specs.Str.{bytes_eq}

-- ---- heads

-- the hypothesis as it is held: a spatial one as such, one of the other two contexts as intuitionistic; a fact p counts as ⌜p⌝
abbrev pub held_as : Named → Goal → Option Held
held_as h goal =
    first_of_two (option_map (holding Spat) (hyp_named h goal.spats))
    (first_of_two (option_map (holding Int) (hyp_named h goal.ints))
    (option_map (λ p. holding Int (Assert p)) (fact_named h goal.pures)))

-- the hypothesis or fact is held in its place
abbrev pub take : Named → Action
take h work =
    require_some (held_as h work.goal) NoSuchHypothesis h (λ held.
    one (hold held.kind held.formula (work_of (without_named h work.goal) work.held)))

-- a spatial one is taken; all others stay
abbrev pub lend : Named → Action
lend h work =
    require_some (held_as h work.goal) NoSuchHypothesis h (λ held.
    one (hold held.kind held.formula (work_of (without_spat h work.goal) work.held)))

abbrev pub lemma_named : Named → List Lemma → Option Formula
lemma_named n [] = None
lemma_named n (l ∷ ls) = if bytes_eq n l.name then Some l.formula else lemma_named n ls

-- the lemma's formula is held
abbrev pub lemma : Lemmas → Named → Action
lemma lemmas n work =
    require_some (lemma_named n lemmas.list) NoSuchLemma n (λ f.
    one (hold Int f work))

-- ---- terms

-- the universal in hand is opened with the term; its kind is kept
abbrev pub with_term : Term → Action
with_term t work =
    with_last work (λ hand.
    require_entry (into_forall hand.last.formula) NotUniversal (λ body.
    one (hold hand.last.kind (opened_of body t) (work_of work.goal hand.others))))

-- ---- premises

-- what is in hand is P -∗ R, and the main goal goes on with R
pub record Step : Type 0 where
  -- without what is in hand
  pub work : Work
  pub kind : Kind
  pub premise : Formula
  pub result : Formula

-- the main work, in which R is held
abbrev pub going_on : Kind → Step → Work
going_on k s = hold k s.result s.work

-- the main work with these spatial hypotheses
abbrev pub going_on_with : (Goal → Goal) → Kind → Step → Work
going_on_with change k s = hold k s.result (work_of (change s.work.goal) s.work.held)

abbrev pub main : Work → Outcome
main work = one work

-- the goal of the premise stands before the main one
abbrev pub after_goal : Goal → Work → Outcome
after_goal goal work = joined (gives (finished goal ∷ [])) (main work)

abbrev pub is_boxed : Kind → Formula → Formula → Bool
is_boxed Int f p = formula_eq (Pers f) p
is_boxed Spat f p = false

-- the hypothesis is P; or P is □A, and it is the intuitionistic A
abbrev pub is_premise : Held → Formula → Bool
is_premise held p = formula_eq held.formula p || is_boxed held.kind held.formula p

-- intuitionistic where both are
abbrev pub both_kinds : Kind → Kind → Kind
both_kinds Int k = k
both_kinds Spat k = Spat

-- `H`: the hypothesis is the premise; a spatial one is used up
abbrev pub by_hypothesis : Named → Step → Outcome
by_hypothesis h s =
    require_some (held_as h s.work.goal) NoSuchHypothesis h (λ held.
    require (is_premise held s.premise) NotThePremise h (
    main (going_on_with (without_spat h) (both_kinds s.kind held.kind) s)))

-- the hypotheses are framed in order in the goal, and used up; where its conclusion becomes truth, it is closed
abbrev pub framed : List Named → Goal → Outcome
framed [] goal = gives (finished goal ∷ [])
framed (h ∷ hs) goal =
    require_some (hyp_named h goal.spats) NoSuchHypothesis h (λ r.
    require_some (frame r goal.concl) NothingFramed h (λ rest.
    if is_truth rest then closed else framed hs (without_spat h (with_concl rest goal))))

-- the premise, with these spatial hypotheses
abbrev pub keeping : List Named → Formula → Goal → Goal
keeping names p goal = record { vars = goal.vars; pures = goal.pures; ints = goal.ints; spats = hyps_in names goal.spats; concl = p }

abbrev pub leaving : List Named → Formula → Goal → Goal
leaving names p goal = record { vars = goal.vars; pures = goal.pures; ints = goal.ints; spats = hyps_out names goal.spats; concl = p }

abbrev pub picked : List Pick → List Named
picked picks = map (λ p. p.name) picks

abbrev pub picked_framed : List Pick → List Named
picked_framed picks = map (λ p. p.name) (filter (λ p. p.framed) picks)

-- `[H $K …]`: P with these spatial hypotheses, which the main goal loses; those with `$` are framed in it in order
abbrev pub with_these : List Pick → Step → Outcome
with_these picks s =
    all_spatial s.work.goal (picked picks) (
    joined (framed (picked_framed picks) (keeping (picked picks) s.premise s.work.goal))
    (main (going_on_with (λ g. leaving (picked picks) g.concl g) Spat s)))

-- `[-H …]`: P with the other spatial hypotheses
abbrev pub with_others : List Named → Step → Outcome
with_others names s =
    all_spatial s.work.goal names (
    after_goal (leaving names s.premise s.work.goal) (going_on_with (λ g. keeping names g.concl g) Spat s))

-- `[#]`: P is persistent; all spatial hypotheses in both
abbrev pub by_persistence : Step → Outcome
by_persistence s =
    require_plain (is_persistent s.premise) PremiseNotPersistent (
    after_goal (with_concl s.premise s.work.goal) (going_on s.kind s))

-- `[%]`: P by a pure formula p: ⌜p⌝; all spatial hypotheses in both
abbrev pub by_purity : Step → Outcome
by_purity s =
    require_entry (from_pure s.premise) PremiseNotPure (λ p.
    after_goal (with_concl (Assert p) s.work.goal) (going_on s.kind s))

-- `[//]`: P without spatial hypotheses is closed at once
abbrev pub by_closing : Step → Outcome
by_closing s =
    require_plain (is_done (keeping [] s.premise s.work.goal)) PremiseNotClosed (
    main (going_on Spat s))

unfoldable pub by_pattern : premise_pattern.Spat → Step → Outcome
by_pattern (Name h) s = by_hypothesis h s
by_pattern (With picks) s = with_these picks s
by_pattern (Rest names) s = with_others names s
by_pattern Persistent s = by_persistence s
by_pattern IsPure s = by_purity s
by_pattern Done s = by_closing s

abbrev pub with_spat : premise_pattern.Spat → Action
with_spat pattern work =
    with_last work (λ hand.
    require_entry (into_wand hand.last.formula) NotWand (λ parts.
    by_pattern pattern (record { work = work_of work.goal hand.others; kind = hand.last.kind; premise = parts.first; result = parts.second })))

-- as if F -∗ F were in hand, intuitionistic
abbrev pub assert : Formula → premise_pattern.Spat → Action
assert f pattern work = by_pattern pattern (record { work = work; kind = Int; premise = f; result = f })

-- ---- application

-- C, the conclusion, is reached from the formula where it is that, or where the formula is P -∗ R and C is reached from R: the
-- premises on the way, of which there are at most so many
unfoldable pub premises_before : ℕ → Formula → Formula → Option (List Formula)
premises_before zero c r = if formula_eq r c then Some [] else None
premises_before (suc n) c r =
    if formula_eq r c then Some []
    else option_and_then (λ (parts : Parts). option_map (λ ps. parts.first ∷ ps) (premises_before n c parts.second)) (into_wand r)

-- each wand that is taken apart has a node
abbrev pub premises : Formula → Formula → Option (List Formula)
premises c r = premises_before (nodes_of r) c r

abbrev pub premise_goal : Goal → List Formula → Formula → Goal
premise_goal goal [] p = with_concl p goal
premise_goal goal (q ∷ qs) p = keeping [] p goal

-- the last premise has the whole spatial context, the others none of it
abbrev pub premise_goals : Goal → List Formula → List Place
premise_goals goal [] = []
premise_goals goal (p ∷ ps) = finished (premise_goal goal ps p) ∷ premise_goals goal ps

-- what is in hand is P1 -∗ … Pn -∗ C, with the least n: goals P1 to Pn
abbrev pub apply : Action
apply work =
    with_last work (λ hand.
    require_entry (premises work.goal.concl hand.last.formula) ConclusionNotReached (λ ps.
    gives (premise_goals work.goal ps)))

-- ---- framing

-- the conclusion is what framing leaves; where that is truth, the goal is closed
abbrev pub concluding : Formula → Work → Outcome
concluding rest work = if is_truth rest then closed else one (work_of (with_concl rest work.goal) work.held)

-- `$`: what is in hand is framed and dropped
abbrev pub frame_held : Action
frame_held work =
    with_last work (λ hand.
    require_entry (frame hand.last.formula work.goal.concl) NothingFramed (λ rest.
    concluding rest (work_of work.goal hand.others)))

-- the hypothesis or fact is framed; a spatial one is used up
abbrev pub frame_named : Named → Action
frame_named h work =
    require_some (held_as h work.goal) NoSuchHypothesis h (λ held.
    require_some (frame held.formula work.goal.concl) NothingFramed h (λ rest.
    concluding rest (work_of (without_spat h work.goal) work.held)))

-- where nothing is framed, the work stays
abbrev pub passing : Named → Work → Option Formula → Outcome
passing h work (Some rest) = concluding rest (work_of (without_spat h work.goal) work.held)
passing h work None = one work

-- what of a group has no rest is passed over
abbrev pub frame_member : Named → Action
frame_member h work =
    require_some (held_as h work.goal) NoSuchHypothesis h (λ held.
    passing h work (frame held.formula work.goal.concl))
