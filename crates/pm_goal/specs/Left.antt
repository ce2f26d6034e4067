-- The left side of what a goal, or a goal with hypotheses in hand, means.
use Rattle.std.specs.Prelude.{List, [], ◌∷◌, map}
use Rattle.pm_logic.specs.declared.formula.Formula.{Formula}
use Rattle.pm_logic.specs.declared.formula.Formula.TheVariants.{Pure as Assert}
use Rattle.pm_logic.specs.declared.formula.Formula.TheViews as view
use Rattle.pm_logic.specs.declared.formula.Pure.TheVariants as pure
use Rattle.pm_goal.specs.declared.goal.Hyp.{Hyp}
use Rattle.pm_goal.specs.declared.goal.Fact.{Fact}
use Rattle.pm_goal.specs.declared.goal.Goal.{Goal}
use Rattle.pm_goal.specs.declared.work.Kind.{Kind}
use Rattle.pm_goal.specs.declared.work.Kind.TheVariants as kind
use Rattle.pm_goal.specs.declared.work.Held.{Held}
use Rattle.pm_goal.specs.declared.work.Work.{Work}

-- the star of formulas, nested to the right and ending in this one
unfoldable pub star_onto : List Formula → Formula → Formula
star_onto [] end = end
star_onto (f ∷ fs) end = view.Sep f (star_onto fs end)

abbrev pub facts : List Fact → List Formula
facts fs = map (λ f. Assert f.pure) fs

-- how a hypothesis of the kind stands in a star
abbrev pub of_kind : Kind → Formula → Formula
of_kind kind.Int f = view.Pers f
of_kind kind.Spat f = f

abbrev pub hyps_as : Kind → List Hyp → List Formula
hyps_as k hs = map (λ h. of_kind k h.formula) hs

abbrev pub hyps : List Hyp → List Formula
hyps hs = hyps_as kind.Spat hs

abbrev pub held_parts : List Held → List Formula
held_parts hs = map (λ h. of_kind h.kind h.formula) hs

-- every fact, every intuitionistic hypothesis under a box and every spatial one, in the order of the goal
abbrev pub left_onto : Goal → Formula → Formula
left_onto goal end = star_onto (facts goal.pures) (star_onto (hyps_as kind.Int goal.ints) (star_onto (hyps goal.spats) end))

-- the left side of a goal ends in truth
abbrev pub left_of : Goal → Formula
left_of goal = left_onto goal (Assert pure.True)

-- those in hand stand behind the spatial ones
abbrev pub left_of_work : Work → Formula
left_of_work work = left_onto work.goal (star_onto (held_parts work.held) (Assert pure.True))
