-- What works mean, and how deep and wide proofs about them may be.
use Rattle.std.specs.Prelude.{ℕ, suc, ◌+◌, max, List, [], ◌∷◌, map, length}
use Rattle.pm_goal.specs.declared.work.Work.{Work}
use Rattle.pm_goal.specs.Left.{left_of_work}
use Rattle.pm_rules.specs.declared.rules.Entail.{Entail}
use Rattle.pm_proof.specs.Trees.{entail}
use Rattle.pm_table.specs.declared.place.Place.{Place}
use Rattle.pm_table.specs.Limits.{work_at, work_formulas, greatest_depth, hypotheses}

-- in its variables, the star of its contexts and of what is in hand entails its conclusion
abbrev pub meaning : Work → Entail
meaning w = entail (length w.goal.vars) (left_of_work w) w.goal.concl

abbrev pub meaning_at : Place → Entail
meaning_at p = meaning (work_at p)

abbrev pub meanings : List Place → List Entail
meanings ps = map meaning_at ps

-- the star of so many parts isn't deeper, but for a few levels
abbrev pub height : Work → ℕ
height w = greatest_depth (work_formulas w) + hypotheses w

abbrev pub greatest_height : List Place → ℕ
greatest_height [] = 0
greatest_height (p ∷ ps) = max (height (work_at p)) (greatest_height ps)

-- no formula in the proof of a work from others is deeper
abbrev pub room : Work → List Place → ℕ
room w ps = max (height w) (greatest_height ps) + 16

-- no entailment in it has more variables: some steps go under the binders of a formula
abbrev pub width : Work → ℕ
width w = suc (length w.goal.vars + greatest_depth (work_formulas w))
