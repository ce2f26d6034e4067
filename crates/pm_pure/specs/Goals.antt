-- Goals on the way, and what is known of the proofs that lead to them.
use Rattle.std.specs.Prelude.{◌+◌, ◌*◌, [], length}
use Rattle.pm_logic.specs.declared.formula.Pure.{Pure}
use Rattle.pm_logic.specs.declared.formula.Formula.TheVariants.{Pure as Assert}
use Rattle.pm_goal.specs.declared.goal.Goal.{Goal}
use Rattle.pm_goal.specs.declared.work.Work.{Work}
use Rattle.pm_goal.specs.Left.{facts, left_of_work}
use Rattle.pm_proof.specs.Trees.{Tree, entail}
use Rattle.pm_proof.specs.Known.{Proves, Every}
use Rattle.pm_star.specs.Stars.{star}
use Rattle.pm_classes.specs.declared.entry.OnePure.{OnePure}
use Rattle.pm_classes.specs.Entries.{HasProof, from_pure_says}
use Rattle.pm_action.specs.Meanings.{height}

-- without its facts
abbrev pub factless : Goal → Goal
factless goal = record goal { pures = [] }

-- with its facts alone, and this conclusion
abbrev pub facts_alone : Goal → Pure → Goal
facts_alone goal p = record goal { ints = []; spats = []; concl = Assert p }

-- from the star to the star of the facts
abbrev pub FactsReached : Work → Tree → Type 0
FactsReached w t = Proves Every (entail (length w.goal.vars) (left_of_work w) (star (facts w.goal.pures))) [] (2 * length w.goal.pures + 1) (height w + 16) (length w.goal.vars) t

-- from the entry to the conclusion
abbrev pub IsFollowed : Work → OnePure → Type 0
IsFollowed w e = HasProof (length w.goal.vars) w.goal.concl (from_pure_says (length w.goal.vars) w.goal.concl e.pure) e.proof
