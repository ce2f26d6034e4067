-- The places of two alternatives.
use Rattle.std.specs.Prelude.{◌+◌, ◌*◌, true, false, List, [], ◌∷◌, length}
use Rattle.pm_logic.specs.declared.formula.Formula.{Formula}
use Rattle.pm_logic.specs.declared.formula.Formula.TheViews as view
use Rattle.pm_goal.specs.declared.work.Work.{Work}
use Rattle.pm_goal.specs.Left.{left_of_work}
use Rattle.pm_proof.specs.Trees.{Tree, entail}
use Rattle.pm_proof.specs.Known.{Proves, Every}
use Rattle.pm_table.specs.declared.place.Place.{Place}
use Rattle.pm_table.specs.declared.place.Place.TheVariants.{Current as current}
use Rattle.pm_table.specs.Limits.{all_nodes, work_formulas}
use Rattle.pm_action.specs.Meanings.{meaning, room, width}
use Rattle.pm_intro.specs.Hands.{rest}

-- the first pattern acts on the first, the second on the second
abbrev pub cases : Work → Work → List Place
cases left right = current (true ∷ false ∷ []) left ∷ current (false ∷ true ∷ []) right ∷ []

-- from what the two mean: the conclusion, by either part beside what is left of the star
abbrev pub Splits : Work → Formula → Formula → Work → Work → Tree → Type 0
Splits w a b left right t = Proves Every (entail (length w.goal.vars) (view.Sep (view.Or a b) (left_of_work (rest w))) w.goal.concl) (meaning left ∷ meaning right ∷ []) (200 * all_nodes (work_formulas w) + 6) (room w (cases left right)) (width w) t
