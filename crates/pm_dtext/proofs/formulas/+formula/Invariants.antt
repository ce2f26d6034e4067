use Rattle.std.specs.Prelude.{◌+◌, ◌*◌}
use Rattle.pm_dtext.proofs.formulas.+formula.Given as goal

abbrev pub decreases-formula : goal.decreases-formula
decreases-formula l = 5 * l.levels

abbrev pub decreases-part : goal.decreases-part
decreases-part l = 5 * l.levels + 1

abbrev pub decreases-two_formulas : goal.decreases-two_formulas
decreases-two_formulas l = 5 * l.levels + 2

abbrev pub decreases-one_under : goal.decreases-one_under
decreases-one_under l = 5 * l.levels + 3

abbrev pub decreases-two_under : goal.decreases-two_under
decreases-two_under l = 5 * l.levels + 3

abbrev pub decreases-formula_under : goal.decreases-formula_under
decreases-formula_under l = 5 * l.levels + 4
