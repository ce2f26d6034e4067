use Rattle.std.specs.Prelude.{◌+◌, ◌*◌}
use Rattle.pm_dtext.proofs.terms.+term.Given as goal

abbrev pub decreases-term : goal.decreases-term
decreases-term l = 5 * l.levels

abbrev pub decreases-part : goal.decreases-part
decreases-part l = 5 * l.levels + 1

abbrev pub decreases-two_terms : goal.decreases-two_terms
decreases-two_terms l = 5 * l.levels + 2

abbrev pub decreases-negative : goal.decreases-negative
decreases-negative l = 5 * l.levels + 3

abbrev pub decreases-product : goal.decreases-product
decreases-product l = 5 * l.levels + 3

abbrev pub decreases-sum : goal.decreases-sum
decreases-sum l = 5 * l.levels + 3

abbrev pub decreases-difference : goal.decreases-difference
decreases-difference l = 5 * l.levels + 3

abbrev pub decreases-term_under : goal.decreases-term_under
decreases-term_under l = 5 * l.levels + 4
