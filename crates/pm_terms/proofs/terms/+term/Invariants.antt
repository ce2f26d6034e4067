use Rattle.std.proofs.Common.{◌+◌, ◌*◌}
use Rattle.pm_terms.proofs.terms.+term.Given as goal

abbrev pub decreases-term_in : goal.decreases-term_in
decreases-term_in l = 5 * l.room

abbrev pub decreases-group : goal.decreases-group
decreases-group l = 5 * l.room + 1

abbrev pub decreases-sum_at : goal.decreases-sum_at
decreases-sum_at l = 5 * l.room + 1

abbrev pub decreases-scaled : goal.decreases-scaled
decreases-scaled l = 5 * l.room + 1

abbrev pub decreases-negated : goal.decreases-negated
decreases-negated l = 5 * l.room + 1

abbrev pub decreases-operand_at : goal.decreases-operand_at
decreases-operand_at l = 5 * l.room + 2

abbrev pub decreases-summand : goal.decreases-summand
decreases-summand l = 5 * l.room + 3

abbrev pub decreases-term_at : goal.decreases-term_at
decreases-term_at l = 5 * l.room + 4
