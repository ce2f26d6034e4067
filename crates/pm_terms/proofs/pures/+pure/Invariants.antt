use Rattle.std.proofs.Common.{◌+◌, ◌*◌}
use Rattle.pm_terms.proofs.pures.+pure.Given as goal

abbrev pub decreases-pure_in : goal.decreases-pure_in
decreases-pure_in l = 5 * l.room

abbrev pub decreases-negation : goal.decreases-negation
decreases-negation l = 5 * l.room + 1

abbrev pub decreases-group : goal.decreases-group
decreases-group l = 5 * l.room + 1

abbrev pub decreases-infix_at : goal.decreases-infix_at
decreases-infix_at l = 5 * l.room + 1

abbrev pub decreases-literal_at : goal.decreases-literal_at
decreases-literal_at l = 5 * l.room + 2

abbrev pub decreases-ands_at : goal.decreases-ands_at
decreases-ands_at l = 5 * l.room + 3

abbrev pub decreases-pure_at : goal.decreases-pure_at
decreases-pure_at l = 5 * l.room + 4
