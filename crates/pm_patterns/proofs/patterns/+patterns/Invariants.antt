use Rattle.std.proofs.Common.{◌+◌, ◌*◌}
use Rattle.pm_patterns.proofs.patterns.+patterns.Given as goal

abbrev pub decreases-pattern_in : goal.decreases-pattern_in
decreases-pattern_in l = 7 * l.room

abbrev pub decreases-boxed : goal.decreases-boxed
decreases-boxed l = 7 * l.room + 1

abbrev pub decreases-second_pair : goal.decreases-second_pair
decreases-second_pair l = 7 * l.room + 1

abbrev pub decreases-second_either : goal.decreases-second_either
decreases-second_either l = 7 * l.room + 1

abbrev pub decreases-bracket_end : goal.decreases-bracket_end
decreases-bracket_end l = 7 * l.room + 2

abbrev pub decreases-bracket_at : goal.decreases-bracket_at
decreases-bracket_at l = 7 * l.room + 3

abbrev pub decreases-ampersand_at : goal.decreases-ampersand_at
decreases-ampersand_at l = 7 * l.room + 1

abbrev pub decreases-group : goal.decreases-group
decreases-group l = 7 * l.room + 2

abbrev pub decreases-pattern_by : goal.decreases-pattern_by
decreases-pattern_by l = 7 * l.room + 4

abbrev pub decreases-one_at : goal.decreases-one_at
decreases-one_at l = 7 * l.room + 5

abbrev pub decreases-pattern_at : goal.decreases-pattern_at
decreases-pattern_at l = 7 * l.room + 6
