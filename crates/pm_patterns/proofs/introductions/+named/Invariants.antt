use Rattle.std.proofs.Common.{◌+◌, ◌*◌}
use Rattle.pm_patterns.proofs.introductions.+named.Given as goal

abbrev pub decreases-named_pattern : goal.decreases-named_pattern
decreases-named_pattern l = 3 * l.room

abbrev pub decreases-behind_name : goal.decreases-behind_name
decreases-behind_name l = 3 * l.room + 1

abbrev pub decreases-named_at : goal.decreases-named_at
decreases-named_at l = 3 * l.room + 2
