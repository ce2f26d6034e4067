use Rattle.std.proofs.Common.{ℕ, ◌+◌, ◌*◌}
use Rattle.pm_text.specs.declared.level.Level.{Level}
use Rattle.pm_text.specs.declared.level.Level.TheVariants as level
use Rattle.pm_text.proofs.formulas.+formulas.Given as goal

abbrev rank : Level → ℕ
rank level.Wands = 6
rank level.Ors = 5
rank level.Stars = 4
rank level.Prefixes = 4
rank (level.Names b) = 10
rank level.Updates = 1

abbrev pub decreases-group : goal.decreases-group
decreases-group l = 11 * l.room + 1

abbrev pub decreases-modal : goal.decreases-modal
decreases-modal l = 11 * l.room + 1

abbrev pub decreases-opened : goal.decreases-opened
decreases-opened l = 11 * l.room + 2

abbrev pub decreases-prefix_at : goal.decreases-prefix_at
decreases-prefix_at l = 11 * l.room + 3

abbrev pub decreases-right_side : goal.decreases-right_side
decreases-right_side l = 11 * l.room + 1

abbrev pub decreases-infix_at : goal.decreases-infix_at
decreases-infix_at l = 11 * l.room + 2

abbrev pub decreases-behind_name : goal.decreases-behind_name
decreases-behind_name l = 11 * l.room + 7

abbrev pub decreases-with_name : goal.decreases-with_name
decreases-with_name l = 11 * l.room + 8

abbrev pub decreases-names_at : goal.decreases-names_at
decreases-names_at l = 11 * l.room + 9

abbrev pub decreases-formula_at : goal.decreases-formula_at
decreases-formula_at l = 11 * l.room + rank l.level

abbrev pub decreases-formula_in : goal.decreases-formula_in
decreases-formula_in l = 11 * l.room
