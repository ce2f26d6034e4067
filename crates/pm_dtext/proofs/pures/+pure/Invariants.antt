use Rattle.std.specs.Prelude.{◌+◌, ◌*◌}
use Rattle.pm_dtext.proofs.pures.+pure.Given as goal

abbrev pub decreases-pure : goal.decreases-pure
decreases-pure l = 5 * l.levels

abbrev pub decreases-part : goal.decreases-part
decreases-part l = 5 * l.levels + 1

abbrev pub decreases-two_pures : goal.decreases-two_pures
decreases-two_pures l = 5 * l.levels + 2

abbrev pub decreases-negation : goal.decreases-negation
decreases-negation l = 5 * l.levels + 3

abbrev pub decreases-both : goal.decreases-both
decreases-both l = 5 * l.levels + 3

abbrev pub decreases-either : goal.decreases-either
decreases-either l = 5 * l.levels + 3

abbrev pub decreases-pure_under : goal.decreases-pure_under
decreases-pure_under l = 5 * l.levels + 4
