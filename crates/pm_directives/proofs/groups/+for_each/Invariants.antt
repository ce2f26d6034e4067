use Rattle.std.proofs.Common.{length}
use Rattle.pm_directives.proofs.groups.+for_each.Given as goal

abbrev pub decreases-for_each : goal.decreases-for_each
decreases-for_each l = length l.names.now
