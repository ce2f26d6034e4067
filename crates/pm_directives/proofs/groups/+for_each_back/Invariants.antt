use Rattle.std.proofs.Common.{length}
use Rattle.pm_directives.proofs.groups.+for_each_back.Given as goal

abbrev pub decreases-for_each_back : goal.decreases-for_each_back
decreases-for_each_back l = length l.names.now
