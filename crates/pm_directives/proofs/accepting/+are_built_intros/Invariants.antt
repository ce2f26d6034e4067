use Rattle.std.proofs.Common.{length}
use Rattle.pm_directives.proofs.accepting.+are_built_intros.Given as goal

abbrev pub decreases-are_built_intros : goal.decreases-are_built_intros
decreases-are_built_intros l = length l.pats.now
