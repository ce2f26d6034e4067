use Rattle.pm_directives.proofs.groups.+premises.Given as goal

abbrev pub decreases-premises : goal.decreases-premises
decreases-premises l = goal.size-premises l
