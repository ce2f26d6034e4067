use Rattle.pm_directives.proofs.groups.+universals.Given as goal

abbrev pub decreases-universals : goal.decreases-universals
decreases-universals l = goal.size-universals l
