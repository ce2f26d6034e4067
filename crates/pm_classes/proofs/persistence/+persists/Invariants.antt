use Rattle.pm_classes.proofs.persistence.+persists.Given as goal

abbrev pub decreases-persists : goal.decreases-persists
decreases-persists l = goal.size-persists l
