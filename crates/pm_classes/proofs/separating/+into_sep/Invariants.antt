use Rattle.pm_classes.proofs.separating.+into_sep.Given as goal

abbrev pub decreases-into_sep : goal.decreases-into_sep
decreases-into_sep l = goal.size-into_sep l
