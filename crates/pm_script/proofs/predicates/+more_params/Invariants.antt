use Rattle.pm_script.proofs.predicates.+more_params.Given as goal

abbrev pub decreases-more_params : goal.decreases-more_params
decreases-more_params l = l.most
