use Rattle.pm_script.proofs.proof_terms.+more_terms.Given as goal

abbrev pub decreases-more_terms : goal.decreases-more_terms
decreases-more_terms l = l.most
