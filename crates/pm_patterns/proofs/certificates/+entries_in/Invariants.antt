use Rattle.pm_patterns.proofs.certificates.+entries_in.Given as goal

abbrev pub decreases-entries_in : goal.decreases-entries_in
decreases-entries_in l = l.most
