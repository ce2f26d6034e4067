use Rattle.pm_patterns.proofs.part.+more_parts.Given as goal

abbrev pub decreases-more_parts : goal.decreases-more_parts
decreases-more_parts g l = l.most
