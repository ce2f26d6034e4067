use Rattle.pm_directives.proofs.patterns.+destruct.Given as goal

abbrev pub decreases-destruct : goal.decreases-destruct
decreases-destruct l = goal.size-destruct l
