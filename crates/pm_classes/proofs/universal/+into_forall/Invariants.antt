use Rattle.pm_classes.proofs.universal.+into_forall.Given as goal

abbrev pub decreases-into_forall : goal.decreases-into_forall
decreases-into_forall l = goal.size-into_forall l
