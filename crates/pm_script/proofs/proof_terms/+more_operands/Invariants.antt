use Rattle.pm_script.proofs.proof_terms.+more_operands.Given as goal

abbrev pub decreases-more_operands : goal.decreases-more_operands
decreases-more_operands l = l.most
