use Rattle.pm_write.proofs.Spelled.{two}
use Rattle.pm_write.proofs.Wording.{one, inst_text, all_text, exists_text, linear_text, rewrite_text}
use Rattle.pm_write.proofs.rules.put_arguments.Goals as goal

pub returns-in-Inst : goal.returns-in-Inst
returns-in-Inst c = one _ _ _ _ _ c.put_counted_terms.ensures (inst_text _ _ _ c.in-Inst.is c.as_slice.ensures)

pub returns-in_ok-put-in-AllE : goal.returns-in_ok-put-in-AllE
returns-in_ok-put-in-AllE c = two _ _ _ _ _ _ _ c.in_ok-put-in-AllE.ensures c.put_term.ensures (all_text _ _ c.in-AllE.is)

pub returns-in_ok-put-in-ExI : goal.returns-in_ok-put-in-ExI
returns-in_ok-put-in-ExI c = two _ _ _ _ _ _ _ c.in_ok-put-in-ExI.ensures c.put_term-in-ExI.ensures (exists_text _ _ c.in-ExI.is)

pub returns-in_ok-put_counted_factors-in-Linear : goal.returns-in_ok-put_counted_factors-in-Linear
returns-in_ok-put_counted_factors-in-Linear c = two _ _ _ _ _ _ _ c.in_ok-put_counted_factors-in-Linear.ensures c.put_counted_factors-in-Linear.ensures (linear_text _ _ _ _ _ c.in-Linear.is c.as_slice-in-Linear.ensures c.as_slice-in-Linear-2.ensures)

pub returns-in_ok-put-in-Rewrite : goal.returns-in_ok-put-in-Rewrite
returns-in_ok-put-in-Rewrite c = two _ _ _ _ _ _ _ c.in_ok-put-in-Rewrite.ensures c.put_formula.ensures (rewrite_text _ _ c.in-Rewrite.is)
