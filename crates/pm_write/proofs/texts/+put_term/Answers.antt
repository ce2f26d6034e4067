use Rattle.std.proofs.Common.{◌∙◌}
use Rattle.pm_write.proofs.Spelled.{two, four, text_neg, text_scale, text_two_terms}
use Rattle.pm_write.proofs.texts.+put_term.Goals as goal

pub returns-in_ok-put-in-Neg : goal.returns-in_ok-put-in-Neg
returns-in_ok-put-in-Neg t c = two _ _ _ _ _ _ _ c.in_ok-put-in-Neg.ensures c.put_term.ensures (text_neg _ _ _ c.in-Neg.is c.get.ensures)

pub returns-in_ok-put-in-Add-2 : goal.returns-in_ok-put-in-Add-2
returns-in_ok-put-in-Add-2 t c = four _ _ _ _ _ _ _ _ _ _ _ c.in_ok-put-in-Add.ensures c.in_ok-put_term-in-Add.ensures c.in_ok-put-in-Add-2.ensures c.put_term-in-Add-2.ensures (text_two_terms _ _ _ _ _ _ c.term_sign.ensures c.in-Add.is c.get-in-Add.ensures c.get-in-Add-2.ensures)

pub returns-in_ok-put-in-Scale : goal.returns-in_ok-put-in-Scale
returns-in_ok-put-in-Scale t c = two _ _ _ _ _ _ _ c.in_ok-put-in-Scale.ensures c.put_term-in-Scale.ensures (text_scale _ _ _ _ _ (c.as_str-in-Scale.ensures.value ∙ c.in_ok-factor-in-Scale.ensures) c.in-Scale.is c.get-in-Scale.ensures)
