use Rattle.std.proofs.Common.{◌∙◌}
use Rattle.pm_write.proofs.Spelled.{two, four, text_fact, text_two, text_one, text_pts, text_call}
use Rattle.pm_write.proofs.texts.+put_formula.Goals as goal

pub returns-in_ok-put-in-Pure : goal.returns-in_ok-put-in-Pure
returns-in_ok-put-in-Pure t c = two _ _ _ _ _ _ _ c.in_ok-put-in-Pure.ensures c.put_pure.ensures (text_fact _ _ c.in-Pure.is)

pub returns-in_ok-put-in-Sep-2 : goal.returns-in_ok-put-in-Sep-2
returns-in_ok-put-in-Sep-2 t c = four _ _ _ _ _ _ _ _ _ _ _ c.in_ok-put-in-Sep.ensures c.in_ok-put_formula-in-Sep.ensures c.in_ok-put-in-Sep-2.ensures c.put_formula-in-Sep-2.ensures (text_two _ _ _ _ _ _ c.formula_sign-in-Sep.ensures c.in-Sep.is c.get-in-Sep.ensures c.get-in-Sep-2.ensures)

pub returns-in_ok-put-in-All : goal.returns-in_ok-put-in-All
returns-in_ok-put-in-All t c = two _ _ _ _ _ _ _ c.in_ok-put-in-All.ensures c.put_formula.ensures (text_one _ _ _ _ c.formula_sign.ensures c.in-All.is c.get.ensures)

pub returns-in_ok-put-in-Pts-2 : goal.returns-in_ok-put-in-Pts-2
returns-in_ok-put-in-Pts-2 t c = four _ _ _ _ _ _ _ _ _ _ _ c.in_ok-put-in-Pts.ensures c.in_ok-put_term-in-Pts.ensures c.in_ok-put-in-Pts-2.ensures c.put_term-in-Pts.ensures (text_pts _ _ _ _ _ (c.as_str.ensures.value ∙ c.in_ok-units-in-Pts.ensures) c.in-Pts.is)

pub returns-in_ok-put-in-Call : goal.returns-in_ok-put-in-Call
returns-in_ok-put-in-Call t c = two _ _ _ _ _ _ _ c.in_ok-put-in-Call.ensures c.put_terms.ensures (text_call _ _ _ _ _ (c.as_str-in-Call.ensures.value ∙ c.in_ok-head-in-Call.ensures) c.in-Call.is c.as_slice.ensures)
