use Rattle.pm_print.proofs.Joined.{five}
use Rattle.pm_print.proofs.TermCases.{sum_pieces, neg_pieces, scale_pieces}
use Rattle.pm_print.proofs.terms.+add_term.Goals as goal

pub returns-in_ok-add_term-in-Add-2 : goal.returns-in_ok-add_term-in-Add-2
returns-in_ok-add_term-in-Add-2 t c =
    five _ _ _ _ _ _ _ _ _ _ _ _ _ c.in_ok-open-in-Add.ensures c.in_ok-add_term-in-Add.ensures c.in_ok-add_sign-in-Add.ensures c.in_ok-add_term-in-Add-2.ensures c.close-in-Add.ensures
    (sum_pieces _ _ _ _ _ _ _ _ c.in-Add.is c.get-in-Add.ensures c.get-in-Add-2.ensures c.sum_sign.ensures)

pub returns-in_ok-add_sign-in-Neg-2 : goal.returns-in_ok-add_sign-in-Neg-2
returns-in_ok-add_sign-in-Neg-2 t c =
    five _ _ _ _ _ _ _ _ _ _ _ _ _ c.in_ok-open-in-Neg.ensures c.in_ok-add_sign-in-Neg.ensures c.in_ok-add_term-in-Neg.ensures c.in_ok-add_sign-in-Neg-2.ensures c.close.ensures
    (neg_pieces _ _ _ _ _ c.in-Neg.is c.get.ensures)

pub returns-in_ok-add_term-in-Scale : goal.returns-in_ok-add_term-in-Scale
returns-in_ok-add_term-in-Scale t c =
    five _ _ _ _ _ _ _ _ _ _ _ _ _ c.in_ok-open-in-Scale.ensures c.in_ok-add_literal-in-Scale.ensures c.in_ok-add_sign-in-Scale.ensures c.in_ok-add_term-in-Scale.ensures c.close-in-Scale.ensures
    (scale_pieces _ _ _ _ _ _ c.in-Scale.is c.get-in-Scale.ensures)
