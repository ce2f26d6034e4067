use Rattle.pm_print.proofs.Joined.{three, four, five}
use Rattle.pm_print.proofs.PureCases.{comparison_pieces, infix_pieces, not_pieces}
use Rattle.pm_print.proofs.pures.+add_pure.Goals as goal

pub returns-in_ok-add_sign-in-Eq : goal.returns-in_ok-add_sign-in-Eq
returns-in_ok-add_sign-in-Eq t c =
    three _ _ _ _ _ _ _ _ _ c.in_ok-add_term-in-Eq.ensures c.in_ok-add_sign-in-Eq.ensures c.add_term-in-Eq.ensures (comparison_pieces _ _ _ _ _ _ c.in-Eq.is c.comparison_sign.ensures)

pub returns-in_ok-add_pure-in-And-2 : goal.returns-in_ok-add_pure-in-And-2
returns-in_ok-add_pure-in-And-2 t c =
    five _ _ _ _ _ _ _ _ _ _ _ _ _ c.in_ok-open-in-And.ensures c.in_ok-add_pure-in-And.ensures c.in_ok-add_sign-in-And.ensures c.in_ok-add_pure-in-And-2.ensures c.close-in-And.ensures
    (infix_pieces _ _ _ _ _ _ _ _ c.in-And.is c.get-in-And.ensures c.get-in-And-2.ensures c.pure_shape-shape.ensures)

pub returns-in_ok-add_pure-in-Not : goal.returns-in_ok-add_pure-in-Not
returns-in_ok-add_pure-in-Not t c =
    four _ _ _ _ _ _ _ _ _ _ _ c.in_ok-open-in-Not.ensures c.in_ok-add_sign-in-Not.ensures c.in_ok-add_pure-in-Not.ensures c.close.ensures
    (not_pieces _ _ _ _ _ c.in-Not.is c.get.ensures)
