use Rattle.std.proofs.Common.{refl}
use Rattle.pm_write.proofs.Spelled.{two, four, text_not, text_compared, text_two_pures}
use Rattle.pm_write.proofs.texts.+put_pure.Goals as goal

pub returns-in_ok-put-in-Not : goal.returns-in_ok-put-in-Not
returns-in_ok-put-in-Not t c = two _ _ _ _ _ _ _ c.in_ok-put-in-Not.ensures c.put_pure.ensures (text_not _ _ _ c.in-Not.is c.get.ensures)

pub returns-in_ok-put-in-And-2 : goal.returns-in_ok-put-in-And-2
returns-in_ok-put-in-And-2 t c = four _ _ _ _ _ _ _ _ _ _ _ c.in_ok-put-in-And.ensures c.in_ok-put_pure-in-And.ensures c.in_ok-put-in-And-2.ensures c.put_pure-in-And-2.ensures (text_two_pures _ _ _ _ _ _ c.pure_sign.ensures c.in-And.is c.get-in-And.ensures c.get-in-And-2.ensures)

pub returns-in_ok-put-in-Eq-2 : goal.returns-in_ok-put-in-Eq-2
returns-in_ok-put-in-Eq-2 t c = four _ _ _ _ _ _ _ _ _ _ _ c.in_ok-put-in-Eq.ensures c.in_ok-put_term-in-Eq.ensures c.in_ok-put-in-Eq-2.ensures c.put_term-in-Eq.ensures (text_compared _ _ _ _ _ _ c.pure_sign-in-Eq.ensures c.in-Eq.is refl refl)
