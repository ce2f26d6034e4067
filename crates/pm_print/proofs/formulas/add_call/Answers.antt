use Rattle.std.proofs.Common.{refl}
use Rattle.pm_print.proofs.Joined.{four}
use Rattle.pm_print.specs.Parts.{sign_pieces}
use Rattle.pm_print.proofs.formulas.add_call.Goals as goal

pub returns : goal.returns
unfolding sign_pieces
returns c = four _ _ _ _ _ _ _ _ _ _ _ c.in_ok-add_predicate.ensures c.in_ok-add_sign.ensures c.in_ok-add_terms.ensures c.add_sign-2.ensures refl
