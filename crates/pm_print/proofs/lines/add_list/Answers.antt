use Rattle.std.proofs.Common.{refl}
use Rattle.pm_print.proofs.Joined.{three}
use Rattle.pm_print.specs.Parts.{sign_pieces}
use Rattle.pm_print.proofs.lines.add_list.Goals as goal

pub returns : goal.returns
unfolding sign_pieces
returns c = three _ _ _ _ _ _ _ _ _ c.in_ok-add_sign.ensures c.in_ok-add_parameters.ensures c.add_sign-2.ensures refl
