use Rattle.std.proofs.Common.{refl}
use Rattle.pm_print.proofs.Joined.{three}
use Rattle.pm_print.specs.Parts.{quantifier_pieces, sign_pieces}
use Rattle.pm_print.proofs.names.add_quantifier.Goals as goal

pub returns : goal.returns
unfolding quantifier_pieces sign_pieces
returns c = three _ _ _ _ _ _ _ _ _ c.in_ok-add_sign.ensures c.in_ok-add_binder.ensures c.add_sign-2.ensures refl
