use Rattle.pm_logic.proofs.Agrees.{shift_substitutes, opening_substitutes}
use Rattle.pm_logic.proofs.substitution.are_substitutions.Goals as goal

pub returns : goal.returns
returns c = record { shift = shift_substitutes; opening = opening_substitutes }
