use Rattle.pm_logic.proofs.Equals.{term_eq_decides}
use Rattle.pm_logic.proofs.substitution.equality_is_tested.Goals as goal

pub returns : goal.returns
returns c s t = term_eq_decides s t
