use Rattle.pm_logic.specs.Substitution.{raised_by}
use Rattle.pm_logic.proofs.Equals.{tested}
use Rattle.pm_logic.proofs.change.is_target.Goals as goal

pub returns : goal.returns
returns c = tested c.is_raised.result c.args.t.now (raised_by c.args.d c.args.s.now) c.is_raised.ensures
