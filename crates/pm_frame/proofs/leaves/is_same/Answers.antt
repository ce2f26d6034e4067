use Rattle.pm_logic.proofs.Equals.{tested}
use Rattle.pm_frame.proofs.leaves.is_same.Goals as goal

pub returns : goal.returns
returns c = tested c.same_term.result c.args.s.now c.args.t.now c.same_term.ensures
