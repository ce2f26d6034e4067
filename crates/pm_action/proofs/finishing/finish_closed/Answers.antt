use Rattle.std.proofs.Common.{subst}
use Rattle.pm_action.specs.Acting.{Ends}
use Rattle.pm_action.proofs.finishing.finish_closed.Goals as goal

pub returns : goal.returns
returns c = subst (λ ps. Ends ps c.args.proof c.finish.result) c.new.ensures c.finish.ensures
