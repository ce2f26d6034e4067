use Rattle.pm_closing.proofs.Equal.{truth_of}
use Rattle.pm_closing.proofs.reflexive.to_truth.Goals as goal

pub returns : goal.returns
returns c = truth_of c.args.work.now c.in_ok-left.left c.len.result c.in_ok-proof.proof c.in_ok-left.ensures c.len.ensures c.in_ok-proof.ensures
