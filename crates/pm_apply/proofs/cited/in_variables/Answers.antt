use Rattle.std.proofs.Common.{ap, length, arith}
use Rattle.pm_star.proofs.Scoping.{depth_truth}
use Rattle.pm_apply.proofs.Citations.{truth_closed, instance_done}
use Rattle.pm_apply.proofs.cited.in_variables.Goals as goal

pub instantiate-requires-clause-left : goal.instantiate-requires-clause-left
instantiate-requires-clause-left c = truth_closed _

pub instantiate-requires-clause-left_size : goal.instantiate-requires-clause-left_size
instantiate-requires-clause-left_size c = omega (arith, ap length c.new-sigma.ensures, depth_truth)

pub returns : goal.returns
returns c = instance_done c.args.vars c.args.f.now c.in_ok-right.right c.new-sigma.result c.in_ok-proof.proof c.requires.closed c.in_ok-right.ensures c.new-sigma.ensures c.in_ok-proof.ensures
