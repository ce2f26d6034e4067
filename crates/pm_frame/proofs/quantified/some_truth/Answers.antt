use Rattle.pm_frame.proofs.Binding.{opened_truth}
use Rattle.pm_frame.proofs.Quantifying.{truth_bounded, zero_fits}
use Rattle.pm_frame.proofs.quantified.some_truth.Goals as goal

pub witness-requires-clause-body : goal.witness-requires-clause-body
witness-requires-clause-body c = truth_bounded

pub witness-requires-clause-term : goal.witness-requires-clause-term
witness-requires-clause-term c = zero_fits c.args.vars

pub returns : goal.returns
returns c = opened_truth c.args.vars c.in_ok-proof.proof c.in_ok-proof.ensures
