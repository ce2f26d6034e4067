use Rattle.std.proofs.Common.{refl}
use Rattle.pm_tests.proofs.Begun.{truth_alone}
use Rattle.pm_tests.proofs.steps.truth_alone.Goals as goal

pub returns : goal.returns
returns c = truth_alone _ c.new-vars.ensures c.new-pures.ensures c.new-ints.ensures c.new-spats.ensures refl
