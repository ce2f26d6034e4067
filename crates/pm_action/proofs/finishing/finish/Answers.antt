use Rattle.pm_proof.specs.Known.{Every}
use Rattle.pm_action.specs.Meanings.{width}
use Rattle.pm_action.proofs.finishing.finish.Goals as goal

pub returns : goal.returns
returns c = λ s w acted. c.finish_over.ensures Every (width w) s w acted
