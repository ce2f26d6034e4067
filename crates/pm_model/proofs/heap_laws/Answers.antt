use Rattle.pm_model.proofs.Heaps as mine
use Rattle.pm_model.proofs.heap_laws.Goals as goal

pub returns : goal.returns
returns c = mine.heap_laws
