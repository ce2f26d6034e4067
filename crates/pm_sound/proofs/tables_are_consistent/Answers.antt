use Rattle.pm_sound.proofs.Sound as mine
use Rattle.pm_sound.proofs.tables_are_consistent.Goals as goal

pub returns : goal.returns
returns c = mine.consistent
