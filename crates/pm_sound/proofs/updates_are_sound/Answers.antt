use Rattle.pm_sound.proofs.Groups as mine
use Rattle.pm_sound.proofs.updates_are_sound.Goals as goal

pub returns : goal.returns
returns c = mine.updates
