use Rattle.pm_sound.proofs.Groups as mine
use Rattle.pm_sound.proofs.later_is_sound.Goals as goal

pub returns : goal.returns
returns c = mine.later
