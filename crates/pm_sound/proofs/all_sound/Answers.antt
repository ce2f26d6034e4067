use Rattle.pm_sound.proofs.Sound as mine
use Rattle.pm_sound.proofs.all_sound.Goals as goal

pub returns : goal.returns
returns c = mine.all_sound
