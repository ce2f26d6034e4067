use Rattle.pm_sound.proofs.Groups as mine
use Rattle.pm_sound.proofs.star_is_sound.Goals as goal

pub returns : goal.returns
returns c = mine.star
