use Rattle.pm_basic.proofs.Cleared.{spats_apart}
use Rattle.pm_basic.proofs.dealing.dealt_goal.Goals as goal

pub side_of-requires : goal.side_of-requires
side_of-requires c = spats_apart c.args.goal.now c.requires
