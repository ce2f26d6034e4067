use Rattle.pm_logic.proofs.Connectives.{only_joints}
use Rattle.pm_logic.proofs.node.joined.Goals as goal

pub unreachable-requires : goal.unreachable-requires
unreachable-requires c = only_joints c.args.like.now c.requires c.in_default.not-And c.in_default.not-Or
