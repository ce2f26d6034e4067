use Rattle.pm_logic.proofs.Connectives.{only_singles}
use Rattle.pm_logic.proofs.node.single.Goals as goal

pub unreachable-requires : goal.unreachable-requires
unreachable-requires c = only_singles c.args.like.now c.requires c.in_default.not-All c.in_default.not-Ex c.in_default.not-Later c.in_default.not-Pers c.in_default.not-Upd
