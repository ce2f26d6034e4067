use Rattle.pm_logic.proofs.Connectives.{only_pairs}
use Rattle.pm_logic.proofs.node.pair.Goals as goal

pub unreachable-requires : goal.unreachable-requires
unreachable-requires c = only_pairs c.args.like.now c.requires c.in_default.not-Sep c.in_default.not-Wand c.in_default.not-And c.in_default.not-Or c.in_default.not-Imp
