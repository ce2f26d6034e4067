use Rattle.pm_logic.proofs.Connectives.{only_comparisons}
use Rattle.pm_logic.proofs.node.compared.Goals as goal

pub unreachable-requires : goal.unreachable-requires
unreachable-requires c = only_comparisons c.args.like.now c.requires c.in_default.not-Eq c.in_default.not-Le c.in_default.not-Lt
