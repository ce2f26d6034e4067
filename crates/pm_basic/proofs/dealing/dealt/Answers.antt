use Rattle.std.proofs.Common.{arith}
use Rattle.std.specs.Option.{option_copied}
use Rattle.pm_basic.proofs.Dealt.{dealt_to}
use Rattle.pm_basic.proofs.dealing.dealt.Goals as goal

pub places-requires : goal.places-requires
places-requires c = omega (arith, c.requires.handed.few)

pub partition_held-requires : goal.partition_held-requires
partition_held-requires c = omega (arith, c.requires.handed.few)

pub returns : goal.returns
returns c = dealt_to c.args.work.now c.args.named (option_copied c.args.names) c.in_ok-left.left c.in_ok-proof.proof c.requires.nothing c.in_ok-left.ensures c.in_ok-proof.ensures
