use Rattle.pm_rules.proofs.Terms.{seen_constant}
use Rattle.pm_rules.proofs.Adding.{roomy, one_adds}
use Rattle.pm_rules.proofs.atoms.add_one.Goals as goal

pub shifted-requires : goal.shifted-requires
shifted-requires c = roomy c.args.total c.requires.room

pub returns : goal.returns
returns c = one_adds c.args.c c.args.total c.shifted.result (seen_constant c.args.c c.args.total c.shifted.result c.ranges.c c.shifted.ensures)
