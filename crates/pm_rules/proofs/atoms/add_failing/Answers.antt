use Rattle.pm_rules.proofs.Facts.{failing_other}
use Rattle.pm_rules.proofs.atoms.add_failing.Goals as goal

pub returns-in_default : goal.returns-in_default
returns-in_default c = failing_other c.args.c c.args.p.now c.in-Not.q c.get.result.now c.args.total c.in-Not.is c.get.ensures c.in_default.not-Le c.in_default.not-Lt
