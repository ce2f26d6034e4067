use Rattle.std.proofs.Common.{ap}
use Rattle.pm_rules.specs.Read.{given_of}
use Rattle.pm_rules.proofs.Computed.{through}
use Rattle.pm_rules.proofs.Quantified.{eliminated}
use Rattle.pm_rules.proofs.quantifiers.is_ex_elim.Goals as goal

pub returns-in-One : goal.returns-in-One
returns-in-One c = through c.is_eliminated.ensures (eliminated (given_of c.args.ps) c.in-One.p.now c.args.e.now (ap given_of c.in-One.is))
