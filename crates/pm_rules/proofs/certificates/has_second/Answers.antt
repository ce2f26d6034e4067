use Rattle.std.proofs.Common.{length}
use Rattle.pm_rules.proofs.Computed.{through}
use Rattle.pm_rules.proofs.Certified.{eq_second, empty, none_second}
use Rattle.pm_rules.proofs.certificates.has_second.Goals as goal

pub returns-in-Eq : goal.returns-in-Eq
returns-in-Eq c = through c.shows_mirrored.ensures (eq_second c.args.factors.now c.args.facts.now c.args.g.now c.in-Eq.s c.in-Eq.t c.in-Eq.is c.requires.list)

pub returns-in_default : goal.returns-in_default
returns-in_default c = through (empty c.is_empty.result (length c.args.factors.now) c.is_empty.ensures) (none_second c.args.factors.now c.args.facts.now c.args.g.now c.in_default.not-Eq)
