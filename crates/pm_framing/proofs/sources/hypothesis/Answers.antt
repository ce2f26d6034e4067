use Rattle.std.proofs.Common.{subst}
use Rattle.pm_hand.specs.Looking.{IsHypAt}
use Rattle.pm_framing.proofs.Found.{spat_source, int_source}
use Rattle.pm_framing.proofs.sources.hypothesis.Goals as goal

pub returns-in-Int : goal.returns-in-Int
returns-in-Int c = int_source c.args.work.now.goal c.args.name.now c.args.place c.args.formula (subst (λ k. IsHypAt c.args.work.now.goal c.args.name.now c.args.place k c.args.formula) c.in-Int.is c.requires)

pub returns-in-Spat : goal.returns-in-Spat
returns-in-Spat c = spat_source c.args.work.now.goal c.args.name.now c.args.place c.args.formula (subst (λ k. IsHypAt c.args.work.now.goal c.args.name.now c.args.place k c.args.formula) c.in-Spat.is c.requires)
