use Rattle.pm_framing.proofs.Found.{fact_source}
use Rattle.pm_framing.proofs.sources.fact.Goals as goal

pub returns : goal.returns
returns c = fact_source c.args.work.now.goal c.args.name.now c.args.place c.args.pure c.requires
