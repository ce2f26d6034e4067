use Rattle.pm_framing.proofs.Found.{may_repeat, source_within, stays_apart, goes_apart}
use Rattle.pm_framing.proofs.sources.apart.Goals as goal

pub duplicate_held-requires-clause-place : goal.duplicate_held-requires-clause-place
duplicate_held-requires-clause-place c = may_repeat c.args.work.now c.args.name.now c.args.source.now c.if-source.true c.requires.source

pub bring_front_held-requires-clause-place : goal.bring_front_held-requires-clause-place
bring_front_held-requires-clause-place c = source_within c.args.work.now c.args.name.now c.args.source.now c.requires.source

pub returns-in_ok-proof : goal.returns-in_ok-proof
returns-in_ok-proof c = stays_apart c.args.work.now c.args.name.now c.args.source.now c.in_ok-proof.proof c.if-source.true c.requires.source c.in_ok-proof.ensures

pub returns-in_ok-proof-2 : goal.returns-in_ok-proof-2
returns-in_ok-proof-2 c = goes_apart c.args.work.now c.args.name.now c.args.source.now c.in_ok-proof-2.proof c.if-source.false c.requires.source c.in_ok-proof-2.ensures
