use Rattle.pm_intro.proofs.ByKind.{boxed_cases}
use Rattle.pm_intro.proofs.entries.box_cases.Goals as goal

pub returns-clause-proof : goal.returns-clause-proof
returns-clause-proof c = boxed_cases c.args.vars c.args.f.now c.args.entry.first c.args.entry.second c.args.entry.proof c.in_ok-proof.proof c.requires c.in_ok-proof.ensures
