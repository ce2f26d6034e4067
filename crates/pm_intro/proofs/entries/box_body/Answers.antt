use Rattle.pm_intro.proofs.ByKind.{boxed_body}
use Rattle.pm_intro.proofs.entries.box_body.Goals as goal

pub returns-clause-proof : goal.returns-clause-proof
returns-clause-proof c = boxed_body c.args.vars c.args.f.now c.args.entry.formula c.args.entry.proof c.in_ok-proof.proof c.requires c.in_ok-proof.ensures
