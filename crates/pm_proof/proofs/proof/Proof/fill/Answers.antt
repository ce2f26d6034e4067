use Rattle.std.proofs.Common.{rules, ◌≡◌}
use Rattle.pm_proof.specs.Trees.{conclusion, filled}
use Rattle.pm_proof.proofs.Fills.{hole_within, fill_proves, fill_extends}
use Rattle.pm_proof.proofs.proof.Proof.fill.Goals as goal

pub fill_deep-requires : goal.fill_deep-requires
fill_deep-requires c = rw (c.deref_mut.ensures.value, c.into_root-node.ensures) (hole_within c.args.self c.args.i (conclusion c.args.inner) c.requires)

pub returns-clause-proves : goal.returns-clause-proves
returns-clause-proves c =
    let is : c.around.result ≡ filled c.args.self c.args.i c.args.inner = search rules in
    fill_proves c.args.self c.args.i c.args.inner c.around.result is c.requires

pub returns-clause-extends : goal.returns-clause-extends
returns-clause-extends c =
    let is : c.around.result ≡ filled c.args.self c.args.i c.args.inner = search rules in
    fill_extends c.args.self c.args.i c.args.inner c.around.result is c.requires
