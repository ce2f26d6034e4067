use Rattle.std.proofs.Common.{◌∙◌, ap}
use Rattle.pm_goal.specs.declared.work.Kind.TheVariants as kind
use Rattle.pm_table.specs.Works.{hold}
use Rattle.pm_heap.proofs.Merged.{merge_proof, merge_known}
use Rattle.pm_heap.proofs.combining.merged.Goals as goal

pub merge_held-requires-clause-proof : goal.merge_held-requires-clause-proof
merge_held-requires-clause-proof c =
    merge_proof c.args.rest.now c.args.f.now c.args.g.now c.in_ok-both.both c.count.result (c.in_ok-both.ensures ∙ ap (hold kind.Spat c.args.g.now) c.in_ok-one.ensures) c.count.ensures c.args.by c.requires.by

pub returns : goal.returns
returns c =
    merge_known c.args.rest.now c.args.f.now c.args.g.now c.in_ok-both.both c.count.result (c.in_ok-both.ensures ∙ ap (hold kind.Spat c.args.g.now) c.in_ok-one.ensures) c.count.ensures c.args.by c.in_ok-proof.proof
    c.in_ok-proof.ensures
