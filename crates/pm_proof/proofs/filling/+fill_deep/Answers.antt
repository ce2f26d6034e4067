use Rattle.std.proofs.Common.{arith, refl, ◌<◌}
use Rattle.pm_proof.specs.Trees.{levels}
use Rattle.pm_proof.specs.Nodes.{tree_of}
use Rattle.pm_proof.proofs.Cutting.{cut, lower}
use Rattle.pm_proof.proofs.filling.+fill_deep.Goals as goal

pub fill_deep-requires : goal.fill_deep-requires
fill_deep-requires t c =
    let tree = tree_of c.args.node.now in
    let less : levels (tree_of c.cut_at-part.result.part) < levels tree = rw c.cut_at-part.ensures.part (lower tree c.args.i 1000 (omega arith) (c.if-has_premises.ensures.0 refl)) in
    (omega (arith, c.decreases, less), rw (c.cut_at-part.ensures.part, c.cut_at-part.ensures.index) (cut tree c.args.i 1000 c.requires).inside)

pub overflow_sub-i : goal.overflow_sub-i
overflow_sub-i t c = rw c.cut_at-part.ensures.index (cut (tree_of c.args.node.now) c.args.i 1000 c.requires).low

pub returns-then-has_premises : goal.returns-then-has_premises
returns-then-has_premises t c = rw (c.fill_at.ensures, c.fill_deep.ensures, c.cut_at-part.ensures.rest, c.cut_at-part.ensures.part, c.cut_at-part.ensures.index) ((cut (tree_of c.args.node.now) c.args.i 1000 c.requires).back (tree_of c.args.inner))
