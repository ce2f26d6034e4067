use Rattle.pm_hand.proofs.Sizes.{few_hypotheses}
use Rattle.pm_heap.proofs.Merged.{rest_few, becomes}
use Rattle.pm_heap.proofs.combining.combined.Goals as goal

pub merged-requires-clause-few : goal.merged-requires-clause-few
merged-requires-clause-few c = rest_few c.args.work.now c.args.a.now c.args.b.now c.args.two.now c.requires.two (few_hypotheses c.args.work.now c.requires.handed)

pub returns : goal.returns
returns c =
    becomes c.args.work.now c.args.a.now c.args.b.now c.args.two.now c.args.formula.now c.args.by c.in_ok-taken.taken c.in_ok-together.together c.in_ok-proof.proof c.requires.two c.requires.by
    c.in_ok-taken.ensures c.in_ok-together.ensures c.in_ok-proof.ensures.proves
