use Rattle.pm_hand.proofs.Sizes.{few_hypotheses}
use Rattle.pm_heap.proofs.Merged.{rest_few, closes_two}
use Rattle.pm_heap.proofs.combining.closing.Goals as goal

pub absurd-requires-clause-few : goal.absurd-requires-clause-few
absurd-requires-clause-few c = rest_few c.args.work.now c.args.a.now c.args.b.now c.args.two.now c.requires.two (few_hypotheses c.args.work.now c.requires.handed)

pub returns : goal.returns
returns c = closes_two c.args.work.now c.args.a.now c.args.b.now c.args.two.now c.args.new.now c.args.moved c.in_ok-end.end c.in_ok-proof.proof c.requires.two c.requires.new c.requires.moved c.in_ok-end.ensures c.in_ok-proof.ensures.proves
