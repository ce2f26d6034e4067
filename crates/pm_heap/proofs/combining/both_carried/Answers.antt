use Rattle.pm_heap.proofs.Merged.{carried_both}
use Rattle.pm_heap.proofs.combining.both_carried.Goals as goal

pub returns : goal.returns
returns c =
    carried_both c.args.work.now c.args.a.now c.args.b.now c.args.two.now c.in_ok-one.one c.in_ok-more.more c.in_ok-proof.proof c.requires.two c.in_ok-one.ensures c.in_ok-more.ensures
    c.in_ok-proof.ensures.proves
