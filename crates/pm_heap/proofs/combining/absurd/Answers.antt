use Rattle.std.proofs.Common.{length}
use Rattle.pm_logic.specs.declared.formula.Formula.TheVariants.{Pure as Fact}
use Rattle.pm_logic.specs.declared.formula.Formula.TheViews as view
use Rattle.pm_logic.specs.declared.formula.Pure.TheVariants as pure
use Rattle.pm_goal.specs.declared.work.Kind.TheVariants as kind
use Rattle.pm_goal.specs.Left.{left_of_work}
use Rattle.pm_table.specs.Works.{hold}
use Rattle.pm_heap.proofs.Carried.{meets}
use Rattle.pm_heap.proofs.Merged.{front_known, end_known, absurd_known}
use Rattle.pm_heap.proofs.combining.absurd.Goals as goal

pub compose-requires-clause-meet : goal.compose-requires-clause-meet
compose-requires-clause-meet c =
    let b = c.args.rest.now in
    let m = front_known b c.args.new.now c.args.concl.now c.count.result c.requires.new c.count.ensures c.in_ok-front.front c.in_ok-front.ensures in
    let p = end_known b c.args.new.now c.args.concl.now c.count.result c.requires.new c.count.ensures c.len-vars.result c.in_ok-star.star c.in_ok-end.end c.len-vars.ensures c.in_ok-star.ensures c.in_ok-end.ensures in
    meets (length b.goal.vars) (left_of_work (hold kind.Spat (Fact pure.False) b)) (view.Sep (Fact pure.False) (left_of_work b)) c.args.concl.now c.in_ok-front.front c.in_ok-end.end m.concludes p.concludes

pub returns : goal.returns
returns c =
    let b = c.args.rest.now in
    absurd_known b c.args.new.now c.args.concl.now c.count.result c.requires.new c.count.ensures c.in_ok-front.front c.in_ok-end.end c.in_ok-proof.proof
    (front_known b c.args.new.now c.args.concl.now c.count.result c.requires.new c.count.ensures c.in_ok-front.front c.in_ok-front.ensures)
    (end_known b c.args.new.now c.args.concl.now c.count.result c.requires.new c.count.ensures c.len-vars.result c.in_ok-star.star c.in_ok-end.end c.len-vars.ensures c.in_ok-star.ensures c.in_ok-end.ensures)
    c.in_ok-proof.ensures.proves
