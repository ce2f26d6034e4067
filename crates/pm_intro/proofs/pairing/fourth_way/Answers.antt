use Rattle.pm_goal.specs.declared.refusal.Row.TheVariants.{NotPair}
use Rattle.pm_table.specs.Destructs as table
use Rattle.pm_table.specs.Destructs.{is_drop}
use Rattle.pm_table.specs.Limits.{all_nodes, work_formulas}
use Rattle.pm_intro.specs.Hands.{hand_at}
use Rattle.pm_intro.specs.Pairs.{fourth}
use Rattle.pm_intro.proofs.Answered.{follows, refuses_plain}
use Rattle.pm_intro.proofs.Ways.{fourth_as, fourth_boxed}
use Rattle.pm_intro.proofs.pairing.fourth_way.Goals as goal

pub returns-in-Spat : goal.returns-in-Spat
returns-in-Spat c =
    let w = c.args.work.now in
    let h = c.args.held.now in
    follows (all_nodes (work_formulas w)) w (table.fourth_way w (hand_at w h) h.kind c.is_drop-first.result c.is_drop-second.result) (fourth w (hand_at w h) c.args.p.now c.args.q.now) c.part_of_spatial.result
    (fourth_as w h c.args.p.now c.args.q.now c.is_drop-first.result c.is_drop-second.result c.is_drop-first.ensures c.is_drop-second.ensures) c.part_of_spatial.ensures

pub returns-in-Int : goal.returns-in-Int
returns-in-Int c =
    let w = c.args.work.now in
    let h = c.args.held.now in
    refuses_plain (all_nodes (work_formulas w)) w (fourth w (hand_at w h) c.args.p.now c.args.q.now) NotPair c.refuse_plain.result
    (fourth_boxed w h (is_drop c.args.p.now) (is_drop c.args.q.now) c.in-Int.is) c.refuse_plain.ensures
