use Rattle.pm_goal.specs.declared.refusal.Row.TheVariants.{NotPair}
use Rattle.pm_table.specs.Destructs as table
use Rattle.pm_table.specs.Limits.{all_nodes, work_formulas}
use Rattle.pm_intro.specs.Hands.{hand_at}
use Rattle.pm_intro.proofs.Answered.{follows, refuses_plain}
use Rattle.pm_intro.proofs.Ways.{held_and, fourth_second, fourth_first, fourth_none}
use Rattle.pm_intro.proofs.pairing.part_of_and.Goals as goal

pub second_part-requires-clause-is : goal.second_part-requires-clause-is
second_part-requires-clause-is c = held_and c.args.held.now c.args.a.now c.args.b.now c.requires.spatial c.requires.formula

pub returns-then-p : goal.returns-then-p
returns-then-p c =
    let w = c.args.work.now in
    let h = c.args.held.now in
    follows (all_nodes (work_formulas w)) w (table.second_part w (hand_at w h) c.args.b.now) (table.fourth_way w (hand_at w h) h.kind c.args.p c.args.q) c.second_part.result
    (fourth_second w h c.args.p c.args.q c.args.a.now c.args.b.now c.requires.spatial c.requires.formula c.if-p.true) c.second_part.ensures

pub first_part-requires-clause-is : goal.first_part-requires-clause-is
first_part-requires-clause-is c = held_and c.args.held.now c.args.a.now c.args.b.now c.requires.spatial c.requires.formula

pub returns-then-q : goal.returns-then-q
returns-then-q c =
    let w = c.args.work.now in
    let h = c.args.held.now in
    follows (all_nodes (work_formulas w)) w (table.first_part w (hand_at w h) c.args.a.now) (table.fourth_way w (hand_at w h) h.kind c.args.p c.args.q) c.first_part.result
    (fourth_first w h c.args.p c.args.q c.args.a.now c.args.b.now c.requires.spatial c.requires.formula c.if-p.false c.if-q.true) c.first_part.ensures

pub returns : goal.returns
returns c =
    let w = c.args.work.now in
    let h = c.args.held.now in
    refuses_plain (all_nodes (work_formulas w)) w (table.fourth_way w (hand_at w h) h.kind c.args.p c.args.q) NotPair c.refuse_plain.result
    (fourth_none w h c.args.p c.args.q c.args.a.now c.args.b.now c.requires.spatial c.requires.formula c.if-p.false c.if-q.false) c.refuse_plain.ensures
