use Rattle.pm_goal.specs.declared.refusal.Row.TheVariants.{NotPair}
use Rattle.pm_table.specs.Destructs as table
use Rattle.pm_table.specs.Limits.{all_nodes, work_formulas}
use Rattle.pm_intro.specs.Hands.{hand_at}
use Rattle.pm_intro.proofs.Answered.{refuses_plain}
use Rattle.pm_intro.proofs.Ways.{fourth_other}
use Rattle.pm_intro.proofs.pairing.part_of_spatial.Goals as goal

pub returns-in_default : goal.returns-in_default
returns-in_default c =
    let w = c.args.work.now in
    let h = c.args.held.now in
    refuses_plain (all_nodes (work_formulas w)) w (table.fourth_way w (hand_at w h) h.kind c.args.p c.args.q) NotPair c.refuse_plain.result
    (fourth_other w h c.args.p c.args.q c.requires.spatial c.in_default.not-And) c.refuse_plain.ensures
