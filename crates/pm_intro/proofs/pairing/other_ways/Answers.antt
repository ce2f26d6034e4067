use Rattle.std.proofs.Common.{sym, ◌∙◌}
use Rattle.pm_table.specs.Limits.{all_nodes, work_formulas}
use Rattle.pm_intro.specs.Hands.{hand_at}
use Rattle.pm_intro.specs.Pairs.{fourth, other_ways}
use Rattle.pm_intro.proofs.Answered.{follows}
use Rattle.pm_intro.proofs.Generals.{findable}
use Rattle.pm_intro.proofs.Ways.{ways_unnamed}
use Rattle.pm_intro.proofs.pairing.other_ways.Goals as goal

pub var_name-requires : goal.var_name-requires
var_name-requires c = findable c.args.work.now c.requires.handed

pub returns-in_default : goal.returns-in_default
returns-in_default c =
    let w = c.args.work.now in
    let h = c.args.held.now in
    follows (all_nodes (work_formulas w)) w (fourth w (hand_at w h) c.args.p.now c.args.q.now) (other_ways w (hand_at w h) c.args.p.now c.args.q.now) c.fourth_way.result
    (ways_unnamed w h c.args.p.now c.args.q.now (sym c.in_default.is ∙ c.in_ok-name.ensures)) c.fourth_way.ensures

pub with_name-requires-clause-named : goal.with_name-requires-clause-named
with_name-requires-clause-named c = sym c.in-Some.is ∙ c.in_ok-name.ensures
