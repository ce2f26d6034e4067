use Rattle.pm_hand.proofs.Sizes.{few_hypotheses}
use Rattle.pm_table.specs.Limits.{all_nodes, work_formulas}
use Rattle.pm_heap.proofs.Merged.{less_apart}
use Rattle.pm_heap.proofs.Tested.{taken_two, holds_two}
use Rattle.pm_heap.proofs.combining.combine_second.Goals as goal

pub less-requires : goal.less-requires
less-requires c = less_apart c.args.work.now c.args.one.now c.args.a.now c.requires.one c.requires.handed.apart

pub combine_both-requires-clause-two : goal.combine_both-requires-clause-two
combine_both-requires-clause-two c =
    taken_two c.args.work.now c.args.one.now c.args.a.now c.args.b.now (record { first = c.args.first; second = c.args.second; middle = c.in_ok-middle.middle; rest = c.in_ok-rest.rest }) c.requires.other c.requires.one c.requires.first
    c.requires.second c.in_ok-middle.ensures c.in_ok-rest.ensures

pub returns : goal.returns
returns c =
    holds_two (all_nodes (work_formulas c.args.work.now)) c.args.work.now c.args.one.now c.args.a.now c.args.b.now c.args.first.place c.args.second.place c.args.first.formula c.args.second.formula c.combine_both.result
    c.requires.nothing c.requires.other c.requires.one c.requires.first c.requires.second c.combine_both.ensures
