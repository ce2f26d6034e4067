use Rattle.std.proofs.Common.{subst}
use Rattle.pm_hand.proofs.Sizes.{few_hypotheses}
use Rattle.pm_table.specs.Limits.{all_nodes, work_formulas}
use Rattle.pm_heap.specs.Found.{SpatialAt}
use Rattle.pm_heap.proofs.Merged.{less_small, less_apart}
use Rattle.pm_heap.proofs.Tested.{second_gone}
use Rattle.pm_heap.proofs.combining.combine_first.Goals as goal

pub find_spatial-requires-clause-few : goal.find_spatial-requires-clause-few
find_spatial-requires-clause-few c = less_small c.args.work.now c.in_ok-one.one c.args.a.now c.args.first.place c.args.first.formula c.requires.first.at.at c.in_ok-one.ensures (few_hypotheses c.args.work.now c.requires.handed)

pub find_spatial-requires-clause-apart : goal.find_spatial-requires-clause-apart
find_spatial-requires-clause-apart c = less_apart c.args.work.now c.in_ok-one.one c.args.a.now c.in_ok-one.ensures c.requires.handed.apart

pub combine_second-requires-clause-second : goal.combine_second-requires-clause-second
combine_second-requires-clause-second c = subst (SpatialAt c.in_ok-one.one.goal c.args.b.now) c.in-Some.is c.in_ok-found.ensures

pub returns-in-None : goal.returns-in-None
returns-in-None c =
    second_gone (all_nodes (work_formulas c.args.work.now)) c.args.work.now c.in_ok-one.one c.args.a.now c.args.b.now c.args.first.place c.args.first.formula c.refuse.result c.requires.other c.in_ok-one.ensures c.requires.first
    (subst (SpatialAt c.in_ok-one.one.goal c.args.b.now) c.in-None.is c.in_ok-found.ensures) c.refuse.ensures
