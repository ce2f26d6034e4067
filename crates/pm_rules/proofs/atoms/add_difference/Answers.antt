use Rattle.pm_rules.proofs.Terms.{form_within, seen_scaled}
use Rattle.pm_rules.proofs.Adding.{roomy, sum_room}
use Rattle.pm_rules.proofs.atoms.add_difference.Goals as goal

pub sum-requires-clause-first : goal.sum-requires-clause-first
sum-requires-clause-first c = roomy c.args.total c.requires.room

pub sum-requires-2-clause-first : goal.sum-requires-2-clause-first
sum-requires-2-clause-first c =
    sum_room c.args.c c.in_ok-plus.plus c.args.total c.sum.result c.requires.room c.requires.factor (form_within c.args.s.now c.in_ok-plus.plus c.in_ok-plus.ensures)
    (seen_scaled c.args.c c.in_ok-plus.plus c.args.total c.sum.result c.ranges.c c.sum.ensures)
