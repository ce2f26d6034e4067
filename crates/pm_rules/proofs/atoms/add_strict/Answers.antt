use Rattle.std.proofs.Common.{Some}
use Rattle.pm_rules.proofs.Adding.{difference_room, seen_difference}
use Rattle.pm_rules.proofs.atoms.add_strict.Goals as goal

pub shifted-requires : goal.shifted-requires
shifted-requires c =
    difference_room c.args.c c.args.s.now c.args.t.now c.args.total c.in_ok-add_difference.field-0 c.requires.room c.requires.factor
    (seen_difference c.args.c c.args.s.now c.args.t.now c.args.total (Some c.in_ok-add_difference.field-0) c.ranges.c c.in_ok-add_difference.ensures)
