use Rattle.pm_table.specs.Running.{act, in_order}
use Rattle.pm_table.specs.Patterns as table
use Rattle.pm_directives.proofs.Begun.{from_start}
use Rattle.pm_directives.proofs.Fronts.{alls_run}
use Rattle.pm_directives.proofs.groups.alls.Goals as goal

pub returns-in_ok-start-in-All : goal.returns-in_ok-start-in-All
returns-in_ok-start-in-All c =
    alls_run c.args.work.now _ c.universals.result c.in-All.is
    (from_start c.args.work.now c.in_ok-start-in-All.start (in_order act (table.universals c.args.work.now.goal.concl)) c.universals.result c.in_ok-start-in-All.ensures c.universals.ensures)
