use Rattle.pm_table.specs.Running.{act}
use Rattle.pm_table.specs.Works.{at_rest}
use Rattle.pm_table.specs.Patterns.{intro_one, destruct}
use Rattle.pm_sweep.proofs.Following.{then_follows, stands_after}
use Rattle.pm_directives.proofs.introducing.intro_pattern.Goals as goal

pub destruct-requires-clause-standing : goal.destruct-requires-clause-standing
destruct-requires-clause-standing c = stands_after c.args.standing c.in_ok-opened.opened (act (at_rest (intro_one c.args.pat.now)) c.args.standing.goals) c.requires.standing c.in_ok-opened.ensures

pub returns : goal.returns
returns c = then_follows c.args.standing c.in_ok-opened.opened (act (at_rest (intro_one c.args.pat.now)) c.args.standing.goals) (destruct c.args.pat.now) c.destruct.result c.in_ok-opened.ensures c.destruct.ensures
