use Rattle.std.proofs.Common.{rules}
use Rattle.pm_table.specs.Patterns.{intro}
use Rattle.pm_directives.proofs.Allowed.{rest_built}
use Rattle.pm_sweep.proofs.Following.{stands_after}
use Rattle.pm_directives.proofs.Chained.{goes_on}
use Rattle.pm_directives.proofs.introducing.+intro_each.Goals as goal

pub intro_each-requires : goal.intro_each-requires
intro_each-requires t c = (search rules, (rest_built c.args.pats.now c.in-len1-up.len_at_least c.requires.built, stands_after c.args.standing c.in_ok-next-in-len1-up.next (intro c.pat-item.result c.args.standing.goals) c.requires.standing c.in_ok-next-in-len1-up.ensures))

pub returns-in_ok-next-in-len1-up : goal.returns-in_ok-next-in-len1-up
returns-in_ok-next-in-len1-up t c = goes_on intro c.args.standing c.in_ok-next-in-len1-up.next c.args.pats.now c.pat-item.result c.intro_each.result c.in-len1-up.len_at_least c.pat-item.is c.in_ok-next-in-len1-up.ensures c.intro_each.ensures
