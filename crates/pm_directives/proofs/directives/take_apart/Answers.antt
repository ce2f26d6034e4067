use Rattle.pm_table.specs.Patterns.{destruct_all}
use Rattle.pm_table.specs.Directives.{term_run}
use Rattle.pm_sweep.proofs.Following.{then_follows}
use Rattle.pm_directives.proofs.Held.{stands_held}
use Rattle.pm_directives.proofs.directives.take_apart.Goals as goal

pub destruct_all-requires-clause-standing : goal.destruct_all-requires-clause-standing
destruct_all-requires-clause-standing c = stands_held c.args.taken c.args.term.now c.args.standing c.in_ok-held.held c.requires.standing c.in_ok-held.ensures

pub returns : goal.returns
returns c = λ lemmas. then_follows c.args.standing c.in_ok-held.held (term_run lemmas c.args.taken c.args.term.now c.args.standing.goals) (destruct_all c.args.pat.now) c.destruct_all.result (c.in_ok-held.ensures lemmas) c.destruct_all.ensures
