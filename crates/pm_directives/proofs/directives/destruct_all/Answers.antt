use Rattle.std.proofs.Common.{refl}
use Rattle.pm_table.specs.Patterns.{destruct}
use Rattle.pm_directives.proofs.Begun.{turned_standing, turned_follows}
use Rattle.pm_directives.proofs.directives.destruct_all.Goals as goal

pub destruct-requires-clause-standing : goal.destruct-requires-clause-standing
destruct-requires-clause-standing c = turned_standing c.args.standing (record { goals = c.in_ok-goals.goals; proof = c.args.standing.proof }) c.in_ok-goals.ensures refl c.requires.standing

pub returns : goal.returns
returns c = turned_follows c.args.standing (record { goals = c.in_ok-goals.goals; proof = c.args.standing.proof }) c.in_ok-goals.ensures refl (destruct c.args.pat.now) c.destruct.result c.destruct.ensures
