use Rattle.pm_table.specs.Running.{act}
use Rattle.pm_table.specs.Works.{at_rest}
use Rattle.pm_table.specs.Introductions.{intro_hyp}
use Rattle.pm_table.specs.Destructs.{name_fresh}
use Rattle.pm_sweep.specs.declared.act.Handling.TheVariants as handle
use Rattle.pm_sweep.specs.declared.act.Act.TheVariants as taken
use Rattle.pm_sweep.proofs.Following.{then_follows, stands_after}
use Rattle.pm_directives.proofs.Chained.{nothing_handed}
use Rattle.pm_directives.proofs.groups.left_side.Goals as goal

pub sweep-requires-2-clause-standing : goal.sweep-requires-2-clause-standing
sweep-requires-2-clause-standing c = stands_after c.args.standing c.in_ok-held.held (act (at_rest intro_hyp) c.args.standing.goals) c.requires c.in_ok-held.ensures

pub sweep-requires-2-clause-handed : goal.sweep-requires-2-clause-handed
sweep-requires-2-clause-handed c = nothing_handed (taken.Handle handle.NameFresh) (λ w. tt) c.in_ok-held.held.goals

pub returns : goal.returns
returns c = then_follows c.args.standing c.in_ok-held.held (act (at_rest intro_hyp) c.args.standing.goals) (act name_fresh) c.sweep-2.result c.in_ok-held.ensures c.sweep-2.ensures
