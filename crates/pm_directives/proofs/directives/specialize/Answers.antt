use Rattle.std.proofs.Common.{true, sym, ap, subst}
use Rattle.pm_table.specs.Running.{act}
use Rattle.pm_table.specs.Destructs.{name_held}
use Rattle.pm_table.specs.Directives.{head_name, term_run}
use Rattle.pm_sweep.specs.Standing.{Follows}
use Rattle.pm_sweep.proofs.Following.{then_follows}
use Rattle.pm_directives.proofs.Held.{stands_held}
use Rattle.pm_directives.proofs.directives.specialize.Goals as goal

pub sweep-requires-clause-standing : goal.sweep-requires-clause-standing
sweep-requires-clause-standing c = stands_held true c.args.term.now c.args.standing c.in_ok-held.held c.requires.standing c.in_ok-held.ensures

pub returns : goal.returns
returns c = λ lemmas.
    then_follows c.args.standing c.in_ok-held.held (term_run lemmas true c.args.term.now c.args.standing.goals) (act (name_held (head_name c.args.term.now.head))) c.sweep.result (c.in_ok-held.ensures lemmas)
    (subst (λ n. Follows c.in_ok-held.held (act (name_held n) c.in_ok-held.held.goals) c.sweep.result) (sym (ap head_name c.in-Hyp.is)) c.sweep.ensures)
