use Rattle.std.proofs.Common.{refl, rules}
use Rattle.pm_logic.specs.declared.formula.Formula.{the_lemmas}
use Rattle.pm_table.specs.Running.{act}
use Rattle.pm_table.specs.Works.{at_rest}
use Rattle.pm_table.specs.Introductions.{intro_all_fresh}
use Rattle.pm_table.specs.Patterns as table
use Rattle.pm_sweep.proofs.Following.{stands_after}
use Rattle.pm_directives.proofs.Fronts.{universals_all, action_then, action_ends}
use Rattle.pm_directives.proofs.groups.+universals.Goals as goal

pub returns-in_err-next-in-All : goal.returns-in_err-next-in-All
returns-in_err-next-in-All t c =
    action_ends c.args.standing (table.universals c.args.f.now) (at_rest intro_all_fresh) (table.universals c.in-All.body) c.from_residual.result c.in_err-next-in-All.field-0.0
    (universals_all c.args.f.now c.in-All.body c.in-All.body c.in-All.is refl) (search rules) c.in_err-next-in-All.ensures

pub universals-requires : goal.universals-requires
universals-requires t c = (search (rules, the_lemmas), stands_after c.args.standing c.in_ok-next-in-All.next (act (at_rest intro_all_fresh) c.args.standing.goals) c.requires c.in_ok-next-in-All.ensures)

pub returns-in_ok-next-in-All : goal.returns-in_ok-next-in-All
returns-in_ok-next-in-All t c =
    action_then c.args.standing (table.universals c.args.f.now) c.in_ok-next-in-All.next (at_rest intro_all_fresh) (table.universals c.get-inner.result.now) c.universals.result
    (universals_all c.args.f.now c.in-All.body c.get-inner.result.now c.in-All.is c.get-inner.ensures) c.in_ok-next-in-All.ensures c.universals.ensures
