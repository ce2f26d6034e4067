use Rattle.std.proofs.Common.{false, refl, rules}
use Rattle.pm_logic.specs.declared.formula.Formula.{the_lemmas}
use Rattle.pm_table.specs.Running.{act, after}
use Rattle.pm_table.specs.Works.{at_rest}
use Rattle.pm_table.specs.Introductions.{intro_hyp, intro_all_fresh}
use Rattle.pm_table.specs.Destructs.{name_fresh}
use Rattle.pm_table.specs.Patterns as table
use Rattle.pm_sweep.proofs.Following.{stands_after}
use Rattle.pm_directives.proofs.Fronts.{premises_all, premises_wand, premises_goes, premises_stops, no_action, action_then, action_ends, left_then, left_ends}
use Rattle.pm_directives.proofs.groups.+premises.Goals as goal

pub returns-in_err-next-in-All : goal.returns-in_err-next-in-All
returns-in_err-next-in-All t c =
    action_ends c.args.standing (table.premises c.args.none c.args.f.now) (at_rest intro_all_fresh) (table.premises c.args.none c.in-All.body) c.from_residual.result c.in_err-next-in-All.field-0.0
    (premises_all c.args.none c.args.f.now c.in-All.body c.in-All.body c.in-All.is refl) (search rules) c.in_err-next-in-All.ensures

pub premises-requires : goal.premises-requires
premises-requires t c = (search (rules, the_lemmas), stands_after c.args.standing c.in_ok-next-in-All.next (act (at_rest intro_all_fresh) c.args.standing.goals) c.requires c.in_ok-next-in-All.ensures)

pub returns-in_err-next-in-Wand : goal.returns-in_err-next-in-Wand
returns-in_err-next-in-Wand t c =
    left_ends c.args.standing (table.premises c.args.none c.args.f.now) (table.premises false c.in-Wand.b) c.from_residual-in_err-next-in-Wand.result c.in_err-next-in-Wand.field-0.0
    (premises_wand c.args.none c.args.f.now c.in-Wand.field-0 c.in-Wand.b c.in-Wand.b c.in-Wand.is refl) (search rules) c.in_err-next-in-Wand.ensures

pub premises-requires-in-Wand : goal.premises-requires-in-Wand
premises-requires-in-Wand t c = (search (rules, the_lemmas), stands_after c.args.standing c.in_ok-next-in-Wand.next (after (act (at_rest intro_hyp) c.args.standing.goals) (act name_fresh)) c.requires c.in_ok-next-in-Wand.ensures)

pub returns-in_err-next-in-Imp : goal.returns-in_err-next-in-Imp
returns-in_err-next-in-Imp t c =
    left_ends c.args.standing (table.premises c.args.none c.args.f.now) (table.premises false c.get-right.result.now) c.from_residual-in_err-next-in-Imp.result c.in_err-next-in-Imp.field-0.0
    (premises_goes c.args.none c.args.f.now c.in-Imp.a c.in-Imp.b c.get-right.result.now c.get-left.result.now c.may_enter-enters.result c.in-Imp.is c.get-left.ensures c.get-right.ensures c.may_enter-enters.ensures c.if-enters.true)
    (search rules) c.in_err-next-in-Imp.ensures

pub premises-requires-then-enters : goal.premises-requires-then-enters
premises-requires-then-enters t c = (search (rules, the_lemmas), stands_after c.args.standing c.in_ok-next-in-Imp.next (after (act (at_rest intro_hyp) c.args.standing.goals) (act name_fresh)) c.requires c.in_ok-next-in-Imp.ensures)

pub returns-in_ok-next-in-All : goal.returns-in_ok-next-in-All
returns-in_ok-next-in-All t c =
    action_then c.args.standing (table.premises c.args.none c.args.f.now) c.in_ok-next-in-All.next (at_rest intro_all_fresh) (table.premises c.args.none c.get-inner.result.now) c.premises.result
    (premises_all c.args.none c.args.f.now c.in-All.body c.get-inner.result.now c.in-All.is c.get-inner.ensures) c.in_ok-next-in-All.ensures c.premises.ensures

pub returns-in_ok-next-in-Wand : goal.returns-in_ok-next-in-Wand
returns-in_ok-next-in-Wand t c =
    left_then c.args.standing (table.premises c.args.none c.args.f.now) c.in_ok-next-in-Wand.next (table.premises false c.get-behind.result.now) c.premises-in-Wand.result
    (premises_wand c.args.none c.args.f.now c.in-Wand.field-0 c.in-Wand.b c.get-behind.result.now c.in-Wand.is c.get-behind.ensures) c.in_ok-next-in-Wand.ensures c.premises-in-Wand.ensures

pub returns-in_ok-next-in-Imp : goal.returns-in_ok-next-in-Imp
returns-in_ok-next-in-Imp t c =
    left_then c.args.standing (table.premises c.args.none c.args.f.now) c.in_ok-next-in-Imp.next (table.premises false c.get-right.result.now) c.premises-then-enters.result
    (premises_goes c.args.none c.args.f.now c.in-Imp.a c.in-Imp.b c.get-right.result.now c.get-left.result.now c.may_enter-enters.result c.in-Imp.is c.get-left.ensures c.get-right.ensures c.may_enter-enters.ensures c.if-enters.true)
    c.in_ok-next-in-Imp.ensures c.premises-then-enters.ensures

pub returns-else-enters : goal.returns-else-enters
returns-else-enters t c =
    no_action c.args.standing (table.premises c.args.none c.args.f.now)
    (premises_stops c.args.none c.args.f.now c.in-Imp.a c.in-Imp.b c.get-left.result.now c.may_enter-enters.result c.in-Imp.is c.get-left.ensures c.may_enter-enters.ensures c.if-enters.false)
