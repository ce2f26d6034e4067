use Rattle.std.proofs.Common.{subst, sym, Option, Some, None}
use Rattle.pm_cutter.specs.declared.span.Ended.{Ended}
use Rattle.pm_cutter.specs.declared.span.Ended.TheVariants as ended
use Rattle.pm_cutter.specs.Spans.{end_from}
use Rattle.pm_terms.specs.declared.fault.TextFault.TheVariants.{Unexpected}
use Rattle.pm_run.specs.declared.stop.Stop.TheVariants as stop
use Rattle.pm_run.specs.Looping.{AtSpan, HaltsAtEnd}
use Rattle.pm_run.proofs.Doings.{on_ok}
use Rattle.pm_run.proofs.Endings.{end_clean, end_last, end_rest_stops}
use Rattle.pm_run.proofs.halted.halt_end.Goals as goal

pub returns-in-Clean : goal.returns-in-Clean
returns-in-Clean c = subst (λ (e : Ended). HaltsAtEnd c.args.running.now c.args.number (end_from e) c.args.running.now None) (sym c.in-Clean.is) (end_clean c.args.running.now c.args.number)

pub returns-in-Last : goal.returns-in-Last
returns-in-Last c = on_ok (AtSpan c.args.running.now c.args.number c.in-Last.span c.do_span.new.running) (HaltsAtEnd c.args.running.now c.args.number (end_from c.args.end.now) c.do_span.new.running) c.do_span.result
    (λ by h. subst (λ (e : Ended). HaltsAtEnd c.args.running.now c.args.number (end_from e) c.do_span.new.running by) (sym c.in-Last.is) (end_last c.args.running.now c.args.number c.in-Last.span c.do_span.new.running by h))
    c.do_span.ensures

pub returns-in-Rest : goal.returns-in-Rest
returns-in-Rest c = subst (λ (e : Ended). HaltsAtEnd c.args.running.now c.args.number (end_from e) c.args.running.now (Some (stop.Unreadable (Unexpected c.in-Rest.at)))) (sym c.in-Rest.is) (end_rest_stops c.args.running.now c.args.number c.in-Rest.at)
