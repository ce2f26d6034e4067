use Rattle.std.proofs.Common.{◌∷◌, ◌-◌, take, drop, length, subst, Option}
use Rattle.pm_run.specs.declared.stop.Stop.{Stop}
use Rattle.pm_run.specs.Looping.{AtSpan, LeadsTo}
use Rattle.pm_run.proofs.Looped.{first_of, stops_on, turn_kept}
use Rattle.pm_run.proofs.script.do_spans.Goals as goal

pub spans-preserved : goal.spans-preserved
spans-preserved c =
    let first = first_of c.spans.rest.now c.span-item.result c.in-len1-up.len_at_least c.span-item.is in
    let turn = subst (λ (at : Option Stop). AtSpan c.spans.running c.spans.number c.span-item.result c.do_span.new.running at) c.in_default-2.is c.in_ok-stop.ensures in
    let before = c.spans.invariant in
    turn_kept c.args.running.now c.spans.running c.do_span.new.running c.args.number.now c.spans.number c.in_ok-number.field-0 c.args.spans.now c.spans.rest.now _ c.span-item.result first c.in_ok-number.ensures before.0 before.1 before.2 turn

pub returns-in-Some : goal.returns-in-Some
returns-in-Some c =
    let first = first_of c.spans.rest.now c.span-item.result c.in-len1-up.len_at_least c.span-item.is in
    let before : LeadsTo c.args.running.now c.args.number.now c.args.spans.now c.spans.running c.spans.number (c.span-item.result ∷ take (length c.spans.rest.now - 1) (drop 1 c.spans.rest.now)) = subst (LeadsTo c.args.running.now c.args.number.now c.args.spans.now c.spans.running c.spans.number) first c.spans.invariant.2 in
    let turn = subst (λ (at : Option Stop). AtSpan c.spans.running c.spans.number c.span-item.result c.do_span.new.running at) c.in-Some.is c.in_ok-stop.ensures in
    stops_on c.args.running.now c.args.number.now c.args.spans.now c.spans.running c.spans.number c.span-item.result _ c.do_span.new.running c.spans.number c.in-Some.stop before turn
