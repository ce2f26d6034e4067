use Rattle.std.proofs.Common.{subst, Option, None}
use Rattle.pm_cutter.specs.Spans.{end_from}
use Rattle.pm_run.specs.declared.stop.Stop.{Stop}
use Rattle.pm_run.specs.Looping.{AtSpans, HaltsAtEnd, HaltsKept}
use Rattle.pm_run.proofs.Doings.{on_ok}
use Rattle.pm_run.proofs.Looped.{cut_short, run_kept}
use Rattle.pm_run.proofs.Endings.{halts_stopped, halts_ended}
use Rattle.pm_run.proofs.halted.halt_cut.Goals as goal

pub do_spans-requires-clause-short : goal.do_spans-requires-clause-short
do_spans-requires-clause-short c = (cut_short c.args.bytes.now c.args.spans.now c.args.last.now c.requires.cut c.requires.short).0

pub halt_end-requires-clause-short : goal.halt_end-requires-clause-short
halt_end-requires-clause-short c = (cut_short c.args.bytes.now c.args.spans.now c.args.last.now c.requires.cut c.requires.short).1

pub halt_end-requires-clause-kept : goal.halt_end-requires-clause-kept
halt_end-requires-clause-kept c = run_kept c.args.spans.now c.args.running.now c.do_spans.new.running c.do_spans.new.number c.requires.fresh (subst (λ (at : Option Stop). AtSpans c.args.running.now 1 c.args.spans.now c.do_spans.new.running c.do_spans.new.number at) c.in-None.is c.in_ok-stop.ensures)

pub returns-in-Some : goal.returns-in-Some
returns-in-Some c = halts_stopped c.args.bytes.now c.args.spans.now c.args.last.now c.args.running.now c.do_spans.new.running c.do_spans.new.number c.in-Some.stop c.requires.cut c.requires.fresh
    (subst (λ (at : Option Stop). AtSpans c.args.running.now 1 c.args.spans.now c.do_spans.new.running c.do_spans.new.number at) c.in-Some.is c.in_ok-stop.ensures)

pub returns-in-None : goal.returns-in-None
returns-in-None c = on_ok (HaltsAtEnd c.do_spans.new.running c.do_spans.new.number (end_from c.args.last.now) c.halt_end.new.running) (HaltsKept c.args.bytes.now c.halt_end.new.running) c.halt_end.result
    (λ by h. halts_ended c.args.bytes.now c.args.spans.now c.args.last.now c.args.running.now c.do_spans.new.running c.halt_end.new.running c.do_spans.new.number by c.requires.cut c.requires.fresh
    (subst (λ (at : Option Stop). AtSpans c.args.running.now 1 c.args.spans.now c.do_spans.new.running c.do_spans.new.number at) c.in-None.is c.in_ok-stop.ensures) h)
    c.halt_end.ensures
