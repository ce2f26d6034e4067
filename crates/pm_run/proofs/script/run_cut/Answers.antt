use Rattle.std.proofs.Common.{◌≡◌, subst, sym, Option, None}
use Rattle.std.specs.Prelude.{ℕ, length}
use Rattle.pm_cutter.specs.Spans.{end_from}
use Rattle.pm_run.specs.declared.ran.Ran.{Ran}
use Rattle.pm_run.specs.declared.stop.Stop.{Stop}
use Rattle.pm_run.specs.Coming.{ComesTo}
use Rattle.pm_run.specs.Looping.{AtSpans, Ends}
use Rattle.pm_run.proofs.Doings.{on_ok}
use Rattle.pm_run.proofs.Looped.{cut_short, run_kept, run_stopped, run_ended}
use Rattle.pm_run.proofs.script.run_cut.Goals as goal

pub do_spans-requires-clause-short : goal.do_spans-requires-clause-short
do_spans-requires-clause-short c = (cut_short c.args.bytes.now c.args.spans.now c.args.last.now c.requires.cut c.requires.short).0

pub end-requires-clause-short : goal.end-requires-clause-short
end-requires-clause-short c = (cut_short c.args.bytes.now c.args.spans.now c.args.last.now c.requires.cut c.requires.short).1

pub end-requires-clause-kept : goal.end-requires-clause-kept
end-requires-clause-kept c = run_kept c.args.spans.now c.new-running.result c.do_spans.new.running c.do_spans.new.number c.new-running.ensures (subst (λ (at : Option Stop). AtSpans c.new-running.result 1 c.args.spans.now c.do_spans.new.running c.do_spans.new.number at) c.in-None.is c.in_ok-stop.ensures)

pub returns-in-Some : goal.returns-in-Some
returns-in-Some c = subst (λ (r : Ran). ComesTo c.args.bytes.now r) (sym c.stopped.ensures)
    (run_stopped c.args.bytes.now c.args.spans.now c.args.last.now c.new-running.result c.do_spans.new.running c.do_spans.new.number c.in-Some.stop c.requires.cut c.new-running.ensures
    (subst (λ (at : Option Stop). AtSpans c.new-running.result 1 c.args.spans.now c.do_spans.new.running c.do_spans.new.number at) c.in-Some.is c.in_ok-stop.ensures))

pub returns-in-None : goal.returns-in-None
returns-in-None c = on_ok (Ends c.do_spans.new.running c.do_spans.new.number (length c.args.bytes.now) (end_from c.args.last.now)) (ComesTo c.args.bytes.now) c.end.result
    (λ r h. run_ended c.args.bytes.now c.args.spans.now c.args.last.now c.new-running.result c.do_spans.new.running c.do_spans.new.number r c.requires.cut c.new-running.ensures
    (subst (λ (at : Option Stop). AtSpans c.new-running.result 1 c.args.spans.now c.do_spans.new.running c.do_spans.new.number at) c.in-None.is c.in_ok-stop.ensures) h)
    c.end.ensures
