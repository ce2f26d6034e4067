use Rattle.std.proofs.Common.{subst, sym}
use Rattle.std.specs.Prelude.{ℕ}
use Rattle.pm_cutter.specs.Cutting.{clean}
use Rattle.pm_run.specs.declared.ran.Ran.{Ran}
use Rattle.pm_run.specs.Looping.{AtSpan, Ends, EndsWith}
use Rattle.pm_run.proofs.Doings.{on_ok}
use Rattle.pm_run.proofs.Looped.{ends_stopped, ends_behind}
use Rattle.pm_run.proofs.script.end_with.Goals as goal

pub returns-in-Some : goal.returns-in-Some
returns-in-Some c = subst (λ (r : Ran). EndsWith c.args.running c.args.number c.args.size c.args.span.now r) (sym c.stopped.ensures)
    (ends_stopped c.args.running c.args.number c.args.size c.args.span.now c.do_span.new.running c.in-Some.stop (subst (AtSpan c.args.running c.args.number c.args.span.now c.do_span.new.running) c.in-Some.is c.in_ok-stop.ensures))

pub returns-in_ok-next-in-None : goal.returns-in_ok-next-in-None
returns-in_ok-next-in-None c = on_ok (Ends c.do_span.new.running c.in_ok-next-in-None.next c.args.size clean) (EndsWith c.args.running c.args.number c.args.size c.args.span.now) c.ended.result
    (λ r h. ends_behind c.args.running c.args.number c.args.size c.args.span.now c.do_span.new.running r (subst (AtSpan c.args.running c.args.number c.args.span.now c.do_span.new.running) c.in-None.is c.in_ok-stop.ensures) (subst (λ (m : ℕ). Ends c.do_span.new.running m c.args.size clean r) c.in_ok-next-in-None.ensures h))
    c.ended.ensures
