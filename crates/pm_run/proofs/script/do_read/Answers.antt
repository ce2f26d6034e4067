use Rattle.std.proofs.Common.{subst, sym, ◌∙◌, Option}
use Rattle.pm_run.specs.declared.stop.Stop.{Stop}
use Rattle.pm_run.specs.Looping.{AtSpan}
use Rattle.pm_run.proofs.Handed.{handed}
use Rattle.pm_run.proofs.Looped.{done_span}
use Rattle.pm_run.proofs.script.do_read.Goals as goal

pub sentence-requires-clause-handed : goal.sentence-requires-clause-handed
sentence-requires-clause-handed c = handed c.args.running.now c.args.span.now.offset c.args.span.now.text c.args.sentence c.requires.read

pub returns : goal.returns
returns c = subst (λ (at : Option Stop). AtSpan c.args.running.now c.args.number c.args.span.now c.sentence.new.self at) (sym c.stop_at.ensures) (done_span c.args.running.now c.args.number c.args.span.now c.args.sentence c.sentence.new.self c.in_ok-done.done c.requires.read c.in_ok-done.ensures)
