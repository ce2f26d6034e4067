use Rattle.std.proofs.Common.{subst, sym}
use Rattle.pm_cutter.specs.declared.span.Ended.{Ended}
use Rattle.pm_cutter.specs.Spans.{end_from}
use Rattle.pm_run.specs.declared.ran.Ran.TheVariants as ran
use Rattle.pm_terms.specs.declared.fault.TextFault.TheVariants.{Unexpected}
use Rattle.pm_run.specs.Looping.{Ends}
use Rattle.pm_run.proofs.Looped.{ends_rest}
use Rattle.pm_run.proofs.script.end.Goals as goal

pub returns-in-Rest : goal.returns-in-Rest
returns-in-Rest c = subst (λ (e : Ended). Ends c.args.running c.args.number c.args.size (end_from e) (ran.Unreadable (Unexpected c.in-Rest.at))) (sym c.in-Rest.is) (ends_rest c.args.running c.args.number c.args.size c.in-Rest.at)
