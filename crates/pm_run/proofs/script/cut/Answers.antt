use Rattle.std.proofs.Common.{[], ◌∙◌}
use Rattle.pm_run.proofs.Looped.{finished_first}
use Rattle.pm_run.proofs.script.cut.Goals as goal

pub returns : goal.returns
returns c = record {
  spans_are = c.in_ok-spans.ensures.spans [] c.new-cutter.ensures.fed ∙ finished_first c.args.bytes.now;
  end_is = c.finish.ensures c.args.bytes.now (c.in_ok-spans.ensures.fed [] c.new-cutter.ensures.fed);
}
