use Rattle.pm_display.specs.Goals.{hyp_line_of}
use Rattle.pm_display.proofs.Shown.{line_added}
use Rattle.pm_display.proofs.contexts.add_hyps.Goals as goal

pub loop-i-preserved : goal.loop-i-preserved
loop-i-preserved c = line_added (hyp_line_of c.args.preds.now.list c.args.names.now) c.args.hyps.now c.loop-i.i c.args.text.now c.loop-i.text c.add_hyp_at.new.text c.loop-i.invariant c.in_ok-add_hyp_at.ensures
