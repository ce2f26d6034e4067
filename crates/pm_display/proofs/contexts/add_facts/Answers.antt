use Rattle.pm_display.specs.Goals.{fact_line_of}
use Rattle.pm_display.proofs.Shown.{line_added}
use Rattle.pm_display.proofs.contexts.add_facts.Goals as goal

pub loop-i-preserved : goal.loop-i-preserved
loop-i-preserved c = line_added (fact_line_of c.args.names.now) c.args.facts.now c.loop-i.i c.args.text.now c.loop-i.text c.add_fact_at.new.text c.loop-i.invariant c.in_ok-add_fact_at.ensures
