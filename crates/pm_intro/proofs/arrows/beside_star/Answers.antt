use Rattle.std.proofs.Common.{sym, ap}
use Rattle.pm_table.specs.Outcomes.{one}
use Rattle.pm_table.specs.Limits.{all_nodes, work_formulas}
use Rattle.pm_intro.specs.Arrows.{introduced}
use Rattle.pm_intro.proofs.Answered.{answers_one}
use Rattle.pm_intro.proofs.arrows.beside_star.Goals as goal

pub returns : goal.returns
returns c = answers_one (all_nodes (work_formulas c.args.work.now)) c.args.work.now c.in_ok-new.new (one (introduced c.args.work.now c.args.a.now c.args.b.now)) c.in_ok-proof.proof c.finish_one.result (ap one (sym c.in_ok-new.ensures)) c.finish_one.ensures c.in_ok-proof.ensures
