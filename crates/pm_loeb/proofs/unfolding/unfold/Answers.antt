use Rattle.std.specs.Option.{option_copied}
use Rattle.pm_proof.specs.Known.{From}
use Rattle.pm_table.specs.Limits.{all_nodes, work_formulas}
use Rattle.pm_table.specs.Loeb.{unfold_call}
use Rattle.pm_action.specs.Meanings.{width}
use Rattle.pm_loeb.proofs.Ending.{on_rest}
use Rattle.pm_loeb.proofs.unfolding.unfold.Goals as goal

pub returns : goal.returns
returns c =
    on_rest (From c.args.preds.now) (width c.args.work.now) (all_nodes (work_formulas c.args.work.now)) c.args.work.now (unfold_call c.args.preds.now (option_copied c.args.name)) c.unfold_goal.result c.requires.nothing c.unfold_goal.ensures
