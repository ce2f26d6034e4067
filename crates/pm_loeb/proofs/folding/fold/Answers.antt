use Rattle.std.proofs.Common.{◌+◌}
use Rattle.pm_logic.specs.Size.{nodes_of}
use Rattle.pm_proof.specs.Known.{From}
use Rattle.pm_table.specs.Limits.{all_nodes, work_formulas}
use Rattle.pm_table.specs.Loeb.{fold_call}
use Rattle.pm_action.specs.Meanings.{width}
use Rattle.pm_loeb.proofs.Ending.{on_rest}
use Rattle.pm_loeb.proofs.folding.fold.Goals as goal

pub returns : goal.returns
returns c =
    on_rest (From c.args.preds.now) (width c.args.work.now) (all_nodes (work_formulas c.args.work.now) + nodes_of c.args.call.now) c.args.work.now (fold_call c.args.preds.now c.args.call.now c.args.name.now) c.fold_goal.result c.requires.nothing c.fold_goal.ensures
