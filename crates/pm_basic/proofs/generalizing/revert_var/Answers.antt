use Rattle.std.proofs.Common.{sym, ◌∙◌, ap}
use Rattle.pm_table.specs.Limits.{work_formulas, all_nodes}
use Rattle.pm_table.specs.Works.{index_named}
use Rattle.pm_basic.proofs.Generals.{var_missing}
use Rattle.pm_basic.proofs.generalizing.revert_var.Goals as goal

pub by_index-requires-clause-index : goal.by_index-requires-clause-index
by_index-requires-clause-index c = sym (c.in-Some.ensures ∙ ap (index_named c.args.name.now) c.as_slice.ensures)

pub returns-in-None : goal.returns-in-None
returns-in-None c =
    var_missing (all_nodes (work_formulas c.args.work.now)) c.args.name.now c.args.work.now c.requires.nothing c.refuse.result
    (c.in-None.ensures ∙ ap (index_named c.args.name.now) c.as_slice.ensures) c.refuse.ensures
