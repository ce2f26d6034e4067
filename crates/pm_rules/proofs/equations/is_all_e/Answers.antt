use Rattle.std.proofs.Common.{◌≡◌, rules}
use Rattle.pm_logic.specs.declared.formula.Formula.TheViews as view
use Rattle.pm_rules.proofs.Computed.{specialized, through}
use Rattle.pm_rules.proofs.equations.is_all_e.Goals as goal

pub returns-in-All : goal.returns-in-All
returns-in-All c =
    let e : c.args.left.now ≡ view.All c.get.result.now = search rules in
    through c.is_opened.ensures (specialized c.args.t.now c.get.result.now c.args.left.now c.args.right.now e)
