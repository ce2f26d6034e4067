use Rattle.std.proofs.Common.{◌≡◌, rules}
use Rattle.pm_logic.specs.declared.formula.Formula.TheViews as view
use Rattle.pm_rules.proofs.Computed.{witnessed, through}
use Rattle.pm_rules.proofs.equations.is_ex_i.Goals as goal

pub returns-in-Ex : goal.returns-in-Ex
returns-in-Ex c =
    let e : c.args.right.now ≡ view.Ex c.get.result.now = search rules in
    through c.is_opened.ensures (witnessed c.args.t.now c.get.result.now c.args.left.now c.args.right.now e)
