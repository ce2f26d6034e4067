use Rattle.std.proofs.Common.{rules, ◌≡◌}
use Rattle.pm_logic.specs.declared.formula.Formula.TheViews as view
use Rattle.pm_logic.specs.Substitution.{opened_of}
use Rattle.pm_schemes.proofs.Binders.{specialized}
use Rattle.pm_schemes.proofs.quantifiers.specialize.Goals as goal

pub returns : goal.returns
returns c =
    let left : c.in_ok-left.left ≡ view.All c.args.b.now = search rules in
    let right : c.in_ok-right.right ≡ opened_of c.args.b.now c.args.t.now = search rules in
    let term : c.in_ok-t.t ≡ c.args.t.now = search rules in
    specialized c.args.vars c.args.b.now c.in_ok-left.left c.in_ok-right.right c.args.t.now c.in_ok-t.t c.in_ok-proof.proof c.requires.term term left right c.in_ok-proof.ensures.tree
