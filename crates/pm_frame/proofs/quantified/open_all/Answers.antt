use Rattle.std.proofs.Common.{rules, ◌≡◌, sym, subst, ◌∙◌}
use Rattle.pm_logic.specs.declared.formula.Formula.TheViews as view
use Rattle.pm_logic.specs.Bounds.{IsBounded}
use Rattle.pm_logic.specs.Substitution.{shift_of}
use Rattle.pm_classes.proofs.Bound.{all_bounded, all_body, all_opened, var_fits}
use Rattle.pm_classes.proofs.Undone.{shifted_body, shift_all}
use Rattle.pm_frame.proofs.quantified.open_all.Goals as goal

pub shift-requires : goal.shift-requires
shift-requires c = let is : c.in_ok-whole.whole ≡ view.All c.args.b.now = search rules in subst IsBounded (sym is) (all_bounded c.args.vars c.args.b.now c.requires.some c.requires.body)

pub unreachable-requires : goal.unreachable-requires
unreachable-requires c = let is : c.in_ok-formula.formula ≡ shift_of (view.All c.args.b.now) = search rules in c.in_default.not-All (shifted_body c.args.b.now) (is ∙ shift_all c.args.b.now)

pub specialize-requires-clause-body : goal.specialize-requires-clause-body
specialize-requires-clause-body c = let is : c.in_ok-formula.formula ≡ shift_of (view.All c.args.b.now) = search rules in subst IsBounded (sym c.get.ensures) (all_body c.args.vars c.args.b.now c.in-All.body c.in_ok-formula.formula c.requires.some c.requires.body is c.in-All.is)

pub specialize-requires-clause-term : goal.specialize-requires-clause-term
specialize-requires-clause-term c = var_fits c.args.vars c.requires.some

pub returns-clause-proof : goal.returns-clause-proof
returns-clause-proof c =
    let is : c.in_ok-formula.formula ≡ shift_of (view.All c.args.b.now) = search rules in
    let at : c.in_ok-formula.formula ≡ view.All c.get.result.now = search rules in
    all_opened c.args.vars c.args.b.now c.get.result.now c.in_ok-formula.formula c.in_ok-proof.proof is at c.in_ok-proof.ensures
