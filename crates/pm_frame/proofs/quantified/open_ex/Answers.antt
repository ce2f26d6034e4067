use Rattle.std.proofs.Common.{rules, ◌≡◌, sym, subst, ◌∙◌}
use Rattle.pm_logic.specs.declared.formula.Formula.TheViews as view
use Rattle.pm_logic.specs.Bounds.{IsBounded}
use Rattle.pm_logic.specs.Substitution.{shift_of}
use Rattle.pm_classes.proofs.Bound.{ex_bounded, ex_body, ex_opened, var_fits}
use Rattle.pm_classes.proofs.Undone.{shifted_body, shift_ex}
use Rattle.pm_frame.proofs.quantified.open_ex.Goals as goal

pub shift-requires : goal.shift-requires
shift-requires c = let is : c.in_ok-whole.whole ≡ view.Ex c.args.b.now = search rules in subst IsBounded (sym is) (ex_bounded c.args.vars c.args.b.now c.requires.some c.requires.body)

pub unreachable-requires : goal.unreachable-requires
unreachable-requires c = let is : c.in_ok-formula.formula ≡ shift_of (view.Ex c.args.b.now) = search rules in c.in_default.not-Ex (shifted_body c.args.b.now) (is ∙ shift_ex c.args.b.now)

pub witness-requires-clause-body : goal.witness-requires-clause-body
witness-requires-clause-body c = let is : c.in_ok-formula.formula ≡ shift_of (view.Ex c.args.b.now) = search rules in subst IsBounded (sym c.get.ensures) (ex_body c.args.vars c.args.b.now c.in-Ex.body c.in_ok-formula.formula c.requires.some c.requires.body is c.in-Ex.is)

pub witness-requires-clause-term : goal.witness-requires-clause-term
witness-requires-clause-term c = var_fits c.args.vars c.requires.some

pub returns-clause-proof : goal.returns-clause-proof
returns-clause-proof c =
    let is : c.in_ok-formula.formula ≡ shift_of (view.Ex c.args.b.now) = search rules in
    let at : c.in_ok-formula.formula ≡ view.Ex c.get.result.now = search rules in
    ex_opened c.args.vars c.args.b.now c.get.result.now c.in_ok-formula.formula c.in_ok-proof.proof is at c.in_ok-proof.ensures
