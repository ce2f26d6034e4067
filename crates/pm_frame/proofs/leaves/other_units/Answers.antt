use Rattle.std.proofs.Common.{rules, ◌-◌, ◌≡◌, refl, ap, ◌∙◌}
use Rattle.pm_logic.specs.declared.formula.Formula.{Formula}
use Rattle.pm_logic.specs.declared.formula.Formula.TheViews as view
use Rattle.pm_logic.specs.declared.formula.Formula.TheVariants.{Pts}
use Rattle.pm_rules.specs.declared.rules.Rule.TheVariants.{PtsJoin}
use Rattle.pm_proof.specs.Trees.{Axiom, entail}
use Rattle.pm_frame.proofs.Units.{joined_done}
use Rattle.pm_frame.proofs.leaves.other_units.Goals as goal

pub returns : goal.returns
returns c =
    let F : Formula = Pts c.args.loc.now c.args.fewer c.args.val.now in
    let W : Formula = Pts c.args.loc.now c.args.units c.args.val.now in
    let O : Formula = Pts c.args.loc.now (c.args.units - c.args.fewer) c.args.val.now in
    let l : c.in_ok-left.left ≡ view.Sep F O = search rules in
    let r : c.in_ok-right.right ≡ W = search rules in
    let is : c.in_ok-proof.proof ≡ Axiom PtsJoin (entail c.args.vars (view.Sep F O) W) = c.in_ok-proof.ensures.tree ∙ ap (λ x. Axiom PtsJoin (entail c.args.vars x c.in_ok-right.right)) l ∙ ap (λ x. Axiom PtsJoin (entail c.args.vars (view.Sep F O) x)) r in
    joined_done c.args.vars c.args.loc.now c.args.fewer c.args.units c.args.val.now (record { rest = c.in_ok-rest.rest; proof = c.in_ok-proof.proof }) c.requires c.in_ok-rest.ensures is
