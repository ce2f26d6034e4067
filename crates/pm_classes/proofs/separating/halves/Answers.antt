use Rattle.std.proofs.Common.{rules, ◌≡◌, refl, ap, ◌∙◌}
use Rattle.pm_logic.specs.declared.formula.Formula.{Formula}
use Rattle.pm_logic.specs.declared.formula.Formula.TheViews as view
use Rattle.pm_logic.specs.declared.formula.Formula.TheVariants.{Pts}
use Rattle.pm_rules.specs.declared.rules.Rule.TheVariants.{PtsSplit}
use Rattle.pm_proof.specs.Trees.{Axiom, entail}
use Rattle.pm_classes.specs.Classes.{half}
use Rattle.pm_classes.proofs.Halves.{halved}
use Rattle.pm_classes.proofs.separating.halves.Goals as goal

pub returns-clause-proof : goal.returns-clause-proof
returns-clause-proof c =
    let H : Formula = half c.args.loc.now c.args.units c.args.val.now in
    let W : Formula = Pts c.args.loc.now c.args.units c.args.val.now in
    let l : c.in_ok-left.left ≡ W = search rules in
    let r : c.in_ok-right.right ≡ view.Sep H H = search rules in
    let is : c.in_ok-proof.proof ≡ Axiom PtsSplit (entail c.args.vars W (view.Sep H H)) = c.in_ok-proof.ensures.tree ∙ ap (λ x. Axiom PtsSplit (entail c.args.vars x c.in_ok-right.right)) l ∙ ap (λ x. Axiom PtsSplit (entail c.args.vars W x)) r in
    halved c.args.vars c.args.loc.now c.args.units c.args.val.now H H c.in_ok-proof.proof c.requires refl refl is
