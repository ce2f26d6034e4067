use Rattle.std.proofs.Common.{◌≡◌, IfOk, List, ap, ◌∙◌, subst}
use Rattle.pm_logic.specs.declared.formula.Term.{Term}
use Rattle.pm_logic.specs.declared.formula.Formula.{Formula}
use Rattle.pm_logic.specs.declared.filling.Fill.TheVariants.{First}
use Rattle.pm_logic.specs.declared.change.Change.TheVariants.{Replace}
use Rattle.pm_logic.specs.Changes.{changed}
use Rattle.pm_logic.specs.Walks.{change_of}
use Rattle.pm_logic.proofs.Substitutions.{change_first}
use Rattle.pm_logic.proofs.substitution.opened.Goals as goal

pub returns : goal.returns
returns c =
    let P : Formula → Type 0 = λ x. IfOk c.change_formula.result (λ g. g ≡ x) in
    let whole : List Term → Formula = λ ts. changed (change_of (Replace First) ts) 0 c.args.body.now in
    subst P (ap whole c.from_ref.ensures.value ∙ change_first c.args.body.now c.args.t.now) c.change_formula.ensures
