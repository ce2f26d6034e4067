use Rattle.std.proofs.Common.{◌≡◌, IfOk, List, ap, ◌∙◌, subst}
use Rattle.pm_logic.specs.declared.formula.Term.{Term}
use Rattle.pm_logic.specs.declared.formula.Formula.{Formula}
use Rattle.pm_logic.specs.declared.change.Change.TheVariants.{Abstract}
use Rattle.pm_logic.specs.Changes.{changed}
use Rattle.pm_logic.specs.Walks.{change_of}
use Rattle.pm_logic.proofs.Substitutions.{change_abstract}
use Rattle.pm_logic.proofs.substitution.abstract_term.Goals as goal

pub returns : goal.returns
returns c =
    let P : Formula → Type 0 = λ x. IfOk c.change_formula.result (λ g. g ≡ x) in
    let whole : List Term → Formula = λ ts. changed (change_of Abstract ts) 0 c.args.f.now in
    subst P (ap whole c.from_ref.ensures.value ∙ change_abstract c.args.f.now c.args.s.now) c.change_formula.ensures
