use Rattle.std.proofs.Common.{[], ◌∷◌, ap₂, subst}
use Rattle.pm_action.specs.Acting.{Ends}
use Rattle.pm_intro.proofs.ending.finish_cases.Goals as goal

pub returns : goal.returns
returns c = subst (λ ps. Ends ps c.args.proof c.finish_both.result) (ap₂ (λ x y. x ∷ y ∷ []) c.in_ok-left.ensures c.in_ok-right.ensures) c.finish_both.ensures
