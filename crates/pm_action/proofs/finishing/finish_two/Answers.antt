use Rattle.std.proofs.Common.{[], ◌∷◌, ◌++◌, ◌∙◌, ap₂, subst}
use Rattle.pm_table.specs.declared.place.Place.TheVariants.{Current as current}
use Rattle.pm_action.specs.Acting.{Ends}
use Rattle.pm_action.proofs.finishing.finish_two.Goals as goal

pub returns : goal.returns
returns c = subst (λ ps. Ends ps c.args.proof c.finish.result)
    (c.in_ok-push-2.ensures.ok ∙ ap₂ (λ xs ts. xs ++ current ts c.args.second ∷ []) (c.in_ok-push.ensures.ok ∙ ap₂ (λ xs ts. xs ++ current ts c.args.first ∷ []) c.new-places.ensures c.new.ensures) c.new-2.ensures)
    c.finish.ensures
