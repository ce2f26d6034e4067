use Rattle.std.proofs.Common.{[], ◌∷◌, ◌++◌, ◌∙◌, ap₂, subst}
use Rattle.pm_table.specs.declared.place.Place.TheVariants.{Current as current}
use Rattle.pm_action.specs.Acting.{EndsOver}
use Rattle.pm_loeb.proofs.finishing.finish_one_over.Goals as goal

pub returns : goal.returns
returns c = subst (λ ps. EndsOver ps c.args.proof c.finish_over.result) (c.in_ok-push.ensures.ok ∙ ap₂ (λ xs ts. xs ++ current ts c.args.work ∷ []) c.new-places.ensures c.new.ensures) c.finish_over.ensures
