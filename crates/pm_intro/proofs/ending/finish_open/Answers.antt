use Rattle.std.proofs.Common.{[], ◌∷◌, ◌++◌, ◌∙◌, ap₂, subst}
use Rattle.pm_action.specs.Acting.{Ends}
use Rattle.pm_intro.proofs.ending.finish_open.Goals as goal

pub returns : goal.returns
returns c = subst (λ ps. Ends ps c.args.proof c.finish.result) (c.in_ok-push.ensures.ok ∙ ap₂ (λ xs p. xs ++ p ∷ []) c.new-places.ensures c.in_ok-place.ensures) c.finish.ensures
