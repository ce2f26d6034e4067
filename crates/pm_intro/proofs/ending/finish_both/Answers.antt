use Rattle.std.proofs.Common.{[], ◌∷◌, ◌++◌, ◌∙◌, ap, subst}
use Rattle.pm_action.specs.Acting.{Ends}
use Rattle.pm_intro.proofs.ending.finish_both.Goals as goal

pub returns : goal.returns
returns c = subst (λ ps. Ends ps c.args.proof c.finish.result) (c.in_ok-push-2.ensures.ok ∙ ap (λ xs. xs ++ c.args.second ∷ []) (c.in_ok-push.ensures.ok ∙ ap (λ xs. xs ++ c.args.first ∷ []) c.new-places.ensures)) c.finish.ensures
