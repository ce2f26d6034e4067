use Rattle.std.proofs.Common.{rules, ap, ◌∙◌, ◌++◌, length}
use Rattle.pm_goal.specs.Left.{hyps}
use Rattle.pm_star.proofs.Contexts.{dealt_goal, goal_shared}
use Rattle.pm_star.proofs.goals.partition.Goals as goal

pub split-requires : goal.split-requires
split-requires c =
    λ i lt. goal_shared c.args.goal.now _ _ i (c.as_slice.ensures ∙ c.in_ok-push_spats.ensures ∙ ap (λ l. l ++ hyps c.args.goal.now.spats) c.in_ok-parts.ensures) (c.len-shared.ensures ∙ ap length c.in_ok-parts.ensures) lt

pub returns : goal.returns
returns c =
    dealt_goal c.args.goal.now _ _ _ _ _ c.in_ok-proof.proof (c.as_slice.ensures ∙ c.in_ok-push_spats.ensures ∙ ap (λ l. l ++ hyps c.args.goal.now.spats) c.in_ok-parts.ensures) (search rules) (c.len-shared.ensures ∙ ap length c.in_ok-parts.ensures) c.as_slice-2.ensures c.in_ok-proof.ensures
