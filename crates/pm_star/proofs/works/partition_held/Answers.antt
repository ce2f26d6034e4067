use Rattle.std.proofs.Common.{rules, ap, ◌∙◌, ◌++◌, length}
use Rattle.pm_goal.specs.Left.{hyps, held_parts}
use Rattle.pm_star.proofs.Contexts.{dealt_work, work_first}
use Rattle.pm_star.proofs.works.partition_held.Goals as goal

pub split-requires : goal.split-requires
split-requires c =
    λ i lt. work_first c.args.work.now _ _ i (c.as_slice.ensures ∙ c.in_ok-push_owned.ensures ∙ ap (λ l. l ++ hyps c.args.work.now.goal.spats ++ held_parts c.args.work.now.held) c.in_ok-parts.ensures) (c.len-shared.ensures ∙ ap length c.in_ok-parts.ensures) lt

pub returns : goal.returns
returns c =
    dealt_work c.args.work.now _ _ _ _ _ c.in_ok-proof.proof (c.as_slice.ensures ∙ c.in_ok-push_owned.ensures ∙ ap (λ l. l ++ hyps c.args.work.now.goal.spats ++ held_parts c.args.work.now.held) c.in_ok-parts.ensures) (search rules) (c.len-shared.ensures ∙ ap length c.in_ok-parts.ensures) c.as_slice-2.ensures c.in_ok-proof.ensures
