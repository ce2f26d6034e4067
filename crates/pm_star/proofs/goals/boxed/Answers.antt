use Rattle.std.proofs.Common.{rules, ◌∙◌}
use Rattle.pm_star.proofs.Contexts.{all_shared, boxed_goal}
use Rattle.pm_star.proofs.goals.boxed.Goals as goal

pub to_box-requires : goal.to_box-requires
to_box-requires c = all_shared c.args.goal.now _ (c.as_slice.ensures ∙ c.in_ok-shared.ensures)

pub returns : goal.returns
returns c = boxed_goal c.args.goal.now _ _ _ c.in_ok-proof.proof (c.as_slice.ensures ∙ c.in_ok-shared.ensures) (c.as_slice-2.ensures ∙ c.in_ok-spats.ensures) (search rules) c.in_ok-proof.ensures
