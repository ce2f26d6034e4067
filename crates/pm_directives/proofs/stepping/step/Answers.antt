use Rattle.std.proofs.Common.{map, refl, ap₂, subst, ◌∙◌, ap}
use Rattle.pm_table.specs.Works.{work_of}
use Rattle.pm_table.specs.Directives.{goal_at}
use Rattle.pm_directives.proofs.Begun.{Begins}
use Rattle.pm_directives.proofs.Ended.{step_answers}
use Rattle.pm_directives.proofs.stepping.step.Goals as goal

pub returns : goal.returns
returns c =
    let begun = subst (λ w. Begins w c.in_ok-start.start) (ap₂ work_of c.in_ok-copy_goal.ensures c.new.ensures) c.in_ok-start.ensures in
    step_answers c.args.preds.now c.args.lemmas.now c.args.goal.now c.args.directive.now c.in_ok-start.start c.in_ok-ended.ended (record { goals = c.in_ok-goals.goals; proof = c.in_ok-ended.ended.proof }) c.requires.built begun c.in_ok-ended.ensures (c.in_ok-goals.ensures ∙ ap (map goal_at) c.as_slice.ensures) refl
