use Rattle.std.proofs.Common.{◌≡◌, Some, Err, reverse, subst, ap, ◌∙◌, rules}
use Rattle.pm_run.specs.Keeping.{StepsFirst}
use Rattle.pm_goal.specs.declared.refusal.StepFault.TheVariants as fault
use Rattle.pm_run.proofs.Doings.{goals_sound, goals_handed, directive_moved, directive_refused}
use Rattle.pm_run.proofs.running.Running.directive.Goals as goal

pub first_step-requires-clause-sound : goal.first_step-requires-clause-sound
first_step-requires-clause-sound c =
    let e : c.args.self.now.proof ≡ Some c.in-Some.proof = search rules in
    goals_sound c.args.self.now c.requires.kept.state c.in-Some.proof c.args.directive.now c.requires.kept.kept e

pub first_step-requires-clause-handed : goal.first_step-requires-clause-handed
first_step-requires-clause-handed c =
    let e : c.args.self.now.proof ≡ Some c.in-Some.proof = search rules in
    goals_handed c.args.self.now c.requires.kept.state c.in-Some.proof c.args.directive.now c.requires.kept.kept e c.requires.handed

pub returns-in_ok-stepped-in-Ok : goal.returns-in_ok-stepped-in-Ok
returns-in_ok-stepped-in-Ok c = λ s k.
    let e : c.args.self.now.proof ≡ Some c.in-Some.proof = search rules in
    let steps = subst (StepsFirst c.args.self.now.preds c.args.self.now.lemmas (reverse c.in-Some.proof.goals) c.args.directive.now) c.in-Ok.is c.first_step.ensures in
    directive_moved c.args.self.now s c.in-Some.proof c.args.directive.now k e c.in_ok-stepped-in-Ok.field-0 c.in-Ok.parts steps c.in_ok-stepped-in-Ok.ensures

pub returns-in_ok-refusal-in-Err : goal.returns-in_ok-refusal-in-Err
returns-in_ok-refusal-in-Err c = λ s k.
    let e : c.args.self.now.proof ≡ Some c.in-Some.proof = search rules in
    let by : c.first_step.result ≡ Err (fault.Refused c.in_ok-refusal-in-Err.refusal) = c.in-Err.is ∙ ap (λ f. Err f) c.in_ok-refusal-in-Err.ensures in
    let steps = subst (StepsFirst c.args.self.now.preds c.args.self.now.lemmas (reverse c.in-Some.proof.goals) c.args.directive.now) by c.first_step.ensures in
    directive_refused c.args.self.now s c.in-Some.proof c.args.directive.now k e c.in_ok-refusal-in-Err.refusal steps
