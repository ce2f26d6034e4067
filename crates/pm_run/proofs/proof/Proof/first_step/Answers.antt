use Rattle.std.proofs.Common.{◌≡◌, ◌-◌, length, reverse, Some, None, Err, refl, sym, ap, ◌∙◌, rules}
use Rattle.std.specs.Prelude.{slice_get}
use Rattle.pm_run.proofs.Advances.{first_stepped, none_stepped}
use Rattle.pm_run.proofs.proof.Proof.first_step.Goals as goal

pub returns-in-Some : goal.returns-in-Some
returns-in-Some c =
    let goals = c.args.self.now.goals in
    let at : Some c.in-Some.goal.now ≡ slice_get goals (length goals - 1) = search rules in
    first_stepped c.args.preds.now c.args.lemmas.now c.args.directive.now goals c.in-Some.goal.now c.step.result at c.step.ensures

pub returns-in-None : goal.returns-in-None
returns-in-None c =
    let goals = c.args.self.now.goals in
    let at : None ≡ slice_get goals (length goals - 1) = search rules in
    none_stepped c.args.preds.now c.args.lemmas.now c.args.directive.now goals at
