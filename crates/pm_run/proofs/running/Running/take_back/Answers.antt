use Rattle.std.proofs.Common.{◌≡◌, ◌∷◌, [], ◌++◌, ◌<◌, ◌∙◌, sym, ap, length, rules}
use Rattle.pm_run.specs.declared.running.Done.TheVariants as done
use Rattle.pm_goal.specs.Refusals.{refusal}
use Rattle.pm_run.proofs.Lasts.{last_same, some_last}
use Rattle.pm_run.proofs.running.Running.take_back.Goals as goal

pub returns-in-Some : goal.returns-in-Some
returns-in-Some c = λ before last e.
    let popped : c.args.self.now.preds.list ≡ c.pop.new.self ++ (c.in-Some.pred ∷ []) = search rules in
    let same = last_same c.pop.new.self before c.in-Some.pred last (sym popped ∙ e) in
    (c.refused.ensures ∙ ap (λ q. done.Refused (refusal c.args.row q.name)) same.1, ap (λ list. record c.args.self.now { preds = record { list = list } }) same.0)

pub returns-in-None : goal.returns-in-None
returns-in-None c = λ before last e.
    let some : 0 < length c.args.self.now.preds.list = some_last c.args.self.now.preds.list before last e in
    absurd (search rules)
