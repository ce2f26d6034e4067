use Rattle.std.proofs.Common.{◌≡◌, ◌∷◌, [], ◌++◌, Some, None, ◌∙◌, ap, subst, rules}
use Rattle.pm_logic.specs.declared.formula.Pred.{Pred}
use Rattle.pm_run.specs.Runs.{predicate_rows, with_predicate}
use Rattle.pm_run.specs.Keeping.{UsesLastName}
use Rattle.pm_run.proofs.Doings.{refused_is, kept_open, predicate_added}
use Rattle.pm_run.proofs.running.Running.predicate.Goals as goal

pub returns-in-Some : goal.returns-in-Some
returns-in-Some c = λ s params counts k sayable.
    let q : Pred = record { name = c.args.name; arity = c.min-arity.result; body = c.args.body } in
    let lists : c.push.new.self ≡ c.args.self.now.preds.list ++ (q ∷ []) = search rules in
    let is : c.predicate_row.result ≡ Some c.in-Some.row = search rules in
    let rows = c.predicate_row.ensures s q c.args.name params (lists ∙ ap (λ ps. ps ++ (q ∷ [])) k.preds_are) (kept_open c.args.self.now s k) (c.is_used-used.ensures ∙ k.names_are c.args.name) counts c.nodes-all.ensures c.depth-deepest.ensures in
    refused_is c.args.name (predicate_rows s c.args.name params c.args.body) (with_predicate s c.args.name params c.args.body) c.args.self.now c.take_back.new.self c.take_back.result c.in-Some.row
    (c.take_back.ensures c.args.self.now.preds.list q lists).0 (subst (predicate_rows s c.args.name params c.args.body) is rows) (c.take_back.ensures c.args.self.now.preds.list q lists).1

pub returns-in_ok-use_last_name-in-None : goal.returns-in_ok-use_last_name-in-None
returns-in_ok-use_last_name-in-None c = λ s params counts k sayable.
    let q : Pred = record { name = c.args.name; arity = c.min-arity.result; body = c.args.body } in
    let lists : c.push.new.self ≡ c.args.self.now.preds.list ++ (q ∷ []) = search rules in
    let is : c.predicate_row.result ≡ None = search rules in
    let rows = c.predicate_row.ensures s q c.args.name params (lists ∙ ap (λ ps. ps ++ (q ∷ [])) k.preds_are) (kept_open c.args.self.now s k) (c.is_used-used.ensures ∙ k.names_are c.args.name) counts c.nodes-all.ensures c.depth-deepest.ensures in
    let uses : UsesLastName (record c.args.self.now { preds = record { list = c.push.new.self } }) c.use_last_name.new.self = search rules in
    predicate_added c.args.self.now c.use_last_name.new.self s c.args.name params c.args.body c.args.count c.min-arity.result k sayable counts c.min-arity.ensures c.push.new.self lists uses (subst (predicate_rows s c.args.name params c.args.body) is rows)
