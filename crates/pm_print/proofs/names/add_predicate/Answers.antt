use Rattle.std.proofs.Common.{rules, ◌≡◌, ◌<◌, ◌≤◌, length, get_or, sym}
use Rattle.std.proofs.lemmas.List.{append-nil}
use Rattle.pm_print.proofs.Named.{predicate_at, predicate_beyond}
use Rattle.pm_print.proofs.names.add_predicate.Goals as goal

pub returns-in-Some : goal.returns-in-Some
returns-in-Some c =
    let within : c.args.place < length c.args.preds.now = search (rules, c.in-Some.ensures.lookup) in
    let is : c.in-Some.pred.now ≡ get_or c.args.preds.now c.args.place c.in-Some.pred.now = c.in-Some.ensures.lookup.1 in
    rw (predicate_at c.args.preds.now c.args.place c.in-Some.pred.now within is, ← c.bytes.ensures) c.add.ensures

pub returns-in-None : goal.returns-in-None
returns-in-None c =
    let past : length c.args.preds.now ≤ c.args.place = search (rules, c.in-None.ensures.lookup) in
    rw (predicate_beyond c.args.preds.now c.args.place past) (sym (append-nil c.args.text.now))
