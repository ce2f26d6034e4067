use Rattle.std.proofs.Common.{rules, ◌≡◌, ◌<◌, ◌≤◌, length, get_or, sym}
use Rattle.std.proofs.lemmas.List.{append-nil}
use Rattle.pm_print.proofs.Named.{name_at, name_beyond}
use Rattle.pm_print.proofs.names.add_name.Goals as goal

pub returns-in-Some : goal.returns-in-Some
returns-in-Some c =
    let within : c.args.index < length c.args.vars.now = search (rules, c.in-Some.ensures.lookup) in
    let is : c.in-Some.name.now ≡ get_or c.args.vars.now c.args.index c.in-Some.name.now = c.in-Some.ensures.lookup.1 in
    rw (name_at c.args.vars.now c.args.index c.in-Some.name.now within is, ← c.bytes.ensures) c.add.ensures

pub returns-in-None : goal.returns-in-None
returns-in-None c =
    let past : length c.args.vars.now ≤ c.args.index = search (rules, c.in-None.ensures.lookup) in
    rw (name_beyond c.args.vars.now c.args.index past) (sym (append-nil c.args.text.now))
