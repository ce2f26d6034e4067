use Rattle.std.proofs.Common.{sym, ◌∙◌}
use Rattle.pm_hand.proofs.Names.{name_refused, name_given}
use Rattle.pm_hand.proofs.naming.name_held.Goals as goal

pub returns-then-not-is_free : goal.returns-then-not-is_free
returns-then-not-is_free c =
    name_refused c.args.work.now c.last-held.result.now c.args.name.now c.refuse.result c.last-held.ensures (sym c.is_free.ensures ∙ c.if-not-is_free.true) c.refuse.ensures

pub returns : goal.returns
returns c =
    name_given c.args.work.now c.last-held.result.now c.args.name.now c.give_name.result c.last-held.ensures (sym c.is_free.ensures ∙ c.if-not-is_free.false) c.give_name.ensures
