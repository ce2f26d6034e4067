use Rattle.pm_modal.proofs.Elims.{no_update_wanted}
use Rattle.pm_modal.proofs.eliminating.under_conclusion.Goals as goal

pub returns-in_default : goal.returns-in_default
returns-in_default c = no_update_wanted c.args.work.now c.args.held.now c.args.b.now c.refuse_plain.result c.requires.last c.requires.update c.in_default.not-Upd c.refuse_plain.ensures
