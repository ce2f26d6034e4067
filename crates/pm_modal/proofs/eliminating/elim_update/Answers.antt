use Rattle.pm_modal.proofs.Elims.{no_update_held}
use Rattle.pm_modal.proofs.eliminating.elim_update.Goals as goal

pub returns-in_default : goal.returns-in_default
returns-in_default c = no_update_held c.args.work.now c.last-held.result.now c.refuse_plain.result c.last-held.ensures c.in_default.not-Upd c.refuse_plain.ensures
