use Rattle.pm_check.proofs.Tables.{arities_unread}
use Rattle.pm_check.proofs.table.table.Goals as goal

pub returns-in-Err-next_arities : goal.returns-in-Err-next_arities
returns-in-Err-next_arities c = arities_unread c.args.text.now c.in-Ok.rest.now c.in-Err-next_arities.fault c.answered-in-Err-next_arities.result c.headers_are_read.ensures c.in-Ok.ensures c.in-Err-next_arities.ensures c.answered-in-Err-next_arities.ensures
