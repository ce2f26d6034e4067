use Rattle.pm_basic.proofs.Listing.{first_fails}
use Rattle.pm_basic.proofs.dealing.all_spatial.Goals as goal

pub returns-in-Some : goal.returns-in-Some
returns-in-Some c = first_fails c.args.goal.now c.args.names.now c.in-Some.name.now c.refuse.result c.in-Some.ensures c.refuse.ensures
