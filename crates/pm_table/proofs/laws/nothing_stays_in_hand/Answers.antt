use Rattle.pm_table.proofs.laws.nothing_stays_in_hand.Goals as goal
use Rattle.pm_table.proofs.Hands as law

pub returns : goal.returns
returns c = law.nothing_stays_in_hand
