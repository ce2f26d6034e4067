use Rattle.pm_table.proofs.laws.premises_deal.Goals as goal
use Rattle.pm_table.proofs.Deals as law

pub returns : goal.returns
returns c = law.premises_deal
