use Rattle.pm_star.specs.Stars.{side_at}
use Rattle.pm_star.proofs.Turning.{split_straight}
use Rattle.pm_star.proofs.walks.deal.Goals as goal

pub returns-in_ok-made : goal.returns-in_ok-made
returns-in_ok-made c = split_straight c.args.vars (side_at c.args.shared c.args.listed.now) c.args.parts.now c.args.halves c.in_ok-made.made c.in_ok-made.ensures
