use Rattle.pm_star.specs.Stars.{side_at}
use Rattle.pm_star.proofs.Turning.{turned_halved, split_turned}
use Rattle.pm_star.proofs.walks.deal_turned.Goals as goal

pub walk-requires : goal.walk-requires
walk-requires c = record { halved = turned_halved c.args.vars c.args.halves c.in_ok-start.start c.in_ok-start.ensures; shared = c.requires.shared }

pub returns : goal.returns
returns c = split_turned c.args.vars (side_at c.args.shared c.args.listed.now) c.args.parts.now c.args.halves c.in_ok-start.start c.in_ok-made.made c.in_ok-back.back c.in_ok-start.ensures c.in_ok-made.ensures c.in_ok-back.ensures
