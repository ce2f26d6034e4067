use Rattle.pm_apply.proofs.PremiseGoals.{bare_star}
use Rattle.pm_apply.proofs.premises.shared_of.Goals as goal

pub returns : goal.returns
returns c = bare_star c.args.goal.now c.in_ok-bare.bare c.new.result c.in_ok-star.star c.in_ok-bare.ensures c.new.ensures c.in_ok-star.ensures
