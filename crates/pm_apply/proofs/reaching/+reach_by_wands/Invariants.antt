use Rattle.pm_logic.specs.Size.{nodes_of}
use Rattle.pm_apply.proofs.reaching.+reach_by_wands.Given as goal

abbrev pub decreases-reach_by_wands : goal.decreases-reach_by_wands
decreases-reach_by_wands l = nodes_of l.r.now
