use Rattle.pm_cutter.proofs.Split.{splitting_is_cut, splitting_leaves, finished_is_cut}
use Rattle.pm_cutter.proofs.SplitFound.{cut_splits}
use Rattle.pm_cutter.proofs.laws.cut_is_splitting.Goals as goal

pub returns : goal.returns
returns c = record { splits = cut_splits; alone = splitting_is_cut; left = splitting_leaves; before_more = finished_is_cut }
