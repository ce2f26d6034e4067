use Rattle.std.proofs.Common.{refl}
use Rattle.pm_check.proofs.Keeping.{keeps_none}
use Rattle.pm_check.proofs.kept.Kept.new.Goals as goal

pub returns : goal.returns
returns c = keeps_none c.args.preds _ refl c.new.ensures.items c.new-2.ensures c.new-3.ensures
