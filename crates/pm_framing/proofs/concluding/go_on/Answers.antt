use Rattle.std.proofs.Common.{refl}
use Rattle.pm_framing.proofs.Ended.{goes_on}
use Rattle.pm_framing.proofs.concluding.go_on.Goals as goal

pub returns : goal.returns
returns c = goes_on c.args.work.now c.args.rest _ c.args.concl c.args.opened c.finish_one.result c.requires.vars refl c.requires.opened c.finish_one.ensures
