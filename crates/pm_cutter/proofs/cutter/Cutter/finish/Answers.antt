use Rattle.std.proofs.Common.{◌∙◌}
use Rattle.pm_cutter.proofs.Ending.{fed_held, end_is}
use Rattle.pm_cutter.proofs.cutter.Cutter.finish.Goals as goal

pub ended-requires-clause-held : goal.ended-requires-clause-held
ended-requires-clause-held c = fed_held c.args.self c.requires.0 c.requires.1

pub returns : goal.returns
returns c = λ bytes is. c.ended.ensures ∙ end_is c.args.self bytes is
