use Rattle.pm_basic.proofs.Dealt.{both_done}
use Rattle.pm_basic.proofs.dealing.both.Goals as goal

pub returns : goal.returns
returns c = both_done c.args.first.now c.args.second.now c.len-vars.result c.in_ok-l.l c.in_ok-r.r c.in_ok-proof.proof c.len-vars.ensures c.requires.same c.in_ok-l.ensures c.in_ok-r.ensures c.in_ok-proof.ensures
