use Rattle.pm_frame.proofs.Binding.{under_ex_done}
use Rattle.pm_frame.proofs.quantified.under_ex.Goals as goal

pub returns : goal.returns
returns c = under_ex_done c.args.vars c.args.s.now c.args.g.now c.args.a.now c.in_ok-opened.opened.formula c.in_ok-opened.opened.proof c.args.inner c.in_ok-proof.proof c.in_ok-opened.ensures.formula c.in_ok-opened.ensures.proof c.in_ok-proof.ensures
