use Rattle.pm_frame.proofs.Binding.{after_scoped}
use Rattle.pm_frame.proofs.quantified.after.Goals as goal

pub close_where-requires-clause-scoped : goal.close_where-requires-clause-scoped
close_where-requires-clause-scoped c = after_scoped c.args.vars c.args.s.now c.args.a.now c.args.q.now c.args.x.now c.args.first c.args.second c.requires.some c.requires.quantified c.requires.first c.requires.second
