use Rattle.std.proofs.Common.{refl}
use Rattle.pm_sweep.proofs.Acted.{acted}
use Rattle.pm_sweep.proofs.Bounds.{is_handed, low_conclusion}
use Rattle.pm_sweep.proofs.placing.acted.Goals as goal

pub perform-requires-clause-handed : goal.perform-requires-clause-handed
perform-requires-clause-handed c = is_handed c.args.work.now c.requires.sound

pub perform-requires-clause-shallow : goal.perform-requires-clause-shallow
perform-requires-clause-shallow c = low_conclusion c.args.work.now c.requires.sound

pub returns : goal.returns
returns c = acted c.args.act c.args.work.now c.args.turns.now c.in_ok-goals.field-0 (record { goals = c.in_ok-goals-2.goals; proof = c.in_ok-goals.field-0.proof }) c.requires.sound c.requires.handed c.in_ok-goals.ensures c.in_ok-goals-2.ensures refl
