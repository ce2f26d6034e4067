use Rattle.pm_classes.proofs.Calls.{sep_left, sep_right, sep_neither, both_ways}
use Rattle.pm_classes.proofs.separating.in_conjunction.Goals as goal

pub returns-in_ok-entry : goal.returns-in_ok-entry
returns-in_ok-entry c = sep_left c.args.vars c.args.a.now c.args.b.now c.in_ok-proof.proof c.in_ok-entry.entry (c.persistent.ensures.0 c.if-persistent.true) c.in_ok-proof.ensures c.in_ok-entry.ensures.first c.in_ok-entry.ensures.second c.in_ok-entry.ensures.proof

pub returns-in_ok-entry-2 : goal.returns-in_ok-entry-2
returns-in_ok-entry-2 c = sep_right c.args.vars c.args.a.now c.args.b.now c.in_ok-proof-2.proof c.in_ok-entry-2.entry (c.persistent-else-persistent.ensures.0 c.if-persistent-2.true) c.in_ok-proof-2.ensures c.in_ok-entry-2.ensures.first c.in_ok-entry-2.ensures.second c.in_ok-entry-2.ensures.proof

pub returns-else-persistent-2 : goal.returns-else-persistent-2
returns-else-persistent-2 c = sep_neither c.args.vars c.args.a.now c.args.b.now (λ h. both_ways c.persistent.result (c.persistent.ensures.1 h) c.if-persistent.false) (λ h. both_ways c.persistent-else-persistent.result (c.persistent-else-persistent.ensures.1 h) c.if-persistent-2.false)
