use Rattle.pm_classes.proofs.Calls.{persistent_pers_done, persistent_done, persistent_none, both_ways}
use Rattle.pm_classes.proofs.persistence.into_persistent.Goals as goal

pub returns-in-Pers : goal.returns-in-Pers
returns-in-Pers c = persistent_pers_done c.args.vars c.args.f.now c.in-Pers.a c.get.result.now c.in_ok-entry.entry c.in-Pers.is c.get.ensures c.in_ok-entry.ensures.formula c.in_ok-entry.ensures.proof

pub returns-then-not-persistent : goal.returns-then-not-persistent
returns-then-not-persistent c = persistent_none c.args.vars c.args.f.now c.in_default.not-Pers (λ h. both_ways c.persistent.result (c.persistent.ensures.1 h) c.if-not-persistent.true)

pub returns : goal.returns
returns c = persistent_done c.args.vars c.args.f.now c.in_ok-formula.formula c.in_ok-proof.proof c.in_default.not-Pers (c.persistent.ensures.0 c.if-not-persistent.false) c.in_ok-formula.ensures c.in_ok-proof.ensures
