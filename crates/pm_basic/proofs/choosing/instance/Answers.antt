use Rattle.std.proofs.Common.{arith}
use Rattle.pm_basic.proofs.Choices.{bounded_body, term_placed, instance_is}
use Rattle.pm_basic.proofs.choosing.instance.Goals as goal

pub witness-requires-clause-body : goal.witness-requires-clause-body
witness-requires-clause-body c = bounded_body c.args.vars c.args.t.now c.args.body.now c.requires.scoped c.requires.small

pub opened-requires-clause-body : goal.opened-requires-clause-body
opened-requires-clause-body c = bounded_body c.args.vars c.args.t.now c.args.body.now c.requires.scoped c.requires.small

pub opened-requires-clause-term : goal.opened-requires-clause-term
opened-requires-clause-term c = term_placed c.args.vars c.args.t.now (omega (arith, c.requires.small)) c.requires.term

pub returns : goal.returns
returns c = instance_is c.args.vars c.args.t.now c.args.body.now c.in_ok-formula.formula c.in_ok-proof.proof c.in_ok-formula.ensures c.in_ok-proof.ensures
