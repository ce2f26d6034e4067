use Rattle.pm_closing.proofs.Equal.{one_term, left_in_place, right_in_place, left_fits, right_fits, instance_known}
use Rattle.pm_closing.proofs.reflexive.instance.Goals as goal

pub instantiate-requires-clause-left : goal.instantiate-requires-clause-left
instantiate-requires-clause-left c =
    left_in_place c.push.new.self c.args.t.now c.premise.result (one_term c.push.new.self c.new-sigma.result c.in_ok-copy_term.field-0 c.args.t.now c.in_ok-push.ensures.ok c.new-sigma.ensures c.in_ok-copy_term.ensures) c.premise.ensures

pub instantiate-requires-clause-right : goal.instantiate-requires-clause-right
instantiate-requires-clause-right c =
    right_in_place c.push.new.self c.args.t.now c.premise.result (one_term c.push.new.self c.new-sigma.result c.in_ok-copy_term.field-0 c.args.t.now c.in_ok-push.ensures.ok c.new-sigma.ensures c.in_ok-copy_term.ensures) c.premise.ensures

pub instantiate-requires-clause-left_size : goal.instantiate-requires-clause-left_size
instantiate-requires-clause-left_size c =
    left_fits c.push.new.self c.args.t.now c.premise.result (one_term c.push.new.self c.new-sigma.result c.in_ok-copy_term.field-0 c.args.t.now c.in_ok-push.ensures.ok c.new-sigma.ensures c.in_ok-copy_term.ensures) c.premise.ensures

pub instantiate-requires-clause-right_size : goal.instantiate-requires-clause-right_size
instantiate-requires-clause-right_size c =
    right_fits c.push.new.self c.args.t.now c.premise.result (one_term c.push.new.self c.new-sigma.result c.in_ok-copy_term.field-0 c.args.t.now c.in_ok-push.ensures.ok c.new-sigma.ensures c.in_ok-copy_term.ensures) c.premise.ensures

pub returns : goal.returns
returns c =
    instance_known c.args.vars c.args.t.now c.push.new.self c.premise.result c.in_ok-proof.proof (one_term c.push.new.self c.new-sigma.result c.in_ok-copy_term.field-0 c.args.t.now c.in_ok-push.ensures.ok c.new-sigma.ensures c.in_ok-copy_term.ensures) c.premise.ensures c.in_ok-proof.ensures
