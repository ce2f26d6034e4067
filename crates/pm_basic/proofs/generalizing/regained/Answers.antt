use Rattle.std.proofs.Common.{sym, arith}
use Rattle.pm_basic.proofs.Generals.{left_in, right_in, left_small, right_small, terms_fit, sigma_length, regained_done}
use Rattle.pm_basic.proofs.generalizing.regained.Goals as goal

pub instantiate-requires-clause-each : goal.instantiate-requires-clause-each
instantiate-requires-clause-each c = sym (sigma_length c.args.index c.args.work.now c.args.new.now c.requires.handed c.requires.loses c.len-vars.result c.in_ok-sigma.sigma c.len-vars.ensures c.in_ok-sigma.ensures)

pub instantiate-requires-clause-few : goal.instantiate-requires-clause-few
instantiate-requires-clause-few c = omega (arith, sigma_length c.args.index c.args.work.now c.args.new.now c.requires.handed c.requires.loses c.len-vars.result c.in_ok-sigma.sigma c.len-vars.ensures c.in_ok-sigma.ensures, c.len-vars.ensures, c.requires.few)

pub instantiate-requires-clause-left : goal.instantiate-requires-clause-left
instantiate-requires-clause-left c = left_in c.args.index c.args.work.now c.args.new.now c.requires.handed c.requires.loses c.len-vars.result c.in_ok-sigma.sigma c.len-vars.ensures c.in_ok-sigma.ensures c.in_ok-left.left c.in_ok-left.ensures

pub instantiate-requires-clause-right : goal.instantiate-requires-clause-right
instantiate-requires-clause-right c = right_in c.args.index c.args.work.now c.args.new.now c.requires.handed c.requires.loses c.len-vars.result c.in_ok-sigma.sigma c.len-vars.ensures c.in_ok-sigma.ensures c.in_ok-right.right c.in_ok-right.ensures

pub instantiate-requires-clause-left_size : goal.instantiate-requires-clause-left_size
instantiate-requires-clause-left_size c = left_small c.args.index c.args.work.now c.args.new.now c.requires.handed c.requires.loses c.len-vars.result c.in_ok-sigma.sigma c.len-vars.ensures c.in_ok-sigma.ensures c.in_ok-left.left c.in_ok-left.ensures

pub instantiate-requires-clause-right_size : goal.instantiate-requires-clause-right_size
instantiate-requires-clause-right_size c = right_small c.args.index c.args.work.now c.args.new.now c.requires.handed c.requires.loses c.len-vars.result c.in_ok-sigma.sigma c.len-vars.ensures c.in_ok-sigma.ensures c.in_ok-right.right c.in_ok-right.ensures

pub instantiate-requires-clause-terms : goal.instantiate-requires-clause-terms
instantiate-requires-clause-terms c = terms_fit c.args.index c.args.work.now c.args.new.now c.requires.handed c.requires.loses c.len-vars.result c.in_ok-sigma.sigma c.len-vars.ensures c.in_ok-sigma.ensures

pub returns : goal.returns
returns c =
    regained_done c.args.index c.args.work.now c.args.new.now c.requires.handed c.requires.loses c.len-vars.result c.in_ok-sigma.sigma c.len-vars.ensures c.in_ok-sigma.ensures c.in_ok-left.left c.in_ok-right.right c.in_ok-proof.proof
    c.in_ok-left.ensures c.in_ok-right.ensures c.in_ok-proof.ensures
