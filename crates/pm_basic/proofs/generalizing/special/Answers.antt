use Rattle.pm_basic.proofs.Lessened.{below, rebinding_fills}
use Rattle.pm_basic.proofs.Generals.{body_bounded, special_done, var_fits}
use Rattle.pm_basic.proofs.generalizing.special.Goals as goal

pub terms_for-requires : goal.terms_for-requires
terms_for-requires c = below c.args.work.now c.requires.handed c.len-vars.result c.len-vars.ensures

pub subst-requires-clause-scoped : goal.subst-requires-clause-scoped
subst-requires-clause-scoped c = let fills = rebinding_fills c.args.work.now c.requires.handed c.len-vars.result c.len-vars.ensures c.args.index c.in_ok-rebinding.rebinding c.in_ok-rebinding.ensures in fills.scoped

pub subst-requires-clause-size : goal.subst-requires-clause-size
subst-requires-clause-size c = let fills = rebinding_fills c.args.work.now c.requires.handed c.len-vars.result c.len-vars.ensures c.args.index c.in_ok-rebinding.rebinding c.in_ok-rebinding.ensures in fills.size

pub subst-requires-clause-terms : goal.subst-requires-clause-terms
subst-requires-clause-terms c = let fills = rebinding_fills c.args.work.now c.requires.handed c.len-vars.result c.len-vars.ensures c.args.index c.in_ok-rebinding.rebinding c.in_ok-rebinding.ensures in fills.terms

pub specialize-requires-clause-vars : goal.specialize-requires-clause-vars
specialize-requires-clause-vars c = below c.args.work.now c.requires.handed c.len-vars.result c.len-vars.ensures

pub specialize-requires-clause-body : goal.specialize-requires-clause-body
specialize-requires-clause-body c = body_bounded c.args.index c.args.work.now c.args.new.now c.requires.handed c.requires.loses c.len-vars.result c.len-vars.ensures c.in_ok-rebinding.rebinding c.in_ok-rebinding.ensures c.in_ok-body.body c.in_ok-body.ensures

pub specialize-requires-clause-term : goal.specialize-requires-clause-term
specialize-requires-clause-term c = var_fits c.args.index c.args.work.now c.args.new.now c.requires.handed c.requires.loses c.len-vars.result c.len-vars.ensures

pub returns : goal.returns
returns c = special_done c.args.index c.args.work.now c.args.new.now c.requires.handed c.requires.loses c.len-vars.result c.len-vars.ensures c.in_ok-rebinding.rebinding c.in_ok-rebinding.ensures c.in_ok-body.body c.in_ok-proof.proof c.in_ok-body.ensures c.in_ok-proof.ensures
