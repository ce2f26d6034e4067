use Rattle.pm_basic.proofs.Lessened.{below, binding_fills, bound_is}
use Rattle.pm_basic.proofs.generalizing.bound.Goals as goal

pub terms_for-requires : goal.terms_for-requires
terms_for-requires c = below c.args.work.now c.requires c.len-vars.result c.len-vars.ensures

pub subst-requires-clause-scoped : goal.subst-requires-clause-scoped
subst-requires-clause-scoped c = let fills = binding_fills c.args.work.now c.requires c.len-vars.result c.len-vars.ensures c.args.index c.in_ok-binding.binding c.in_ok-binding.ensures in fills.scoped

pub subst-requires-clause-size : goal.subst-requires-clause-size
subst-requires-clause-size c = let fills = binding_fills c.args.work.now c.requires c.len-vars.result c.len-vars.ensures c.args.index c.in_ok-binding.binding c.in_ok-binding.ensures in fills.size

pub subst-requires-clause-terms : goal.subst-requires-clause-terms
subst-requires-clause-terms c = let fills = binding_fills c.args.work.now c.requires c.len-vars.result c.len-vars.ensures c.args.index c.in_ok-binding.binding c.in_ok-binding.ensures in fills.terms

pub returns : goal.returns
returns c = bound_is c.args.work.now c.requires c.len-vars.result c.len-vars.ensures c.args.index c.in_ok-binding.binding c.in_ok-body.body c.in_ok-concl.concl c.in_ok-binding.ensures c.in_ok-body.ensures c.in_ok-concl.ensures
