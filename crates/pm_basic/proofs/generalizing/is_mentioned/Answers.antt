use Rattle.pm_basic.proofs.Lessened.{below, test_scoped, test_small, test_done}
use Rattle.pm_basic.proofs.generalizing.is_mentioned.Goals as goal

pub terms_for-requires : goal.terms_for-requires
terms_for-requires c = below c.args.work.now c.requires.handed c.len-vars.result c.len-vars.ensures

pub is_subst-kept-requires-clause-scoped : goal.is_subst-kept-requires-clause-scoped
is_subst-kept-requires-clause-scoped c = test_scoped c.args.work.now c.requires.handed c.len-vars.result c.len-vars.ensures c.args.index c.in_ok-star.star c.in_ok-zeroed.zeroed c.in_ok-star.ensures c.in_ok-zeroed.ensures

pub is_subst-kept-requires-clause-size : goal.is_subst-kept-requires-clause-size
is_subst-kept-requires-clause-size c = test_small c.args.work.now c.requires.handed c.len-vars.result c.len-vars.ensures c.args.index c.in_ok-star.star c.in_ok-zeroed.zeroed c.in_ok-star.ensures c.in_ok-zeroed.ensures

pub returns : goal.returns
returns c = test_done c.args.work.now c.requires.handed c.len-vars.result c.len-vars.ensures c.args.index c.in_ok-star.star c.in_ok-zeroed.zeroed c.in_ok-star.ensures c.in_ok-zeroed.ensures c.is_subst-kept.result c.requires.nothing c.is_subst-kept.ensures
