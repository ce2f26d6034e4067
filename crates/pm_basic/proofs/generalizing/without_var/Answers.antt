use Rattle.std.proofs.Common.{ap, ◌∙◌}
use Rattle.pm_table.specs.Basic.{names_but}
use Rattle.pm_basic.proofs.Cleared.{facts_apart, ints_apart, spats_apart}
use Rattle.pm_basic.proofs.Lessened.{below, facts_fillable, ints_fillable, spats_fillable, lessened}
use Rattle.pm_basic.proofs.generalizing.without_var.Goals as goal

pub terms_for-requires : goal.terms_for-requires
terms_for-requires c = below c.args.work.now c.requires c.len.result c.len.ensures

pub each_fact-requires-clause-fillable : goal.each_fact-requires-clause-fillable
each_fact-requires-clause-fillable c = facts_fillable c.args.work.now c.requires c.len.result c.len.ensures c.args.index c.in_ok-losing.losing c.in_ok-losing.ensures

pub each_fact-requires-clause-apart : goal.each_fact-requires-clause-apart
each_fact-requires-clause-apart c = facts_apart c.args.work.now.goal c.requires.apart

pub each_hyp-requires-clause-fillable : goal.each_hyp-requires-clause-fillable
each_hyp-requires-clause-fillable c = ints_fillable c.args.work.now c.requires c.len.result c.len.ensures c.args.index c.in_ok-losing.losing c.in_ok-losing.ensures

pub each_hyp-requires-clause-apart : goal.each_hyp-requires-clause-apart
each_hyp-requires-clause-apart c = ints_apart c.args.work.now.goal c.requires.apart

pub each_hyp-requires-2-clause-fillable : goal.each_hyp-requires-2-clause-fillable
each_hyp-requires-2-clause-fillable c = spats_fillable c.args.work.now c.requires c.len.result c.len.ensures c.args.index c.in_ok-losing.losing c.in_ok-losing.ensures

pub each_hyp-requires-2-clause-apart : goal.each_hyp-requires-2-clause-apart
each_hyp-requires-2-clause-apart c = spats_apart c.args.work.now.goal c.requires.apart

pub returns : goal.returns
returns c =
    lessened c.args.work.now c.requires c.len.result c.len.ensures c.args.index c.in_ok-losing.losing c.in_ok-losing.ensures c.args.name.now c.in_ok-vars.vars c.in_ok-pures.pures c.in_ok-ints.ints c.in_ok-spats.spats c.in_ok-concl.concl
    (c.in_ok-vars.ensures ∙ ap (names_but c.args.name.now) c.as_slice.ensures) c.in_ok-pures.ensures c.in_ok-ints.ensures c.in_ok-spats.ensures c.in_ok-concl.ensures
