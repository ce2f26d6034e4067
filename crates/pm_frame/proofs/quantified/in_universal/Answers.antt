use Rattle.std.proofs.Common.{◌+◌, Some, None, sym, ◌∙◌}
use Rattle.pm_logic.specs.declared.formula.Formula.TheViews as view
use Rattle.pm_frame.proofs.Parts.{at}
use Rattle.pm_frame.proofs.Quantifying.{under_none, all_rest_handed, all_kept_bounded, all_gone_bounded, all_gone_premise, all_kept_premise, all_gone_done, all_kept_done}
use Rattle.pm_frame.proofs.quantified.in_universal.Goals as goal

pub returns-in_default : goal.returns-in_default
returns-in_default c = under_none view.All c.args.vars c.args.r.now c.args.s.now c.args.a.now (view.All c.args.a.now) c.args.x c.requires.shifted c.requires.part c.in_default.is

pub generalized-requires-clause-bounded : goal.generalized-requires-clause-bounded
generalized-requires-clause-bounded c = all_gone_bounded c.args.vars c.args.r.now c.args.a.now c.in-Some.x.rest c.requires.handed (sym c.is_truth.ensures ∙ c.if-is_truth.true)

pub generalized-requires-clause-inner : goal.generalized-requires-clause-inner
generalized-requires-clause-inner c = all_gone_premise c.args.vars c.args.r.now c.args.s.now c.args.a.now c.in-Some.x c.requires.shifted (at (c.args.vars + 1) c.args.s.now c.args.a.now c.args.x (Some c.in-Some.x) c.in-Some.is c.requires.part) (sym c.is_truth.ensures ∙ c.if-is_truth.true)

pub returns-then-is_truth : goal.returns-then-is_truth
returns-then-is_truth c = all_gone_done c.args.vars c.args.r.now c.args.s.now c.args.a.now c.in-Some.x c.in_ok-proof.proof c.requires.shifted (at (c.args.vars + 1) c.args.s.now c.args.a.now c.args.x (Some c.in-Some.x) c.in-Some.is c.requires.part) (sym c.is_truth.ensures ∙ c.if-is_truth.true) c.in_ok-proof.ensures

pub under_all-requires-clause-body : goal.under_all-requires-clause-body
under_all-requires-clause-body c = all_rest_handed c.args.vars c.args.r.now c.args.s.now c.args.a.now c.in-Some.x c.requires.shifted c.requires.handed (at (c.args.vars + 1) c.args.s.now c.args.a.now c.args.x (Some c.in-Some.x) c.in-Some.is c.requires.part)

pub generalized-requires-2-clause-bounded : goal.generalized-requires-2-clause-bounded
generalized-requires-2-clause-bounded c = all_kept_bounded c.args.vars c.args.r.now c.args.s.now c.args.a.now c.in_ok-rest.rest c.in-Some.x c.requires.shifted c.requires.handed (at (c.args.vars + 1) c.args.s.now c.args.a.now c.args.x (Some c.in-Some.x) c.in-Some.is c.requires.part) c.in_ok-rest.ensures

pub generalized-requires-2-clause-inner : goal.generalized-requires-2-clause-inner
generalized-requires-2-clause-inner c = all_kept_premise c.args.vars c.args.r.now c.args.s.now c.args.a.now c.in_ok-rest.rest c.in-Some.x c.in_ok-proof-2.proof c.requires.shifted (at (c.args.vars + 1) c.args.s.now c.args.a.now c.args.x (Some c.in-Some.x) c.in-Some.is c.requires.part) c.in_ok-rest.ensures c.in_ok-proof-2.ensures

pub returns : goal.returns
returns c = all_kept_done c.args.vars c.args.r.now c.args.s.now c.args.a.now c.in_ok-rest.rest c.in-Some.x c.in_ok-proof-2.proof c.in_ok-proof-3.proof c.requires.shifted (at (c.args.vars + 1) c.args.s.now c.args.a.now c.args.x (Some c.in-Some.x) c.in-Some.is c.requires.part) (sym c.is_truth.ensures ∙ c.if-is_truth.false) c.in_ok-rest.ensures c.in_ok-proof-2.ensures c.in_ok-proof-3.ensures
