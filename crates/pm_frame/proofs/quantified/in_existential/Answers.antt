use Rattle.std.proofs.Common.{◌+◌, Some, None, sym, ◌∙◌}
use Rattle.pm_logic.specs.declared.formula.Formula.TheViews as view
use Rattle.pm_frame.proofs.Parts.{at}
use Rattle.pm_frame.proofs.Quantifying.{under_none, ex_body_handed, ex_bounded, ex_premise, ex_gone_premise, ex_kept_premise, ex_gone_answer, ex_kept_answer}
use Rattle.pm_frame.proofs.quantified.in_existential.Goals as goal

pub returns-in_default : goal.returns-in_default
returns-in_default c = under_none view.Ex c.args.vars c.args.r.now c.args.s.now c.args.a.now (view.Ex c.args.a.now) c.args.x c.requires.shifted c.requires.part c.in_default.is

pub under_ex-requires-clause-body : goal.under_ex-requires-clause-body
under_ex-requires-clause-body c = ex_body_handed c.args.vars c.args.r.now c.args.a.now c.requires.handed

pub eliminated-requires-clause-bounded : goal.eliminated-requires-clause-bounded
eliminated-requires-clause-bounded c = ex_bounded c.args.vars c.args.r.now c.args.a.now c.requires.handed

pub eliminated-requires-clause-inner : goal.eliminated-requires-clause-inner
eliminated-requires-clause-inner c = ex_premise c.args.vars c.args.r.now c.args.s.now c.args.a.now c.in-Some.x c.in_ok-proof.proof c.requires.shifted (at (c.args.vars + 1) c.args.s.now c.args.a.now c.args.x (Some c.in-Some.x) c.in-Some.is c.requires.part) c.in_ok-proof.ensures

pub ex_gone-requires-clause-inner : goal.ex_gone-requires-clause-inner
ex_gone-requires-clause-inner c = ex_gone_premise c.args.vars c.args.r.now c.args.s.now c.args.a.now c.in-Some.x c.in_ok-proof.proof c.in_ok-proof-2.proof (at (c.args.vars + 1) c.args.s.now c.args.a.now c.args.x (Some c.in-Some.x) c.in-Some.is c.requires.part) (sym c.is_truth.ensures ∙ c.if-is_truth.true) c.in_ok-proof.ensures c.in_ok-proof-2.ensures

pub returns-then-is_truth : goal.returns-then-is_truth
returns-then-is_truth c = ex_gone_answer c.args.vars c.args.r.now c.args.s.now c.args.a.now c.in-Some.x c.in_ok-proof.proof c.in_ok-proof-2.proof c.in_ok-proof-3.proof c.requires.shifted (at (c.args.vars + 1) c.args.s.now c.args.a.now c.args.x (Some c.in-Some.x) c.in-Some.is c.requires.part) (sym c.is_truth.ensures ∙ c.if-is_truth.true) c.in_ok-proof.ensures c.in_ok-proof-2.ensures c.in_ok-proof-3.ensures

pub ex_kept-requires : goal.ex_kept-requires
ex_kept-requires c = ex_kept_premise c.args.vars c.args.r.now c.args.s.now c.args.a.now c.in-Some.x c.in_ok-proof.proof c.in_ok-proof-2.proof (at (c.args.vars + 1) c.args.s.now c.args.a.now c.args.x (Some c.in-Some.x) c.in-Some.is c.requires.part) c.in_ok-proof.ensures c.in_ok-proof-2.ensures

pub returns : goal.returns
returns c = ex_kept_answer c.args.vars c.args.r.now c.args.s.now c.args.a.now c.in_ok-rest.rest c.in-Some.x c.in_ok-proof.proof c.in_ok-proof-2.proof c.in_ok-proof-4.proof c.requires.shifted (at (c.args.vars + 1) c.args.s.now c.args.a.now c.args.x (Some c.in-Some.x) c.in-Some.is c.requires.part) (sym c.is_truth.ensures ∙ c.if-is_truth.false) c.in_ok-rest.ensures c.in_ok-proof.ensures c.in_ok-proof-2.ensures c.in_ok-proof-4.ensures
