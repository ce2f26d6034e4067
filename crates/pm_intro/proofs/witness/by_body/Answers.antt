use Rattle.std.proofs.Common.{ap, subst}
use Rattle.pm_logic.specs.declared.formula.Formula.{Formula}
use Rattle.pm_goal.specs.declared.work.Work.{Work}
use Rattle.pm_intro.specs.Variables.{IsOpened}
use Rattle.pm_intro.proofs.Openings.{opened_more, opened_count}
use Rattle.pm_intro.proofs.witness.by_body.Goals as goal

pub under-requires-clause-more : goal.under-requires-clause-more
under-requires-clause-more c = opened_more c.args.work.now c.args.new.now c.args.kind c.args.name.now c.args.body.now c.in_ok-part.part c.requires.new c.in_ok-part.ensures

pub under-requires-clause-vars : goal.under-requires-clause-vars
under-requires-clause-vars c = opened_count c.args.work.now c.args.new.now c.args.kind c.args.name.now c.args.body.now c.requires.new

pub under-requires-clause-concl : goal.under-requires-clause-concl
under-requires-clause-concl c = ap (λ (x : Work). x.goal.concl) c.requires.new

pub closed-requires-clause-more : goal.closed-requires-clause-more
closed-requires-clause-more c = opened_more c.args.work.now c.args.new.now c.args.kind c.args.name.now c.args.body.now c.in_ok-part.part c.requires.new c.in_ok-part.ensures

pub closed-requires-clause-vars : goal.closed-requires-clause-vars
closed-requires-clause-vars c = opened_count c.args.work.now c.args.new.now c.args.kind c.args.name.now c.args.body.now c.requires.new

pub closed-requires-clause-concl : goal.closed-requires-clause-concl
closed-requires-clause-concl c = ap (λ (x : Work). x.goal.concl) c.requires.new

pub returns : goal.returns
returns c = subst (λ (x : Formula). IsOpened c.args.work.now x c.args.new.now c.in_ok-proof.proof) c.in_ok-part.ensures c.in_ok-proof.ensures
