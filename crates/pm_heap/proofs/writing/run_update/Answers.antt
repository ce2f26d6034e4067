use Rattle.std.proofs.Common.{length, ◌∙◌, sym, ap, ap₂}
use Rattle.pm_logic.specs.declared.formula.Formula.TheViews as view
use Rattle.pm_goal.specs.Left.{left_of_work}
use Rattle.pm_proof.specs.Trees.{entail}
use Rattle.pm_heap.proofs.Updated.{runs_to}
use Rattle.pm_heap.proofs.writing.run_update.Goals as goal

pub run_beside-requires-clause-update : goal.run_beside-requires-clause-update
run_beside-requires-clause-update c = c.requires.update ∙ ap (λ n. entail n c.args.old.now (view.Upd c.args.part.now)) (sym c.len-vars.ensures)

pub run_beside-requires-clause-follows : goal.run_beside-requires-clause-follows
run_beside-requires-clause-follows c =
    c.in_ok-follows.ensures.concludes ∙ ap₂ (λ n r. entail n (view.Sep c.args.part.now (left_of_work c.args.rest.now)) r) (sym c.len-vars.ensures) c.requires.concl
    ∙ ap (λ l. entail c.len-vars.result (view.Sep c.args.part.now l) (view.Upd c.args.q.now)) (sym c.in_ok-star.ensures)

pub returns : goal.returns
returns c =
    runs_to c.args.rest.now c.args.new.now c.args.part.now c.args.place c.requires.vars c.requires.more c.len-vars.result c.args.old.now c.args.q.now c.in_ok-star.star c.args.update c.in_ok-follows.follows c.in_ok-proof.proof
    c.len-vars.ensures c.in_ok-star.ensures c.requires.concl c.in_ok-follows.ensures c.in_ok-proof.ensures
