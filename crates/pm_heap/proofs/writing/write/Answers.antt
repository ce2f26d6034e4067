use Rattle.std.proofs.Common.{◌+◌, sym, ◌∙◌, subst}
use Rattle.pm_logic.specs.Size.{term_nodes}
use Rattle.pm_table.specs.Limits.{all_nodes, work_formulas}
use Rattle.pm_heap.specs.Found.{SpatialAt}
use Rattle.pm_heap.proofs.Written.{write_missing, write_not_spatial, write_given}
use Rattle.pm_heap.proofs.writing.write.Goals as goal

pub returns-then-not-is_hypothesis : goal.returns-then-not-is_hypothesis
returns-then-not-is_hypothesis c =
    write_missing (all_nodes (work_formulas c.args.work.now) + term_nodes c.args.term.now) c.args.work.now c.args.name.now c.args.term.now c.refuse.result c.requires.nothing
    (sym c.is_hypothesis.ensures ∙ c.if-not-is_hypothesis.true) c.refuse.ensures

pub write_at-requires-clause-at : goal.write_at-requires-clause-at
write_at-requires-clause-at c = subst (SpatialAt c.args.work.now.goal c.args.name.now) c.in-Some.is c.in_ok-found.ensures

pub returns-in-Some : goal.returns-in-Some
returns-in-Some c =
    write_given (all_nodes (work_formulas c.args.work.now) + term_nodes c.args.term.now) c.args.work.now c.args.name.now c.args.term.now c.in-Some.spatial.formula c.in-Some.spatial.place c.write_at.result c.requires.nothing
    (sym c.is_hypothesis.ensures ∙ c.if-not-is_hypothesis.false) (subst (SpatialAt c.args.work.now.goal c.args.name.now) c.in-Some.is c.in_ok-found.ensures) c.write_at.ensures

pub returns-in-None : goal.returns-in-None
returns-in-None c =
    write_not_spatial (all_nodes (work_formulas c.args.work.now) + term_nodes c.args.term.now) c.args.work.now c.args.name.now c.args.term.now c.refuse-in-None.result c.requires.nothing
    (sym c.is_hypothesis.ensures ∙ c.if-not-is_hypothesis.false) (subst (SpatialAt c.args.work.now.goal c.args.name.now) c.in-None.is c.in_ok-found.ensures) c.refuse-in-None.ensures
