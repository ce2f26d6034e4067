use Rattle.std.proofs.Common.{◌+◌, ◌∙◌, ap}
use Rattle.pm_logic.specs.declared.formula.Formula.{Formula}
use Rattle.pm_logic.specs.declared.formula.Formula.TheVariants.{Pts}
use Rattle.pm_logic.specs.declared.formula.TheConstants.{UNIT}
use Rattle.pm_logic.specs.Size.{term_nodes}
use Rattle.pm_table.specs.Heap as table
use Rattle.pm_table.specs.Limits.{all_nodes, work_formulas, resting}
use Rattle.pm_heap.proofs.Written.{write_ends}
use Rattle.pm_heap.proofs.writing.write_under.Goals as goal

pub write_proof-requires-clause-new : goal.write_proof-requires-clause-new
write_proof-requires-clause-new c = c.in_ok-new.ensures ∙ ap (λ (f : Formula). resting (table.put c.args.name.now f c.args.work.now.goal)) c.in_ok-part.ensures

pub returns : goal.returns
returns c =
    write_ends (all_nodes (work_formulas c.args.work.now) + term_nodes c.args.term.now) c.args.work.now c.in_ok-new.new c.args.name.now (Pts c.args.loc.now UNIT c.args.term.now) c.in_ok-proof.proof c.finish_one.result
    (c.in_ok-new.ensures ∙ ap (λ (f : Formula). resting (table.put c.args.name.now f c.args.work.now.goal)) c.in_ok-part.ensures) c.in_ok-proof.ensures c.finish_one.ensures
