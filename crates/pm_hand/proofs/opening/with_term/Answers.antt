use Rattle.std.proofs.Common.{◌≡◌, ◌+◌, length, sym, subst, Some, None}
use Rattle.pm_logic.specs.Size.{term_nodes}
use Rattle.pm_table.specs.Limits.{all_nodes, work_formulas}
use Rattle.pm_classes.specs.Entries.{IsHanded, ForallAnswer}
use Rattle.pm_hand.proofs.Openings.{entry_handed, by_row, no_universal}
use Rattle.pm_hand.proofs.opening.with_term.Goals as goal

pub into_forall-requires : goal.into_forall-requires
into_forall-requires c = subst (λ v. IsHanded v c.last-held.result.now.formula) (sym c.len-vars.ensures) (entry_handed c.args.work.now c.last-held.result.now c.requires.handed c.last-held.ensures)

pub open_last-requires-clause-entry : goal.open_last-requires-clause-entry
open_last-requires-clause-entry c =
    let found = subst (λ v. ForallAnswer v c.last-held.result.now.formula c.in_ok-found.found) c.len-vars.ensures c.in_ok-found.ensures in
    subst (ForallAnswer (length c.args.work.now.goal.vars) c.last-held.result.now.formula) c.in-Some.is found

pub returns-in-Some : goal.returns-in-Some
returns-in-Some c = by_row (all_nodes (work_formulas c.args.work.now) + term_nodes c.args.t.now) c.args.work.now c.last-held.result.now c.args.t.now c.open_last.result c.last-held.ensures c.open_last.ensures
