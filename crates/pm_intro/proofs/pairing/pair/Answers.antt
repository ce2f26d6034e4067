use Rattle.std.proofs.Common.{ℕ, length, sym, subst, Option}
use Rattle.pm_classes.specs.Entries.{IsHanded as IsFormulaHanded}
use Rattle.pm_classes.specs.declared.entry.Pair.{Pair}
use Rattle.pm_classes.specs.Classes.{parts}
use Rattle.pm_table.specs.Destructs as table
use Rattle.pm_table.specs.Limits.{all_nodes, work_formulas}
use Rattle.pm_intro.specs.Hands.{hand_at, PartsAnswer}
use Rattle.pm_intro.specs.Pairs.{other_ways}
use Rattle.pm_intro.proofs.Handed.{last_handed}
use Rattle.pm_intro.proofs.ByKind.{parts_proof}
use Rattle.pm_intro.proofs.Answered.{follows}
use Rattle.pm_intro.proofs.Ways.{row_parts, row_others}
use Rattle.pm_intro.proofs.pairing.pair.Goals as goal

pub into_parts-requires : goal.into_parts-requires
into_parts-requires c = subst (λ (k : ℕ). IsFormulaHanded k c.last-held.result.now.formula) (sym c.len-vars.ensures) (last_handed c.args.work.now c.last-held.result.now c.last-held.ensures c.requires.handed)

pub both_parts-requires-clause-says : goal.both_parts-requires-clause-says
both_parts-requires-clause-says c =
    let w = c.args.work.now in
    let h = c.last-held.result.now in
    parts_proof h.kind (length w.goal.vars) h.formula c.in-Some.entry (subst (λ (o : Option Pair). PartsAnswer h.kind (length w.goal.vars) h.formula o) c.in-Some.is (subst (λ (k : ℕ). PartsAnswer h.kind k h.formula c.in_ok-entry.field-0) c.len-vars.ensures c.in_ok-entry.ensures))

pub returns : goal.returns
returns c =
    let w = c.args.work.now in
    let h = c.last-held.result.now in
    follows (all_nodes (work_formulas w)) w (table.both_parts w (hand_at w h) (parts c.in-Some.entry.first c.in-Some.entry.second)) (table.pair c.args.p.now c.args.q.now w) c.both_parts.result
    (row_parts w h c.args.p.now c.args.q.now c.in-Some.entry c.last-held.ensures (subst (λ (o : Option Pair). PartsAnswer h.kind (length w.goal.vars) h.formula o) c.in-Some.is (subst (λ (k : ℕ). PartsAnswer h.kind k h.formula c.in_ok-entry.field-0) c.len-vars.ensures c.in_ok-entry.ensures))) c.both_parts.ensures

pub returns-in_default : goal.returns-in_default
returns-in_default c =
    let w = c.args.work.now in
    let h = c.last-held.result.now in
    follows (all_nodes (work_formulas w)) w (other_ways w (hand_at w h) c.args.p.now c.args.q.now) (table.pair c.args.p.now c.args.q.now w) c.other_ways.result
    (row_others w h c.args.p.now c.args.q.now c.last-held.ensures (subst (λ (o : Option Pair). PartsAnswer h.kind (length w.goal.vars) h.formula o) c.in_default.is (subst (λ (k : ℕ). PartsAnswer h.kind k h.formula c.in_ok-entry.field-0) c.len-vars.ensures c.in_ok-entry.ensures))) c.other_ways.ensures
