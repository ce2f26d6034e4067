use Rattle.std.proofs.Common.{ℕ, length, sym, subst, Option}
use Rattle.pm_classes.specs.Entries.{IsHanded as IsFormulaHanded}
use Rattle.pm_classes.specs.declared.entry.One.{One}
use Rattle.pm_table.specs.Destructs as table
use Rattle.pm_table.specs.Limits.{all_nodes, work_formulas}
use Rattle.pm_intro.specs.Hands.{hand_at, BodyAnswer}
use Rattle.pm_intro.specs.Pairs.{fourth, other_ways}
use Rattle.pm_intro.proofs.Handed.{last_handed}
use Rattle.pm_intro.proofs.ByKind.{body_proof}
use Rattle.pm_intro.proofs.Answered.{follows}
use Rattle.pm_intro.proofs.Ways.{ways_bodiless, ways_body}
use Rattle.pm_intro.proofs.pairing.with_name.Goals as goal

pub into_body-requires : goal.into_body-requires
into_body-requires c = subst (λ (k : ℕ). IsFormulaHanded k c.args.held.now.formula) (sym c.len-vars.ensures) (last_handed c.args.work.now c.args.held.now c.requires.last c.requires.handed)

pub returns-in_default : goal.returns-in_default
returns-in_default c =
    let w = c.args.work.now in
    let h = c.args.held.now in
    follows (all_nodes (work_formulas w)) w (fourth w (hand_at w h) c.args.p.now c.args.q.now) (other_ways w (hand_at w h) c.args.p.now c.args.q.now) c.fourth_way.result
    (ways_bodiless w h c.args.p.now c.args.q.now c.args.name.now c.requires.named (subst (λ (o : Option One). BodyAnswer h.kind (length w.goal.vars) h.formula o) c.in_default.is (subst (λ (k : ℕ). BodyAnswer h.kind k h.formula c.in_ok-entry.field-0) c.len-vars.ensures c.in_ok-entry.ensures))) c.fourth_way.ensures

pub body_held-requires-clause-says : goal.body_held-requires-clause-says
body_held-requires-clause-says c =
    let w = c.args.work.now in
    let h = c.args.held.now in
    body_proof h.kind (length w.goal.vars) h.formula c.in-Some.entry (subst (λ (o : Option One). BodyAnswer h.kind (length w.goal.vars) h.formula o) c.in-Some.is (subst (λ (k : ℕ). BodyAnswer h.kind k h.formula c.in_ok-entry.field-0) c.len-vars.ensures c.in_ok-entry.ensures))

pub returns : goal.returns
returns c =
    let w = c.args.work.now in
    let h = c.args.held.now in
    follows (all_nodes (work_formulas w)) w (table.body_held w (hand_at w h) c.args.name.now c.in-Some.entry.formula) (other_ways w (hand_at w h) c.args.p.now c.args.q.now) c.body_held.result
    (ways_body w h c.args.p.now c.args.q.now c.args.name.now c.in-Some.entry c.requires.named (subst (λ (o : Option One). BodyAnswer h.kind (length w.goal.vars) h.formula o) c.in-Some.is (subst (λ (k : ℕ). BodyAnswer h.kind k h.formula c.in_ok-entry.field-0) c.len-vars.ensures c.in_ok-entry.ensures))) c.body_held.ensures
