use Rattle.std.proofs.Common.{ℕ, length, sym, subst, Option}
use Rattle.pm_classes.specs.Entries.{IsHanded as IsFormulaHanded}
use Rattle.pm_classes.specs.declared.entry.Pair.{Pair}
use Rattle.pm_goal.specs.declared.refusal.Row.TheVariants.{NotAlternatives}
use Rattle.pm_table.specs.Destructs as table
use Rattle.pm_table.specs.Outcomes.{gives}
use Rattle.pm_table.specs.Works.{holding}
use Rattle.pm_table.specs.Limits.{all_nodes, work_formulas}
use Rattle.std.specs.Prelude.{[], ◌∷◌}
use Rattle.pm_intro.specs.Cases.{cases}
use Rattle.pm_intro.specs.Hands.{kept, CasesAnswer}
use Rattle.pm_intro.proofs.Handed.{last_handed}
use Rattle.pm_intro.proofs.ByKind.{cases_proof}
use Rattle.pm_intro.proofs.Answered.{follows, refuses_plain}
use Rattle.pm_intro.proofs.Alternatives.{either_row, either_refused}
use Rattle.pm_intro.proofs.cases.either.Goals as goal

pub into_cases-requires : goal.into_cases-requires
into_cases-requires c = subst (λ (k : ℕ). IsFormulaHanded k c.last-held.result.now.formula) (sym c.len-vars.ensures) (last_handed c.args.work.now c.last-held.result.now c.last-held.ensures c.requires.handed)

pub returns-in_default : goal.returns-in_default
returns-in_default c =
    let w = c.args.work.now in
    let h = c.last-held.result.now in
    refuses_plain (all_nodes (work_formulas w)) w (table.either w) NotAlternatives c.refuse_plain.result
    (either_refused w h c.last-held.ensures (subst (λ (o : Option Pair). CasesAnswer h.kind (length w.goal.vars) h.formula o) c.in_default.is (subst (λ (k : ℕ). CasesAnswer h.kind k h.formula c.in_ok-entry.field-0) c.len-vars.ensures c.in_ok-entry.ensures))) c.refuse_plain.ensures

pub alternatives-requires-clause-says : goal.alternatives-requires-clause-says
alternatives-requires-clause-says c =
    let w = c.args.work.now in
    let h = c.last-held.result.now in
    cases_proof h.kind (length w.goal.vars) h.formula c.in-Some.entry (subst (λ (o : Option Pair). CasesAnswer h.kind (length w.goal.vars) h.formula o) c.in-Some.is (subst (λ (k : ℕ). CasesAnswer h.kind k h.formula c.in_ok-entry.field-0) c.len-vars.ensures c.in_ok-entry.ensures))

pub returns : goal.returns
returns c =
    let w = c.args.work.now in
    let h = c.last-held.result.now in
    follows (all_nodes (work_formulas w)) w (gives (cases (kept w (holding h.kind c.in-Some.entry.first ∷ [])) (kept w (holding h.kind c.in-Some.entry.second ∷ [])))) (table.either w) c.alternatives.result
    (either_row w h c.in-Some.entry c.last-held.ensures (subst (λ (o : Option Pair). CasesAnswer h.kind (length w.goal.vars) h.formula o) c.in-Some.is (subst (λ (k : ℕ). CasesAnswer h.kind k h.formula c.in_ok-entry.field-0) c.len-vars.ensures c.in_ok-entry.ensures))) c.alternatives.ensures
