use Rattle.std.proofs.Common.{◌≡◌, Some, ◌∙◌, refl, subst, rules}
use Rattle.pm_run.specs.Runs.{lemma_rows, opened}
use Rattle.pm_run.proofs.Doings.{refused_is, kept_open, lemma_opened}
use Rattle.pm_run.proofs.running.Running.lemma.Goals as goal

pub returns-in-Some : goal.returns-in-Some
returns-in-Some c = λ s k sayable.
    let is : c.lemma_row.result ≡ Some c.in-Some.row = search rules in
    let rows = c.lemma_row.ensures s c.args.name c.args.statement c.nodes-all.ensures c.depth-deepest.ensures (kept_open c.args.self.now s k) (c.is_used-used.ensures ∙ k.names_are c.args.name) k.lemmas_are in
    refused_is c.args.name (lemma_rows s c.args.name c.args.statement) (opened s c.args.name c.args.statement) c.args.self.now c.args.self.now c.refused.result c.in-Some.row c.refused.ensures (subst (lemma_rows s c.args.name c.args.statement) is rows) refl

pub returns-in_ok-opened-in-None : goal.returns-in_ok-opened-in-None
returns-in_ok-opened-in-None c = λ s k sayable.
    let rows = c.lemma_row.ensures s c.args.name c.args.statement c.nodes-all.ensures c.depth-deepest.ensures (kept_open c.args.self.now s k) (c.is_used-used.ensures ∙ k.names_are c.args.name) k.lemmas_are in
    lemma_opened c.args.self.now s c.args.name c.args.statement c.in_ok-opened-in-None.field-0 k sayable c.in_ok-opened-in-None.ensures (subst (lemma_rows s c.args.name c.args.statement) c.in-None.is rows)
