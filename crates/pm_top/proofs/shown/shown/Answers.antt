use Rattle.std.proofs.Common.{◌≡◌, ◌++◌, ◌∙◌, ap, List, rules}
use Rattle.std.specs.Prelude.{ℕ}
use Rattle.pm_top.specs.Shown.{proof_text}
use Rattle.pm_top.proofs.ShownAnswers.{halted_shallow, halted_shows}
use Rattle.pm_top.proofs.shown.shown.Goals as goal

pub add_proof-requires : goal.add_proof-requires
add_proof-requires c = halted_shallow c.args.bytes.now c.in_ok-preds.field-0 c.in_ok-preds.ensures

pub returns : goal.returns
returns c =
    let h = c.in_ok-preds.field-0 in
    let first : c.add_proof.new.text ≡ proof_text h.preds.list h.goals = c.in_ok-add_proof.ensures ∙ ap (λ (t : List ℕ). t ++ proof_text h.preds.list h.goals) c.new-text.ensures in
    let whole : c.extend.new.self ≡ c.add_proof.new.text ++ c.in_ok-status.line = search rules in
    halted_shows c.args.bytes.now h c.in_ok-status.status c.add_proof.new.text c.in_ok-status.line c.extend.new.self c.in_ok-preds.ensures first c.in_ok-status.ensures.0 c.in_ok-status.ensures.1 whole
