use Rattle.std.proofs.Common.{sym, ◌∙◌, ap}
use Rattle.pm_rules.specs.declared.rules.Entail.{Entail}
use Rattle.pm_basic.proofs.Splits.{joined_done}
use Rattle.pm_basic.proofs.splitting.joined.Goals as goal

pub compose-requires-clause-vars : goal.compose-requires-clause-vars
compose-requires-clause-vars c = ap (λ (e : Entail). e.vars) c.requires.closing ∙ (sym c.len-vars.ensures ∙ sym (ap (λ (e : Entail). e.vars) c.in_ok-both.ensures.concludes))

pub compose-requires-clause-meet : goal.compose-requires-clause-meet
compose-requires-clause-meet c = ap (λ (e : Entail). e.left) c.requires.closing ∙ sym (ap (λ (e : Entail). e.right) c.in_ok-both.ensures.concludes)

pub returns : goal.returns
returns c =
    joined_done c.args.work.now c.args.first.now c.args.second.now c.in_ok-left.left c.len-vars.result c.args.closing c.in_ok-both.both c.in_ok-proof.proof
    c.len-vars.ensures c.in_ok-left.ensures c.in_ok-both.ensures c.in_ok-proof.ensures.proves
