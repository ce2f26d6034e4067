use Rattle.std.proofs.Common.{ap, ◌∙◌}
use Rattle.pm_rules.specs.declared.rules.Entail.{Entail}
use Rattle.pm_pure.proofs.Facts.{facts_reached}
use Rattle.pm_pure.proofs.proving.to_facts.Goals as goal

pub behind_all-requires : goal.behind_all-requires
behind_all-requires c = ap (λ (e : Entail). e.vars) c.in_ok-inner.ensures.concludes

pub returns : goal.returns
returns c = facts_reached c.args.work.now c.len-vars.result c.as_slice.result.now c.in_ok-inner.inner c.in_ok-proof.proof c.requires.nothing c.len-vars.ensures (c.as_slice.ensures ∙ c.in_ok-parts.ensures) c.in_ok-inner.ensures c.in_ok-proof.ensures
