use Rattle.std.proofs.Common.{subst}
use Rattle.pm_rules.specs.declared.rules.Entail.{Entail}
use Rattle.pm_samples.proofs.Whole.{Stating, stated_whole}
use Rattle.pm_samples.proofs.stating.stated.Goals as goal

pub returns : goal.returns
returns c =
    stated_whole c.args.proof c.in_ok-open.open c.fill.result c.requires (subst (λ (e : Entail). Stating e.left e.right c.in_ok-open.open) c.conclusion-e.ensures c.in_ok-open.ensures) c.fill.ensures.proves
