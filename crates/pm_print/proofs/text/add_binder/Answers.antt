use Rattle.std.proofs.Common.{◌∙◌}
use Rattle.pm_print.proofs.Named.{binder_joined}
use Rattle.pm_print.proofs.text.add_binder.Goals as goal

pub returns : goal.returns
returns c = binder_joined _ _ _ _ _ _ c.in_ok-push.ensures.ok (c.as_bytes.ensures.value ∙ c.format.ensures.text) c.add.ensures
