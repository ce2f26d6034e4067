use Rattle.std.proofs.Common.{◌∙◌}
use Rattle.pm_write.proofs.Wording.{one, cited_text}
use Rattle.pm_write.proofs.lines.put_cited.Goals as goal

pub returns-in_ok-format-in-Some : goal.returns-in_ok-format-in-Some
returns-in_ok-format-in-Some c = one _ _ _ _ _ c.put.ensures (cited_text _ _ _ c.in-Some.is (c.as_str.ensures.value ∙ c.in_ok-format-in-Some.ensures.ok))
