use Rattle.std.proofs.Common.{sym, subst, ◌∙◌, Some}
use Rattle.pm_top.specs.declared.command.Command.TheVariants.{Check}
use Rattle.pm_top.specs.declared.status.Status.TheVariants as status
use Rattle.pm_top.proofs.Leaving.{leaves}
use Rattle.pm_top.specs.Leaves.{IsAnswer}
use Rattle.pm_top.proofs.Offences.{checked_names, told_answers, told_not_done, defines_told, defines_accepted, accepted_shallow}
use Rattle.pm_top.proofs.program.check_command.Goals as goal

pub accepted-requires : goal.accepted-requires
accepted-requires g c = accepted_shallow _ _ _ c.in-Ok.is c.check.ensures.checked

pub returns-in-Ok-accepted-clause-output : goal.returns-in-Ok-accepted-clause-output
returns-in-Ok-accepted-clause-output g c = leaves (Some Check) _ _ _ status.Done _ _ (defines_accepted _ _ _ _ c.in-Ok.is c.check.ensures.checked (c.as_slice.ensures ∙ c.in-Ok-accepted.ensures)) c.say.ensures.not_read c.say.ensures.whole c.say.ensures.front

pub offence-requires : goal.offence-requires
offence-requires g c = checked_names _ _ _ c.in-Err.is c.check.ensures.checked

pub say-requires-in-Ok-offence : goal.say-requires-in-Ok-offence
say-requires-in-Ok-offence g c = told_answers _ _ c.in-Ok-offence.ensures.0 c.in-Ok-offence.ensures.1

pub returns-in-Ok-offence-clause-output : goal.returns-in-Ok-offence-clause-output
returns-in-Ok-offence-clause-output g c = leaves (Some Check) _ _ _ _ _ _ (defines_told _ _ _ _ _ c.in-Err.is c.check.ensures.checked c.in-Ok-offence.ensures.0 c.in-Ok-offence.ensures.1 (c.as_slice-in-Ok-offence.ensures ∙ c.in-Ok-offence.ensures.2)) c.say-in-Ok-offence.ensures.not_read c.say-in-Ok-offence.ensures.whole c.say-in-Ok-offence.ensures.front

pub returns-in-Ok-offence-clause-end : goal.returns-in-Ok-offence-clause-end
returns-in-Ok-offence-clause-end g c done =
    absurd (told_not_done _ _ c.in-Ok-offence.ensures.0 c.in-Ok-offence.ensures.1 (sym (c.say-in-Ok-offence.ensures.whole (subst IsAnswer (sym done) tt)).0 ∙ done))
