use Rattle.std.proofs.Common.{ap, Err, Some}
use Rattle.pm_io.specs.Taken.{HasMoreThan}
use Rattle.pm_top.specs.Answers.{too_long_line}
use Rattle.pm_top.specs.declared.status.Status.TheVariants as status
use Rattle.pm_top.proofs.Leaving.{leaves, defines_long}
use Rattle.pm_top.proofs.program.script_command.Goals as goal

pub returns-in-Err-Long-clause-output : goal.returns-in-Err-Long-clause-output
returns-in-Err-Long-clause-output g c =
    let long : HasMoreThan (g.S.Source.left c.args.source.now) 16777216 = c.in-Err-Long.ensures.long (ap Err c.in-Err-Long.field-0-is) in
    leaves (Some c.args.command) _ _ _ status.TooLong _ too_long_line (defines_long c.args.command c.requires _ long) c.say.ensures.not_read c.say.ensures.whole c.say.ensures.front
