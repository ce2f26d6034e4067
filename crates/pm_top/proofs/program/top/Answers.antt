use Rattle.std.proofs.Common.{◌≡◌, None, Some, rules}
use Rattle.pm_top.specs.Answers.{command_of, usage_line, Defines.usage}
use Rattle.pm_top.specs.declared.command.Command.TheVariants.{Check, Run, Goals}
use Rattle.pm_top.specs.declared.status.Status.TheVariants as status
use Rattle.pm_top.proofs.Leaving.{leaves, at_command, is_defined, leaves_truth}
use Rattle.pm_top.proofs.program.top.Goals as goal

pub returns-in-None-clause-output : goal.returns-in-None-clause-output
returns-in-None-clause-output g c =
    let none : command_of c.args.words.now.items ≡ None = search rules in
    at_command None _ _ _ _ _ none (leaves None _ _ _ status.Usage _ usage_line (usage _) c.say.ensures.not_read c.say.ensures.whole c.say.ensures.front)

pub returns-in-None-clause-defined : goal.returns-in-None-clause-defined
returns-in-None-clause-defined g c = is_defined _ _ _ _ _ (returns-in-None-clause-output g c)

pub returns-in-Some-Check-clause-output : goal.returns-in-Some-Check-clause-output
returns-in-Some-Check-clause-output g c =
    let is : command_of c.args.words.now.items ≡ Some Check = search rules in
    at_command (Some Check) _ _ _ _ _ is c.check_command.ensures.output

pub returns-in-Some-Check-clause-defined : goal.returns-in-Some-Check-clause-defined
returns-in-Some-Check-clause-defined g c = is_defined _ _ _ _ _ (returns-in-Some-Check-clause-output g c)

pub returns-in-Some-Check-clause-truth : goal.returns-in-Some-Check-clause-truth
returns-in-Some-Check-clause-truth g c done = leaves_truth _ _ _ _ _ (returns-in-Some-Check-clause-output g c) done

pub returns-in-Some-Run-clause-output : goal.returns-in-Some-Run-clause-output
returns-in-Some-Run-clause-output g c =
    let is : command_of c.args.words.now.items ≡ Some Run = search rules in
    at_command (Some Run) _ _ _ _ _ is c.script_command.ensures.output

pub returns-in-Some-Run-clause-defined : goal.returns-in-Some-Run-clause-defined
returns-in-Some-Run-clause-defined g c = is_defined _ _ _ _ _ (returns-in-Some-Run-clause-output g c)

pub returns-in-Some-Run-clause-truth : goal.returns-in-Some-Run-clause-truth
returns-in-Some-Run-clause-truth g c done = leaves_truth _ _ _ _ _ (returns-in-Some-Run-clause-output g c) done

pub returns-in-Some-Goals-clause-output : goal.returns-in-Some-Goals-clause-output
returns-in-Some-Goals-clause-output g c =
    let is : command_of c.args.words.now.items ≡ Some Goals = search rules in
    at_command (Some Goals) _ _ _ _ _ is c.script_command-in-Some-Goals.ensures.output

pub returns-in-Some-Goals-clause-defined : goal.returns-in-Some-Goals-clause-defined
returns-in-Some-Goals-clause-defined g c = is_defined _ _ _ _ _ (returns-in-Some-Goals-clause-output g c)

pub returns-in-Some-Goals-clause-truth : goal.returns-in-Some-Goals-clause-truth
returns-in-Some-Goals-clause-truth g c done = leaves_truth _ _ _ _ _ (returns-in-Some-Goals-clause-output g c) done
