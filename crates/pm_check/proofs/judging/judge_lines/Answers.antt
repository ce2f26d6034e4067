use Rattle.std.proofs.Common.{◌≢◌, [], arith, rules}
use Rattle.std.proofs.lemmas.Grind.{common_steps}
use Rattle.pm_check.proofs.Lines.{progress_fault, progress_refused}
use Rattle.pm_check.proofs.judging.judge_lines.Goals as goal

pub returns-in-Err : goal.returns-in-Err
returns-in-Err c =
    let some : c.loop-rest.rest.now ≢ [] = grind (arith, common_steps) in
    progress_fault c.args.text.now c.loop-rest.rest.now c.args.preds c.loop-rest.kept c.len-before.result c.in-Err.fault _ c.loop-rest.invariant some (search rules) c.in-Err.ensures c.line_fault.ensures

pub returns-in-Err-take : goal.returns-in-Err-take
returns-in-Err-take c = progress_refused c.args.text.now c.loop-rest.rest.now c.in-Ok.read.1.now c.args.preds c.loop-rest.kept c.take.new.self c.len-before.result c.in-Ok.read.0 c.in-Err-take.fault c.lines_are_read.ensures c.loop-rest.invariant c.in-Ok.ensures (search rules) c.in-Err-take.ensures
