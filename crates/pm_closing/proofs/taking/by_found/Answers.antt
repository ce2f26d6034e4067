use Rattle.pm_closing.proofs.Taken.{found_counted, found_acted}
use Rattle.pm_closing.proofs.taking.by_found.Goals as goal

pub returns : goal.returns
returns c =
    let gives = found_counted c.args.work.now c.args.found c.len.result c.in_ok-step.step c.len.ensures c.in_ok-step.ensures in
    found_acted c.args.work.now c.args.found c.in_ok-part.part c.in_ok-step.step c.in_ok-proof.proof c.requires.found c.in_ok-part.ensures gives c.in_ok-proof.ensures.proves
