use Rattle.std.proofs.Common.{List, ap}
use Rattle.pm_goal.specs.declared.work.Held.{Held}
use Rattle.pm_table.specs.Works.{work_of}
use Rattle.pm_intro.proofs.Openings.{opened_as}
use Rattle.pm_intro.proofs.witness.opened.Goals as goal

pub returns : goal.returns
returns c =
    let lift1 = c.in_ok-new.new in
    opened_as c.args.work.now lift1 (work_of lift1.goal c.push.new.self) c.args.kind c.args.name.now c.args.body.now c.in_ok-formula.formula c.in_ok-new.ensures c.in_ok-formula.ensures
    (ap (λ (hs : List Held). work_of lift1.goal hs) c.in_ok-push.ensures.ok)
