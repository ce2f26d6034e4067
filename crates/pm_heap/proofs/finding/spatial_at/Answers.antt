use Rattle.std.proofs.Common.{◌+◌, ◌∙◌, ap, ap₂, Some}
use Rattle.pm_heap.proofs.Rewritten.{spatial_is}
use Rattle.pm_heap.proofs.finding.spatial_at.Goals as goal

pub returns : goal.returns
returns c =
    spatial_is c.args.goal.now c.args.name.now c.requires.apart c.args.i c.in_ok-formula-in-Some.formula (c.len.result + c.len-in-Some.result + c.args.i) c.requires.found
    (ap Some c.in_ok-formula-in-Some.ensures ∙ c.in-Some.ensures) (ap₂ (λ a b. a + b + c.args.i) c.len.ensures c.len-in-Some.ensures)
