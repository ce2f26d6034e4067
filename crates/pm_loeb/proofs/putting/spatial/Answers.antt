use Rattle.std.proofs.Common.{◌+◌, ◌∙◌, ap, ap₂, Some}
use Rattle.pm_loeb.proofs.Puttings.{spat_there}
use Rattle.pm_loeb.proofs.putting.spatial.Goals as goal

pub returns : goal.returns
returns c =
    spat_there c.args.name.now c.args.goal.now c.requires.apart c.args.i c.in_ok-formula-in-Some.formula (c.len.result + c.len-in-Some.result + c.args.i) c.requires.found
    (ap Some c.in_ok-formula-in-Some.ensures ∙ c.in-Some.ensures) (ap₂ (λ a b. a + b + c.args.i) c.len.ensures c.len-in-Some.ensures)
