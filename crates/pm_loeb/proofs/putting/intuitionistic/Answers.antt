use Rattle.std.proofs.Common.{◌+◌, ◌∙◌, ap, Some}
use Rattle.pm_loeb.proofs.Puttings.{int_there}
use Rattle.pm_loeb.proofs.putting.intuitionistic.Goals as goal

pub returns : goal.returns
returns c =
    int_there c.args.name.now c.args.goal.now c.requires.apart c.args.i c.in_ok-formula-in-Some.formula (c.len.result + c.args.i) c.requires.found
    (ap Some c.in_ok-formula-in-Some.ensures ∙ c.in-Some.ensures) (ap (λ a. a + c.args.i) c.len.ensures)
