use Rattle.std.proofs.Common.{◌+◌, ◌∙◌, ap, Some}
use Rattle.pm_hand.proofs.Lookups.{int_looked}
use Rattle.pm_hand.proofs.looking.intuitionistic.Goals as goal

pub returns : goal.returns
returns c =
    int_looked c.args.goal.now c.args.name.now c.requires.apart c.args.i c.in_ok-formula-in-Some.formula (c.len.result + c.args.i) c.requires.found
    (ap Some c.in_ok-formula-in-Some.ensures ∙ c.in-Some.ensures) (ap (λ a. a + c.args.i) c.len.ensures)
