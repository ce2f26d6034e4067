use Rattle.std.proofs.Common.{◌∙◌, ap, refl, Some}
use Rattle.pm_hand.proofs.Lookups.{fact_looked}
use Rattle.pm_hand.proofs.looking.pure.Goals as goal

pub returns : goal.returns
returns c = fact_looked c.args.goal.now c.args.name.now c.requires.apart c.args.i c.in_ok-pure-in-Some.pure c.args.i c.requires.found (ap Some c.in_ok-pure-in-Some.ensures ∙ c.in-Some.ensures) refl
