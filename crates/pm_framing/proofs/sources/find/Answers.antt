use Rattle.std.proofs.Common.{◌∙◌, ap, subst, Some}
use Rattle.pm_hand.specs.Looking.{LookedUp}
use Rattle.pm_framing.proofs.Found.{none_found}
use Rattle.pm_framing.proofs.sources.find.Goals as goal

pub hypothesis-requires : goal.hypothesis-requires
hypothesis-requires c = subst (LookedUp c.args.work.now.goal c.args.name.now) (c.in-Some-Hyp.is ∙ ap Some c.in-Some-Hyp.field-0-is) c.in_ok-found.ensures

pub fact-requires : goal.fact-requires
fact-requires c = subst (LookedUp c.args.work.now.goal c.args.name.now) (c.in-Some-Fact.is ∙ ap Some c.in-Some-Fact.field-0-is) c.in_ok-found.ensures

pub returns-in-None : goal.returns-in-None
returns-in-None c = none_found c.args.work.now.goal c.args.name.now (subst (LookedUp c.args.work.now.goal c.args.name.now) c.in-None.is c.in_ok-found.ensures)
