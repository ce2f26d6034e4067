use Rattle.std.proofs.Common.{◌∙◌, ap}
use Rattle.pm_logic.specs.declared.formula.Pure.TheViews as pure
use Rattle.pm_closing.proofs.Opposed.{negation_told}
use Rattle.pm_closing.proofs.opposites.negation_at.Goals as goal

pub returns : goal.returns
returns c = negation_told c.args.facts.now c.args.fact.now c.in_ok-wanted.wanted c.fact_at.result (c.in_ok-wanted.ensures ∙ ap pure.Not c.in_ok-same.ensures) c.fact_at.ensures
