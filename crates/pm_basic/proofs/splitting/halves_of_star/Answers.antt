use Rattle.std.proofs.Common.{◌∙◌, ap₂}
use Rattle.pm_logic.specs.declared.formula.Formula.TheViews as view
use Rattle.pm_basic.proofs.Splits.{and_handed, star_answer}
use Rattle.pm_basic.proofs.splitting.halves_of_star.Goals as goal

pub into_sep-requires : goal.into_sep-requires
into_sep-requires c = and_handed c.args.vars c.args.a.now c.args.b.now c.in_ok-both.both (c.in_ok-both.ensures ∙ ap₂ view.And c.in_ok-first.ensures c.in_ok-second.ensures) c.requires

pub returns : goal.returns
returns c = star_answer c.args.vars c.args.a.now c.args.b.now c.in_ok-both.both c.in_ok-entry.entry (c.in_ok-both.ensures ∙ ap₂ view.And c.in_ok-first.ensures c.in_ok-second.ensures) c.in_ok-entry.ensures
