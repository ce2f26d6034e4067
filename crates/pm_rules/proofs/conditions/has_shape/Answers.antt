use Rattle.std.proofs.Common.{sym, ◌∙◌, ap}
use Rattle.pm_rules.specs.Rows.{row}
use Rattle.pm_rules.specs.Read.{frame_of, sequent_of, sequents_of, given_of}
use Rattle.pm_rules.proofs.Computed.{through}
use Rattle.pm_rules.proofs.Framed.{shaped}
use Rattle.pm_rules.proofs.conditions.has_shape.Goals as goal

pub returns-in-Shapes : goal.returns-in-Shapes
returns-in-Shapes c =
    through c.has_letters.ensures (shaped (row c.args.rule.now) c.in-Shapes.number 0 (sequents_of c.in-Shapes.premises) (sequent_of c.in-Shapes.gives) c.args.preds.now (given_of c.args.ps) c.args.e.now (sym (ap frame_of c.in-Shapes.is) ∙ c.row_for.ensures))
