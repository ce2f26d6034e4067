use Rattle.pm_dtext.proofs.HeadLaws.{arities_found}
use Rattle.pm_dtext.proofs.texts.read_arities.Goals as goal

pub returns-in-Ok-default-empty-clause-fit : goal.returns-in-Ok-default-empty-clause-fit
returns-in-Ok-default-empty-clause-fit c = (arities_found c.args.text.now c.in-Ok-default-empty.arities c.in-Ok-default-empty.field-0-1.now c.in-Ok-default-empty.ensures).fits
