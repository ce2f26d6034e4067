use Rattle.pm_write.proofs.Spelled.{sign_scale}
use Rattle.pm_write.proofs.texts.term_sign.Goals as goal

pub returns-in-Scale : goal.returns-in-Scale
returns-in-Scale c = sign_scale _ _ _ c.in-Scale.is
