use Rattle.pm_tokens.proofs.Fits.{one_list}
use Rattle.pm_tokens.proofs.laws.texts_have_one_list.Goals as goal

pub returns : goal.returns
returns c = one_list
