use Rattle.std.proofs.Common.{refl}
use Rattle.pm_linform.proofs.Entries.{replicate_entry}
use Rattle.pm_linform.proofs.Form.zero.Goals as goal

pub returns : goal.returns
returns c = record { coefficients = λ i. replicate_entry 65 i; constant = refl }
