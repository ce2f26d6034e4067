use Rattle.pm_tokens.proofs.Spelled as spelled
use Rattle.pm_tokens.proofs.laws.names_are_read.Goals as goal

pub returns : goal.returns
returns c = spelled.names_are_read
