use Rattle.pm_tokens.proofs.Spelled as spelled
use Rattle.pm_tokens.proofs.laws.symbols_are_read.Goals as goal

pub returns : goal.returns
returns c = spelled.symbols_are_read
