use Rattle.std.proofs.Common.{length}
use Rattle.pm_tokens.proofs.symbols.+longest.Given as goal

abbrev pub decreases-longest : goal.decreases-longest
decreases-longest l = length l.table.now
