use Rattle.std.proofs.Common.{length}
use Rattle.pm_tokens.proofs.words.+lookup.Given as goal

abbrev pub decreases-lookup : goal.decreases-lookup
decreases-lookup g l = length l.table.now
