use lib.Utf8.{encode}
use Rattle.pm_tokens.specs.Symbols.{keyword, keywords}
use Rattle.pm_tokens.proofs.symbols.keyword.Goals as goal

pub returns : goal.returns
unfolding keyword keywords encode
returns c = c.lookup.ensures
