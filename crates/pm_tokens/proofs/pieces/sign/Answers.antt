use Rattle.std.proofs.Common.{sym, ◌∙◌, subst}
use Rattle.pm_tokens.proofs.Tables.{SymbolFits, symbol_fits}
use Rattle.pm_tokens.proofs.pieces.sign.Goals as goal

pub returns-in-Some-clause-within : goal.returns-in-Some-clause-within
returns-in-Some-clause-within c = subst (λ found. SymbolFits c.args.bytes.now found) (sym c.symbol_at.ensures ∙ c.in-Some.is) (symbol_fits c.args.mode c.args.bytes.now)
