use Rattle.std.proofs.Common.{◌∙◌, ap}
use lib.Utf8.{encode}
use Rattle.pm_tokens.specs.Symbols.{symbol_at, symbols, quoted_symbols, certificate_symbols, longest, longer}
use Rattle.pm_tokens.proofs.symbols.symbol_at.Goals as goal

pub returns-in-Start : goal.returns-in-Start
unfolding symbol_at symbols encode
returns-in-Start c = rw c.in-Start.is c.longest.ensures

pub returns-in-Outside : goal.returns-in-Outside
unfolding symbol_at symbols encode
returns-in-Outside c = rw c.in-Outside.is c.longest-in-Outside.ensures

pub returns-in-OutsideLinear : goal.returns-in-OutsideLinear
unfolding symbol_at symbols encode
returns-in-OutsideLinear c = rw c.in-OutsideLinear.is c.longest-in-OutsideLinear.ensures

pub returns-in-Quoted : goal.returns-in-Quoted
unfolding symbol_at quoted_symbols encode
returns-in-Quoted c = rw c.in-Quoted.is c.longest-in-Quoted.ensures

pub returns-in-QuotedLinear : goal.returns-in-QuotedLinear
unfolding symbol_at quoted_symbols certificate_symbols encode
returns-in-QuotedLinear c = rw c.in-QuotedLinear.is (c.longer.ensures ∙ (ap (λ x. longer x c.longest-in-QuotedLinear-2.result) c.longest-in-QuotedLinear.ensures ∙ ap (λ x. longer (longest quoted_symbols c.args.bytes.now) x) c.longest-in-QuotedLinear-2.ensures))
