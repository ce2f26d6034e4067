use Rattle.std.proofs.Common.{◌≡◌, ◌+◌, length}
use Rattle.pm_tokens.specs.Tokens.{places}
use Rattle.pm_tokens.specs.Texts.{lex, tokens}
use Rattle.pm_tokens.proofs.Lexing.{behind_all}
use Rattle.pm_tokens.proofs.text.tokens.Given as goal

abbrev pub invariant-pieces : goal.invariant-pieces
invariant-pieces l = record {
  same : behind_all (places l.list.items) (lex l.mode 0 l.at l.rest) ≡ tokens l.text;
  place : l.at + length l.rest ≡ length l.text;
}

abbrev pub decreases-pieces : goal.decreases-pieces
decreases-pieces l = length l.rest
