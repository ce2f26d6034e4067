use Rattle.std.proofs.Common.{◌≡◌, ◌-◌, ◌^◌, ◌<◌, min, length}
use Rattle.pm_tokens.specs.Characters.{number_of, number_behind}
use Rattle.pm_tokens.proofs.characters.number.Given as goal

abbrev pub invariant-loop-digits : goal.invariant-loop-digits
invariant-loop-digits l = record {
  same : min (number_behind l.n l.digits) (2 ^ 64 - 1) ≡ number_of l.fn.digits;
  fits : l.n < 2 ^ 64;
}

abbrev pub decreases-loop-digits : goal.decreases-loop-digits
decreases-loop-digits l = length l.digits
