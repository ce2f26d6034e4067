-- A text has no more tokens than bytes.
use Rattle.std.proofs.Common.{ℕ, ◌≤◌, ◌+◌, List, [], ◌∷◌, length, arith}
use Rattle.std.proofs.lemmas.List.{length-map}
use Rattle.pm_tokens.specs.declared.token.Placed.{Placed}
use Rattle.pm_tokens.specs.Tokens.{Place, place, place_of, places}
use Rattle.pm_tokens.specs.Texts.{Rise}

few : (at : ℕ) (ps : List Place) (stop : ℕ) → Rise at ps stop → at + length ps ≤ stop
few at [] stop h = omega arith
few at (place t k ∷ ps) stop h = let rest = few (k + 1) ps stop h.1 in omega arith

pub few_tokens : (ps : List Placed) (stop most : ℕ) → Rise 0 (places ps) stop → stop ≤ most → length ps ≤ most
few_tokens ps stop most h short = let all = few 0 (places ps) stop h in omega (arith, length-map ps place_of)
