-- Parts of the reading of terms, as the code has them.
use Rattle.std.specs.Prelude.{ℕ, [], ◌∷◌, ◌++◌, drop}
use Rattle.pm_terms.specs.declared.level.Sign.TheVariants as sign
use Rattle.pm_terms.specs.Scope.{Names}
use Rattle.pm_terms.specs.Steps.{◌>>=◌, literal}
use Rattle.pm_terms.specs.TermReading.{Terms, signed, added, operand_at, sum_at}

-- from the factor of a product on
abbrev pub scaled : (stop : ℕ) → Terms → Terms
scaled stop self left signs ts = literal stop ts >>= λ z. self left (signs ++ sign.Times z.0 ∷ []) (drop 1 z.1)

-- from an operand on, behind all its signs
abbrev pub summand : (stop : ℕ) → Names → Terms → Terms
summand stop names self left signs ts = operand_at stop names self ts >>= λ a. sum_at stop names self (added left (signed signs a.0)) a.1
