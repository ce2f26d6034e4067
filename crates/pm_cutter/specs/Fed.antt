-- The bytes that a cutter was fed.
use Rattle.std.specs.Prelude.{◌≡◌, ℕ, ◌+◌, ◌^◌, ◌<◌, false, List, [], ◌++◌, length, drop}
use Rattle.pm_cutter.specs.declared.cutter.Cutter.{Cutter}
use Rattle.pm_cutter.specs.Cutting.{Part, finished}
use Rattle.pm_cutter.specs.Machine.{mode_of, waiting_bytes, Waits, Kept, GoesOn, started}

abbrev pub kept_of : Cutter → Kept
kept_of c = record { mode = mode_of c.mode; at = c.at; held = c.held }

-- how many bytes it was fed
abbrev pub fed_count : Cutter → ℕ
fed_count c = c.at + length (waiting_bytes c.waiting)

-- The cutter was fed these bytes, no feed was refused, and the sentences handed out are those that they finish.
pub record IsFed (c : Cutter) (bytes : List ℕ) : Type 0 where
  pub fits : length bytes < 2 ^ 64
  pub sound : c.failed ≡ false
  pub waits : Waits (mode_of c.mode) (waiting_bytes c.waiting)
  pub goes_on : GoesOn [] started bytes (finished bytes) (kept_of c) (waiting_bytes c.waiting)

-- the sentences that a piece finishes behind these bytes
abbrev pub newly_finished : List ℕ → List ℕ → List Part
newly_finished bytes piece = drop (length (finished bytes)) (finished (bytes ++ piece))
