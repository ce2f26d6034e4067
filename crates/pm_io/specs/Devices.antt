-- What contracts see of a source and a sink in memory.
use Rattle.std.specs.Prelude.{ℕ, ◌-◌, ◌^◌, ◌<◌, List, [], Contains}

-- a call of this number fails; the last `u64` is no number of a call
abbrev pub IsListed : List ℕ → ℕ → Type 0
IsListed failing number = (number < 2 ^ 64 - 1) × Contains failing number

pub record MemoryInput : Type 0 where
  -- the bytes that are left
  pub left : List ℕ
  -- the numbers, from 1, of the reads that fail
  pub failing : List ℕ
  -- how many reads were made, up to the last `u64`
  pub calls : ℕ
  -- how many reads have failed, up to the last `u64`
  pub faults : ℕ

pub record MemoryOutput : Type 0 where
  -- the bytes written so far
  pub written : List ℕ
  -- how many bytes a write takes at most
  pub step : ℕ
  -- the numbers, from 1, of the writes that fail
  pub failing : List ℕ
  -- how many writes were made, up to the last `u64`
  pub calls : ℕ
  -- how many writes have failed, up to the last `u64`
  pub faults : ℕ

-- a source of these bytes, of which no read was made
abbrev pub new_input : List ℕ → List ℕ → MemoryInput
new_input bytes failing = record { left = bytes; failing = failing; calls = 0; faults = 0 }

-- an empty sink, to which no write was made
abbrev pub new_output : ℕ → List ℕ → MemoryOutput
new_output step failing = record { written = []; step = step; failing = failing; calls = 0; faults = 0 }
