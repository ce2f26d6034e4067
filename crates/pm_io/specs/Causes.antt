-- What a call that meets the outside says of its faults.
use Rattle.std.specs.Prelude.{ℕ, ◌+◌, ◌-◌, ◌^◌, ◌≤◌, min, Result, OnErr, IsErrOf}
use Rattle.std.proofs.Math.Nat.{min-le_right}
use Rattle.pm_io.specs.declared.sink.SendFault.{SendFault}
use Rattle.pm_io.specs.declared.sink.SendFault.TheVariants.{Write}

-- a count goes up by one, and stands still at the last `u64`
abbrev pub one_more : ℕ → ℕ
one_more count = min (count + 1) (2 ^ 64 - 1)

-- a count as a `u64` holds it
abbrev pub counted : ℕ → ℕ
counted count = min count (2 ^ 64 - 1)

pub counted_within : (count : ℕ) → counted count ≤ 2 ^ 64 - 1
counted_within count = min-le_right count (2 ^ 64 - 1)

-- a count rose, or stands at the last `u64`
abbrev pub Rose : ℕ → ℕ → Type 0
Rose before now = one_more before ≤ now

-- the count never falls, and every error comes from a fault
pub record HasCause {T E : Type 0} (before now : ℕ) (result : Result T E) : Type 0 where
  pub later : before ≤ now
  pub failed : OnErr result (Rose before now)

-- the count never falls, and `Write` comes from a fault
pub record SendCause {T : Type 0} (before now : ℕ) (result : Result T SendFault) : Type 0 where
  pub later : before ≤ now
  pub failed : IsErrOf result Write → Rose before now

-- over a call the count never falls, and it rose where the answer is a fault
pub record Faulted (fault : Type 0) (before now : ℕ) : Type 0 where
  pub later : before ≤ now
  pub cause : fault → Rose before now
