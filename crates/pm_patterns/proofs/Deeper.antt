-- Levels of patterns.
use Rattle.std.proofs.Common.{◌≡◌, ℕ, zero, suc, ◌-◌, ◌<◌, ◌≤◌, ◌==◌, false, List, refl, ap, sym, arith, Err}
use Rattle.std.proofs.lemmas.Bool.Decides.{nat_tests}
use Rattle.pm_tokens.specs.Tokens.{Place}
use Rattle.pm_terms.specs.declared.fault.TextFault.{TextFault}
use Rattle.pm_patterns.specs.PatternReading.{deep_name, named_at, named_pattern}

-- a function of a number that isn't 0
pub deeper : {A : Type 0} (f : ℕ → A) (n : ℕ) → 0 < n → f n ≡ f (suc (n - 1))
deeper f n lt = let e : n ≡ suc (n - 1) = omega arith in ap f e

pub no_room : (stop room : ℕ) (ts : List Place) {fault : TextFault} → room ≤ 1 → fault ≡ deep_name stop ts → named_pattern stop room ts ≡ Err fault
unfolding named_pattern
no_room stop zero ts h e = ap Err (sym e)
no_room stop (suc room) ts h e = let none : room ≡ 0 = omega arith in rw none (ap Err (sym e))

pub with_room : (stop room : ℕ) (ts : List Place) → 1 < room → named_pattern stop room ts ≡ named_at stop (named_pattern stop (room - 1)) (room - 1) ts
unfolding named_pattern
with_room stop zero ts h = absurd (omega arith)
with_room stop (suc room) ts h =
    let same : suc room - 1 ≡ room = omega arith in
    let some : (room == 0) ≡ false = grind (arith, nat_tests) in
    rw same (rw some refl)
