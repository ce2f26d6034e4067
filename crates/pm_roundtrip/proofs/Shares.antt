-- A fraction in lowest terms gives the units back.
use Rattle.std.proofs.Common.{◌≡◌, ℕ, zero, suc, ◌*◌, ◌/◌, ◌%◌, ◌≤◌, Bool, true, false, ◌&&◌, ◌==◌, cond, refl, arith}
use Rattle.std.specs.Prelude.{nat_le}
use Rattle.std.proofs.Math.Nat.{mul-div_cancel, mul-mod_left}
use Rattle.std.proofs.lemmas.Bool.Decides.{nat_tests}
use Rattle.std.proofs.lemmas.Nat.{div-add-mod'}
use Rattle.std.proofs.lemmas.Bool.{and_parts}
use Rattle.pm_logic.specs.declared.formula.TheConstants.{UNIT}
use Rattle.pm_text.specs.FormulaReading.{units_of, is_share}
use Rattle.pm_print.specs.Printing.{greatest, common_divisor}

-- the greatest number that passes does, if any does
greatest_passes : (p : ℕ → Bool) (n : ℕ) → p 1 ≡ true → 1 ≤ n → (p (greatest p n) ≡ true) × (1 ≤ greatest p n)
unfolding greatest
greatest_passes p zero one some = absurd (omega arith)
greatest_passes p (suc zero) one some = rw one (one, omega arith)
greatest_passes p (suc (suc n)) one some = go (p (suc (suc n))) refl (greatest_passes p (suc n) one (omega arith))
  where
    go : (b : Bool) → p (suc (suc n)) ≡ b → (p (greatest p (suc n)) ≡ true) × (1 ≤ greatest p (suc n)) → (p (cond b (suc (suc n)) (greatest p (suc n))) ≡ true) × (1 ≤ cond b (suc (suc n)) (greatest p (suc n)))
    go true e h = (e, omega arith)
    go false e h = h

-- the divisor is at least 1 and divides both
pub record Divides (g a b : ℕ) : Type 0 where
  pub some : 1 ≤ g
  pub first : a / g * g ≡ a
  pub second : b / g * g ≡ b

divided : (a g : ℕ) → (a % g == 0) ≡ true → a / g * g ≡ a
divided a g e = let none : a % g ≡ 0 = grind (arith, nat_tests, e) in omega (arith, div-add-mod' a g, none)

one_divides : (a : ℕ) → (a % 1 == 0) ≡ true
one_divides a = let none : a % 1 ≡ 0 = omega arith in rw none refl

pub divisor : (a b : ℕ) → 1 ≤ a → Divides (common_divisor a b) a b
unfolding common_divisor
divisor a b some =
    let p : ℕ → Bool = λ n. a % n == 0 && b % n == 0 in
    let h = greatest_passes p a (rw (one_divides a, one_divides b) refl) some in
    let both = and_parts (a % greatest p a == 0) (b % greatest p a == 0) h.0 in
    record { some = h.1; first = divided a (greatest p a) both.0; second = divided b (greatest p a) both.1 }

-- n of d parts of a whole are u units
whole_parts : (n d g u whole : ℕ) → n * g ≡ u → d * g ≡ whole → n * whole ≡ u * d
whole_parts n d g u whole e f = rw (← e, ← f) (grind arith)

pub record IsShareOf (u n d : ℕ) : Type 0 where
  pub share : is_share n d ≡ true
  pub units : units_of n d ≡ u

share_of : (n d u : ℕ) → n * UNIT ≡ u * d → 1 ≤ d → 1 ≤ u → u ≤ UNIT → IsShareOf u n d
unfolding is_share units_of
share_of n d u e some one most =
    let back : (n * UNIT) / d ≡ u = rw e (mul-div_cancel u some) in
    let exact : (n * UNIT) % d ≡ 0 = rw e (mul-mod_left u d) in
    let apart : (d == 0) ≡ false = grind (arith, nat_tests, some) in
    let low : nat_le 1 u ≡ true = grind (arith, nat_tests, one) in
    let high : nat_le u UNIT ≡ true = grind (arith, nat_tests, most) in
    record { share = rw (apart, exact, back, low, high) refl; units = back }

part_some : (d g whole : ℕ) → d * g ≡ whole → 1 ≤ whole → 1 ≤ d
part_some zero g whole e some = absurd (omega (arith, e))
part_some (suc d) g whole e some = omega arith

pub lowest : (u : ℕ) → 1 ≤ u → u ≤ UNIT → IsShareOf u (u / common_divisor u UNIT) (UNIT / common_divisor u UNIT)
lowest u some most =
    let g = common_divisor u UNIT in
    let h = divisor u UNIT some in
    let d = UNIT / g in
    let one : 1 ≤ d = part_some d g UNIT h.second (omega arith) in
    share_of (u / g) d u (whole_parts (u / g) d g u UNIT h.first h.second) one some most
