-- The greatest number that divides two is their greatest common divisor.
use Rattle.std.proofs.Common.{◌≡◌, ◌≢◌, ℕ, zero, suc, ◌/◌, ◌%◌, ◌<◌, ◌≤◌, Bool, true, false, cond, [], ◌∷◌, ◌++◌, refl, ap, arith}
use Prim.Native.Nat.{◌∣◌}
use Rattle.std.specs.Prelude.{◌==◌, ◌&&◌}
use Rattle.std.specs.Int.{IsGcd}
use Rattle.std.proofs.lemmas.Bool.{eqb-true, eq-eqb, and_parts}
use Rattle.std.proofs.Math.Nat.{eq-zero_of_zero-dvd}
use Rattle.std.proofs.lemmas.Nat.Gcd.{le_of_dvd, dvd_of_mod-eq-zero, mod-eq-zero_of_dvd, le_from_IsGcd}
use Rattle.pm_logic.specs.declared.formula.TheConstants.{UNIT}
use Rattle.pm_tokens.specs.declared.symbol.Symbol.TheVariants as s
use Rattle.pm_tokens.specs.Tokens.{number}
use Rattle.pm_print.specs.declared.sign.Sign.TheVariants as g
use Rattle.pm_print.specs.Printing.{blank, token, sign, fraction, greatest, common_divisor, units_pieces}
use Rattle.pm_print.specs.Parts.{sign_pieces}

step : (p : ℕ → Bool) (n g : ℕ) (b : Bool) → p (suc n) ≡ b → g ≤ suc n → p g ≡ true → ((d : ℕ) → p d ≡ true → d ≤ g) → (g ≤ n → greatest p n ≡ g) → cond b (suc n) (greatest p n) ≡ g
step p n g true e le here above rest = let most = above (suc n) e in omega arith
step p n g false e le here above rest =
    let other : g ≢ suc n = λ (same : g ≡ suc n). cc (ap p same) in
    rest (omega arith)

greatest_is : (p : ℕ → Bool) (n g : ℕ) → 0 < g → g ≤ n → p g ≡ true → ((d : ℕ) → p d ≡ true → d ≤ g) → greatest p n ≡ g
unfolding greatest
greatest_is p zero g some le here above = absurd (omega arith)
greatest_is p (suc n) g some le here above = step p n g (p (suc n)) refl le here above (λ less. greatest_is p n g some less here above)

pub positive : (a g : ℕ) → 0 < a → g ∣ a → 0 < g
positive a zero some divides = let none = eq-zero_of_zero-dvd divides in omega arith
positive a (suc g) some divides = omega arith

pub divisor_is : (a b g : ℕ) → 0 < a → IsGcd a b g → common_divisor a b ≡ g
unfolding common_divisor
divisor_is a b g some is =
    let more = positive a g some is.0 in
    greatest_is (λ n. a % n == 0 && b % n == 0) a g more (le_of_dvd some is.0) (rw (mod-eq-zero_of_dvd g is.0, mod-eq-zero_of_dvd g is.1) refl)
    (λ d test. let p = and_parts (a % d == 0) (b % d == 0) test in le_from_IsGcd a b g d is more (dvd_of_mod-eq-zero d (eqb-true _ _ p.0)) (dvd_of_mod-eq-zero d (eqb-true _ _ p.1)))

pub no_units : (u : ℕ) → u ≡ 0 → common_divisor u UNIT ≡ 0
unfolding common_divisor greatest
no_units u e = rw e refl

pub whole_pieces : (u : ℕ) → u ≡ UNIT → units_pieces u ≡ sign_pieces g.PointsTo
unfolding units_pieces sign_pieces
whole_pieces u e = rw (eq-eqb u UNIT e) refl

pub part_pieces : (u n d : ℕ) → u ≢ UNIT → n ≡ u / common_divisor u UNIT → d ≡ UNIT / common_divisor u UNIT
    → units_pieces u ≡ sign_pieces g.OpenUnits ++ ((token (number n) ∷ []) ++ (sign_pieces g.Slash ++ ((token (number d) ∷ []) ++ sign_pieces g.CloseUnits)))
unfolding units_pieces sign_pieces
part_pieces u n d ne h k = rw (h, k) (go (u == UNIT) refl)
  where
    go : (b : Bool) → (u == UNIT) ≡ b
        → cond b (sign_pieces g.PointsTo) (blank ∷ sign s.PointsTo ∷ (fraction (u / common_divisor u UNIT) (UNIT / common_divisor u UNIT) ++ blank ∷ []))
        ≡ blank ∷ sign s.PointsTo ∷ (fraction (u / common_divisor u UNIT) (UNIT / common_divisor u UNIT) ++ blank ∷ [])
    go true e = absurd (ne (eqb-true u UNIT e))
    go false e = refl
