-- How large the entries of sums are.
use Rattle.std.proofs.Common.{◌≡◌, mul-le-mul, ℕ, ◌*◌, ◌^◌, ◌≤◌, ℤ, pos, negsuc, ◌+ℤ◌, ◌*ℤ◌, ◌≤ℤ◌, sym, subst, arith}
use Rattle.std.specs.Int.RustNames.{unsigned_abs}
use Rattle.std.proofs.lemmas.Int.{ints, unsigned_abs-mul}
use Rattle.pm_linform.specs.declared.Form.{Form}
use Rattle.pm_linform.specs.Entries.{coefficient, room, IsAtMost, IsWithin, IsWithinTimes}
use Rattle.pm_linform.specs.Sums.{IsZero, AddsScaled}

pub at_most_more : (a b x : ℤ) → a ≤ℤ b → IsAtMost a x → IsAtMost b x
at_most_more a b x le h = let l = h.low in let m = h.high in record { low = omega (arith, ints); high = omega (arith, ints) }

pub at_most_sum : (a b x y z : ℤ) → z ≡ x +ℤ y → IsAtMost a x → IsAtMost b y → IsAtMost (a +ℤ b) z
at_most_sum a b x y z e h k =
    let l = h.low in let m = h.high in let n = k.low in let p = k.high in
    record { low = omega (arith, ints); high = omega (arith, ints) }

size_of : (a : ℕ) (x : ℤ) → IsAtMost (pos a) x → unsigned_abs x ≤ a
size_of a (pos n) h = let m = h.high in omega (arith, ints)
size_of a (negsuc n) h = let l = h.low in omega (arith, ints)

of_size : (a : ℕ) (x : ℤ) → unsigned_abs x ≤ a → IsAtMost (pos a) x
of_size a (pos n) h = record { low = omega (arith, ints); high = omega (arith, ints) }
of_size a (negsuc n) h = record { low = omega (arith, ints); high = omega (arith, ints) }

pub at_most_product : (a b : ℕ) (x y : ℤ) → IsAtMost (pos a) x → IsAtMost (pos b) y → IsAtMost (pos (a * b)) (x *ℤ y)
at_most_product a b x y h k =
    let le : unsigned_abs x * unsigned_abs y ≤ a * b = mul-le-mul (size_of a x h) (size_of b y k) in
    let P : ℕ → Type 0 = λ n. n ≤ a * b in
    of_size (a * b) (x *ℤ y) (subst P (sym (unsigned_abs-mul x y)) le)

-- a form is within each larger bound
pub within_more : (a b : ℤ) (f : Form) → a ≤ℤ b → IsWithin a f → IsWithin b f
within_more a b f le h = record {
  coefficients = λ i. at_most_more a b (coefficient f i) le (h.coefficients i);
  constant = at_most_more a b f.constant le h.constant;
}

pub zero_within : (a : ℤ) (f : Form) → pos 0 ≤ℤ a → IsZero f → IsWithin a f
zero_within a f le h = record { coefficients = λ i. none (coefficient f i) (h.coefficients i); constant = none f.constant h.constant }
  where
    none : (x : ℤ) → x ≡ pos 0 → IsAtMost a x
    none x e = record { low = omega (arith, ints); high = omega (arith, ints) }

pub within_times : (a b : ℕ) (c : ℤ) (f : Form) → IsAtMost (pos a) c → IsWithin (pos b) f → IsWithinTimes (pos (a * b)) c f
within_times a b c f h k = record {
  coefficients = λ i. at_most_product a b c (coefficient f i) h (k.coefficients i);
  constant = at_most_product a b c f.constant h k.constant;
}

-- the bound of a sum
pub scaled_within : (a b c : ℤ) (other old new : Form) → IsWithin a old → IsWithinTimes b c other → AddsScaled c other old new → IsWithin (a +ℤ b) new
scaled_within a b c other old new h k s = record {
  coefficients = λ i. at_most_sum a b (coefficient old i) (c *ℤ coefficient other i) (coefficient new i) (s.coefficients i) (h.coefficients i) (k.coefficients i);
  constant = at_most_sum a b old.constant (c *ℤ other.constant) new.constant s.constant h.constant k.constant;
}

-- bounds that leave room for a sum
pub zero_room : (f : Form) → IsZero f → IsWithin room f
unfolding room
zero_room f h = zero_within (pos (2 ^ 125)) f (omega (arith, ints)) h

pub word_room : (b : ℤ) (f : Form) → b ≤ℤ pos (2 ^ 63) → IsWithin b f → IsWithin room f
unfolding room
word_room b f le h = within_more b (pos (2 ^ 125)) f (omega (arith, ints)) h

pub word_times_room : (b c : ℤ) (f : Form) → b ≤ℤ pos (2 ^ 62) → IsAtMost (pos (2 ^ 63)) c → IsWithin b f → IsWithinTimes room c f
unfolding room
word_times_room b c f le h k = within_times (2 ^ 63) (2 ^ 62) c f h (within_more b (pos (2 ^ 62)) f le k)
