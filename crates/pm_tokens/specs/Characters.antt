-- The characters of bytes, names and numbers.
use Rattle.std.specs.Prelude.{ℕ, zero, suc, ◌+◌, ◌-◌, ◌*◌, ◌^◌, Bool, ◌&&◌, nat_le, min, if◌then◌else◌, List, [], ◌∷◌, take, drop, length, Option, Some, None}
use Rattle.std.specs.Str.{is_utf8, chars}
use Rattle.pm_names.specs.Names.{starts_name, continues_name}

-- ---- the first character

abbrev pub one : List ℕ → Option ℕ
one [] = None
one (c ∷ []) = Some c
one (c ∷ d ∷ cs) = None

-- the character that the bytes spell, if they spell one
unfoldable pub only_char : List ℕ → Option ℕ
only_char bytes = if is_utf8 bytes then one (chars bytes) else None

abbrev pub with_len : ℕ → Option ℕ → Option (ℕ × ℕ)
with_len n None = None
with_len n (Some c) = Some (c, n)

-- the character that the first n bytes spell, and n
unfoldable pub front_char : ℕ → List ℕ → Option (ℕ × ℕ)
front_char n bytes = if nat_le n (length bytes) then with_len n (only_char (take n bytes)) else None

abbrev pub or_else : Option (ℕ × ℕ) → Option (ℕ × ℕ) → Option (ℕ × ℕ)
or_else (Some c) other = Some c
or_else None other = other

-- the first character and its length: the shortest front that is text spells it
unfoldable pub first_char : List ℕ → Option (ℕ × ℕ)
first_char bytes = or_else (front_char 1 bytes) (or_else (front_char 2 bytes) (or_else (front_char 3 bytes) (front_char 4 bytes)))

-- ---- names

-- how many bytes the characters at the front take that continue a name; the first number counts the bytes that are left of one
abbrev pub run_by : Option (ℕ × ℕ) → (ℕ → ℕ) → ℕ
run_by (Some c) go = if continues_name c.0 then suc (go (c.1 - 1)) else 0
run_by None go = 0

unfoldable pub run : ℕ → List ℕ → ℕ
run left [] = 0
run (suc left) (b ∷ bytes) = suc (run left bytes)
run zero (b ∷ bytes) = run_by (first_char (b ∷ bytes)) (λ left. run left bytes)

-- the length of the name at the front, 0 where none begins there
abbrev pub name_by : Option (ℕ × ℕ) → List ℕ → ℕ
name_by (Some c) bytes = if starts_name c.0 then c.1 + run 0 (drop c.1 bytes) else 0
name_by None bytes = 0

unfoldable pub name_len : List ℕ → ℕ
name_len bytes = name_by (first_char bytes) bytes

-- ---- numbers

abbrev pub is_digit : ℕ → Bool
is_digit b = nat_le 48 b && nat_le b 57

-- the number that digits write behind those of n
abbrev pub number_behind : ℕ → List ℕ → ℕ
number_behind n [] = n
number_behind n (d ∷ ds) = number_behind (n * 10 + (d - 48)) ds

-- the number that digits write, cut at the greatest of 64 bits
abbrev pub number_of : List ℕ → ℕ
number_of ds = min (number_behind 0 ds) (2 ^ 64 - 1)
