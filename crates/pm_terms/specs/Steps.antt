-- Steps of a reader: from left to right, the value and the tokens that are left, or the first fault.
use Rattle.std.specs.Prelude.{◌≡◌, ◌≢◌, ℕ, zero, suc, ◌+◌, ℤ, pos, neg_ℤ, ◌^◌, Bool, true, false, ◌&&◌, ◌==◌, nat_lt, nat_le, if◌then◌else◌, List, [], ◌∷◌, drop, length, Option, Some, None, Result, Ok, Err}
use denote.Enum.Bare.{sameb}
use denote.Ref.{Bor}
use Rattle.pm_logic.specs.declared.limits.TheConstants.{MAX_LEVELS}
use Rattle.pm_tokens.specs.declared.symbol.Symbol.{Symbol}
use Rattle.pm_tokens.specs.declared.symbol.Symbol.TheVariants as s
use Rattle.pm_tokens.specs.contracts.symbol.Symbol.{the_type}
use Rattle.pm_tokens.specs.declared.token.Placed.{Placed}
use Rattle.pm_tokens.specs.Tokens.{Token, name, number, symbol, Place, place, places}
use Rattle.pm_terms.specs.declared.fault.TextFault.{TextFault}
use Rattle.pm_terms.specs.declared.fault.TextFault.TheVariants.{Unexpected, Unbound, Number, Fraction, Arity, Deep, Memory}

abbrev pub Read : Type 0 → Type 0
Read A = Result (A × List Place) TextFault

infixl 10 ◌>>=◌
abbrev pub ◌>>=◌ : {A B : Type 0} → Result A TextFault → (A → Result B TextFault) → Result B TextFault
(Ok x) >>= f = f x
(Err e) >>= f = Err e

-- the value changed, and the tokens that are left
abbrev pub made : {A B : Type 0} → (A → B) → Read A → Read B
made f read = read >>= λ x. Ok (f x.0, x.1)

-- the fault of a reading, and another where it has none
abbrev pub fault_or : {A : Type 0} → TextFault → Result A TextFault → TextFault
fault_or e (Ok x) = e
fault_or e (Err f) = f

-- ---- the next token, where stop is the offset at which the tokens end

unfoldable pub same_symbol : Symbol → Symbol → Bool
same_symbol = sameb the_type

abbrev pub is_symbol : Symbol → Token → Bool
is_symbol s (name n) = false
is_symbol s (number n) = false
is_symbol s (symbol r) = same_symbol r s

unfoldable pub sees : Symbol → List Place → Bool
sees s [] = false
sees s (place k at ∷ ts) = is_symbol s k

unfoldable pub sees_number : List Place → Bool
sees_number [] = false
sees_number (place (name x) at ∷ ts) = false
sees_number (place (number n) at ∷ ts) = true
sees_number (place (symbol r) at ∷ ts) = false

-- the offset of the next token, or of the end
abbrev pub offset : ℕ → List Place → ℕ
offset stop [] = stop
offset stop (place k at ∷ ts) = at

unfoldable pub unexpected : ℕ → List Place → TextFault
unexpected stop ts = Unexpected (offset stop ts)

unfoldable pub expect : Symbol → ℕ → List Place → Result (List Place) TextFault
expect s stop ts = if sees s ts then Ok (drop 1 ts) else Err (unexpected stop ts)

-- the value, once this symbol stands behind it
unfoldable pub closed_by : {A : Type 0} → Symbol → ℕ → Read A → Read A
closed_by s stop read = read >>= λ x. expect s stop x.1 >>= λ rest. Ok (x.0, rest)

-- ---- literals

-- the value of a number's digits
abbrev pub natural : ℕ → ℕ → Result ℕ TextFault
natural n at = if nat_lt n (2 ^ 63) then Ok n else Err (Number at)

abbrev pub positive : ℕ → ℕ → Result ℤ TextFault
positive n at = if nat_lt n (2 ^ 63) then Ok (pos n) else Err (Number at)

-- behind a minus
abbrev pub negative : ℕ → ℕ → Result ℤ TextFault
negative n at = if nat_le n (2 ^ 63) then Ok (neg_ℤ (pos n)) else Err (Number at)

-- the value that the digits have
unfoldable pub digits : {A : Type 0} → ℕ → (ℕ → ℕ → Result A TextFault) → List Place → Read A
digits stop value [] = Err (Unexpected stop)
digits stop value (place (name x) at ∷ ts) = Err (Unexpected at)
digits stop value (place (number n) at ∷ ts) = value n at >>= λ z. Ok (z, ts)
digits stop value (place (symbol r) at ∷ ts) = Err (Unexpected at)

-- digits with a minus or without
unfoldable pub literal : ℕ → List Place → Read ℤ
literal stop ts = if sees s.Minus ts then digits stop negative (drop 1 ts) else digits stop positive ts

-- ---- names

abbrev pub bound_at : {A : Type 0} → ℕ → Option A → Result A TextFault
bound_at at (Some x) = Ok x
bound_at at None = Err (Unbound at)

-- ---- several parts, one after another

-- Parts, as long as the tokens go on. A part takes a token at least, so that there are no more than tokens.
unfoldable pub parts : {A : Type 0} → ℕ → (List Place → Bool) → (List Place → Read A) → List Place → Read (List A)
parts zero goes_on part ts = Ok ([], ts)
parts (suc n) goes_on part ts =
    if goes_on ts then (part ts >>= λ x. parts n goes_on part x.1 >>= λ xs. Ok (x.0 ∷ xs.0, xs.1)) else Ok ([], ts)

unfoldable pub many : {A : Type 0} → (List Place → Bool) → (List Place → Read A) → List Place → Read (List A)
many goes_on part ts = parts (length ts) goes_on part ts

-- one part or more, with commas between
unfoldable pub with_commas : {A : Type 0} → (List Place → Read A) → List Place → Read (List A)
with_commas part ts = part ts >>= λ x. many (sees s.Comma) (λ us. part (drop 1 us)) x.1 >>= λ xs. Ok (x.0 ∷ xs.0, xs.1)

-- ---- parentheses

-- What follows the parenthesis that closes an open one, of the tokens behind that one, and nothing where it isn't closed before a quote or the end. The number counts the others that are open.
unfoldable pub after_group : ℕ → List Place → List Place
after_group n [] = []
after_group n (place (name x) at ∷ ts) = after_group n ts
after_group n (place (number x) at ∷ ts) = after_group n ts
after_group n (place (symbol s.Quote) at ∷ ts) = []
after_group n (place (symbol s.Open) at ∷ ts) = after_group (suc n) ts
after_group zero (place (symbol s.Close) at ∷ ts) = ts
after_group (suc n) (place (symbol s.Close) at ∷ ts) = after_group n ts
after_group n (place (symbol r) at ∷ ts) = after_group n ts

-- ---- whole texts

-- The value, where all tokens are read and they end with the text, whose length is end.
unfoldable pub all_of : {A : Type 0} → (end stop : ℕ) → Read A → Result A TextFault
all_of end stop read = read >>= λ x. if length x.1 == 0 && (stop == end) then Ok x.0 else Err (unexpected stop x.1)

-- the value, where its tree isn't deeper than MAX_LEVELS
unfoldable pub shallow : {A : Type 0} → (A → ℕ) → ℕ → Result A TextFault → Result A TextFault
shallow depth at read = read >>= λ x. if nat_le (depth x) MAX_LEVELS then Ok x else Err (Deep at)

-- the fault with its offset counted from another place
unfoldable pub moved : ℕ → TextFault → TextFault
moved base (Unexpected at) = Unexpected (base + at)
moved base (Unbound at) = Unbound (base + at)
moved base (Number at) = Number (base + at)
moved base (Fraction at) = Fraction (base + at)
moved base (Arity at) = Arity (base + at)
moved base (Deep at) = Deep (base + at)
moved base Memory = Memory

abbrev pub counted_from : {A : Type 0} → ℕ → Result A TextFault → Result A TextFault
counted_from base (Ok x) = Ok x
counted_from base (Err e) = Err (moved base e)

-- ---- what a function that reads ensures: what reading gives, unless memory ran out

abbrev pub Gives : {X Y : Type 0} → (X → Y) → Result X TextFault → Result Y TextFault → Type 0
Gives view (Ok x) read = read ≡ Ok (view x)
Gives view (Err e) read = e ≢ Memory → read ≡ Err e

-- of the whole text
abbrev pub ReadsWhole : {A : Type 0} → Result A TextFault → Result A TextFault → Type 0
ReadsWhole result read = Gives (λ x. x) result read

-- of a part of it, whose tokens come first, and then those that are left
abbrev pub ReadsAs : {A : Type 0} → Result (A × Bor (List Placed)) TextFault → Read A → Type 0
ReadsAs result read = Gives (λ x. (x.0, places x.1.now)) result read

-- ---- the same where no memory is taken

abbrev pub Answers : {X Y : Type 0} → (X → Y) → Result X TextFault → Result Y TextFault → Type 0
Answers view (Ok x) read = read ≡ Ok (view x)
Answers view (Err e) read = read ≡ Err e

abbrev pub ReadsExactly : {A : Type 0} → Result (A × Bor (List Placed)) TextFault → Read A → Type 0
ReadsExactly result read = Answers (λ x. (x.0, places x.1.now)) result read

-- the tokens that are left alone
abbrev pub LeavesExactly : Result (Bor (List Placed)) TextFault → Result (List Place) TextFault → Type 0
LeavesExactly result read = Answers (λ r. places r.now) result read

-- the offset of a fault
abbrev pub offset_of : TextFault → ℕ
offset_of (Unexpected at) = at
offset_of (Unbound at) = at
offset_of (Number at) = at
offset_of (Fraction at) = at
offset_of (Arity at) = at
offset_of (Deep at) = at
offset_of Memory = 0
