-- A word is the decimal form of a number exactly where a plain word parses to it.
use Rattle.std.proofs.Common.{◌≡◌, ℕ, zero, suc, ◌<◌, ◌≤◌, ◌^◌, Bool, true, false, ◌&&◌, ◌==◌, List, length, get_or, refl, sym, ◌∙◌, ap, subst, arith, Option, Some, None, Result, Ok, Err}
use Rattle.std.specs.Prelude.{nat_lt}
use Rattle.std.specs.Fmt.{decimal}
use Rattle.std.specs.Result.{OkIff, result_ok}
use Rattle.std.specs.Str.{bytes_eq, IsUtf8}
use Rattle.std.specs.Str.Parse.{AllDigits, digits_value, ParsesUnsigned}
use Rattle.std.proofs.lemmas.Bool.Decides.{Decides-eqb, Decides-like, same_from_decides}
use Rattle.std.proofs.lemmas.Slice.Eq.{bytes_eq-Decides}
use Rattle.std.proofs.lemmas.Str.Parse.{IsNumeralModel, numerals_by_value, tells_digits, parse_plain, digit_at}
use Rattle.std.proofs.lemmas.Fmt.{decimal_is_IsNumeral, decimal-digits_value, first_decimal, IsAscii-decimal, decimal_digit, decimal_injective}
use Rattle.std.proofs.lemmas.Str.{IsUtf8-from_ascii}
use Rattle.pm_dtext.specs.Reading.{number_of, HasPlainFront}
use Rattle.pm_dtext.proofs.Steps.{if_true, some_is, both_true, true_both, lt_true, true_lt}

own : IsNumeralModel (AllDigits 10) (digits_value 10)
own = numerals_by_value (AllDigits 10) tells_digits

abbrev value : List ℕ → ℕ
value w = digits_value 10 w

-- ---- the number of a word, and the word of a number

pub number_some : (w : List ℕ) (n : ℕ) → number_of w ≡ Some n → (w ≡ decimal n) × (n < 2 ^ 64)
unfolding number_of
number_some w n h =
    let c = some_is (nat_lt (value w) (2 ^ 64) && bytes_eq w (decimal (value w))) (value w) n h in
    let tests = both_true (nat_lt (value w) (2 ^ 64)) (bytes_eq w (decimal (value w))) c.0 in
    ((bytes_eq-Decides w (decimal (value w))).0 tests.1 ∙ ap decimal c.1, subst (λ (k : ℕ). k < 2 ^ 64) c.1 (lt_true (value w) (2 ^ 64) tests.0))

pub number_again : (n : ℕ) → n < 2 ^ 64 → number_of (decimal n) ≡ Some n
unfolding number_of
number_again n small =
    let w = decimal n in
    let back : value w ≡ n = (decimal_is_IsNumeral n small).1 in
    let fits : value w < 2 ^ 64 = subst (λ (k : ℕ). k < 2 ^ 64) (sym back) small in
    let same : bytes_eq w (decimal (value w)) ≡ true = (bytes_eq-Decides w (decimal (value w))).1 (sym (ap decimal back)) in
    if_true (nat_lt (value w) (2 ^ 64) && bytes_eq w (decimal (value w))) (Some (value w)) None (true_both (nat_lt (value w) (2 ^ 64)) (bytes_eq w (decimal (value w))) (true_lt (value w) (2 ^ 64) fits) same)
    ∙ ap Some back

-- what is the decimal form of nothing
number_none : (w : List ℕ) → ((n : ℕ) → n < 2 ^ 64 → w ≡ decimal n → ⊥) → number_of w ≡ None
number_none w none = go (number_of w) refl
  where
    go : (o : Option ℕ) → number_of w ≡ o → number_of w ≡ None
    go None e = e
    go (Some n) e = absurd (none n (number_some w n e).1 (number_some w n e).0)

pub first_digit : (n : ℕ) → n < 2 ^ 64 → (48 ≤ get_or (decimal n) 0 0) × (get_or (decimal n) 0 0 ≤ 57) × (0 < length (decimal n))
first_digit n small =
    let numeral = (decimal_is_IsNumeral n small).0 in
    let digit = digit_at (decimal n) 0 numeral.1 numeral.0 in
    (omega (arith, digit), omega (arith, digit), numeral.0)

no_zero_first : (n : ℕ) → n < 2 ^ 64 → get_or (decimal n) 0 0 ≡ 48 → length (decimal n) ≡ 1
no_zero_first zero small e = ap length (decimal_digit 0 (omega arith))
no_zero_first (suc n) small e =
    let first : 48 < get_or (decimal (suc n)) 0 0 = first_decimal (suc n) (omega arith) small in
    absurd (omega arith)

plain_decimal : (n : ℕ) → n < 2 ^ 64 → HasPlainFront (decimal n)
plain_decimal n small =
    let first = first_digit n small in
    (λ e. absurd (omega (arith, first.0, e)), no_zero_first n small)

-- ---- a word that the code refuses, and one that it parses

pub number_crooked : (w : List ℕ) → (HasPlainFront w → ⊥) → None ≡ number_of w
number_crooked w crooked = sym (number_none w (λ n small e. crooked (subst (λ (x : List ℕ). HasPlainFront x) (sym e) (plain_decimal n small))))

pub number_no_text : (w : List ℕ) → (IsUtf8 w → ⊥) → None ≡ number_of w
number_no_text w bad = sym (number_none w (λ n small e. bad (subst (λ (x : List ℕ). IsUtf8 x) (sym e) (IsUtf8-from_ascii (decimal n) (IsAscii-decimal n small)))))

abbrev IsPlainNumeral : List ℕ → Type 0
IsPlainNumeral w = AllDigits 10 w × (0 < length w) × (value w < 2 ^ 64)

parsed_by : {E : Type 0} (w : List ℕ) (r : Result ℕ E) → HasPlainFront w → OkIff r (IsPlainNumeral w) (value w) → result_ok r ≡ number_of w
parsed_by {E} w (Ok x) plain h =
    let same : decimal (value w) ≡ w = decimal-digits_value own w h.0.0 h.0.1 plain.1 h.0.2 in
    ap Some h.1 ∙ sym (ap number_of (sym same) ∙ number_again (value w) h.0.2)
parsed_by {E} w (Err e) plain h =
    sym (number_none w (λ n small e. h (subst (λ (x : List ℕ). IsPlainNumeral x) (sym e) ((decimal_is_IsNumeral n small).0.1, (decimal_is_IsNumeral n small).0.0, subst (λ (k : ℕ). k < 2 ^ 64) (sym (decimal_is_IsNumeral n small).1) small))))

pub number_parsed : {E : Type 0} (w : List ℕ) (r : Result ℕ E) → HasPlainFront w → ParsesUnsigned 64 10 w r → result_ok r ≡ number_of w
number_parsed {E} w r plain h = parsed_by w r plain (parse_plain own 64 w r h plain.0)

-- ---- the test for one number

pub number_is : (w : List ℕ) (m n : ℕ) → n < 2 ^ 64 → number_of w ≡ Some m → (m == n) ≡ bytes_eq w (decimal n)
number_is w m n small h =
    let read = number_some w m h in
    let to : m ≡ n → w ≡ decimal n = λ (e : m ≡ n). read.0 ∙ ap decimal e in
    let from : w ≡ decimal n → m ≡ n = λ (e : w ≡ decimal n). decimal_injective m n read.1 small (sym read.0 ∙ e) in
    same_from_decides {P = m ≡ n} (m == n) (bytes_eq w (decimal n)) (Decides-eqb m n) (Decides-like (bytes_eq w (decimal n)) from to (bytes_eq-Decides w (decimal n)))

pub number_isnt : (w : List ℕ) (n : ℕ) → n < 2 ^ 64 → number_of w ≡ None → false ≡ bytes_eq w (decimal n)
number_isnt w n small h = go (bytes_eq w (decimal n)) refl
  where
    go : (b : Bool) → bytes_eq w (decimal n) ≡ b → false ≡ bytes_eq w (decimal n)
    go false e = sym e
    go true e =
        let same : w ≡ decimal n = (bytes_eq-Decides w (decimal n)).0 e in
        let again : number_of w ≡ Some n = ap number_of same ∙ number_again n small in
        absurd cc
