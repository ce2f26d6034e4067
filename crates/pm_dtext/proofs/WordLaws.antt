-- Words, separators and numbers: what is spelled is read again, and what was read is spelled so.
use Rattle.std.proofs.Common.{◌≡◌, ◌≢◌, ◌&&◌, ℕ, zero, suc, ◌<◌, ◌≤◌, ◌^◌, ◌+◌, ◌-◌, Bool, true, false, not, ◌==◌, List, [], ◌∷◌, ◌++◌, length, get_or, take, drop, refl, sym, ◌∙◌, ap, subst, arith, Option, Some, None, Result, Ok, Err, inl, inr}
use Rattle.std.specs.Prelude.{ℤ, pos, negsuc, nat_le, nat_lt}
use Rattle.std.specs.Fmt.{decimal, signed_decimal}
use Rattle.std.specs.List.{prefix_len, list_all}
use Rattle.std.specs.Str.{bytes_eq}
use Rattle.std.specs.Str.Parse.{AllDigits}
use Rattle.std.proofs.Math.Seq.{take-append_seam, drop-append_seam}
use Rattle.std.proofs.lemmas.Bool.Decides.{Decides-eqb}
use Rattle.std.proofs.lemmas.Fmt.{decimal_is_IsNumeral}
use Rattle.std.proofs.lemmas.List.{take-append-drop}
use Rattle.std.proofs.lemmas.Slice.Eq.{bytes_eq-Decides}
use Rattle.std.proofs.lemmas.Str.Parse.{tells_digits}
use Rattle.pm_dtext.specs.declared.fault.Fault.{Fault}
use Rattle.pm_dtext.specs.declared.fault.Fault.TheVariants.{Syntax}
use Rattle.pm_dtext.specs.Ranges.{IsI64}
use Rattle.pm_dtext.specs.Reading.{is_word_byte, word, after, expect_at, skip_at, or_syntax, says_at, named, number_of, where_it, up_to, literal_of, positive, negative, part_at, pair_at, parts_at}
use Rattle.pm_dtext.proofs.Numbers.{number_again, number_some, first_digit}
use Rattle.pm_dtext.proofs.Steps.{with_ok, chosen_ok, chosen, some_is, or_syntax_ok, ok_is, if_true, if_false, both_true, true_both, true_le, true_lt, le_true, lt_true, false_eq}

-- ---- words and separators

-- nothing, or a byte that ends a word
abbrev pub stops : List ℕ → Bool
stops [] = true
stops (b ∷ bytes) = not (is_word_byte b)

abbrev pub is_word : List ℕ → Bool
is_word w = list_all is_word_byte w

prefix_none : (p : ℕ → Bool) (b : ℕ) (bytes : List ℕ) → not (p b) ≡ true → prefix_len p (b ∷ bytes) ≡ 0
prefix_none p b bytes e = go (p b) refl
  where
    go : (t : Bool) → p b ≡ t → prefix_len p (b ∷ bytes) ≡ 0
    go true is = absurd cc
    go false is = if_false (p b) (1 + prefix_len p bytes) 0 is

prefix_more : (p : ℕ → Bool) (b : ℕ) (bytes : List ℕ) → p b ≡ true → prefix_len p (b ∷ bytes) ≡ 1 + prefix_len p bytes
prefix_more p b bytes e = if_true (p b) (1 + prefix_len p bytes) 0 e

prefix_stops : (rest : List ℕ) → stops rest ≡ true → prefix_len is_word_byte rest ≡ 0
prefix_stops [] e = refl
prefix_stops (b ∷ rest) e = prefix_none is_word_byte b rest e

prefix_word : (w rest : List ℕ) → is_word w ≡ true → stops rest ≡ true → prefix_len is_word_byte (w ++ rest) ≡ length w
prefix_word [] rest h e = prefix_stops rest e
prefix_word (b ∷ w) rest h e =
    let p = both_true (is_word_byte b) (is_word w) h in
    prefix_more is_word_byte b (w ++ rest) p.0 ∙ (let i : prefix_len is_word_byte (w ++ rest) ≡ length w = prefix_word w rest p.1 e in omega arith)

pub word_again : (w rest : List ℕ) → is_word w ≡ true → stops rest ≡ true → word (w ++ rest) ≡ w
word_again w rest h e = ap (λ k. take k (w ++ rest)) (prefix_word w rest h e) ∙ take-append_seam w rest

pub after_again : (w rest : List ℕ) → is_word w ≡ true → stops rest ≡ true → after (w ++ rest) ≡ rest
after_again w rest h e = ap (λ k. drop k (w ++ rest)) (prefix_word w rest h e) ∙ drop-append_seam w rest

pub expect_again : (w rest : List ℕ) → is_word w ≡ true → stops rest ≡ true → expect_at w (w ++ rest) ≡ Ok rest
unfolding expect_at
expect_again w rest h e =
    if_true (bytes_eq (word (w ++ rest)) w) (Ok (after (w ++ rest))) (Err (Syntax (length (w ++ rest)))) ((bytes_eq-Decides (word (w ++ rest)) w).1 (word_again w rest h e))
    ∙ ap (λ (x : List ℕ). Ok x) (after_again w rest h e)

-- a word that says x
pub says_again : {A : Type 0} (says : List ℕ → Option A) (w rest : List ℕ) (x : A) → is_word w ≡ true → stops rest ≡ true → says w ≡ Some x → says_at says (w ++ rest) ≡ Ok (x, rest)
unfolding says_at
says_again says w rest x h e s =
    ap (λ v. or_syntax (says v) (w ++ rest)) (word_again w rest h e) ∙ (ap (λ o. or_syntax o (w ++ rest)) s ∙ ap (λ r. Ok (x, r)) (after_again w rest h e))

-- the bytes begin with a word that says x
pub record Said {A : Type 0} (says : List ℕ → Option A) (bytes : List ℕ) (x : A) (rest : List ℕ) : Type 0 where
  pub w : List ℕ
  pub says_it : says w ≡ Some x
  pub parts : bytes ≡ w ++ rest

pub says_found : {A : Type 0} (says : List ℕ → Option A) (bytes : List ℕ) (x : A) (rest : List ℕ) → says_at says bytes ≡ Ok (x, rest) → Said says bytes x rest
unfolding says_at
says_found says bytes x rest e =
    let o = or_syntax_ok (says (word bytes)) bytes x rest e in
    record { w = word bytes; says_it = o.0; parts = sym (take-append-drop (prefix_len is_word_byte bytes) bytes) ∙ ap (λ r. word bytes ++ r) o.1 }

pub word_found : (w bytes : List ℕ) → bytes_eq (word bytes) w ≡ true → bytes ≡ w ++ after bytes
word_found w bytes e = sym (take-append-drop (prefix_len is_word_byte bytes) bytes) ∙ ap (λ x. x ++ after bytes) ((bytes_eq-Decides (word bytes) w).0 e)

pub expect_found : (w bytes rest : List ℕ) → expect_at w bytes ≡ Ok rest → bytes ≡ w ++ rest
unfolding expect_at
expect_found w bytes rest e =
    let c = chosen_ok (bytes_eq (word bytes) w) (after bytes) rest (Syntax (length bytes)) e in
    word_found w bytes c.0 ∙ ap (λ r. w ++ r) c.1

pub skip_found : (s : ℕ) (bytes rest : List ℕ) → skip_at s bytes ≡ Ok rest → bytes ≡ s ∷ rest
unfolding skip_at
skip_found s [] rest e = absurd cc
skip_found s (b ∷ bytes) rest e =
    let c = chosen_ok (b == s) bytes rest (Syntax (suc (length bytes))) e in
    let same : b ≡ s = (Decides-eqb b s).0 c.0 in
    cc

-- ---- parts behind a blank

pub part_again : {A : Type 0} (inner : List ℕ → Result (A × List ℕ) Fault) (bytes : List ℕ) → part_at inner (32 ∷ bytes) ≡ inner bytes
unfolding part_at skip_at
part_again inner bytes = refl

pub parts_again : {A B : Type 0} (make : A → A → B) (inner : List ℕ → Result (A × List ℕ) Fault) (a b rest : List ℕ) (x y : A) → inner a ≡ Ok (x, 32 ∷ b) → inner b ≡ Ok (y, rest) → parts_at make inner (32 ∷ a) ≡ Ok (make x y, rest)
unfolding parts_at pair_at part_at skip_at
parts_again make inner a b rest x y h k = rw h (rw k refl)

pub record PartFound {A : Type 0} (inner : List ℕ → Result (A × List ℕ) Fault) (bytes : List ℕ) (x : A) (rest : List ℕ) : Type 0 where
  pub at : List ℕ
  pub parts : bytes ≡ 32 ∷ at
  pub read : inner at ≡ Ok (x, rest)

pub part_found : {A : Type 0} (inner : List ℕ → Result (A × List ℕ) Fault) (bytes : List ℕ) (x : A) (rest : List ℕ) → part_at inner bytes ≡ Ok (x, rest) → PartFound inner bytes x rest
unfolding part_at
part_found {A} inner bytes x rest e =
    with_ok {B = A × List ℕ} (skip_at 32 bytes) _ (x, rest) e (λ a ea ha. record { at = a; parts = skip_found 32 bytes a ea; read = ha })

pub record PairFound {A B : Type 0} (make : A → A → B) (inner : List ℕ → Result (A × List ℕ) Fault) (bytes : List ℕ) (z : B) (rest : List ℕ) : Type 0 where
  pub x : A
  pub y : A
  pub a : List ℕ
  pub b : List ℕ
  pub parts : bytes ≡ 32 ∷ a
  pub first : inner a ≡ Ok (x, 32 ∷ b)
  pub second : inner b ≡ Ok (y, rest)
  pub made : make x y ≡ z

pair_made : {A B : Type 0} (make : A → A → B) (inner : List ℕ → Result (A × List ℕ) Fault) (bytes : List ℕ) (x y : A) (middle rest : List ℕ) → PartFound inner bytes x middle → PartFound inner middle y rest → PairFound make inner bytes (make x y) rest
pair_made make inner bytes x y middle rest p q = record {
  x = x;
  y = y;
  a = p.at;
  b = q.at;
  parts = p.parts;
  first = p.read ∙ ap (λ m. Ok (x, m)) q.parts;
  second = q.read;
  made = refl;
}

pub parts_found : {A B : Type 0} (make : A → A → B) (inner : List ℕ → Result (A × List ℕ) Fault) (bytes : List ℕ) (z : B) (rest : List ℕ) → parts_at make inner bytes ≡ Ok (z, rest) → PairFound make inner bytes z rest
unfolding parts_at pair_at
parts_found {A} {B} make inner bytes z rest e =
    with_ok (pair_at inner bytes) _ (z, rest) e (λ p ep hp.
    with_ok (part_at inner bytes) _ p ep (λ l el hl.
    with_ok (part_at inner l.1) _ p hl (λ r er hr.
    let same : (make l.0 r.0, r.1) ≡ (z, rest) = ap (λ (t : A × A × List ℕ). (make t.0 t.1, t.2)) (ok_is {A = A × A × List ℕ} (l.0, r.0, r.1) p hr) ∙ ok_is {A = B × List ℕ} (make p.0 p.1, p.2) (z, rest) hp in
    subst (λ (t : B × List ℕ). PairFound make inner bytes t.0 t.1) same
    (pair_made make inner bytes l.0 r.0 l.1 r.1 (part_found inner bytes l.0 l.1 el) (part_found inner l.1 r.0 r.1 er)))))

-- ---- tables of words

-- what stands beside a word is what the word spells, where that is so in each row
pub named_found : {A : Type 0} (text : A → List ℕ) (table : List (List ℕ × A)) (w : List ℕ) (x : A) → list_all (λ e. bytes_eq e.0 (text e.1)) table ≡ true → named table w ≡ Some x → w ≡ text x
named_found text [] w x h e = absurd cc
named_found {A} text (r ∷ table) w x h e =
    let p = both_true (bytes_eq r.0 (text r.1)) (list_all (λ (q : List ℕ × A). bytes_eq q.0 (text q.1)) table) h in
    elim (chosen (bytes_eq w r.0) (Some r.1) (named table w) (Some x) e) [
      | inl c ↦
          let same : r.1 ≡ x = cc in
          (bytes_eq-Decides w r.0).0 c.0 ∙ ((bytes_eq-Decides r.0 (text r.1)).0 p.0 ∙ ap text same)
      | inr c ↦ named_found text table w x p.1 c.1
    ]

-- each thing in the table passes the test, where each row's does
pub named_passes : {A : Type 0} (test : A → Bool) (table : List (List ℕ × A)) (w : List ℕ) (x : A) → list_all (λ e. test e.1) table ≡ true → named table w ≡ Some x → test x ≡ true
named_passes test [] w x h e = absurd cc
named_passes {A} test (r ∷ table) w x h e =
    let p = both_true (test r.1) (list_all (λ (q : List ℕ × A). test q.1) table) h in
    elim (chosen (bytes_eq w r.0) (Some r.1) (named table w) (Some x) e) [
      | inl c ↦
          let same : r.1 ≡ x = cc in
          subst (λ (y : A). test y ≡ true) same p.0
      | inr c ↦ named_passes test table w x p.1 c.1
    ]

-- ---- numbers

pub is_word_unless : (b : ℕ) → b ≢ 32 → b ≢ 10 → is_word_byte b ≡ true
is_word_unless b h g =
    let space : (b == 32) ≡ false = false_eq b 32 h in
    let end : (b == 10) ≡ false = false_eq b 10 g in
    rw space (rw end refl)

digits_word : (ds : List ℕ) → AllDigits 10 ds → is_word ds ≡ true
digits_word [] h = refl
digits_word (d ∷ ds) h =
    let p = tells_digits.parts d ds h in
    let this : is_word_byte d ≡ true = is_word_unless d (λ e. absurd (omega (arith, p.0, e))) (λ e. absurd (omega (arith, p.0, e))) in
    rw this (digits_word ds p.1)

pub decimal_word : (n : ℕ) → n < 2 ^ 64 → is_word (decimal n) ≡ true
decimal_word n small = digits_word (decimal n) (decimal_is_IsNumeral n small).0.1

pub number_at_again : (n : ℕ) (rest : List ℕ) → n < 2 ^ 64 → stops rest ≡ true → says_at number_of (decimal n ++ rest) ≡ Ok (n, rest)
number_at_again n rest small e = says_again number_of (decimal n) rest n (decimal_word n small) e (number_again n small)

pub number_at_found : (bytes : List ℕ) (n : ℕ) (rest : List ℕ) → says_at number_of bytes ≡ Ok (n, rest) → bytes ≡ decimal n ++ rest
number_at_found bytes n rest e =
    let s = says_found number_of bytes n rest e in
    s.parts ∙ ap (λ w. w ++ rest) (number_some s.w n s.says_it).0

pub number_at_small : (bytes : List ℕ) (n : ℕ) (rest : List ℕ) → says_at number_of bytes ≡ Ok (n, rest) → n < 2 ^ 64
number_at_small bytes n rest e = let s = says_found number_of bytes n rest e in (number_some s.w n s.says_it).1

pub where_again : (test : ℕ → Bool) (n : ℕ) → n < 2 ^ 64 → test n ≡ true → where_it test (number_of (decimal n)) ≡ Some n
where_again test n small h = rw (number_again n small) (if_true (test n) (Some n) None h)

pub record NumberFound (test : ℕ → Bool) (w : List ℕ) (n : ℕ) : Type 0 where
  pub spelled : w ≡ decimal n
  pub passes : test n ≡ true

pub where_found : (test : ℕ → Bool) (w : List ℕ) (n : ℕ) → where_it test (number_of w) ≡ Some n → NumberFound test w n
where_found test w n h = go (number_of w) refl h
  where
    go : (o : Option ℕ) → number_of w ≡ o → where_it test o ≡ Some n → NumberFound test w n
    go None e h = absurd cc
    go (Some m) e h =
        let c = some_is (test m) m n h in
        record { spelled = (number_some w m e).0 ∙ ap decimal c.1; passes = subst (λ (k : ℕ). test k ≡ true) c.1 c.0 }

pub up_to_again : (most n : ℕ) (rest : List ℕ) → n < 2 ^ 64 → n ≤ most → stops rest ≡ true → says_at (up_to most) (decimal n ++ rest) ≡ Ok (n, rest)
unfolding up_to
up_to_again most n rest small h e = says_again (up_to most) (decimal n) rest n (decimal_word n small) e (where_again (λ k. nat_le k most) n small (true_le n most h))

pub record UpToFound (most : ℕ) (bytes : List ℕ) (n : ℕ) (rest : List ℕ) : Type 0 where
  pub parts : bytes ≡ decimal n ++ rest
  pub within : n ≤ most

pub up_to_found : (most : ℕ) (bytes : List ℕ) (n : ℕ) (rest : List ℕ) → says_at (up_to most) bytes ≡ Ok (n, rest) → UpToFound most bytes n rest
unfolding up_to
up_to_found most bytes n rest e =
    let s = says_found (up_to most) bytes n rest e in
    let f = where_found (λ k. nat_le k most) s.w n s.says_it in
    record { parts = s.parts ∙ ap (λ w. w ++ rest) f.spelled; within = le_true n most f.passes }

plain_again : (w : List ℕ) (n : ℕ) → number_of w ≡ Some n → n < 2 ^ 63 → get_or w 0 0 ≢ 45 → 0 < length w → literal_of w ≡ Some (pos n)
unfolding literal_of
plain_again [] n e small h more = absurd (omega arith)
plain_again (b ∷ w) n e small h more =
    if_false (b == 45) (negative (number_of w)) (positive (number_of (b ∷ w))) (false_eq b 45 h)
    ∙ (ap positive e ∙ if_true (nat_lt n (2 ^ 63)) (Some (pos n)) None (true_lt n (2 ^ 63) small))

minus_again : (n : ℕ) → n < 2 ^ 63 → literal_of (45 ∷ decimal (suc n)) ≡ Some (negsuc n)
unfolding literal_of
minus_again n small =
    let fits : (nat_le 1 (suc n) && nat_le (suc n) (2 ^ 63)) ≡ true = true_both (nat_le 1 (suc n)) (nat_le (suc n) (2 ^ 63)) (true_le 1 (suc n) (omega arith)) (true_le (suc n) (2 ^ 63) (omega arith)) in
    let same : suc n - 1 ≡ n = omega arith in
    ap negative (number_again (suc n) (omega arith))
    ∙ (if_true (nat_le 1 (suc n) && nat_le (suc n) (2 ^ 63)) (Some (negsuc (suc n - 1))) None fits ∙ ap (λ k. Some (negsuc k)) same)

pub literal_again : (z : ℤ) → IsI64 z → literal_of (signed_decimal z) ≡ Some z
literal_again (pos n) h =
    let small : n < 2 ^ 64 = omega arith in
    let first = first_digit n small in
    plain_again (decimal n) n (number_again n small) h (λ e. absurd (omega (arith, first.0, e))) first.2
literal_again (negsuc n) h = minus_again n h

pub literal_word : (z : ℤ) → IsI64 z → is_word (signed_decimal z) ≡ true
literal_word (pos n) h = decimal_word n (omega arith)
literal_word (negsuc n) h = decimal_word (suc n) (omega arith)

pub literal_at_again : (z : ℤ) (rest : List ℕ) → IsI64 z → stops rest ≡ true → says_at literal_of (signed_decimal z ++ rest) ≡ Ok (z, rest)
literal_at_again z rest h e = says_again literal_of (signed_decimal z) rest z (literal_word z h) e (literal_again z h)

positive_is : (o : Option ℕ) (z : ℤ) → positive o ≡ Some z → (n : ℕ) × (o ≡ Some n) × (z ≡ pos n) × (n < 2 ^ 63)
positive_is None z e = absurd cc
positive_is (Some n) z e =
    let c = some_is (nat_lt n (2 ^ 63)) (pos n) z e in
    (n, refl, sym c.1, lt_true n (2 ^ 63) c.0)

negative_is : (o : Option ℕ) (z : ℤ) → negative o ≡ Some z → (n : ℕ) × (o ≡ Some (suc n)) × (z ≡ negsuc n) × (n < 2 ^ 63)
negative_is None z e = absurd cc
negative_is (Some zero) z e = absurd cc
negative_is (Some (suc n)) z e =
    let c = some_is (nat_le 1 (suc n) && nat_le (suc n) (2 ^ 63)) (negsuc (suc n - 1)) z e in
    let same : suc n - 1 ≡ n = omega arith in
    let below : suc n ≤ 2 ^ 63 = le_true (suc n) (2 ^ 63) (both_true (nat_le 1 (suc n)) (nat_le (suc n) (2 ^ 63)) c.0).1 in
    (n, refl, sym c.1 ∙ ap negsuc same, omega arith)

pub literal_some : (w : List ℕ) (z : ℤ) → literal_of w ≡ Some z → (w ≡ signed_decimal z) × IsI64 z
unfolding literal_of
literal_some [] z e = absurd cc
literal_some (b ∷ w) z e =
    elim (chosen (b == 45) (negative (number_of w)) (positive (number_of (b ∷ w))) (Some z) e) [
      | inl c ↦
          let n = negative_is (number_of w) z c.1 in
          let minus : b ≡ 45 = (Decides-eqb b 45).0 c.0 in
          let digits : w ≡ decimal (suc n.0) = (number_some w (suc n.0) n.1).0 in
          let whole : b ∷ w ≡ 45 ∷ decimal (suc n.0) = cc in
          (whole ∙ ap signed_decimal (sym n.2), subst (λ (y : ℤ). IsI64 y) (sym n.2) n.3)
      | inr c ↦
          let n = positive_is (number_of (b ∷ w)) z c.1 in
          ((number_some (b ∷ w) n.0 n.1).0 ∙ ap signed_decimal (sym n.2), subst (λ (y : ℤ). IsI64 y) (sym n.2) n.3)
    ]

pub record LiteralFound (bytes : List ℕ) (z : ℤ) (rest : List ℕ) : Type 0 where
  pub parts : bytes ≡ signed_decimal z ++ rest
  pub fits : IsI64 z

pub literal_at_found : (bytes : List ℕ) (z : ℤ) (rest : List ℕ) → says_at literal_of bytes ≡ Ok (z, rest) → LiteralFound bytes z rest
literal_at_found bytes z rest e =
    let s = says_found literal_of bytes z rest e in
    let f = literal_some s.w z s.says_it in
    record { parts = s.parts ∙ ap (λ w. w ++ rest) f.0; fits = f.1 }
