-- A name that stands before bytes that do not continue it is read whole.
use Rattle.std.proofs.Common.{◌≡◌, ℕ, zero, suc, ◌+◌, ◌<◌, ◌≤◌, Bool, true, false, cond, ◌&&◌, ◌||◌, ◌==◌, not, List, [], ◌∷◌, ◌++◌, length, length-append, take, drop, Option, Some, None, refl, sym, ap, subst, ◌∙◌, arith, append_assoc}
use Rattle.std.specs.Prelude.{codes, nat_le, nat_lt, eqb}
use Rattle.std.specs.Char.{len_utf8, is_ascii_alphabetic}
use Rattle.std.specs.Int.{is_in_range}
use Rattle.std.specs.List.{list_all, prefix_len}
use Rattle.std.specs.Str.{IsUtf8, is_utf8, chars, bytes_eq}
use Rattle.std.proofs.Math.Seq.{take-append_seam, drop-append_seam}
use Rattle.std.proofs.lemmas.Bool.Decides.{nat_tests}
use Rattle.std.proofs.lemmas.List.{append-nil, take-append-drop, take-append-le, length-take}
use Rattle.std.proofs.lemmas.Str.{chars-encodes, encode_same, length-encode, len_utf8_bounds, char_from_byte, is_utf8-from_IsUtf8, IsUtf8-from_is_utf8}
use Rattle.unicode_ident.proofs.IdentLemmas.{is_xid_start-ascii}
use lib.Utf8.{scalar, scalars, encode, encodes}
use Rattle.pm_names.proofs.Characters.{both_true}
use Rattle.pm_names.specs.Names.{starts_name, continues_name}
use Rattle.pm_tokens.specs.Characters.{one, only_char, front_char, or_else, first_char, run, name_by, name_len, with_len, is_digit, number_of}
use Rattle.pm_tokens.specs.declared.mode.Mode.{Mode}
use Rattle.pm_tokens.specs.declared.symbol.Symbol.{Symbol}
use Rattle.pm_tokens.specs.Tokens.{name, number, symbol}
use Rattle.pm_tokens.specs.Symbols.{begins, keyword, symbol_at}
use Rattle.pm_names.specs.Names.{is_identifier, is_reserved, is_name}
use Rattle.pm_tokens.proofs.Reserved.{is_no_keyword}
use Rattle.pm_tokens.specs.Pieces.{token, is_quoted, is_blank, begins_with, digits, word, word_or_sign, first_piece}
use Rattle.pm_tokens.specs.Spelling.{ends_name, ends_by, begins_otherwise, NamesAreRead, NumbersAreRead, SymbolsAreRead}
use Rattle.pm_tokens.proofs.Runs.{run_on}
use Rattle.pm_tokens.proofs.Tables.{SymbolFits, symbol_fits}

-- ---- the first character

no_front : (k c : ℕ) → 0 < k → k < len_utf8 c → IsUtf8 (take k (encode c)) → ⊥
no_front k c some short u = go u.0 u.1.1
  where
    len : length (encode c) ≡ len_utf8 c
    len = length-encode c

    go : (cs : List ℕ) → encodes cs ≡ take k (encode c) → ⊥
    go [] e = let l : 0 ≡ length (take k (encode c)) = ap length e in omega (arith, l, length-take k (encode c), len, some, short)
    go (d ∷ ds) e =
        let back : List ℕ = drop k (encode c) in
        let whole : encode d ++ (encodes ds ++ back) ≡ encode c ++ [] =
        sym (append_assoc (encode d) (encodes ds) back) ∙ (ap (λ x. x ++ back) e ∙ (take-append-drop k (encode c) ∙ sym (append-nil (encode c)))) in
        let none : length (encodes ds ++ back) ≡ 0 = ap length (encode_same d c (encodes ds ++ back) [] whole).1 in
        let front : length (take k (encode c)) + length back ≡ length (encode c) = sym (length-append (take k (encode c)) back) ∙ ap length (take-append-drop k (encode c)) in
        omega (arith, none, length-append (encodes ds) back, front, length-take k (encode c), len, short)

no_char : (k c : ℕ) (rest : List ℕ) → 0 < k → k < len_utf8 c → front_char k (encode c ++ rest) ≡ None
unfolding front_char only_char
no_char k c rest some short = go (is_utf8 (take k (encode c ++ rest))) refl
  where
    same : take k (encode c ++ rest) ≡ take k (encode c)
    same = take-append-le k (encode c) rest (omega (arith, length-encode c, short))

    either : (b : Bool) → cond b (with_len k None) None ≡ None
    either true = refl
    either false = refl

    go : (t : Bool) → is_utf8 (take k (encode c ++ rest)) ≡ t → cond (nat_le k (length (encode c ++ rest))) (with_len k (cond t (one (chars (take k (encode c ++ rest)))) None)) None ≡ None
    go true e = absurd (no_front k c some short (subst IsUtf8 same (IsUtf8-from_is_utf8 _ e)))
    go false e = either (nat_le k (length (encode c ++ rest)))

alone : (c : ℕ) → scalar c ≡ true → only_char (encode c) ≡ Some c
unfolding only_char
alone c s =
    let all : scalars (c ∷ []) ≡ true = rw s refl in
    let text : is_utf8 (encode c) ≡ true = is_utf8-from_IsUtf8 (encode c) (c ∷ [], (all, append-nil (encode c))) in
    let has : chars (encode c) ≡ c ∷ [] = ap chars (sym (append-nil (encode c))) ∙ chars-encodes (c ∷ []) all in
    rw (text, has) refl

is_char : (c : ℕ) (rest : List ℕ) → scalar c ≡ true → front_char (len_utf8 c) (encode c ++ rest) ≡ Some (c, len_utf8 c)
unfolding front_char
is_char c rest s =
    let n = len_utf8 c in
    let within : nat_le n (length (encode c ++ rest)) ≡ true = grind (arith, nat_tests, length-append (encode c) rest, length-encode c) in
    let front : take n (encode c ++ rest) ≡ encode c = ap (λ k. take k (encode c ++ rest)) (sym (length-encode c)) ∙ take-append_seam (encode c) rest in
    rw (within, front, alone c s) refl

least : (f : ℕ → Option (ℕ × ℕ)) (n : ℕ) (x : ℕ × ℕ) → 0 < n → n ≤ 4 → ((k : ℕ) → 0 < k → k < n → f k ≡ None) → f n ≡ Some x → or_else (f 1) (or_else (f 2) (or_else (f 3) (f 4))) ≡ Some x
least f zero x some few none is = absurd (omega arith)
least f (suc zero) x some few none is = rw is refl
least f (suc (suc zero)) x some few none is = rw (none 1 (omega arith) (omega arith), is) refl
least f (suc (suc (suc zero))) x some few none is = rw (none 1 (omega arith) (omega arith), none 2 (omega arith) (omega arith), is) refl
least f (suc (suc (suc (suc zero)))) x some few none is = rw (none 1 (omega arith) (omega arith), none 2 (omega arith) (omega arith), none 3 (omega arith) (omega arith), is) refl
least f (suc (suc (suc (suc (suc n))))) x some few none is = absurd (omega arith)

pub first_char_is : (c : ℕ) (rest : List ℕ) → scalar c ≡ true → first_char (encode c ++ rest) ≡ Some (c, len_utf8 c)
unfolding first_char
first_char_is c rest s =
    let bounds = len_utf8_bounds c in
    least (λ k. front_char k (encode c ++ rest)) (len_utf8 c) (c, len_utf8 c) (omega (arith, bounds.0)) bounds.1 (λ k some short. no_char k c rest some short) (is_char c rest s)

-- ---- runs

past_char : (c : ℕ) (rest : List ℕ) → drop (len_utf8 c) (encode c ++ rest) ≡ rest
past_char c rest = ap (λ k. drop k (encode c ++ rest)) (sym (length-encode c)) ∙ drop-append_seam (encode c) rest

no_more : (rest : List ℕ) → ends_name rest ≡ true → run 0 rest ≡ 0
unfolding run
no_more [] e = refl
no_more (b ∷ rest) e = go (first_char (b ∷ rest)) refl e
  where
    stop : (c n : ℕ) (t : Bool) → continues_name c ≡ t → first_char (b ∷ rest) ≡ Some (c, n) → not t ≡ true → run 0 (b ∷ rest) ≡ 0
    stop c n true p f e = absurd cc
    stop c n false p f e = rw (f, p) refl

    go : (o : Option (ℕ × ℕ)) → first_char (b ∷ rest) ≡ o → ends_by o ≡ true → run 0 (b ∷ rest) ≡ 0
    go None f e = rw f refl
    go (Some (c, n)) f e = stop c n (continues_name c) refl f e

run_all : (cs rest : List ℕ) → scalars cs ≡ true → list_all continues_name cs ≡ true → ends_name rest ≡ true → run 0 (encodes cs ++ rest) ≡ length (encodes cs)
run_all [] rest s all e = no_more rest e
run_all (c ∷ cs) rest s all e =
    let sc = both_true (scalar c) (scalars cs) s in
    let pc = both_true (continues_name c) (list_all continues_name cs) all in
    let tail : List ℕ = encodes cs ++ rest in
    let split : encodes (c ∷ cs) ++ rest ≡ encode c ++ tail = append_assoc (encode c) (encodes cs) rest in
    let n = len_utf8 c in
    let within : n ≤ length (encode c ++ tail) = omega (arith, length-append (encode c) tail, length-encode c) in
    let turn = run_on (encode c ++ tail) c n 0 (run 0 (encode c ++ tail)) (first_char_is c tail sc.0) (omega (arith, (len_utf8_bounds c).0)) within pc.0 (omega arith) in
    let later = ap (λ xs. run 0 xs) (past_char c tail) ∙ run_all cs rest sc.1 pc.1 e in
    rw split (omega (arith, turn, later, length-append (encode c) (encodes cs), length-encode c))

name_len_all : (c : ℕ) (cs rest : List ℕ) → scalars (c ∷ cs) ≡ true → starts_name c ≡ true → list_all continues_name cs ≡ true → ends_name rest ≡ true
    → name_len (encodes (c ∷ cs) ++ rest) ≡ length (encodes (c ∷ cs))
unfolding name_len
name_len_all c cs rest s starts all e =
    let sc = both_true (scalar c) (scalars cs) s in
    let tail : List ℕ = encodes cs ++ rest in
    let split : encodes (c ∷ cs) ++ rest ≡ encode c ++ tail = append_assoc (encode c) (encodes cs) rest in
    let first : name_by (first_char (encode c ++ tail)) (encode c ++ tail) ≡ len_utf8 c + run 0 (drop (len_utf8 c) (encode c ++ tail)) = rw (first_char_is c tail sc.0, starts) refl in
    let later = ap (λ xs. run 0 xs) (past_char c tail) ∙ run_all cs rest sc.1 all e in
    rw split (omega (arith, first, later, length-append (encode c) (encodes cs), length-encode c))

-- ---- the piece that a name is

either : (x y : Bool) (P : Type 0) → (x || y) ≡ true → (x ≡ true → P) → (y ≡ true → P) → P
either true y P e f g = f refl
either false y P e f g = g e

least_of : (low high b : ℕ) → is_in_range low high b ≡ true → low ≤ b
least_of low high b e = let p = both_true (nat_le low b) (nat_le b high) e in grind (arith, nat_tests, p.0)

-- a name starts with no byte below 65
letter_least : (b : ℕ) → b < 128 → starts_name b ≡ true → 65 ≤ b
letter_least b ascii e =
    let starts : (is_ascii_alphabetic b || b == 95) ≡ true = ap (λ x. x || b == 95) (sym (is_xid_start-ascii b ascii)) ∙ e in
    either (is_ascii_alphabetic b) (b == 95) (65 ≤ b) starts
    (λ l. either (is_in_range 65 90 b) (is_in_range 97 122 b) (65 ≤ b) l (λ h. least_of 65 90 b h) (λ h. let m = least_of 97 122 b h in omega (arith, m)))
    (λ u. grind (arith, nat_tests, u))

byte_least : (b c : ℕ) (bs tail : List ℕ) → b ∷ bs ≡ encode c ++ tail → starts_name c ≡ true → 65 ≤ b
byte_least b c bs tail e starts = go (nat_lt b 128) refl
  where
    go : (t : Bool) → nat_lt b 128 ≡ t → 65 ≤ b
    go true l =
        let ascii : b < 128 = grind (arith, nat_tests, l) in
        let same : c ≡ b = char_from_byte (b ∷ bs) tail c e ascii (omega arith) in
        letter_least b ascii (ap starts_name (sym same) ∙ starts)
    go false l = grind (arith, nat_tests, l)

named_piece : (mode : Mode) (xs : List ℕ) (c : ℕ) (tail : List ℕ) → xs ≡ encode c ++ tail → starts_name c ≡ true → first_piece mode xs ≡ word_or_sign mode (name_len xs) xs
unfolding first_piece
named_piece mode [] c tail e starts = absurd (let l : 0 ≡ length (encode c ++ tail) = ap length e in omega (arith, l, length-append (encode c) tail, length-encode c, (len_utf8_bounds c).0))
named_piece mode (b ∷ bs) c tail e starts =
    let least = byte_least b c bs tail e starts in
    let space : (b == 32) ≡ false = grind (arith, nat_tests, least) in
    let tab : (b == 9) ≡ false = grind (arith, nat_tests, least) in
    let return : (b == 13) ≡ false = grind (arith, nat_tests, least) in
    let line : (b == 10) ≡ false = grind (arith, nat_tests, least) in
    let paren : eqb 40 b ≡ false = grind (arith, nat_tests, least) in
    let above : nat_le b 57 ≡ false = grind (arith, nat_tests, least) in
    let from : nat_le 48 b ≡ true = grind (arith, nat_tests, least) in
    rw (space, tab, return, line, paren, from, above) refl

whole_word : (mode : Mode) (w rest : List ℕ) → 0 < length w → (is_quoted mode && bytes_eq w (codes "_")) ≡ false → keyword w ≡ None
    → word_or_sign mode (length w) (w ++ rest) ≡ Some (token (name w), length w)
unfolding word_or_sign word
whole_word mode w rest some quoted missing =
    let filled : (length w == 0) ≡ false = grind (arith, nat_tests, some) in
    rw (filled, take-append_seam w rest, quoted, missing) refl

pub names_are_read : NamesAreRead
unfolding is_name is_identifier
names_are_read mode w rest is quoted ends =
    let p = both_true (is_utf8 w && is_identifier (chars w)) (not (is_reserved w)) is in
    let q = both_true (is_utf8 w) (is_identifier (chars w)) p.0 in
    let u = IsUtf8-from_is_utf8 w q.0 in
    let same : chars w ≡ u.0 = ap chars (sym u.1.1) ∙ chars-encodes u.0 u.1.0 in
    go u.0 u.1.0 u.1.1 (ap is_identifier (sym same) ∙ q.1) (is_no_keyword w p.1)
  where
    go : (cs : List ℕ) → scalars cs ≡ true → encodes cs ≡ w → is_identifier cs ≡ true → keyword w ≡ None → first_piece mode (w ++ rest) ≡ Some (token (name w), length w)
    go [] s e i missing = absurd cc
    go (c ∷ cs) s e i missing =
        let st = both_true (starts_name c) (list_all continues_name cs) i in
        let split : w ++ rest ≡ encode c ++ (encodes cs ++ rest) = ap (λ x. x ++ rest) (sym e) ∙ append_assoc (encode c) (encodes cs) rest in
        let len : name_len (w ++ rest) ≡ length w = ap (λ x. name_len (x ++ rest)) (sym e) ∙ (name_len_all c cs rest s st.0 st.1 ends ∙ ap length e) in
        let all : length (encode c ++ encodes cs) ≡ length w = ap length e in
        let some : 0 < length w = omega (arith, all, length-append (encode c) (encodes cs), length-encode c, (len_utf8_bounds c).0) in
        named_piece mode (w ++ rest) c (encodes cs ++ rest) split st.0 ∙ (ap (λ n. word_or_sign mode n (w ++ rest)) len ∙ whole_word mode w rest some quoted missing)

-- ---- numbers and symbols

all_digits : (ds rest : List ℕ) → list_all is_digit ds ≡ true → begins_with is_digit rest ≡ false → prefix_len is_digit (ds ++ rest) ≡ length ds
all_digits [] [] all stop = refl
all_digits [] (b ∷ rest) all stop = rw stop refl
all_digits (d ∷ ds) rest all stop =
    let p = both_true (is_digit d) (list_all is_digit ds) all in
    let later = all_digits ds rest p.1 stop in
    rw p.0 (omega (arith, later))

digits_of : (xs : List ℕ) (n : ℕ) → prefix_len is_digit xs ≡ n → digits xs ≡ Some (token (number (number_of (take n xs))), n)
unfolding digits
digits_of xs n e = rw e refl

digit_piece : (mode : Mode) (d : ℕ) (xs : List ℕ) → is_digit d ≡ true → first_piece mode (d ∷ xs) ≡ digits (d ∷ xs)
unfolding first_piece
digit_piece mode d xs digit =
    let low : 48 ≤ d = let p = both_true (nat_le 48 d) (nat_le d 57) digit in grind (arith, nat_tests, p.0) in
    let space : (d == 32) ≡ false = grind (arith, nat_tests, low) in
    let tab : (d == 9) ≡ false = grind (arith, nat_tests, low) in
    let return : (d == 13) ≡ false = grind (arith, nat_tests, low) in
    let line : (d == 10) ≡ false = grind (arith, nat_tests, low) in
    let paren : eqb 40 d ≡ false = grind (arith, nat_tests, low) in
    rw (space, tab, return, line, paren, digit) refl

pub numbers_are_read : NumbersAreRead
numbers_are_read mode d ds rest all stop =
    let digit : is_digit d ≡ true = (both_true (is_digit d) (list_all is_digit ds) all).0 in
    let xs : List ℕ = d ∷ ds ++ rest in
    let n = length (d ∷ ds) in
    let front : take n xs ≡ d ∷ ds = take-append_seam (d ∷ ds) rest in
    digit_piece mode d (ds ++ rest) digit ∙ (digits_of xs n (all_digits (d ∷ ds) rest all stop) ∙ ap (λ w. Some (token (number (number_of w)), n)) front)

no_name : (c : ℕ) (rest : List ℕ) → scalar c ≡ true → starts_name c ≡ false → name_len (encode c ++ rest) ≡ 0
unfolding name_len
no_name c rest s starts = rw (first_char_is c rest s, starts) refl

neither : (x y : Bool) → (x || y) ≡ false → (x ≡ false) × (y ≡ false)
neither true y e = absurd cc
neither false y e = (refl, e)

otherwise : (mode : Mode) (xs : List ℕ) (n : ℕ) (s : Symbol) → begins_otherwise xs ≡ false → name_len xs ≡ 0 → symbol_at mode xs ≡ Some (s, n) → first_piece mode xs ≡ Some (token (symbol s), n)
unfolding first_piece word_or_sign
otherwise mode [] n s other none found = let fits = subst (λ o. SymbolFits [] o) found (symbol_fits mode []) in absurd (omega (arith, fits.0, fits.1))
otherwise mode (b ∷ bs) n s other none found =
    let p = neither (is_blank b || begins (codes "(*") (b ∷ bs)) (is_digit b) other in
    let q = neither (is_blank b) (begins (codes "(*") (b ∷ bs)) p.0 in
    rw (q.0, q.1, p.1, none, found) refl

pub symbols_are_read : SymbolsAreRead
symbols_are_read mode c n rest s text starts other found = otherwise mode (encode c ++ rest) n s other (no_name c rest text starts) found
