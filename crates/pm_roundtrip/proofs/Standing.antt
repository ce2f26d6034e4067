-- Printed pieces that are read before what stands behind them.
use Rattle.std.proofs.Common.{◌≡◌, ℕ, suc, ◌+◌, ◌-◌, ◌*◌, ◌%◌, ◌^◌, ◌<◌, Bool, true, false, ◌==◌, not, List, [], ◌∷◌, ◌++◌, length, length-append, Option, Some, None, refl, sym, ap, ◌∙◌, arith, append_assoc}
use Rattle.std.specs.Prelude.{codes, eqb, nat_lt}
use Rattle.std.specs.Char.{encode_utf8}
use Rattle.std.specs.Fmt.{decimal}
use Rattle.std.specs.List.{list_all}
use Rattle.std.specs.Str.{bytes_eq}
use Rattle.std.proofs.Math.Seq.{take-append_seam}
use Rattle.std.proofs.lemmas.Bool.Decides.{nat_tests}
use Rattle.std.proofs.lemmas.Fmt.{decimal_by_steps}
use Rattle.std.proofs.lemmas.Str.{length-encode, len_utf8_bounds, encode_ascii, len_utf8_ascii}
use Rattle.std.proofs.lemmas.List.Folds.{list_all-append}
use Rattle.unicode_ident.proofs.Computing.{unicode_ident}
use lib.Utf8.{scalar, encode}
use denote.Enum.Bare.{sameb}
use Rattle.pm_names.specs.Names.{starts_name, continues_name, is_name}
use Rattle.pm_tokens.specs.contracts.symbol.Symbol.{the_type}
use Rattle.pm_tokens.specs.declared.mode.Mode.{Mode}
use Rattle.pm_tokens.specs.declared.mode.Mode.TheVariants.{Start, Outside, Quoted, OutsideLinear, QuotedLinear}
use Rattle.pm_tokens.specs.declared.symbol.Symbol.{Symbol}
use Rattle.pm_tokens.specs.declared.symbol.Symbol.TheVariants as s
use Rattle.pm_tokens.specs.Tokens.{name, number}
use Rattle.pm_tokens.specs.Characters.{first_char, front_char, run, name_len, is_digit, number_behind, number_of}
use Rattle.pm_tokens.specs.Modes.{started, after}
use Rattle.pm_tokens.specs.Symbols.{row_at, longer, longest, symbol_at, symbols, keywords, keyword}
use Rattle.pm_tokens.specs.Words.{lookup}
use Rattle.pm_tokens.specs.Pieces.{is_quoted, begins_with, word, word_or_sign, first_piece}
use Rattle.pm_tokens.specs.Spelling.{ends_name, ends_by, begins_otherwise}
use Rattle.pm_tokens.proofs.Spelled.{first_char_is, names_are_read, numbers_are_read, symbols_are_read}
use Rattle.pm_print.specs.Printing.{blank, token, sign, same_symbol, spelling, spelled}
use Rattle.pm_roundtrip.proofs.LexedPieces.{Stands, read_as}

-- ---- modes outside quotes

started_plain : (m : Mode) (linear : Bool) → is_quoted m ≡ false → is_quoted (started m linear) ≡ false
started_plain Start true e = refl
started_plain Start false e = refl
started_plain Outside linear e = refl
started_plain Quoted linear e = absurd cc
started_plain OutsideLinear linear e = refl
started_plain QuotedLinear linear e = absurd cc

outside : (m : Mode) (bytes : List ℕ) → is_quoted m ≡ false → symbol_at m bytes ≡ longest symbols bytes
unfolding symbol_at
outside Start bytes e = refl
outside Outside bytes e = refl
outside Quoted bytes e = absurd cc
outside OutsideLinear bytes e = refl
outside QuotedLinear bytes e = absurd cc

-- ---- blanks, names and numbers

pub blank_stands : (rest : List ℕ) → Stands blank rest
unfolding spelled first_piece
blank_stands rest = record { found = λ m plain. refl; some = omega arith; plain = λ m plain. plain }

pub name_stands : (w rest : List ℕ) → is_name w ≡ true → 0 < length w → ends_name rest ≡ true → Stands (token (name w)) rest
unfolding spelled after
name_stands w rest is some ends = record {
  found = λ m plain. names_are_read m w rest is (rw plain refl) ends;
  some = some;
  plain = λ m plain. started_plain m (bytes_eq w (codes "linear")) plain;
}

behind_push : (n d : ℕ) (ds : List ℕ) → number_behind n (ds ++ d ∷ []) ≡ number_behind n ds * 10 + (d - 48)
behind_push n d [] = refl
behind_push n d (x ∷ ds) = behind_push (n * 10 + (x - 48)) d ds

pub record Spells (n : ℕ) (ds : List ℕ) : Type 0 where
  pub digits : list_all is_digit ds ≡ true
  pub value : number_behind 0 ds ≡ n
  pub some : 0 < length ds

pub decimal_spells : (n : ℕ) → n < 2 ^ 64 → Spells n (decimal n)
decimal_spells = decimal_by_steps Spells
    (λ n small. record { digits = grind (arith, nat_tests); value = omega arith; some = omega arith })
    (λ n ds large h. record {
      digits = list_all-append is_digit ds ((48 + n % 10) ∷ []) ∙ rw h.digits (grind (arith, nat_tests));
      value = behind_push 0 (48 + n % 10) ds ∙ rw h.value (omega arith);
      some = omega (arith, length-append ds ((48 + n % 10) ∷ []));
    })

pub number_stands : (n : ℕ) (rest : List ℕ) → n < 2 ^ 64 → begins_with is_digit rest ≡ false → Stands (token (number n)) rest
unfolding spelled after
number_stands n rest small stop = go (decimal n) refl (decimal_spells n small)
  where
    go : (ds : List ℕ) → decimal n ≡ ds → Spells n ds → Stands (token (number n)) rest
    go [] e h = absurd (omega (arith, h.some))
    go (d ∷ ds) e h =
        let value : number_of (d ∷ ds) ≡ n = omega (arith, h.value) in
        record {
          found = λ m plain. rw e (numbers_are_read m d ds rest h.digits stop ∙ ap (λ k. Some (read_as (token (number k)), length (d ∷ ds))) value);
          some = rw e (omega arith);
          plain = λ m plain. started_plain m false plain;
        }

-- ---- symbols

sign_stands : (r : Symbol) (c : ℕ) (tail rest : List ℕ) → spelled (sign r) ≡ encode_utf8 c ++ tail → sameb the_type r s.Quote ≡ false → scalar c ≡ true → starts_name c ≡ false
    → begins_otherwise (encode_utf8 c ++ (tail ++ rest)) ≡ false → longest symbols (encode_utf8 c ++ (tail ++ rest)) ≡ Some (r, length (spelled (sign r))) → Stands (sign r) rest
unfolding after
sign_stands r c tail rest is quote char starts other found = record {
  found = λ m plain. ap (λ xs. first_piece m (xs ++ rest)) is ∙ (ap (λ xs. first_piece m xs) (append_assoc (encode_utf8 c) tail rest)
      ∙ symbols_are_read m c (length (spelled (sign r))) (tail ++ rest) r char starts other (outside m (encode_utf8 c ++ (tail ++ rest)) plain ∙ found));
  some = omega (arith, ap length is, length-append (encode_utf8 c) tail, length-encode c, len_utf8_bounds c);
  plain = λ m plain. rw quote (started_plain m false plain);
}

-- signs with a blank behind
pub data IsInfix : Symbol → Type 0 where
  plus : IsInfix s.Plus
  minus : IsInfix s.Minus
  asterisk : IsInfix s.Asterisk
  equals : IsInfix s.Equals
  at_most : IsInfix s.AtMost
  less : IsInfix s.Less
  or : IsInfix s.Or
  and : IsInfix s.And
  star : IsInfix s.Star
  wand : IsInfix s.Wand
  arrow : IsInfix s.Arrow
  points_to : IsInfix s.PointsTo
  comma : IsInfix s.Comma
  close_brace : IsInfix s.CloseBrace

pub infix_stands : {r : Symbol} → IsInfix r → (rest : List ℕ) → Stands (sign r) (32 ∷ rest)
unfolding spelled spelling same_symbol symbols longest longer row_at unicode_ident encode
infix_stands plus rest = sign_stands s.Plus 43 [] (32 ∷ rest) refl refl refl refl refl refl
infix_stands minus rest = sign_stands s.Minus 45 [] (32 ∷ rest) refl refl refl refl refl refl
infix_stands asterisk rest = sign_stands s.Asterisk 42 [] (32 ∷ rest) refl refl refl refl refl refl
infix_stands equals rest = sign_stands s.Equals 61 [] (32 ∷ rest) refl refl refl refl refl refl
infix_stands at_most rest = sign_stands s.AtMost 8804 [] (32 ∷ rest) refl refl refl refl refl refl
infix_stands less rest = sign_stands s.Less 60 [] (32 ∷ rest) refl refl refl refl refl refl
infix_stands or rest = sign_stands s.Or 8744 [] (32 ∷ rest) refl refl refl refl refl refl
infix_stands and rest = sign_stands s.And 8743 [] (32 ∷ rest) refl refl refl refl refl refl
infix_stands star rest = sign_stands s.Star 8727 [] (32 ∷ rest) refl refl refl refl refl refl
infix_stands wand rest = sign_stands s.Wand 45 (226 ∷ 136 ∷ 151 ∷ []) (32 ∷ rest) refl refl refl refl refl refl
infix_stands arrow rest = sign_stands s.Arrow 8594 [] (32 ∷ rest) refl refl refl refl refl refl
infix_stands points_to rest = sign_stands s.PointsTo 8614 [] (32 ∷ rest) refl refl refl refl refl refl
infix_stands comma rest = sign_stands s.Comma 44 [] (32 ∷ rest) refl refl refl refl refl refl
infix_stands close_brace rest = sign_stands s.CloseBrace 125 [] (32 ∷ rest) refl refl refl refl refl refl

-- signs with a blank behind that begin a formula
pub data IsPrefix : Symbol → Type 0 where
  negation : IsPrefix s.Not
  later : IsPrefix s.Later
  persistently : IsPrefix s.Persistently
  forall : IsPrefix s.Forall
  exists : IsPrefix s.Exists
  update : IsPrefix s.Update

pub prefix_stands : {r : Symbol} → IsPrefix r → (rest : List ℕ) → Stands (sign r) (32 ∷ rest)
unfolding spelled spelling same_symbol symbols longest longer row_at unicode_ident encode
prefix_stands negation rest = sign_stands s.Not 172 [] (32 ∷ rest) refl refl refl refl refl refl
prefix_stands later rest = sign_stands s.Later 9655 [] (32 ∷ rest) refl refl refl refl refl refl
prefix_stands persistently rest = sign_stands s.Persistently 9633 [] (32 ∷ rest) refl refl refl refl refl refl
prefix_stands forall rest = sign_stands s.Forall 8704 [] (32 ∷ rest) refl refl refl refl refl refl
prefix_stands exists rest = sign_stands s.Exists 8707 [] (32 ∷ rest) refl refl refl refl refl refl
prefix_stands update rest = sign_stands s.Update 124 (61 ∷ 61 ∷ 62 ∷ []) (32 ∷ rest) refl refl refl refl refl refl

abbrev pub is_asterisk : ℕ → Bool
is_asterisk b = b == 42

pub prefix_first : {r : Symbol} → IsPrefix r → (rest : List ℕ) → begins_with is_asterisk (spelled (sign r) ++ rest) ≡ false
unfolding spelled spelling same_symbol symbols encode
prefix_first negation rest = refl
prefix_first later rest = refl
prefix_first persistently rest = refl
prefix_first forall rest = refl
prefix_first exists rest = refl
prefix_first update rest = refl

-- signs with anything behind
pub data IsBracket : Symbol → Type 0 where
  close : IsBracket s.Close
  open_pure : IsBracket s.OpenPure
  close_pure : IsBracket s.ClosePure
  open_brace : IsBracket s.OpenBrace
  close_brace : IsBracket s.CloseBrace
  points_to : IsBracket s.PointsTo

pub bracket_stands : {r : Symbol} → IsBracket r → (rest : List ℕ) → Stands (sign r) rest
unfolding spelled spelling same_symbol symbols longest longer row_at unicode_ident encode
bracket_stands close rest = sign_stands s.Close 41 [] rest refl refl refl refl refl refl
bracket_stands open_pure rest = sign_stands s.OpenPure 8988 [] rest refl refl refl refl refl refl
bracket_stands close_pure rest = sign_stands s.ClosePure 8989 [] rest refl refl refl refl refl refl
bracket_stands open_brace rest = sign_stands s.OpenBrace 123 [] rest refl refl refl refl refl refl
bracket_stands close_brace rest = sign_stands s.CloseBrace 125 [] rest refl refl refl refl refl refl
bracket_stands points_to rest = sign_stands s.PointsTo 8614 [] rest refl refl refl refl refl refl

-- with an asterisk behind, a parenthesis begins a comment
pub open_stands : (rest : List ℕ) → begins_with is_asterisk rest ≡ false → Stands (sign s.Open) rest
unfolding spelled spelling same_symbol symbols longest longer row_at unicode_ident encode
open_stands [] e = sign_stands s.Open 40 [] [] refl refl refl refl refl refl
open_stands (b ∷ rest) e = sign_stands s.Open 40 [] (b ∷ rest) refl refl refl refl (let star : eqb 42 b ≡ false = grind (arith, nat_tests, e) in rw star refl) refl

pub minus_before_group : (rest : List ℕ) → Stands (sign s.Minus) (40 ∷ rest)
unfolding spelled spelling same_symbol symbols longest longer row_at unicode_ident encode
minus_before_group rest = sign_stands s.Minus 45 [] (40 ∷ rest) refl refl refl refl refl refl

-- no symbol goes on with a digit
no_digit : (b d : ℕ) → is_digit d ≡ true → 57 < b → eqb b d ≡ false
no_digit b d digit above = grind (arith, nat_tests, digit)

pub minus_before_digit : (d : ℕ) (rest : List ℕ) → is_digit d ≡ true → Stands (sign s.Minus) (d ∷ rest)
unfolding spelled spelling same_symbol symbols longest longer row_at unicode_ident encode
minus_before_digit d rest digit = sign_stands s.Minus 45 [] (d ∷ rest) refl refl refl refl refl
    (let asterisk : eqb 42 d ≡ false = grind (arith, nat_tests, digit) in rw (no_digit 226 d digit (omega arith), no_digit 62 d digit (omega arith), asterisk) refl)

pub slash_before_digit : (d : ℕ) (rest : List ℕ) → is_digit d ≡ true → Stands (sign s.Slash) (d ∷ rest)
unfolding spelled spelling same_symbol symbols longest longer row_at unicode_ident encode
slash_before_digit d rest digit = sign_stands s.Slash 47 [] (d ∷ rest) refl refl refl refl refl (rw (no_digit 92 d digit (omega arith)) refl)

-- ---- what ends a name

pub char_ends : (c : ℕ) (rest : List ℕ) → scalar c ≡ true → continues_name c ≡ false → ends_name (encode_utf8 c ++ rest) ≡ true
char_ends c rest char stop = rw (first_char_is c rest char, stop) refl

pub ends_none : ends_name [] ≡ true
unfolding first_char front_char
ends_none = refl

-- ---- words that are symbols

ascii_first : (c : ℕ) (rest : List ℕ) → c < 128 → first_char (c ∷ rest) ≡ Some (c, 1)
ascii_first c rest small =
    let below : nat_lt c 55296 ≡ true = grind (arith, nat_tests, small) in
    let char : scalar c ≡ true = rw below refl in
    ap (λ xs. first_char (xs ++ rest)) (sym (encode_ascii c small)) ∙ (first_char_is c rest char ∙ ap (λ n. Some (c, n)) (len_utf8_ascii c small))

run_ends : (rest : List ℕ) → ends_name rest ≡ true → run 0 rest ≡ 0
unfolding run
run_ends [] e = refl
run_ends (b ∷ rest) e = go (first_char (b ∷ rest)) refl e
  where
    stops : (c n : ℕ) (more : Bool) → continues_name c ≡ more → first_char (b ∷ rest) ≡ Some (c, n) → not more ≡ true → run 0 (b ∷ rest) ≡ 0
    stops c n true p f e = absurd cc
    stops c n false p f e = rw (f, p) refl

    go : (found : Option (ℕ × ℕ)) → first_char (b ∷ rest) ≡ found → ends_by found ≡ true → run 0 (b ∷ rest) ≡ 0
    go None f e = rw f refl
    go (Some (c, n)) f e = stops c n (continues_name c) refl f e

letter : (c : ℕ) (rest : List ℕ) → c < 128 → continues_name c ≡ true → run 0 (c ∷ rest) ≡ suc (run 0 rest)
unfolding run
letter c rest small goes = rw (ascii_first c rest small, goes) refl

first_letter : (c : ℕ) (rest : List ℕ) → c < 128 → starts_name c ≡ true → name_len (c ∷ rest) ≡ suc (run 0 rest)
unfolding name_len
first_letter c rest small starts = rw (ascii_first c rest small, starts) (omega arith)

whole : (m : Mode) (w rest : List ℕ) (r : Symbol) → 0 < length w → is_quoted m ≡ false → keyword w ≡ Some r → name_len (w ++ rest) ≡ length w → word_or_sign m (name_len (w ++ rest)) (w ++ rest) ≡ Some (read_as (sign r), length w)
unfolding word_or_sign word
whole m w rest r some plain found len =
    let filled : (length w == 0) ≡ false = grind (arith, nat_tests, some) in
    rw (len, filled, take-append_seam w rest, plain, found) refl

pub true_stands : (rest : List ℕ) → ends_name rest ≡ true → Stands (sign s.True) rest
unfolding spelled spelling same_symbol symbols keywords keyword lookup first_piece unicode_ident encode after
true_stands rest ends =
    let len : name_len (84 ∷ 114 ∷ 117 ∷ 101 ∷ rest) ≡ 4 =
    first_letter 84 (114 ∷ 117 ∷ 101 ∷ rest) (omega arith) refl ∙ ap suc (letter 114 (117 ∷ 101 ∷ rest) (omega arith) refl ∙ ap suc (letter 117 (101 ∷ rest) (omega arith) refl ∙ ap suc (letter 101 rest (omega arith) refl ∙ ap suc (run_ends rest ends)))) in
    record {
      found = λ m plain. whole m (84 ∷ 114 ∷ 117 ∷ 101 ∷ []) rest s.True (omega arith) plain refl len;
      some = omega arith;
      plain = λ m plain. started_plain m false plain;
    }

pub false_stands : (rest : List ℕ) → ends_name rest ≡ true → Stands (sign s.False) rest
unfolding spelled spelling same_symbol symbols keywords keyword lookup first_piece unicode_ident encode after
false_stands rest ends =
    let len : name_len (70 ∷ 97 ∷ 108 ∷ 115 ∷ 101 ∷ rest) ≡ 5 =
    first_letter 70 (97 ∷ 108 ∷ 115 ∷ 101 ∷ rest) (omega arith) refl ∙ ap suc (letter 97 (108 ∷ 115 ∷ 101 ∷ rest) (omega arith) refl ∙ ap suc (letter 108 (115 ∷ 101 ∷ rest) (omega arith) refl ∙ ap suc (letter 115 (101 ∷ rest) (omega arith) refl ∙ ap suc (letter 101 rest (omega arith) refl ∙ ap suc (run_ends rest ends))))) in
    record {
      found = λ m plain. whole m (70 ∷ 97 ∷ 108 ∷ 115 ∷ 101 ∷ []) rest s.False (omega arith) plain refl len;
      some = omega arith;
      plain = λ m plain. started_plain m false plain;
    }
