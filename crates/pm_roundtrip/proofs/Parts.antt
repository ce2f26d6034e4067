-- Lists of pieces that are read token by token, wherever they are printed.
use Rattle.std.proofs.Common.{◌≡◌, ℕ, suc, ◌<◌, ◌^◌, Bool, true, false, ◌&&◌, ◌==◌, cond, ℤ, pos, negsuc, List, [], ◌∷◌, ◌++◌, length, refl, sym, ap, ◌∙◌, arith, append_assoc}
use Rattle.std.specs.Prelude.{nat_lt}
use Rattle.std.specs.Fmt.{decimal}
use Rattle.std.specs.List.{list_all}
use Rattle.std.specs.Str.{is_utf8, chars}
use Rattle.std.proofs.lemmas.Bool.Decides.{nat_tests}
use Rattle.std.proofs.lemmas.Str.{chars-nil, chars-encodes, char_from_byte, IsUtf8-from_is_utf8}
use Rattle.std.proofs.lemmas.Bool.{and_parts}
use Rattle.unicode_ident.proofs.Computing.{unicode_ident}
use lib.Utf8.{encode, encodes}
use Rattle.pm_tokens.specs.declared.symbol.Symbol.{Symbol}
use Rattle.pm_tokens.specs.declared.symbol.Symbol.TheVariants as s
use Rattle.pm_tokens.specs.Tokens.{name, number}
use Rattle.pm_tokens.specs.Characters.{is_digit}
use Rattle.pm_names.specs.Names.{starts_name, continues_name, is_identifier, is_name}
use Rattle.pm_tokens.specs.Symbols.{symbols, keywords}
use Rattle.pm_tokens.specs.Pieces.{begins_with}
use Rattle.pm_tokens.specs.Spelling.{ends_name}
use Rattle.pm_dtext.specs.Ranges.{IsI64}
use Rattle.pm_print.specs.Printing.{Piece, blank, token, sign, operator, before, between, level, literal, fraction, same_symbol, spelling, spelled, text_of}
use Rattle.pm_roundtrip.proofs.LexedPieces.{Stands, Lexes, lexes_next}
use Rattle.pm_roundtrip.proofs.Standing as standing
use Rattle.pm_roundtrip.proofs.Standing.{Spells, IsInfix, IsPrefix, IsBracket, is_asterisk}

-- what may stand behind a name, a number or a word
pub data Closes : List Piece → Type 0 where
  done : Closes []
  space : {ps : List Piece} → Closes (blank ∷ ps)
  close : {ps : List Piece} → Closes (sign s.Close ∷ ps)
  comma : {ps : List Piece} → Closes (sign s.Comma ∷ ps)
  close_pure : {ps : List Piece} → Closes (sign s.ClosePure ∷ ps)

closes_name : {ps : List Piece} → Closes ps → ends_name (text_of ps) ≡ true
unfolding text_of spelled spelling same_symbol symbols unicode_ident encode
closes_name done = standing.ends_none
closes_name (space {ps}) = standing.char_ends 32 (text_of ps) refl refl
closes_name (close {ps}) = standing.char_ends 41 (text_of ps) refl refl
closes_name (comma {ps}) = standing.char_ends 44 (text_of ps) refl refl
closes_name (close_pure {ps}) = standing.char_ends 8989 (text_of ps) refl refl

closes_number : {ps : List Piece} → Closes ps → begins_with is_digit (text_of ps) ≡ false
unfolding text_of spelled spelling same_symbol symbols encode
closes_number done = refl
closes_number (space {ps}) = refl
closes_number (close {ps}) = refl
closes_number (comma {ps}) = refl
closes_number (close_pure {ps}) = refl

closes_first : {ps : List Piece} → Closes ps → begins_with is_asterisk (text_of ps) ≡ false
unfolding text_of spelled spelling same_symbol symbols encode
closes_first done = refl
closes_first (space {ps}) = refl
closes_first (close {ps}) = refl
closes_first (comma {ps}) = refl
closes_first (close_pure {ps}) = refl

-- ---- parts that stand before these

pub record Part (ps : List Piece) : Type 0 where
  pub first : (rest : List Piece) → Closes rest → begins_with is_asterisk (text_of (ps ++ rest)) ≡ false
  pub lexes : (rest : List Piece) → Closes rest → Lexes rest → Lexes (ps ++ rest)

-- what stands between two parts
pub record Link (ps : List Piece) : Type 0 where
  pub closes : (rest : List Piece) → Closes (ps ++ rest)
  pub lexes : (rest : List Piece) → Lexes rest → Lexes (ps ++ rest)

pub empty : Part []
empty = record { first = λ rest c. closes_first c; lexes = λ rest c h. h }

pub linked_right : (xs ms ys : List Piece) → Part xs → Link ms → Part ys → Part (xs ++ (ms ++ ys))
linked_right xs ms ys x m y = record {
  first = λ rest c. rw (append_assoc xs (ms ++ ys) rest, append_assoc ms ys rest) (x.first (ms ++ (ys ++ rest)) (m.closes (ys ++ rest)));
  lexes = λ rest c h. rw (append_assoc xs (ms ++ ys) rest, append_assoc ms ys rest) (x.lexes (ms ++ (ys ++ rest)) (m.closes (ys ++ rest)) (m.lexes (ys ++ rest) (y.lexes rest c h)));
}

pub linked : (xs ms ys : List Piece) → Part xs → Link ms → Part ys → Part (xs ++ ms ++ ys)
linked xs ms ys x m y = rw (append_assoc xs ms ys) (linked_right xs ms ys x m y)

lexes_blank : (ps : List Piece) → Lexes ps → Lexes (blank ∷ ps)
lexes_blank ps h = lexes_next blank ps (standing.blank_stands (text_of ps)) h

-- a sign and a blank
signed : (r : Symbol) (ps : List Piece) → ((bytes : List ℕ) → Stands (sign r) (32 ∷ bytes)) → Lexes ps → Lexes (sign r ∷ blank ∷ ps)
unfolding text_of spelled
signed r ps stands h = lexes_next (sign r) (blank ∷ ps) (stands (text_of ps)) (lexes_blank ps h)

pub infix_link : {r : Symbol} → IsInfix r → Link (operator r)
infix_link {r} is = record { closes = λ rest. space; lexes = λ rest h. lexes_blank (sign r ∷ blank ∷ rest) (signed r rest (standing.infix_stands is) h) }

pub comma_link : Link (sign s.Comma ∷ blank ∷ [])
comma_link = record { closes = λ rest. comma; lexes = λ rest h. signed s.Comma rest (standing.infix_stands standing.comma) h }

pub prefixed : {r : Symbol} (ps : List Piece) → IsPrefix r → Part ps → Part (before r ++ ps)
unfolding text_of
prefixed {r} ps is p = record {
  first = λ rest c. standing.prefix_first is (text_of (blank ∷ (ps ++ rest)));
  lexes = λ rest c h. signed r (ps ++ rest) (standing.prefix_stands is) (p.lexes rest c h);
}

bracket : {r : Symbol} (ps : List Piece) → IsBracket r → Lexes ps → Lexes (sign r ∷ ps)
bracket {r} ps is h = lexes_next (sign r) ps (standing.bracket_stands is (text_of ps)) h

opened : (ps : List Piece) → Part ps → (rest : List Piece) → Lexes rest → Lexes (between s.Open s.Close ps ++ rest)
opened ps p rest h =
    rw (append_assoc ps (sign s.Close ∷ []) rest)
    (lexes_next (sign s.Open) (ps ++ (sign s.Close ∷ rest)) (standing.open_stands (text_of (ps ++ (sign s.Close ∷ rest))) (p.first (sign s.Close ∷ rest) close))
    (p.lexes (sign s.Close ∷ rest) close (bracket rest standing.close h)))

pub group : (ps : List Piece) → Part ps → Part (between s.Open s.Close ps)
unfolding text_of spelled spelling same_symbol symbols encode
group ps p = record { first = λ rest c. refl; lexes = λ rest c h. opened ps p rest h }

pub levelled : (has needs : ℕ) (ps : List Piece) → Part ps → Part (level has needs ps)
levelled has needs ps p = go (nat_lt has needs)
  where
    go : (b : Bool) → Part (cond b (between s.Open s.Close ps) ps)
    go true = group ps p
    go false = p

pub pure_group : (ps : List Piece) → Part ps → Part (between s.OpenPure s.ClosePure ps)
unfolding text_of spelled spelling same_symbol symbols encode
pure_group ps p = record {
  first = λ rest c. refl;
  lexes = λ rest c h. rw (append_assoc ps (sign s.ClosePure ∷ []) rest) (bracket (ps ++ (sign s.ClosePure ∷ rest)) standing.open_pure (p.lexes (sign s.ClosePure ∷ rest) close_pure (bracket rest standing.close_pure h)));
}

-- ---- names, numbers and words

identified : (w : List ℕ) → is_name w ≡ true → (is_utf8 w ≡ true) × (is_identifier (chars w) ≡ true)
unfolding is_name
identified w e = and_parts _ _ (and_parts _ _ e).0

name_some : (w : List ℕ) → is_name w ≡ true → 0 < length w
unfolding is_identifier
name_some [] e = absurd (let h : is_identifier (chars []) ≡ true = (identified [] e).1 in let none : is_identifier (chars []) ≡ false = ap is_identifier chars-nil in cc)
name_some (b ∷ w) e = omega arith

same_byte : (b c : ℕ) → (b == c) ≡ true → b ≡ c
same_byte b c e = grind (arith, nat_tests, e)

name_first : (w rest : List ℕ) → is_name w ≡ true → begins_with is_asterisk (w ++ rest) ≡ false
unfolding is_identifier unicode_ident
name_first [] rest is = absurd (omega (arith, name_some [] is))
name_first (b ∷ w) rest is =
    let p = identified (b ∷ w) is in
    let u = IsUtf8-from_is_utf8 (b ∷ w) p.0 in
    let same : chars (b ∷ w) ≡ u.0 = ap chars (sym u.1.1) ∙ chars-encodes u.0 u.1.0 in
    go u.0 u.1.1 (ap is_identifier (sym same) ∙ p.1) (b == 42) refl
  where
    go : (cs : List ℕ) → encodes cs ≡ b ∷ w → is_identifier cs ≡ true → (star : Bool) → (b == 42) ≡ star → star ≡ false
    go cs e i false is = refl
    go [] e i true is = absurd cc
    go (c ∷ cs) e i true is =
        let byte : b ≡ 42 = same_byte b 42 is in
        let same : c ≡ 42 = char_from_byte (b ∷ w) (encodes cs) c (sym e) (omega arith) (omega arith) ∙ byte in
        let starts : starts_name c ≡ true = (and_parts (starts_name c) (list_all continues_name cs) i).0 in
        let none : starts_name c ≡ false = ap starts_name same in
        absurd cc

pub word_part : (w : List ℕ) → is_name w ≡ true → Part (token (name w) ∷ [])
unfolding text_of spelled
word_part w is = record {
  first = λ rest c. name_first w (text_of rest) is;
  lexes = λ rest c h. lexes_next (token (name w)) rest (standing.name_stands w (text_of rest) is (name_some w is) (closes_name c)) h;
}

digit_first : (n : ℕ) (rest : List ℕ) → n < 2 ^ 64 → begins_with is_asterisk (decimal n ++ rest) ≡ false
digit_first n rest small = go (decimal n) (standing.decimal_spells n small)
  where
    go : (ds : List ℕ) → Spells n ds → begins_with is_asterisk (ds ++ rest) ≡ false
    go [] h = absurd (omega (arith, h.some))
    go (d ∷ ds) h = let digit = (and_parts (is_digit d) (list_all is_digit ds) h.digits).0 in grind (arith, nat_tests, digit)

-- a sign that stands before each digit does before a number
before_number : (r : Symbol) (n : ℕ) (rest : List ℕ) → ((d : ℕ) (ds : List ℕ) → is_digit d ≡ true → Stands (sign r) (d ∷ ds)) → n < 2 ^ 64 → Stands (sign r) (decimal n ++ rest)
before_number r n rest stands small = go (decimal n) (standing.decimal_spells n small)
  where
    go : (ds : List ℕ) → Spells n ds → Stands (sign r) (ds ++ rest)
    go [] h = absurd (omega (arith, h.some))
    go (d ∷ ds) h = stands d (ds ++ rest) (and_parts (is_digit d) (list_all is_digit ds) h.digits).0

pub number_lexes : (n : ℕ) (ps : List Piece) → n < 2 ^ 64 → begins_with is_digit (text_of ps) ≡ false → Lexes ps → Lexes (token (number n) ∷ ps)
number_lexes n ps small stop h = lexes_next (token (number n)) ps (standing.number_stands n (text_of ps) small stop) h

pub literal_part : (z : ℤ) → IsI64 z → Part (literal z)
unfolding text_of spelled spelling same_symbol symbols encode
literal_part (pos n) fits = record { first = λ rest c. digit_first n (text_of rest) (omega arith); lexes = λ rest c h. number_lexes n rest (omega arith) (closes_number c) h }
literal_part (negsuc n) fits = record {
  first = λ rest c. refl;
  lexes = λ rest c h. lexes_next (sign s.Minus) (token (number (suc n)) ∷ rest) (before_number s.Minus (suc n) (text_of rest) standing.minus_before_digit (omega arith)) (number_lexes (suc n) rest (omega arith) (closes_number c) h);
}

pub negated : (ps : List Piece) → Part ps → Part (sign s.Minus ∷ between s.Open s.Close ps)
unfolding text_of spelled spelling same_symbol symbols encode
negated ps p = record {
  first = λ rest c. refl;
  lexes = λ rest c h. lexes_next (sign s.Minus) (between s.Open s.Close ps ++ rest) (standing.minus_before_group (text_of ((ps ++ sign s.Close ∷ []) ++ rest))) (opened ps p rest h);
}

pub true_part : Part (sign s.True ∷ [])
unfolding text_of spelled spelling same_symbol symbols keywords encode
true_part = record { first = λ rest c. refl; lexes = λ rest c h. lexes_next (sign s.True) rest (standing.true_stands (text_of rest) (closes_name c)) h }

pub false_part : Part (sign s.False ∷ [])
unfolding text_of spelled spelling same_symbol symbols keywords encode
false_part = record { first = λ rest c. refl; lexes = λ rest c h. lexes_next (sign s.False) rest (standing.false_stands (text_of rest) (closes_name c)) h }

-- a call's name is followed by its parenthesis
pub called : (w : List ℕ) (ps : List Piece) → is_name w ≡ true → Part ps → Part (token (name w) ∷ between s.Open s.Close ps)
unfolding text_of spelled spelling same_symbol symbols unicode_ident encode
called w ps is p = record {
  first = λ rest c. name_first w _ is;
  lexes = λ rest c h.
      let behind : List Piece = (ps ++ sign s.Close ∷ []) ++ rest in
      lexes_next (token (name w)) (sign s.Open ∷ behind) (standing.name_stands w (text_of (sign s.Open ∷ behind)) is (name_some w is) (standing.char_ends 40 (text_of behind) refl refl)) (opened ps p rest h);
}

pub fraction_link : (n d : ℕ) → n < 2 ^ 64 → d < 2 ^ 64 → Link (blank ∷ sign s.PointsTo ∷ (fraction n d ++ blank ∷ []))
unfolding text_of spelled spelling same_symbol symbols encode
fraction_link n d small few = record {
  closes = λ rest. space;
  lexes = λ rest h.
      let end : List Piece = sign s.CloseBrace ∷ blank ∷ rest in
      let share : List Piece = sign s.Slash ∷ token (number d) ∷ end in
      lexes_blank _ (bracket _ standing.points_to (bracket _ standing.open_brace (number_lexes n share small refl
      (lexes_next (sign s.Slash) (token (number d) ∷ end) (before_number s.Slash d (text_of end) standing.slash_before_digit few) (number_lexes d end few refl (bracket _ standing.close_brace (lexes_blank rest h)))))));
}
