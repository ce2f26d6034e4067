-- The first character of a text, and what is a name.
use Rattle.std.proofs.Common.{◌≡◌, ℕ, Bool, true, false, ◌&&◌, not, List, [], ◌∷◌, ◌++◌, length, refl, sym, ◌∙◌, ap, arith}
use Rattle.std.specs.Str.{chars, IsUtf8, is_utf8}
use Rattle.std.specs.Char.{encode_utf8}
use Rattle.std.proofs.lemmas.Str.{chars-encodes, chars-nil, encode_same, length-encode, len_utf8_bounds, IsUtf8-from_is_utf8, is_utf8-from_IsUtf8}
use Rattle.pm_names.specs.Names.{is_identifier, is_reserved, is_name}
use lib.Utf8.{scalars, encodes}
use Rattle.std.proofs.Common.{length-append}

pub both_true : (x y : Bool) → (x && y) ≡ true → (x ≡ true) × (y ≡ true)
both_true true y e = (refl, e)
both_true false y e = absurd cc

pub record IsFirst (bs : List ℕ) (c : ℕ) (rest : List ℕ) : Type 0 where
  pub all : chars bs ≡ c ∷ chars rest
  pub utf8 : IsUtf8 rest

pub chars_first : (bs rest : List ℕ) (c : ℕ) → IsUtf8 bs → bs ≡ encode_utf8 c ++ rest → IsFirst bs c rest
chars_first bs rest c u e = go u.0 u.1.0 u.1.1
  where
    go : (cs : List ℕ) → scalars cs ≡ true → encodes cs ≡ bs → IsFirst bs c rest
    go [] s h = absurd (let l : length (encode_utf8 c ++ rest) ≡ 0 = ap length (sym (h ∙ e)) in omega (arith, l, length-append (encode_utf8 c) rest, length-encode c, len_utf8_bounds c))
    go (d ∷ ds) s h =
        let same = encode_same d c (encodes ds) rest (h ∙ e) in
        let tail : scalars ds ≡ true = (both_true _ _ s).1 in
        let back : chars rest ≡ ds = ap chars (sym same.1) ∙ chars-encodes ds tail in
        record {
          all = ap chars (sym h) ∙ (chars-encodes (d ∷ ds) s ∙ (ap (λ x. x ∷ ds) same.0 ∙ ap (λ y. c ∷ y) (sym back)));
          utf8 = (ds, (tail, same.1));
        }

pub none_first : (bs : List ℕ) → length bs ≡ 0 → false ≡ is_identifier (chars bs)
unfolding is_identifier
none_first [] e = rw chars-nil refl
none_first (b ∷ bs) e = absurd (omega arith)

pub named : (bs : List ℕ) (identifier reserved : Bool) → IsUtf8 bs → identifier ≡ is_identifier (chars bs) → reserved ≡ is_reserved bs → (identifier && not reserved) ≡ is_name bs
unfolding is_name
named bs identifier reserved u i r =
    let text : is_utf8 bs ≡ true = is_utf8-from_IsUtf8 bs u in
    rw text (rw i (rw r refl))

pub no_text : (bs : List ℕ) → (IsUtf8 bs → ⊥) → false ≡ is_name bs
unfolding is_name
no_text bs bad = go (is_utf8 bs) refl
  where
    go : (b : Bool) → is_utf8 bs ≡ b → false ≡ is_name bs
    go true e = absurd (bad (IsUtf8-from_is_utf8 bs e))
    go false e = rw e refl
