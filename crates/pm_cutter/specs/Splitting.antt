-- What the sentences of a script are, in words of whole texts.
--   A script is blanks, closed comments, braces and sentences, one behind another, and at the end a rest that isn't finished, or none. A sentence is a body and a full stop that a blank or the end follows.
use Rattle.std.specs.Prelude.{◌≡◌, ◌↔◌, ℕ, ◌+◌, Bool, true, false, ◌&&◌, ◌||◌, not, ◌==◌, List, [], ◌∷◌, ◌++◌, length, codes, None}
use Rattle.pm_tokens.specs.Symbols.{begins}
use Rattle.pm_tokens.specs.Pieces.{is_blank, begins_with}
use Rattle.pm_cutter.specs.Cutting.{Part, is_brace, cut, finished, rest_of}

-- ---- comments, which nest; nothing else in them is looked at

-- the text behind the `(*` of a comment, up to the `*)` that closes it
pub data Closes : List ℕ → Type 0 where
  closed : Closes (codes "*)")
  nested : {xs ys : List ℕ} → Closes xs → Closes ys → Closes (codes "(*" ++ (xs ++ ys))
  inner : {b : ℕ} {xs : List ℕ} → begins (codes "(*") (b ∷ xs) ≡ false → begins (codes "*)") (b ∷ xs) ≡ false → Closes xs → Closes (b ∷ xs)

-- the text behind the `(*` of a comment that isn't closed
pub data StaysOpen : List ℕ → Type 0 where
  comment_cut : StaysOpen []
  open_within : {xs : List ℕ} → StaysOpen xs → StaysOpen (codes "(*" ++ xs)
  closed_within : {xs ys : List ℕ} → Closes xs → StaysOpen ys → StaysOpen (codes "(*" ++ (xs ++ ys))
  inner_open : {b : ℕ} {xs : List ℕ} → begins (codes "(*") (b ∷ xs) ≡ false → begins (codes "*)") (b ∷ xs) ≡ false → StaysOpen xs → StaysOpen (b ∷ xs)

-- ---- the texts of sentences

-- neither a quote nor, outside quotes, a full stop
abbrev pub is_plain : Bool → ℕ → Bool
is_plain quoted b = not (b == 34) && (quoted || not (b == 46))

-- The text of a sentence from a place on, which stands between quotes or not, up to the full stop that ends it.
pub data IsBody : (quoted : Bool) → List ℕ → Type 0 where
  body_end : IsBody false []
  quote : {quoted : Bool} {xs : List ℕ} → IsBody (not quoted) xs → IsBody quoted (codes "\"" ++ xs)
  body_comment : {quoted : Bool} {xs ys : List ℕ} → Closes xs → IsBody quoted ys → IsBody quoted (codes "(*" ++ (xs ++ ys))
  -- a full stop that no blank follows
  dot : {xs : List ℕ} → begins_with is_blank xs ≡ false → IsBody false xs → IsBody false (codes "." ++ xs)
  plain : {quoted : Bool} {b : ℕ} {xs : List ℕ} → is_plain quoted b ≡ true → begins (codes "(*") (b ∷ xs) ≡ false → IsBody quoted xs → IsBody quoted (b ∷ xs)

abbrev pub blank_or_end : List ℕ → Bool
blank_or_end [] = true
blank_or_end (b ∷ bytes) = is_blank b

-- the same of a sentence that no full stop ends, up to the end of the script
pub data IsOpenBody : (quoted : Bool) → List ℕ → Type 0 where
  body_cut : {quoted : Bool} → IsOpenBody quoted []
  quote_open : {quoted : Bool} {xs : List ℕ} → IsOpenBody (not quoted) xs → IsOpenBody quoted (codes "\"" ++ xs)
  comment_open : {quoted : Bool} {xs : List ℕ} → StaysOpen xs → IsOpenBody quoted (codes "(*" ++ xs)
  comment_before : {quoted : Bool} {xs ys : List ℕ} → Closes xs → IsOpenBody quoted ys → IsOpenBody quoted (codes "(*" ++ (xs ++ ys))
  dot_open : {xs : List ℕ} → blank_or_end xs ≡ false → IsOpenBody false xs → IsOpenBody false (codes "." ++ xs)
  plain_open : {quoted : Bool} {b : ℕ} {xs : List ℕ} → is_plain quoted b ≡ true → begins (codes "(*") (b ∷ xs) ≡ false → IsOpenBody quoted xs → IsOpenBody quoted (b ∷ xs)

-- the text begins with no blank, comment or brace
pub record Starts (xs : List ℕ) : Type 0 where
  pub no_blank : begins_with is_blank xs ≡ false
  pub no_comment : begins (codes "(*") xs ≡ false
  pub no_brace : is_brace xs ≡ false

-- ---- scripts

-- The text from an offset on is these sentences, with blanks and comments before, between and behind them, and the rest.
pub data AreSentences : (from : ℕ) → List ℕ → List Part → (rest : List ℕ) → Type 0 where
  script_end : {from : ℕ} → AreSentences from [] [] []
  -- a comment that isn't closed
  comment_left : {from : ℕ} {xs : List ℕ} → StaysOpen xs → AreSentences from (codes "(*" ++ xs) [] (codes "(*" ++ xs)
  -- a sentence that isn't ended
  sentence_left : {from b : ℕ} {bytes : List ℕ} → Starts (b ∷ bytes) → IsOpenBody false (b ∷ bytes) → AreSentences from (b ∷ bytes) [] (b ∷ bytes)
  blank : {from b : ℕ} {bytes rest : List ℕ} {ps : List Part} → is_blank b ≡ true → AreSentences (from + 1) bytes ps rest → AreSentences from (b ∷ bytes) ps rest
  script_comment : {from : ℕ} {xs bytes rest : List ℕ} {ps : List Part} → Closes xs → AreSentences (from + 2 + length xs) bytes ps rest → AreSentences from (codes "(*" ++ (xs ++ bytes)) ps rest
  open_brace : {from : ℕ} {bytes rest : List ℕ} {ps : List Part} → AreSentences (from + 1) bytes ps rest
      → AreSentences from (codes "{" ++ bytes) (record { offset = from; text = codes "{" } ∷ ps) rest
  close_brace : {from : ℕ} {bytes rest : List ℕ} {ps : List Part} → AreSentences (from + 1) bytes ps rest
      → AreSentences from (codes "}" ++ bytes) (record { offset = from; text = codes "}" } ∷ ps) rest
  sentence : {from : ℕ} {text bytes rest : List ℕ} {ps : List Part} → Starts text → IsBody false text → blank_or_end bytes ≡ true → AreSentences (from + length text + 1) bytes ps rest
      → AreSentences from (text ++ (codes "." ++ bytes)) (record { offset = from; text = text } ∷ ps) rest

pub record CutIsSplitting : Type 0 where
  -- every text splits into the sentences that are cut and a rest
  pub splits : (bytes : List ℕ) → (rest : List ℕ) × AreSentences 0 bytes (cut bytes) rest
  -- and into no others
  pub alone : (bytes : List ℕ) (ps : List Part) (rest : List ℕ) → AreSentences 0 bytes ps rest → ps ≡ cut bytes
  -- the end finds nothing left where there is no rest, and there alone
  pub left : (bytes : List ℕ) (ps : List Part) (rest : List ℕ) → AreSentences 0 bytes ps rest → (rest ≡ []) ↔ (rest_of bytes ≡ None)
  -- what is finished is what is cut where a byte follows that is no blank
  pub before_more : (bytes : List ℕ) → finished bytes ≡ cut (bytes ++ codes "a")
