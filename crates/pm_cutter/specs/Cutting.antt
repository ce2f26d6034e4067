-- How the bytes of a script are cut into sentences.
--   A sentence starts at the first byte that is no blank and in no comment. A brace there is a sentence. Any other ends at the first full stop outside quotes and comments that a blank follows, and the stop isn't part of it.
use Rattle.std.specs.Prelude.{ℕ, zero, suc, ◌+◌, ◌-◌, Bool, true, false, ◌&&◌, ◌||◌, not, ◌==◌, if◌then◌else◌, List, [], ◌∷◌, ◌++◌, take, drop, length, map, codes, Option, Some, None}
use Rattle.pm_tokens.specs.Symbols.{begins}
use Rattle.pm_tokens.specs.Pieces.{is_blank, begins_with}
use Rattle.pm_tokens.specs.Characters.{first_char}

-- ---- where a byte stands

pub data Mode : Type 0 where
  -- between sentences
  gap : Mode
  -- in the sentence that starts at this offset, between quotes or not
  inside : (start : ℕ) (quoted : Bool) → Mode
  -- in a comment and so many more around it; behind them the mode is the other
  comment : (around : ℕ) (behind : Mode) → Mode
  -- at the second byte of `(*` or `*)`
  passing : (behind : Mode) → Mode

-- behind the end of a comment
abbrev pub uncommented : ℕ → Mode → Mode
uncommented zero m = m
uncommented (suc n) m = comment n m

-- a sentence from its first byte to its last, which is the one before the second offset
abbrev pub Ends : Type 0
Ends = ℕ × ℕ

-- the mode behind a byte, and the sentence that it finishes
abbrev pub Move : Type 0
Move = Mode × List Ends

-- a full stop before a blank; the flag says whether the end of the bytes counts as one
unfoldable pub is_stop : Bool → List ℕ → Bool
is_stop end [] = false
is_stop end (b ∷ []) = b == 46 && end
is_stop end (b ∷ c ∷ bytes) = b == 46 && is_blank c

unfoldable pub is_brace : List ℕ → Bool
is_brace bytes = begins (codes "{") bytes || begins (codes "}") bytes

-- in the sentence that starts there, at the first of the bytes
unfoldable pub in_sentence : Bool → (start : ℕ) → (quoted : Bool) → (at : ℕ) → List ℕ → Move
in_sentence end start quoted at bytes =
    if begins (codes "\"") bytes then (inside start (not quoted), [])
    else if not quoted && is_stop end bytes then (gap, (start, at) ∷ [])
    else (inside start quoted, [])

unfoldable pub move_over : Bool → Mode → (at : ℕ) → List ℕ → Move
move_over end gap at bytes =
    if begins (codes "(*") bytes then (passing (comment 0 gap), [])
    else if begins_with is_blank bytes then (gap, [])
    else if is_brace bytes then (gap, (at, at + 1) ∷ [])
    else in_sentence end at false at bytes
move_over end (inside start quoted) at bytes =
    if begins (codes "(*") bytes then (passing (comment 0 (inside start quoted)), [])
    else in_sentence end start quoted at bytes
move_over end (comment n m) at bytes =
    if begins (codes "(*") bytes then (passing (comment (suc n) m), [])
    else if begins (codes "*)") bytes then (passing (uncommented n m), [])
    else (comment n m, [])
move_over end (passing m) at bytes = (m, [])

-- ---- whole texts

-- the sentences of the bytes from an offset on, and the mode behind them
unfoldable pub sentences_from : Bool → Mode → (at : ℕ) → List ℕ → List Ends
sentences_from end m at [] = []
sentences_from end m at (b ∷ bytes) =
    let next = move_over end m at (b ∷ bytes) in
    next.1 ++ sentences_from end next.0 (at + 1) bytes

unfoldable pub mode_behind : Bool → Mode → (at : ℕ) → List ℕ → Mode
mode_behind end m at [] = m
mode_behind end m at (b ∷ bytes) = mode_behind end (move_over end m at (b ∷ bytes)).0 (at + 1) bytes

-- a sentence's offset and its text
pub record Part : Type 0 where
  pub offset : ℕ
  pub text : List ℕ

abbrev pub part : List ℕ → Ends → Part
part bytes e = record { offset = e.0; text = take (e.1 - e.0) (drop e.0 bytes) }

unfoldable pub parts : Bool → List ℕ → List Part
parts end bytes = map (part bytes) (sentences_from end gap 0 bytes)

-- the sentences of a whole text, whose end counts as a blank
abbrev pub cut : List ℕ → List Part
cut bytes = parts true bytes

-- the sentences that are finished, whatever may follow
abbrev pub finished : List ℕ → List Part
finished bytes = parts false bytes

-- ---- what is left at the end

abbrev pub is_commented : Mode → Bool
is_commented gap = false
is_commented (inside start quoted) = false
is_commented (comment n m) = true
is_commented (passing m) = true

-- the first byte outside comments at which no character begins; so many bytes are left of the character before
abbrev pub bad_by : Option (ℕ × ℕ) → (at : ℕ) → (ℕ → Option ℕ) → Option ℕ
bad_by None at go = Some at
bad_by (Some c) at go = go (c.1 - 1)

unfoldable pub bad_byte : Mode → (left at : ℕ) → List ℕ → Option ℕ
bad_byte m left at [] = None
bad_byte m (suc left) at (b ∷ bytes) = bad_byte (move_over true m at (b ∷ bytes)).0 left (at + 1) bytes
bad_byte m zero at (b ∷ bytes) =
    let next = (move_over true m at (b ∷ bytes)).0 in
    if is_commented m then bad_byte next zero (at + 1) bytes
    else bad_by (first_char (b ∷ bytes)) at (λ left. bad_byte next left (at + 1) bytes)

-- where the sentence starts that isn't finished
unfoldable pub start_of : Mode → Option ℕ
start_of gap = None
start_of (inside start quoted) = Some start
start_of (comment n m) = start_of m
start_of (passing m) = start_of m

abbrev pub or_length : List ℕ → Option ℕ → ℕ
or_length bytes None = length bytes
or_length bytes (Some at) = at

abbrev pub fault_in : List ℕ → Option ℕ → ℕ
fault_in bytes None = length bytes
fault_in bytes (Some start) = or_length bytes (bad_byte gap 0 start (drop start bytes))

-- the offset of the fault where more than blanks and closed comments are left
unfoldable pub rest_by : List ℕ → Mode → Option ℕ
rest_by bytes gap = None
rest_by bytes m = Some (fault_in bytes (start_of m))

unfoldable pub rest_of : List ℕ → Option ℕ
rest_of bytes = rest_by bytes (mode_behind true gap 0 bytes)

pub data End : Type 0 where
  clean : End
  last : Part → End
  rest : ℕ → End

abbrev pub end_by : List Part → Option ℕ → End
end_by [] None = clean
end_by [] (Some at) = rest at
end_by (p ∷ ps) r = last p

-- The sentence that the end finishes, the fault of what is left, or neither.
unfoldable pub end_of : List ℕ → End
end_of bytes = end_by (drop (length (finished bytes)) (cut bytes)) (rest_of bytes)
