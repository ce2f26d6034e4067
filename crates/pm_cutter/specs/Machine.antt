-- What a cutter keeps, and how it goes on.
use Rattle.std.specs.Prelude.{◌≡◌, ℕ, zero, suc, ◌+◌, ◌-◌, Bool, true, false, ◌&&◌, ◌||◌, not, ◌==◌, nat_lt, if◌then◌else◌, List, [], ◌∷◌, ◌++◌, length, drop, map, slice_index, Option, Some, None, unwrap_or, option_map}
use Rattle.pm_tokens.specs.Characters.{first_char}
use Rattle.pm_cutter.specs.declared.mode.Region.{Region}
use Rattle.pm_cutter.specs.declared.mode.Region.TheVariants.{Gap, Sentence}
use Rattle.pm_cutter.specs.declared.mode.Mode.{Mode as KeptMode}
use Rattle.pm_cutter.specs.declared.mode.Move.{Move as Moved}
use Rattle.pm_cutter.specs.declared.mode.Move.TheVariants.{On, Finished}
use Rattle.pm_cutter.specs.Cutting.{Mode, gap, inside, comment, passing, uncommented, Ends, Move, move_over, mode_behind, Part, is_commented, bad_byte, start_of, End, clean, last, rest}

-- ---- what the code keeps, in the words of the definition

abbrev pub region_of : Region → Mode
region_of Gap = gap
region_of (Sentence start quoted) = inside start quoted

abbrev pub passed : Bool → Mode → Mode
passed true m = passing m
passed false m = m

abbrev pub mode_of : KeptMode → Mode
mode_of m = passed m.passing (uncommented m.depth (region_of m.region))

abbrev pub moved : Moved → Move
moved (On m) = (mode_of m, [])
moved (Finished start end) = (gap, (start, end) ∷ [])

-- how many comments are open behind a byte
abbrev pub depth_of : Moved → ℕ
depth_of (On m) = m.depth
depth_of (Finished start end) = 0

abbrev pub waiting_bytes : Option ℕ → List ℕ
waiting_bytes None = []
waiting_bytes (Some b) = b ∷ []

-- ---- a machine that holds the bytes of the sentence that isn't finished

pub record Kept : Type 0 where
  pub mode : Mode
  pub at : ℕ
  pub held : List ℕ

-- what is held behind a byte
abbrev pub held_by : Option ℕ → List ℕ → List ℕ
held_by None bytes = []
held_by (Some start) bytes = bytes

-- the part that a byte finishes: a brace is part of it, a full stop isn't
abbrev pub held_part : ℕ → List ℕ → ℕ → Ends → Part
held_part at held b e = record { offset = e.0; text = if nat_lt at e.1 then held ++ b ∷ [] else held }

-- the parts that the bytes finish
unfoldable pub parts_from : Bool → Mode → (at : ℕ) → (held : List ℕ) → List ℕ → List Part
parts_from end m at held [] = []
parts_from end m at held (b ∷ bytes) =
    let next = move_over end m at (b ∷ bytes) in
    map (held_part at held b) next.1 ++ parts_from end next.0 (at + 1) (held_by (start_of next.0) (held ++ b ∷ [])) bytes

-- from parts, the machine moves over the first of the bytes; what follows them doesn't count
pub record Takes (ps : List Part) (k : Kept) (bytes : List ℕ) (qs : List Part) (l : Kept) : Type 0 where
  pub mode : l.mode ≡ (move_over false k.mode k.at bytes).0
  pub at : l.at ≡ k.at + 1
  pub held : l.held ≡ held_by (start_of l.mode) (k.held ++ slice_index bytes 0 ∷ [])
  pub parts : qs ≡ ps ++ map (held_part k.at k.held (slice_index bytes 0)) (move_over false k.mode k.at bytes).1

-- whether the move over a byte depends on the next one
unfoldable pub waits : Mode → ℕ → Bool
waits gap b = b == 46 || b == 40
waits (inside start quoted) b = (b == 46 && not quoted) || b == 40
waits (comment n m) b = b == 40 || b == 42
waits (passing m) b = false

abbrev pub Waits : Mode → List ℕ → Type 0
Waits m [] = Unit {0}
Waits m (b ∷ bytes) = waits m b ≡ true

-- where the bytes start that are held
abbrev pub from_or : ℕ → Option ℕ → ℕ
from_or at None = at
from_or at (Some start) = start

abbrev pub from_of : Mode → ℕ → ℕ
from_of m at = from_or at (start_of m)

-- the held bytes and these are the end of all bytes
pub record Holds (k : Kept) (whole bytes : List ℕ) : Type 0 where
  pub place : from_of k.mode k.at + length k.held ≡ k.at
  pub same : drop (from_of k.mode k.at) whole ≡ k.held ++ bytes

-- From bytes to bytes the machine goes on as before, whatever follows: the parts before and those of the bytes are the same, and so are the modes.
pub record GoesOn (ps : List Part) (k : Kept) (bytes : List ℕ) (qs : List Part) (l : Kept) (left : List ℕ) : Type 0 where
  pub parts : (end : Bool) (ys : List ℕ) → qs ++ parts_from end l.mode l.at l.held (left ++ ys) ≡ ps ++ parts_from end k.mode k.at k.held (bytes ++ ys)
  pub mode : (end : Bool) (ys : List ℕ) → mode_behind end l.mode l.at (left ++ ys) ≡ mode_behind end k.mode k.at (bytes ++ ys)
  pub count : l.at + length left ≡ k.at + length bytes
  pub holds : (whole ys : List ℕ) → Holds k whole (bytes ++ ys) → Holds l whole (left ++ ys)

abbrev pub started : Kept
started = record { mode = gap; at = 0; held = [] }

-- ---- the end

-- how many bytes behind the first are left of its character, if one begins there or it stands in a comment
unfoldable pub left_behind : Mode → ℕ → List ℕ → Option ℕ
left_behind m (suc left) bytes = Some left
left_behind m zero bytes = if is_commented m then Some 0 else option_map (λ (c : ℕ × ℕ). c.1 - 1) (first_char bytes)

-- the offset of the fault behind so many bytes, of which these are held
abbrev pub fault_by : List ℕ → ℕ → Option ℕ → ℕ
fault_by held count None = count
fault_by held count (Some start) = unwrap_or (bad_byte gap 0 start held) count

unfoldable pub left_by : Mode → List ℕ → ℕ → End
left_by gap held count = clean
left_by (inside start quoted) held count = rest (fault_by held count (Some start))
left_by (comment n m) held count = rest (fault_by held count (start_of m))
left_by (passing m) held count = rest (fault_by held count (start_of m))

abbrev pub ended_from : List Ends → Mode → List ℕ → ℕ → End
ended_from [] m held count = left_by m held count
ended_from (e ∷ es) m held count = last (record { offset = e.0; text = held })

-- how the bytes end that are held and wait
unfoldable pub ended_by : Mode → ℕ → List ℕ → List ℕ → End
ended_by m at held [] = left_by m held at
ended_by m at held (b ∷ bytes) = let next = move_over true m at (b ∷ bytes) in ended_from next.1 next.0 held (at + 1)
