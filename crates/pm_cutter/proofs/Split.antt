-- A text that splits into sentences is cut into these, and what is finished is cut where more follows.
use Rattle.std.proofs.Common.{◌≡◌, ◌⊎◌, ◌↔◌, ℕ, suc, ◌+◌, ◌-◌, Bool, true, false, ◌&&◌, ◌||◌, not, ◌==◌, List, [], ◌∷◌, ◌++◌, length, take, drop, map, None, refl, sym, ap, subst, ◌∙◌, inl, inr, arith, append_assoc, length-append}
use Rattle.std.specs.Prelude.{codes, eqb}
use Rattle.std.proofs.Math.Seq.{take-append_seam}
use Rattle.std.proofs.lemmas.List.{drop-drop}
use Rattle.std.proofs.lemmas.Bool.Decides.{nat_tests}
use Rattle.pm_tokens.specs.Symbols.{begins}
use Rattle.pm_tokens.specs.Pieces.{is_blank, begins_with}
use Rattle.pm_cutter.specs.Cutting.{Mode, gap, inside, comment, passing, uncommented, Ends, Move, is_stop, is_brace, in_sentence, move_over, sentences_from, mode_behind, Part, part, parts, cut, finished, start_of, rest_by, rest_of}
use Rattle.pm_cutter.specs.Machine.{held_by, held_part, parts_from}
use Rattle.pm_cutter.specs.Splitting.{Closes, closed, nested, inner, StaysOpen, comment_cut, open_within, closed_within, inner_open, is_plain, IsBody, body_end, quote, body_comment, dot, plain, blank_or_end, IsOpenBody, body_cut, quote_open, comment_open, comment_before, dot_open, plain_open, Starts, AreSentences, script_end, comment_left, sentence_left, blank, script_comment, open_brace, close_brace, sentence}
use Rattle.pm_cutter.proofs.Steps.{not_byte, two}
use Rattle.pm_cutter.proofs.Going.{parts_from_start}

-- ---- what the machine finds from a mode on, and the mode behind that

abbrev Run : Type 0
Run = List Ends × Mode

abbrev run : Mode → ℕ → List ℕ → Run
run m at bs = (sentences_from true m at bs, mode_behind true m at bs)

abbrev run_by : ℕ → List ℕ → Move → Run
run_by at bs r = (r.1 ++ sentences_from true r.0 (at + 1) bs, mode_behind true r.0 (at + 1) bs)

abbrev found : Ends → Run → Run
found e r = (e ∷ r.0, r.1)

over_byte : (m : Mode) (at b : ℕ) (bs : List ℕ) (r : Move) → move_over true m at (b ∷ bs) ≡ r → run m at (b ∷ bs) ≡ run_by at bs r
unfolding sentences_from mode_behind
over_byte m at b bs r e = ap (λ (q : Move). run_by at bs q) e

-- a byte that finishes nothing
silent : (m n : Mode) (at b : ℕ) (bs : List ℕ) → move_over true m at (b ∷ bs) ≡ (n, []) → run m at (b ∷ bs) ≡ run n (at + 1) bs
silent m n at b bs e = over_byte m at b bs (n, []) e

same_place : (m : Mode) (at to : ℕ) (bs : List ℕ) → at ≡ to → run m at bs ≡ run m to bs
same_place m at to bs e = ap (λ n. run m n bs) e

-- two bytes of which the first decides
over_two : (m n : Mode) (at to b c : ℕ) (bs : List ℕ) → move_over true m at (b ∷ c ∷ bs) ≡ (passing n, []) → at + 2 ≡ to → run m at (b ∷ c ∷ bs) ≡ run n to bs
unfolding move_over
over_two m n at to b c bs e place = silent m (passing n) at b (c ∷ bs) e ∙ (silent (passing n) n (at + 1) c bs refl ∙ same_place n (at + 1 + 1) to bs (omega arith))

-- ---- bytes

pub is_byte : (b n : ℕ) → eqb n b ≡ true → b ≡ n
is_byte b n e = grind (arith, nat_tests, e)

-- Whether two bytes begin at a byte before the rest of a comment, or of a sentence, shows without the bytes behind.
pub front : (xs : List ℕ) → Closes xs → (b : ℕ) (ys : List ℕ)
    → (begins (codes "(*") (b ∷ (xs ++ ys)) ≡ begins (codes "(*") (b ∷ xs)) × (begins (codes "*)") (b ∷ (xs ++ ys)) ≡ begins (codes "*)") (b ∷ xs))
front xs closed b ys = (refl, refl)
front xs (nested c d) b ys = (refl, refl)
front xs (inner p q c) b ys = (refl, refl)

pub no_open : (b : ℕ) (us bs : List ℕ) → begins (codes "(*") (b ∷ (us ++ 46 ∷ bs)) ≡ begins (codes "(*") (b ∷ us)
no_open b [] bs = refl
no_open b (c ∷ us) bs = refl

-- ---- comments

-- over the rest of a comment
over_comment : (xs : List ℕ) → Closes xs → (n : ℕ) (m : Mode) (at to : ℕ) (ys : List ℕ) → at + length xs ≡ to → run (comment n m) at (xs ++ ys) ≡ run (uncommented n m) to ys
unfolding move_over
over_comment xs closed n m at to ys place = over_two (comment n m) (uncommented n m) at to 42 41 ys refl place
over_comment xs (nested {xs = us} {ys = vs} c d) n m at to ys place =
    over_two (comment n m) (comment (suc n) m) at (at + 2) 40 42 ((us ++ vs) ++ ys) refl refl
    ∙ (ap (λ zs. run (comment (suc n) m) (at + 2) zs) (append_assoc us vs ys)
    ∙ (over_comment us c (suc n) m (at + 2) (at + 2 + length us) (vs ++ ys) refl
    ∙ over_comment vs d n m (at + 2 + length us) to ys (omega (arith, place, length-append us vs))))
over_comment xs (inner {b = b} {xs = us} p q c) n m at to ys place =
    let f = front us c b ys in
    let no_more : begins (codes "(*") (b ∷ (us ++ ys)) ≡ false = f.0 ∙ p in
    let no_end : begins (codes "*)") (b ∷ (us ++ ys)) ≡ false = f.1 ∙ q in
    silent (comment n m) (comment n m) at b (us ++ ys) (rw (no_more, no_end) refl) ∙ over_comment us c n m (at + 1) to ys (omega arith)

-- ---- bodies

ends_stop : (bs : List ℕ) → blank_or_end bs ≡ true → is_stop true (46 ∷ bs) ≡ true
unfolding is_stop
ends_stop [] e = refl
ends_stop (c ∷ bs) e = e

-- a full stop that another byte than a blank follows
dot_stays : (us : List ℕ) → blank_or_end us ≡ false → is_stop true (46 ∷ us) ≡ false
unfolding is_stop
dot_stays [] e = absurd cc
dot_stays (c ∷ us) e = e

unblank_before : (us bs : List ℕ) → begins_with is_blank us ≡ false → blank_or_end (us ++ 46 ∷ bs) ≡ false
unblank_before [] bs e = refl
unblank_before (c ∷ us) bs e = e

-- the tests on a plain byte
plain_tests : (quoted is_quote is_dot : Bool) → (not is_quote && (quoted || not is_dot)) ≡ true → (is_quote ≡ false) × ((quoted ≡ true) ⊎ (is_dot ≡ false))
plain_tests quoted true is_dot e = absurd cc
plain_tests true false is_dot e = (refl, inl refl)
plain_tests false false true e = absurd cc
plain_tests false false false e = (refl, inr refl)

no_dot : (b : ℕ) (us : List ℕ) → (b == 46) ≡ false → is_stop true (b ∷ us) ≡ false
unfolding is_stop
no_dot b [] e = rw e refl
no_dot b (c ∷ us) e = rw e refl

plain_stays : (quoted : Bool) (b : ℕ) (us : List ℕ) → (quoted ≡ true) ⊎ ((b == 46) ≡ false) → (not quoted && is_stop true (b ∷ us)) ≡ false
plain_stays true b us h = refl
plain_stays false b us (inl e) = absurd cc
plain_stays false b us (inr e) = no_dot b us e

-- over one byte of a sentence
over_plain : (start : ℕ) (quoted : Bool) (at b : ℕ) (us : List ℕ) → is_plain quoted b ≡ true → begins (codes "(*") (b ∷ us) ≡ false → run (inside start quoted) at (b ∷ us) ≡ run (inside start quoted) (at + 1) us
unfolding move_over in_sentence
over_plain start quoted at b us p unopened =
    let t = plain_tests quoted (b == 34) (b == 46) p in
    let no_quote : eqb 34 b ≡ false = not_byte b 34 t.0 in
    let no_stop : (not quoted && is_stop true (b ∷ us)) ≡ false = plain_stays quoted b us t.1 in
    silent (inside start quoted) (inside start quoted) at b us (rw (unopened, no_quote, no_stop) refl)

over_dot : (start at : ℕ) (us : List ℕ) → blank_or_end us ≡ false → run (inside start false) at (46 ∷ us) ≡ run (inside start false) (at + 1) us
unfolding move_over in_sentence
over_dot start at us e = silent (inside start false) (inside start false) at 46 us (rw (dot_stays us e) refl)

over_stop : (start at : ℕ) (bs : List ℕ) → blank_or_end bs ≡ true → run (inside start false) at (46 ∷ bs) ≡ found (start, at) (run gap (at + 1) bs)
unfolding move_over in_sentence
over_stop start at bs e = over_byte (inside start false) at 46 bs (gap, (start, at) ∷ []) (rw (ends_stop bs e) refl)

-- over the rest of a sentence and its full stop
over_body : (quoted : Bool) (text : List ℕ) → IsBody quoted text → (start at stop : ℕ) (bs : List ℕ) → blank_or_end bs ≡ true → at + length text ≡ stop
    → run (inside start quoted) at (text ++ 46 ∷ bs) ≡ found (start, stop) (run gap (stop + 1) bs)
unfolding move_over in_sentence
over_body quoted text body_end start at stop bs e place =
    let same : at ≡ stop = omega arith in over_stop start at bs e ∙ ap (λ n. found (start, n) (run gap (n + 1) bs)) same
over_body quoted text (quote {quoted = q} {xs = us} c) start at stop bs e place =
    silent (inside start q) (inside start (not q)) at 34 (us ++ 46 ∷ bs) refl ∙ over_body (not q) us c start (at + 1) stop bs e (omega arith)
over_body quoted text (body_comment {quoted = q} {xs = us} {ys = vs} c d) start at stop bs e place =
    over_two (inside start q) (comment 0 (inside start q)) at (at + 2) 40 42 ((us ++ vs) ++ 46 ∷ bs) refl refl
    ∙ (ap (λ zs. run (comment 0 (inside start q)) (at + 2) zs) (append_assoc us vs (46 ∷ bs))
    ∙ (over_comment us c 0 (inside start q) (at + 2) (at + 2 + length us) (vs ++ 46 ∷ bs) refl
    ∙ over_body q vs d start (at + 2 + length us) stop bs e (omega (arith, place, length-append us vs))))
over_body quoted text (dot {xs = us} unblank c) start at stop bs e place = over_dot start at (us ++ 46 ∷ bs) (unblank_before us bs unblank) ∙ over_body false us c start (at + 1) stop bs e (omega arith)
over_body quoted text (plain {quoted = q} {b = b} {xs = us} p unopened c) start at stop bs e place =
    over_plain start q at b (us ++ 46 ∷ bs) p (no_open b us bs ∙ unopened) ∙ over_body q us c start (at + 1) stop bs e (omega arith)

-- ---- what isn't finished

-- the run finds nothing and doesn't end between sentences
abbrev IsStuck : Run → Type 0
IsStuck r = (r.0 ≡ []) × (r.1 ≡ gap → ⊥)

stuck_behind : (r q : Run) → r ≡ q → IsStuck q → IsStuck r
stuck_behind r q e h = subst (λ (x : Run). IsStuck x) (sym e) h

stuck_comment : (xs : List ℕ) → StaysOpen xs → (n : ℕ) (m : Mode) (at : ℕ) → IsStuck (run (comment n m) at xs)
unfolding move_over sentences_from mode_behind
stuck_comment xs comment_cut n m at = (refl, λ e. cc)
stuck_comment xs (open_within {xs = us} o) n m at =
    stuck_behind (run (comment n m) at (40 ∷ 42 ∷ us)) (run (comment (suc n) m) (at + 2) us) (over_two (comment n m) (comment (suc n) m) at (at + 2) 40 42 us refl refl) (stuck_comment us o (suc n) m (at + 2))
stuck_comment xs (closed_within {xs = us} {ys = vs} c o) n m at =
    stuck_behind (run (comment n m) at (40 ∷ 42 ∷ (us ++ vs))) (run (comment n m) (at + 2 + length us) vs)
    (over_two (comment n m) (comment (suc n) m) at (at + 2) 40 42 (us ++ vs) refl refl ∙ over_comment us c (suc n) m (at + 2) (at + 2 + length us) vs refl) (stuck_comment vs o n m (at + 2 + length us))
stuck_comment xs (inner_open {b = b} {xs = us} p q o) n m at =
    stuck_behind (run (comment n m) at (b ∷ us)) (run (comment n m) (at + 1) us) (silent (comment n m) (comment n m) at b us (rw (p, q) refl)) (stuck_comment us o n m (at + 1))

stuck_body : (quoted : Bool) (xs : List ℕ) → IsOpenBody quoted xs → (start at : ℕ) → IsStuck (run (inside start quoted) at xs)
unfolding move_over in_sentence sentences_from mode_behind
stuck_body quoted xs body_cut start at = (refl, λ e. cc)
stuck_body quoted xs (quote_open {quoted = q} {xs = us} o) start at =
    stuck_behind (run (inside start q) at (34 ∷ us)) (run (inside start (not q)) (at + 1) us) (silent (inside start q) (inside start (not q)) at 34 us refl) (stuck_body (not q) us o start (at + 1))
stuck_body quoted xs (comment_open {quoted = q} {xs = us} o) start at =
    stuck_behind (run (inside start q) at (40 ∷ 42 ∷ us)) (run (comment 0 (inside start q)) (at + 2) us) (over_two (inside start q) (comment 0 (inside start q)) at (at + 2) 40 42 us refl refl)
    (stuck_comment us o 0 (inside start q) (at + 2))
stuck_body quoted xs (comment_before {quoted = q} {xs = us} {ys = vs} c o) start at =
    stuck_behind (run (inside start q) at (40 ∷ 42 ∷ (us ++ vs))) (run (inside start q) (at + 2 + length us) vs)
    (over_two (inside start q) (comment 0 (inside start q)) at (at + 2) 40 42 (us ++ vs) refl refl ∙ over_comment us c 0 (inside start q) (at + 2) (at + 2 + length us) vs refl)
    (stuck_body q vs o start (at + 2 + length us))
stuck_body quoted xs (dot_open {xs = us} more o) start at =
    stuck_behind (run (inside start false) at (46 ∷ us)) (run (inside start false) (at + 1) us) (over_dot start at us more) (stuck_body false us o start (at + 1))
stuck_body quoted xs (plain_open {quoted = q} {b = b} {xs = us} p unopened o) start at =
    stuck_behind (run (inside start q) at (b ∷ us)) (run (inside start q) (at + 1) us) (over_plain start q at b us p unopened) (stuck_body q us o start (at + 1))

-- ---- between sentences

starts_before : (text bs : List ℕ) → Starts text → Starts (text ++ 46 ∷ bs)
unfolding is_brace
starts_before [] bs s = record { no_blank = refl; no_comment = refl; no_brace = refl }
starts_before (b ∷ us) bs s = record { no_blank = s.no_blank; no_comment = no_open b us bs ∙ s.no_comment; no_brace = s.no_brace }

-- where a sentence starts, the first byte does what it does within
same_move : (at : ℕ) (bs : List ℕ) → Starts bs → move_over true gap at bs ≡ move_over true (inside at false) at bs
unfolding move_over
same_move at bs s = rw (s.no_comment, s.no_blank, s.no_brace) refl

start_run : (at b : ℕ) (bs : List ℕ) → Starts (b ∷ bs) → run gap at (b ∷ bs) ≡ run (inside at false) at (b ∷ bs)
unfolding sentences_from mode_behind
start_run at b bs s = ap (λ (r : Move). run_by at bs r) (same_move at (b ∷ bs) s)

over_start : (text bs : List ℕ) (at : ℕ) → Starts text → run gap at (text ++ 46 ∷ bs) ≡ run (inside at false) at (text ++ 46 ∷ bs)
over_start [] bs at s = start_run at 46 bs (starts_before [] bs s)
over_start (b ∷ us) bs at s = start_run at b (us ++ 46 ∷ bs) (starts_before (b ∷ us) bs s)

no_comment_at : (b : ℕ) → is_blank b ≡ true → eqb 40 b ≡ false
no_comment_at b e = go (eqb 40 b) refl
  where
    go : (t : Bool) → eqb 40 b ≡ t → eqb 40 b ≡ false
    go true h = absurd (let same : is_blank b ≡ is_blank 40 = ap is_blank (is_byte b 40 h) in let wrong : true ≡ false = sym e ∙ same in cc)
    go false h = h

over_blank : (at b : ℕ) (bs : List ℕ) → is_blank b ≡ true → run gap at (b ∷ bs) ≡ run gap (at + 1) bs
unfolding move_over
over_blank at b bs e = silent gap gap at b bs (rw (no_comment_at b e, e) refl)

-- ---- whole texts

-- behind the front
drop_front : (xs ys : List ℕ) → drop (length xs) (xs ++ ys) ≡ ys
drop_front [] ys = refl
drop_front (x ∷ xs) ys = drop_front xs ys

-- the bytes from a later offset on
past : (n to : ℕ) (whole xs ys : List ℕ) → drop n whole ≡ xs ++ ys → n + length xs ≡ to → drop to whole ≡ ys
past n to whole xs ys e place =
    sym (ap (λ k. drop k whole) place) ∙ (sym (drop-drop (length xs) n whole) ∙ (ap (λ zs. drop (length xs) zs) e ∙ drop_front xs ys))

part_is : (n to : ℕ) (whole xs ys : List ℕ) → drop n whole ≡ xs ++ ys → n + length xs ≡ to → part whole (n, to) ≡ record { offset = n; text = xs }
part_is n to whole xs ys e place = ap (λ zs. record { offset = n; text = zs }) text
  where
    far : to - n ≡ length xs
    far = omega arith

    text : take (to - n) (drop n whole) ≡ xs
    text = rw (far, e) (take-append_seam xs ys)

-- a rest is left, or none
abbrev Leaves : List ℕ → Mode → Type 0
Leaves [] m = m ≡ gap
Leaves (b ∷ rest) m = m ≡ gap → ⊥

-- the run finds these sentences
abbrev Finds : List ℕ → List Part → List ℕ → Run → Type 0
Finds whole ps rest r = (map (part whole) r.0 ≡ ps) × Leaves rest r.1

finds_behind : (whole : List ℕ) (ps : List Part) (rest : List ℕ) (r q : Run) → r ≡ q → Finds whole ps rest q → Finds whole ps rest r
finds_behind whole ps rest r q e h = subst (λ (x : Run). Finds whole ps rest x) (sym e) h

finds_none : (whole : List ℕ) (b : ℕ) (rest : List ℕ) (r : Run) → IsStuck r → Finds whole [] (b ∷ rest) r
finds_none whole b rest r h = (ap (λ (es : List Ends). map (part whole) es) h.0, h.1)

finds_more : (whole : List ℕ) (e : Ends) (p : Part) (ps : List Part) (rest : List ℕ) (r : Run) → part whole e ≡ p → Finds whole ps rest r → Finds whole (p ∷ ps) rest (found e r)
finds_more whole e p ps rest r first h = (ap (λ q. q ∷ map (part whole) r.0) first ∙ ap (λ qs. p ∷ qs) h.0, h.1)

finds : (from : ℕ) (bytes : List ℕ) (ps : List Part) (rest : List ℕ) → AreSentences from bytes ps rest → (whole : List ℕ) → drop from whole ≡ bytes → Finds whole ps rest (run gap from bytes)
unfolding sentences_from mode_behind move_over is_brace
finds from bytes ps rest script_end whole here = (refl, refl)
finds from bytes ps rest (comment_left {xs = us} o) whole here =
    finds_none whole 40 (42 ∷ us) (run gap from (40 ∷ 42 ∷ us))
    (stuck_behind (run gap from (40 ∷ 42 ∷ us)) (run (comment 0 gap) (from + 2) us) (over_two gap (comment 0 gap) from (from + 2) 40 42 us refl refl) (stuck_comment us o 0 gap (from + 2)))
finds from bytes ps rest (sentence_left {b = b} {bytes = bs} start o) whole here =
    finds_none whole b bs (run gap from (b ∷ bs)) (stuck_behind (run gap from (b ∷ bs)) (run (inside from false) from (b ∷ bs)) (start_run from b bs start) (stuck_body false (b ∷ bs) o from from))
finds from bytes ps rest (blank {b = b} {bytes = bs} {rest = left} {ps = qs} e s) whole here =
    finds_behind whole qs left (run gap from (b ∷ bs)) (run gap (from + 1) bs) (over_blank from b bs e) (finds (from + 1) bs qs left s whole (past from (from + 1) whole (b ∷ []) bs here (omega arith)))
finds from bytes ps rest (script_comment {xs = us} {bytes = bs} {rest = left} {ps = qs} c s) whole here =
    let to = from + 2 + length us in
    let over : run gap from (40 ∷ 42 ∷ (us ++ bs)) ≡ run gap to bs =
    over_two gap (comment 0 gap) from (from + 2) 40 42 (us ++ bs) refl refl ∙ over_comment us c 0 gap (from + 2) to bs refl in
    finds_behind whole qs left (run gap from (40 ∷ 42 ∷ (us ++ bs))) (run gap to bs) over (finds to bs qs left s whole (past from to whole (40 ∷ 42 ∷ us) bs here (omega arith)))
finds from bytes ps rest (open_brace {bytes = bs} {rest = left} {ps = qs} s) whole here =
    let later = finds (from + 1) bs qs left s whole (past from (from + 1) whole (123 ∷ []) bs here (omega arith)) in
    finds_more whole (from, from + 1) (record { offset = from; text = 123 ∷ [] }) qs left (run gap (from + 1) bs) (part_is from (from + 1) whole (123 ∷ []) bs here (omega arith)) later
finds from bytes ps rest (close_brace {bytes = bs} {rest = left} {ps = qs} s) whole here =
    let later = finds (from + 1) bs qs left s whole (past from (from + 1) whole (125 ∷ []) bs here (omega arith)) in
    finds_more whole (from, from + 1) (record { offset = from; text = 125 ∷ [] }) qs left (run gap (from + 1) bs) (part_is from (from + 1) whole (125 ∷ []) bs here (omega arith)) later
finds from bytes ps rest (sentence {text = us} {bytes = bs} {rest = left} {ps = qs} start body ends s) whole here =
    let stop = from + length us in
    let over : run gap from (us ++ 46 ∷ bs) ≡ found (from, stop) (run gap (stop + 1) bs) = over_start us bs from start ∙ over_body false us body from from stop bs ends refl in
    let later = finds (stop + 1) bs qs left s whole (past from (stop + 1) whole (us ++ 46 ∷ []) bs (here ∙ sym (append_assoc us (46 ∷ []) bs)) (omega (arith, length-append us (46 ∷ [])))) in
    finds_behind whole (record { offset = from; text = us } ∷ qs) left (run gap from (us ++ 46 ∷ bs)) (found (from, stop) (run gap (stop + 1) bs)) over
    (finds_more whole (from, stop) (record { offset = from; text = us }) qs left (run gap (stop + 1) bs) (part_is from stop whole us (46 ∷ bs) here refl) later)

pub splitting_is_cut : (bytes : List ℕ) (ps : List Part) (rest : List ℕ) → AreSentences 0 bytes ps rest → ps ≡ cut bytes
unfolding parts
splitting_is_cut bytes ps rest s = sym (finds 0 bytes ps rest s bytes refl).0

no_rest : (bytes : List ℕ) (m : Mode) → rest_by bytes m ≡ None → m ≡ gap
unfolding rest_by
no_rest bytes gap e = refl
no_rest bytes (inside start quoted) e = absurd cc
no_rest bytes (comment n m) e = absurd cc
no_rest bytes (passing m) e = absurd cc

rest_by_mode : (bytes rest : List ℕ) (m : Mode) → Leaves rest m → (rest ≡ []) ↔ (rest_by bytes m ≡ None)
unfolding rest_by
rest_by_mode bytes [] m h = (λ e. ap (λ n. rest_by bytes n) h, λ e. refl)
rest_by_mode bytes (b ∷ rest) m h = (λ e. absurd cc, λ e. absurd (h (no_rest bytes m e)))

pub splitting_leaves : (bytes : List ℕ) (ps : List Part) (rest : List ℕ) → AreSentences 0 bytes ps rest → (rest ≡ []) ↔ (rest_of bytes ≡ None)
unfolding rest_of
splitting_leaves bytes ps rest s = rest_by_mode bytes rest (mode_behind true gap 0 bytes) (finds 0 bytes ps rest s bytes refl).1

-- ---- where a byte follows that is no blank

last_byte : (m : Mode) (at b : ℕ) → move_over false m at (b ∷ []) ≡ move_over true m at (b ∷ 97 ∷ [])
unfolding move_over in_sentence is_stop is_brace
last_byte gap at b = refl
last_byte (inside start quoted) at b = refl
last_byte (comment n m) at b = refl
last_byte (passing m) at b = refl

none_more : (m : Mode) (at : ℕ) (held : List ℕ) → parts_from true m at held (97 ∷ []) ≡ []
unfolding parts_from move_over in_sentence is_stop is_brace
none_more gap at held = refl
none_more (inside start true) at held = refl
none_more (inside start false) at held = refl
none_more (comment n m) at held = refl
none_more (passing m) at held = refl

finished_from : (m : Mode) (at : ℕ) (held bs : List ℕ) → parts_from false m at held bs ≡ parts_from true m at held (bs ++ 97 ∷ [])
unfolding parts_from
finished_from m at held [] = sym (none_more m at held)
finished_from m at held (b ∷ []) =
    let r : Move = move_over true m at (b ∷ 97 ∷ []) in
    ap (λ (q : Move). map (held_part at held b) q.1 ++ []) (last_byte m at b)
    ∙ ap (λ ps. map (held_part at held b) r.1 ++ ps) (sym (none_more r.0 (at + 1) (held_by (start_of r.0) (held ++ b ∷ []))))
finished_from m at held (b ∷ c ∷ bs) =
    let r : Move = move_over true m at (b ∷ c ∷ (bs ++ 97 ∷ [])) in
    ap (λ (q : Move). map (held_part at held b) q.1 ++ parts_from false q.0 (at + 1) (held_by (start_of q.0) (held ++ b ∷ [])) (c ∷ bs)) (two false true m at b c bs (bs ++ 97 ∷ []))
    ∙ ap (λ ps. map (held_part at held b) r.1 ++ ps) (finished_from r.0 (at + 1) (held_by (start_of r.0) (held ++ b ∷ [])) (c ∷ bs))

pub finished_is_cut : (bytes : List ℕ) → finished bytes ≡ cut (bytes ++ codes "a")
finished_is_cut bytes = sym (parts_from_start false bytes) ∙ (finished_from gap 0 [] bytes ∙ parts_from_start true (bytes ++ 97 ∷ []))
