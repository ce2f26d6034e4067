-- What a cutter was fed, and how its bytes end.
use Rattle.std.proofs.Common.{◌≡◌, ℕ, zero, suc, ◌+◌, ◌-◌, ◌^◌, ◌<◌, ◌≤◌, Bool, true, false, cond, List, [], ◌∷◌, ◌++◌, length, take, drop, map, Option, Some, None, refl, sym, ap, subst, ◌∙◌, lit<, arith, append_assoc, length-append, get_or}
use Rattle.std.specs.Prelude.{nat_le, unwrap_or, option_map}
use Rattle.std.specs.Str.{IsUtf8, is_utf8, chars}
use Rattle.std.proofs.Math.Seq.{drop-append_seam, take-append_seam, get_or-append_seam, take-length}
use Rattle.std.proofs.lemmas.List.{append-nil, take-append-le}
use Rattle.std.proofs.lemmas.Str.{chars-encodes, encode_same, IsUtf8-take, IsUtf8-from_is_utf8, IsCharBoundary-before_ascii}
use Rattle.std.proofs.lemmas.Bool.Decides.{nat_tests}
use lib.Utf8.{encodes, encode}
use Rattle.pm_tokens.specs.Characters.{one, only_char, with_len, front_char, first_char}
use Rattle.pm_cutter.specs.Cutting.{Mode, gap, inside, comment, passing, Move, move_over, sentences_from, mode_behind, Part, parts, cut, finished, is_commented, bad_byte, bad_by, or_length, fault_in, start_of, rest_by, rest_of, End, clean, last, rest, end_by, end_of}
use Rattle.pm_cutter.specs.Machine.{Kept, held_part, parts_from, Waits, waiting_bytes, region_of, mode_of, from_or, from_of, Holds, GoesOn, started, left_behind, fault_by, left_by, ended_from, ended_by}
use Rattle.pm_cutter.specs.declared.cutter.Cutter.{Cutter}
use Rattle.pm_cutter.specs.declared.mode.Region.{Region}
use Rattle.pm_cutter.specs.declared.mode.Region.TheVariants.{Gap, Sentence}
use Rattle.pm_cutter.specs.declared.mode.Mode.{Mode as KeptMode}
use Rattle.pm_cutter.specs.Fed.{IsFed, kept_of, fed_count, newly_finished}
use Rattle.pm_cutter.proofs.Steps.{Does, leaves, stays, stops, braces, does, two, Waiting, stop, open_, star, waiting, no_brace, start_of-mode_of}
use Rattle.pm_cutter.proofs.Going.{parts_from_start, goes_nowhere, held_at_start, goes_through, goes_longer, goes_behind, waiting_none, no_less}

-- ---- feeds

nothing_waits : (k : Kept) (bs : List ℕ) → Waits k.mode bs → length bs ≤ 1 → parts_from false k.mode k.at k.held bs ≡ []
unfolding parts_from
nothing_waits k [] w few = refl
nothing_waits k (b ∷ []) w few = waiting_none k b w
nothing_waits k (b ∷ c ∷ bs) w few = absurd (omega arith)

-- what is finished by bytes is what a machine has handed out behind them
handed_out : (bytes : List ℕ) (ps : List Part) (k : Kept) (left : List ℕ) → GoesOn [] started bytes ps k left → Waits k.mode left → length left ≤ 1 → finished bytes ≡ ps
handed_out bytes ps k left g w few =
    sym (parts_from_start false bytes) ∙ (ap (λ bs. parts_from false gap 0 [] bs) (sym (append-nil bytes))
    ∙ (sym (g.parts false []) ∙ (ap (λ bs. ps ++ parts_from false k.mode k.at k.held bs) (append-nil left)
    ∙ (ap (λ qs. ps ++ qs) (nothing_waits k left w few) ∙ append-nil ps))))

few_wait : (o : Option ℕ) → length (waiting_bytes o) ≤ 1
few_wait None = omega arith
few_wait (Some b) = omega arith

pub fed_none : (c : Cutter) → c.failed ≡ false → c.waiting ≡ None → kept_of c ≡ started → IsFed c []
unfolding parts sentences_from
fed_none c sound none start = record {
  fits = lit< tt;
  sound = sound;
  waits = subst (λ (o : Option ℕ). Waits (mode_of c.mode) (waiting_bytes o)) (sym none) tt;
  goes_on = subst (λ (o : Option ℕ). GoesOn [] started [] [] (kept_of c) (waiting_bytes o)) (sym none) (subst (λ (k : Kept). GoesOn [] started [] [] k []) (sym start) (goes_nowhere [] started []));
}

fed_fits : (c : Cutter) (bytes piece : List ℕ) → IsFed c bytes → fed_count c + length piece < 2 ^ 64 → length (bytes ++ piece) < 2 ^ 64
fed_fits c bytes piece is room = let count = is.goes_on.count in omega (arith, count, room, length-append bytes piece)

-- the bytes fed behind a piece, and the parts that it finishes
pub fed_more : (c d : Cutter) (bytes piece : List ℕ) (os ps : List Part) → os ≡ [] → IsFed c bytes → fed_count c + length piece < 2 ^ 64 → d.failed ≡ false
    → GoesOn os (kept_of c) (waiting_bytes c.waiting ++ piece) ps (kept_of d) (waiting_bytes d.waiting) → Waits (mode_of d.mode) (waiting_bytes d.waiting)
    → IsFed d (bytes ++ piece) × (ps ≡ newly_finished bytes piece)
fed_more c d bytes piece os ps none is room sound g w =
    let behind = subst (λ (us : List Part). GoesOn us (kept_of c) (waiting_bytes c.waiting ++ piece) ps (kept_of d) (waiting_bytes d.waiting)) none g in
    let all = goes_through [] started (bytes ++ piece) (finished bytes) (kept_of c) (waiting_bytes c.waiting ++ piece) (finished bytes ++ ps) (kept_of d) (waiting_bytes d.waiting)
    (goes_longer [] started bytes (finished bytes) (kept_of c) (waiting_bytes c.waiting) piece is.goes_on)
    (goes_behind (finished bytes) (kept_of c) (waiting_bytes c.waiting ++ piece) ps (kept_of d) (waiting_bytes d.waiting) behind) in
    let done : finished (bytes ++ piece) ≡ finished bytes ++ ps = handed_out (bytes ++ piece) (finished bytes ++ ps) (kept_of d) (waiting_bytes d.waiting) all w (few_wait d.waiting) in (
      record {
        fits = fed_fits c bytes piece is room;
        sound = sound;
        waits = w;
        goes_on = subst (λ (qs : List Part). GoesOn [] started (bytes ++ piece) qs (kept_of d) (waiting_bytes d.waiting)) (sym done) all;
      },
      sym (ap (λ qs. drop (length (finished bytes)) qs) done ∙ drop-append_seam (finished bytes) ps),
    )

-- ---- the first byte at which no character begins

first_none : (t : Bool) (o : Option (ℕ × ℕ)) (at : ℕ) (x : Option ℕ) (go : ℕ → Option ℕ) → cond t (Some 0) (option_map (λ (c : ℕ × ℕ). c.1 - 1) o) ≡ None → cond t x (bad_by o at go) ≡ Some at
first_none true o at x go e = absurd cc
first_none false None at x go e = refl
first_none false (Some c) at x go e = absurd cc

first_some : (t : Bool) (o : Option (ℕ × ℕ)) (at n : ℕ) (go : ℕ → Option ℕ) → cond t (Some 0) (option_map (λ (c : ℕ × ℕ). c.1 - 1) o) ≡ Some n → cond t (go 0) (bad_by o at go) ≡ go n
first_some true o at n go e = ap go cc
first_some false None at n go e = absurd cc
first_some false (Some c) at n go e = ap go cc

pub bad_here : (m : Mode) (left at b : ℕ) (bs : List ℕ) → left_behind m left (b ∷ bs) ≡ None → bad_byte m left at (b ∷ bs) ≡ Some at
unfolding bad_byte left_behind
bad_here m zero at b bs e = first_none (is_commented m) (first_char (b ∷ bs)) at _ _ e
bad_here m (suc left) at b bs e = absurd cc

pub bad_later : (m : Mode) (left at b n : ℕ) (bs : List ℕ) → left_behind m left (b ∷ bs) ≡ Some n → bad_byte m left at (b ∷ bs) ≡ bad_byte (move_over true m at (b ∷ bs)).0 n (at + 1) bs
unfolding bad_byte left_behind
bad_later m zero at b n bs e = first_some (is_commented m) (first_char (b ∷ bs)) at n (λ left. bad_byte (move_over true m at (b ∷ bs)).0 left (at + 1) bs) e
bad_later m (suc left) at b n bs e = ap (λ k. bad_byte (move_over true m at (b ∷ bs)).0 k (at + 1) bs) cc

pub skips : (m : Mode) (left : ℕ) (bs : List ℕ) → 0 < left → Some (left - 1) ≡ left_behind m left bs
unfolding left_behind
skips m zero bs some = absurd (omega arith)
skips m (suc left) bs some = let same : suc left - 1 ≡ left = omega arith in ap (λ n. Some n) same

pub in_comment : (m : Mode) (left : ℕ) (bs : List ℕ) → left ≤ 0 → is_commented m ≡ true → Some 0 ≡ left_behind m left bs
unfolding left_behind
in_comment m zero bs none e = rw e refl
in_comment m (suc left) bs none e = absurd (omega arith)

pub first_is : (m : Mode) (left : ℕ) (bs : List ℕ) (o : Option (ℕ × ℕ)) → left ≤ 0 → is_commented m ≡ false → first_char bs ≡ o → option_map (λ (c : ℕ × ℕ). c.1 - 1) o ≡ left_behind m left bs
unfolding left_behind
first_is m zero bs o none e f = rw (e, f) refl
first_is m (suc left) bs o none e f = absurd (omega arith)

ascii_of : (b : ℕ) → Waiting b → b < 128
ascii_of b stop = omega arith
ascii_of b open_ = omega arith
ascii_of b star = omega arith

is_first : (b : ℕ) → Waiting b → first_char (b ∷ []) ≡ Some (b, 1)
unfolding first_char front_char only_char is_utf8 chars encode
is_first b stop = refl
is_first b open_ = refl
is_first b star = refl

-- a byte that waits is a character, whatever stands before it
bad_waiting : (m : Mode) (left at b : ℕ) → Waiting b → bad_byte m left at (b ∷ []) ≡ None
unfolding bad_byte
bad_waiting m (suc left) at b w = refl
bad_waiting m zero at b w = rw (is_first b w) (either (is_commented m))
  where
    either : (t : Bool) → cond {A = Option ℕ} t None None ≡ None
    either true = refl
    either false = refl

-- no character ends with an ASCII byte that isn't its first
only_char_ascii : (b : ℕ) (xs : List ℕ) → b < 128 → 0 < length xs → only_char (xs ++ b ∷ []) ≡ None
unfolding only_char
only_char_ascii b xs ascii some = go (is_utf8 (xs ++ b ∷ [])) refl
  where
    no_one : (c : ℕ) (ds : List ℕ) → encode c ++ [] ≡ xs ++ b ∷ [] → encodes ds ≡ xs → ⊥
    no_one c [] e f = omega (arith, ap length f)
    no_one c (d ∷ ds) e f =
        let split : xs ++ b ∷ [] ≡ encode d ++ (encodes ds ++ b ∷ []) = ap (λ ys. ys ++ b ∷ []) (sym f) ∙ append_assoc (encode d) (encodes ds) (b ∷ []) in
        let same = encode_same c d [] (encodes ds ++ b ∷ []) (e ∙ split) in
        let long = ap length same.1 in
        omega (arith, long, length-append (encodes ds) (b ∷ []))

    none : (cs : List ℕ) → encodes cs ≡ xs ++ b ∷ [] → IsUtf8 xs → one cs ≡ None
    none [] e u = refl
    none (c ∷ []) e u = absurd (no_one c u.0 e u.1.1)
    none (c ∷ d ∷ cs) e u = refl

    go : (t : Bool) → is_utf8 (xs ++ b ∷ []) ≡ t → cond t (one (chars (xs ++ b ∷ []))) None ≡ None
    go false e = refl
    go true e =
        let u = IsUtf8-from_is_utf8 (xs ++ b ∷ []) e in
        let at_end : get_or (xs ++ b ∷ []) (length xs) 0 ≡ b = get_or-append_seam xs b [] 0 in
        let within : length xs < length (xs ++ b ∷ []) = omega (arith, length-append xs (b ∷ [])) in
        let front = IsUtf8-take (xs ++ b ∷ []) (length xs) u (IsCharBoundary-before_ascii (xs ++ b ∷ []) (length xs) within (omega arith)) in
        let same : chars (xs ++ b ∷ []) ≡ u.0 = ap chars (sym u.1.1) ∙ chars-encodes u.0 u.1.0 in
        ap one same ∙ none u.0 u.1.1 (subst (λ ys. IsUtf8 ys) (take-append_seam xs (b ∷ [])) front)

front_char_ascii : (n b : ℕ) (xs : List ℕ) → b < 128 → 0 < length xs → front_char n (xs ++ b ∷ []) ≡ front_char n xs
unfolding front_char
front_char_ascii n b xs ascii some = go (nat_le n (length xs)) refl (nat_le n (length xs + 1)) refl
  where
    long : length (xs ++ b ∷ []) ≡ length xs + 1
    long = length-append xs (b ∷ [])

    go : (t : Bool) → nat_le n (length xs) ≡ t → (u : Bool) → nat_le n (length xs + 1) ≡ u
        → cond (nat_le n (length (xs ++ b ∷ []))) (with_len n (only_char (take n (xs ++ b ∷ [])))) None ≡ cond (nat_le n (length xs)) (with_len n (only_char (take n xs))) None
    go true e u f =
        let within : n ≤ length xs = grind (arith, nat_tests, e) in
        let test : nat_le n (length xs + 1) ≡ true = grind (arith, nat_tests, within) in
        rw (long, test, e, take-append-le n xs (b ∷ []) within) refl
    go false e false f = rw (long, f, e) refl
    go false e true f =
        let far : n ≡ length (xs ++ b ∷ []) = let l = long in grind (arith, nat_tests, e, f, l) in
        let all : take n (xs ++ b ∷ []) ≡ xs ++ b ∷ [] = ap (λ k. take k (xs ++ b ∷ [])) far ∙ take-length (xs ++ b ∷ []) in
        rw (long, f, e, all, only_char_ascii b xs ascii some) refl

first_char_ascii : (b : ℕ) (xs : List ℕ) → b < 128 → 0 < length xs → first_char (xs ++ b ∷ []) ≡ first_char xs
unfolding first_char
first_char_ascii b xs ascii some =
    rw (front_char_ascii 1 b xs ascii some, front_char_ascii 2 b xs ascii some, front_char_ascii 3 b xs ascii some, front_char_ascii 4 b xs ascii some) refl

same_by : (t : Bool) (o : Option (ℕ × ℕ)) (at : ℕ) (f g : ℕ → Option ℕ) → ((n : ℕ) → f n ≡ g n) → cond t (f 0) (bad_by o at f) ≡ cond t (g 0) (bad_by o at g)
same_by true o at f g e = e 0
same_by false None at f g e = refl
same_by false (Some c) at f g e = e (c.1 - 1)

same_bad : (m : Mode) (left at b : ℕ) (xs ys : List ℕ) → first_char (b ∷ xs) ≡ first_char (b ∷ ys)
    → ((n : ℕ) → bad_byte (move_over true m at (b ∷ xs)).0 n (at + 1) xs ≡ bad_byte (move_over true m at (b ∷ ys)).0 n (at + 1) ys)
    → bad_byte m left at (b ∷ xs) ≡ bad_byte m left at (b ∷ ys)
unfolding bad_byte
same_bad m (suc left) at b xs ys e f = f left
same_bad m zero at b xs ys e f =
    same_by (is_commented m) (first_char (b ∷ xs)) at (λ n. bad_byte (move_over true m at (b ∷ xs)).0 n (at + 1) xs) (λ n. bad_byte (move_over true m at (b ∷ ys)).0 n (at + 1) ys) f
    ∙ ap (λ o. cond (is_commented m) (bad_byte (move_over true m at (b ∷ ys)).0 0 (at + 1) ys) (bad_by o at (λ n. bad_byte (move_over true m at (b ∷ ys)).0 n (at + 1) ys))) e

bad_last : (m : Mode) (left at b : ℕ) (xs : List ℕ) → Waiting b → bad_byte m left at (xs ++ b ∷ []) ≡ bad_byte m left at xs
unfolding bad_byte
bad_last m left at b [] w = bad_waiting m left at b w
bad_last m left at b (x ∷ []) w =
    same_bad m left at x (b ∷ []) [] (first_char_ascii b (x ∷ []) (ascii_of b w) (omega arith)) (λ n. bad_waiting (move_over true m at (x ∷ b ∷ [])).0 n (at + 1) b w)
bad_last m left at b (x ∷ y ∷ xs) w =
    same_bad m left at x (y ∷ xs ++ b ∷ []) (y ∷ xs) (first_char_ascii b (x ∷ y ∷ xs) (ascii_of b w) (omega arith))
    (λ n. ap (λ (r : Move). bad_byte r.0 n (at + 1) (y ∷ xs ++ b ∷ [])) (two true true m at x y (xs ++ b ∷ []) xs) ∙ bad_last (move_over true m at (x ∷ y ∷ xs)).0 n (at + 1) b (y ∷ xs) w)

-- ---- the end

fault_same : (bytes held left : List ℕ) (count : ℕ) (o : Option ℕ) → length bytes ≡ count → ((s : ℕ) → o ≡ Some s → drop s bytes ≡ held ++ left)
    → ((s : ℕ) → bad_byte gap 0 s (held ++ left) ≡ bad_byte gap 0 s held) → fault_by held count o ≡ fault_in bytes o
fault_same bytes held left count None long same bad = sym long
fault_same bytes held left count (Some s) long same bad =
    sym (ap (λ xs. or_length bytes (bad_byte gap 0 s xs)) (same s refl) ∙ (ap (λ o. or_length bytes o) (bad s) ∙ either (bad_byte gap 0 s held)))
  where
    either : (o : Option ℕ) → or_length bytes o ≡ unwrap_or o count
    either None = long
    either (Some at) = refl

left_is : (m : Mode) (bytes held left : List ℕ) (count : ℕ) → length bytes ≡ count → ((s : ℕ) → start_of m ≡ Some s → drop s bytes ≡ held ++ left)
    → ((s : ℕ) → bad_byte gap 0 s (held ++ left) ≡ bad_byte gap 0 s held) → left_by m held count ≡ end_by [] (rest_by bytes m)
unfolding left_by rest_by start_of
left_is gap bytes held left count long same bad = refl
left_is (inside start quoted) bytes held left count long same bad = ap rest (fault_same bytes held left count (start_of (inside start quoted)) long same bad)
left_is (comment n m) bytes held left count long same bad = ap rest (fault_same bytes held left count (start_of (comment n m)) long same bad)
left_is (passing m) bytes held left count long same bad = ap rest (fault_same bytes held left count (start_of (passing m)) long same bad)

-- what the end finishes is what the machine finishes at the end
end_by_kept : (k : Kept) (left bytes : List ℕ) → GoesOn [] started bytes (finished bytes) k left
    → end_by (parts_from true k.mode k.at k.held left) (rest_by bytes (mode_behind true k.mode k.at left)) ≡ end_of bytes
unfolding end_of rest_of
end_by_kept k left bytes g =
    let whole : cut bytes ≡ finished bytes ++ parts_from true k.mode k.at k.held left =
    sym (parts_from_start true bytes) ∙ (ap (λ bs. parts_from true gap 0 [] bs) (sym (append-nil bytes))
    ∙ (sym (g.parts true []) ∙ ap (λ bs. finished bytes ++ parts_from true k.mode k.at k.held bs) (append-nil left))) in
    let more : drop (length (finished bytes)) (cut bytes) ≡ parts_from true k.mode k.at k.held left =
    ap (λ ps. drop (length (finished bytes)) ps) whole ∙ drop-append_seam (finished bytes) (parts_from true k.mode k.at k.held left) in
    let mode : mode_behind true k.mode k.at left ≡ mode_behind true gap 0 bytes =
    ap (λ bs. mode_behind true k.mode k.at bs) (sym (append-nil left)) ∙ (g.mode true [] ∙ ap (λ bs. mode_behind true gap 0 bs) (append-nil bytes)) in
    ap (λ m. end_by (parts_from true k.mode k.at k.held left) (rest_by bytes m)) mode ∙ ap (λ ps. end_by ps (rest_by bytes (mode_behind true gap 0 bytes))) (sym more)

held_left : (k : Kept) (left bytes : List ℕ) → GoesOn [] started bytes (finished bytes) k left → Holds k bytes left
held_left k left bytes g =
    subst (λ (bs : List ℕ). Holds k bytes bs) (append-nil left) (g.holds bytes [] (subst (λ (bs : List ℕ). Holds started bytes bs) (sym (append-nil bytes)) (held_at_start bytes)))

start_at : (k : Kept) (left bytes : List ℕ) → Holds k bytes left → (s : ℕ) → start_of k.mode ≡ Some s → drop s bytes ≡ k.held ++ left
start_at k left bytes h s e = subst (λ (o : Option ℕ). drop (from_or k.at o) bytes ≡ k.held ++ left) e h.same

last_end : (k : Kept) (b : ℕ) (bytes : List ℕ) (r : Move) → Does (b ∷ []) (start_of k.mode) k.at r → Holds k bytes (b ∷ []) → length bytes ≡ k.at + 1 → Waiting b
    → ended_from r.1 r.0 k.held (k.at + 1) ≡ end_by (map (held_part k.at k.held b) r.1 ++ []) (rest_by bytes r.0)
last_end k b bytes r (leaves m e) h long w = left_is m bytes k.held (b ∷ []) (k.at + 1) long (λ s f. absurd (let no : None ≡ Some s = sym e ∙ f in cc)) (λ s. bad_last gap 0 s b k.held w)
last_end k b bytes r (stays m e) h long w =
    left_is m bytes k.held (b ∷ []) (k.at + 1) long
    (λ s f. let same : from_of k.mode k.at ≡ s = let both : Some (from_of k.mode k.at) ≡ Some s = sym e ∙ f in cc in subst (λ (n : ℕ). drop n bytes ≡ k.held ++ b ∷ []) same h.same)
    (λ s. bad_last gap 0 s b k.held w)
last_end k b bytes r stops h long w = rw (no_less k.at) refl
last_end k b bytes r (braces none is) h long w = absurd (no_brace b w is)

end_of_kept : (k : Kept) (left bytes : List ℕ) → GoesOn [] started bytes (finished bytes) k left → Waits k.mode left → length left ≤ 1 → ended_by k.mode k.at k.held left ≡ end_of bytes
unfolding ended_by parts_from mode_behind
end_of_kept k [] bytes g w few =
    let h = held_left k [] bytes g in
    let long : length bytes ≡ k.at = let c = g.count in omega (arith, c) in
    left_is k.mode bytes k.held [] k.at long (start_at k [] bytes h) (λ s. ap (λ bs. bad_byte gap 0 s bs) (append-nil k.held)) ∙ end_by_kept k [] bytes g
end_of_kept k (b ∷ []) bytes g w few =
    let h = held_left k (b ∷ []) bytes g in
    let long : length bytes ≡ k.at + 1 = let c = g.count in omega (arith, c) in
    last_end k b bytes (move_over true k.mode k.at (b ∷ [])) (does true k.mode k.at (b ∷ [])) h long (waiting k.mode b w) ∙ end_by_kept k (b ∷ []) bytes g
end_of_kept k (b ∷ c ∷ left) bytes g w few = absurd (omega arith)

-- ---- the code

pub fed_held : (c : Cutter) (bytes : List ℕ) → IsFed c bytes → from_of (mode_of c.mode) c.at + length c.held ≡ c.at
fed_held c bytes is = (held_left (kept_of c) (waiting_bytes c.waiting) bytes is.goes_on).place

pub starts : (m : KeptMode) (start : ℕ) (quoted : Bool) → m.region ≡ Sentence start quoted → start_of (mode_of m) ≡ Some start
unfolding start_of
starts m start quoted e = start_of-mode_of m ∙ ap (λ (r : Region). start_of (region_of r)) e

pub starts_none : (m : KeptMode) → m.region ≡ Gap → start_of (mode_of m) ≡ None
unfolding start_of
starts_none m e = start_of-mode_of m ∙ ap (λ (r : Region). start_of (region_of r)) e

pub left_clean : (m : Mode) (held : List ℕ) (count : ℕ) → m ≡ gap → clean ≡ left_by m held count
unfolding left_by
left_clean m held count e = rw e refl

left_fault : (m : Mode) (held : List ℕ) (count : ℕ) → (m ≡ gap → ⊥) → rest (fault_by held count (start_of m)) ≡ left_by m held count
unfolding left_by start_of
left_fault gap held count e = absurd (e refl)
left_fault (inside start quoted) held count e = refl
left_fault (comment n m) held count e = refl
left_fault (passing m) held count e = refl

pub left_none : (m : KeptMode) (held : List ℕ) (count : ℕ) → (mode_of m ≡ gap → ⊥) → m.region ≡ Gap → rest count ≡ left_by (mode_of m) held count
left_none m held count e f = ap (λ (o : Option ℕ). rest (fault_by held count o)) (sym (starts_none m f)) ∙ left_fault (mode_of m) held count e

pub left_bad : (m : KeptMode) (held : List ℕ) (count start : ℕ) (quoted : Bool) (o : Option ℕ) → (mode_of m ≡ gap → ⊥) → m.region ≡ Sentence start quoted → o ≡ bad_byte gap 0 start held → rest (unwrap_or o count) ≡ left_by (mode_of m) held count
left_bad m held count start quoted o e f bad =
    ap (λ (x : Option ℕ). rest (unwrap_or x count)) bad
    ∙ (ap (λ (x : Option ℕ). rest (fault_by held count x)) (sym (starts m start quoted f)) ∙ left_fault (mode_of m) held count e)

starts_before : (xs : List ℕ) (s : Option ℕ) (at : ℕ) (r : Move) → Does xs s at r → (start : ℕ) → start_of r.0 ≡ Some start → start ≡ from_or at s
unfolding start_of
starts_before xs s at r (leaves m e) start f = absurd (let no : None ≡ Some start = sym e ∙ f in cc)
starts_before xs s at r (stays m e) start f = let both : Some start ≡ Some (from_or at s) = sym f ∙ e in cc
starts_before xs s at r stops start f = absurd cc
starts_before xs s at r (braces none is) start f = absurd cc

-- what is held fits behind the last byte
pub held_fits : (m : Mode) (n : KeptMode) (at b : ℕ) (held hs : List ℕ) → from_of m at + length held ≡ at → (mode_of n, []) ≡ move_over true m at (b ∷ []) → hs ≡ held
    → (start : ℕ) → start_of (mode_of n) ≡ Some start → start + length hs ≤ at + 1
held_fits m n at b held hs place is same start e =
    let from = starts_before (b ∷ []) (start_of m) at (move_over true m at (b ∷ [])) (does true m at (b ∷ [])) start (ap (λ (r : Move). start_of r.0) (sym is) ∙ e) in
    omega (arith, from, ap length same, place)

pub ended_none : (m : Mode) (at : ℕ) (held hs : List ℕ) (o : Option ℕ) (x : End) → o ≡ None → x ≡ left_by m hs at → hs ≡ held → x ≡ ended_by m at held (waiting_bytes o)
unfolding ended_by
ended_none m at held hs o x none is same = rw none (is ∙ ap (λ ys. left_by m ys at) same)

pub ended_on : (m : Mode) (n : KeptMode) (at b : ℕ) (held hs : List ℕ) (o : Option ℕ) (x : End) → o ≡ Some b → (mode_of n, []) ≡ move_over true m at (b ∷ []) → x ≡ left_by (mode_of n) hs (at + 1) → hs ≡ held
    → x ≡ ended_by m at held (waiting_bytes o)
unfolding ended_by
ended_on m n at b held hs o x some is left same =
    rw some (left ∙ (ap (λ ys. left_by (mode_of n) ys (at + 1)) same ∙ ap (λ (r : Move). ended_from r.1 r.0 held (at + 1)) is))

pub ended_last : (m : Mode) (at b start end : ℕ) (held : List ℕ) (o : Option ℕ) → o ≡ Some b → ◌≡◌ {A = Move} (gap, (start, end) ∷ []) (move_over true m at (b ∷ []))
    → last (record { offset = start; text = held }) ≡ ended_by m at held (waiting_bytes o)
unfolding ended_by
ended_last m at b start end held o some is = rw some (ap (λ (r : Move). ended_from r.1 r.0 held (at + 1)) is)

-- a turn of the loop over the bytes from a sentence's start on
pub bad_more : (m n : Mode) (left at next : ℕ) (bs cs : List ℕ) (o : Option ℕ) → 0 < length bs → Some next ≡ left_behind m left bs → n ≡ (move_over true m at bs).0 → cs ≡ drop 1 bs
    → bad_byte m left at bs ≡ o → bad_byte n next (at + 1) cs ≡ o
bad_more m n left at next [] cs o some is mode tail so_far = absurd (omega arith)
bad_more m n left at next (b ∷ bs) cs o some is mode tail so_far =
    rw (mode, tail) (sym (bad_later m left at b next bs (sym is)) ∙ so_far)

pub bad_stops : (m : Mode) (left at : ℕ) (bs : List ℕ) (o : Option ℕ) → 0 < length bs → None ≡ left_behind m left bs → bad_byte m left at bs ≡ o → Some at ≡ o
bad_stops m left at [] o some is so_far = absurd (omega arith)
bad_stops m left at (b ∷ bs) o some is so_far = sym (bad_here m left at b bs (sym is)) ∙ so_far

pub bad_none : (m : Mode) (left at : ℕ) (bs : List ℕ) (o : Option ℕ) → length bs ≡ 0 → bad_byte m left at bs ≡ o → None ≡ o
unfolding bad_byte
bad_none m left at [] o none so_far = so_far
bad_none m left at (b ∷ bs) o none so_far = absurd (omega arith)

pub end_is : (c : Cutter) (bytes : List ℕ) → IsFed c bytes → ended_by (mode_of c.mode) c.at c.held (waiting_bytes c.waiting) ≡ end_of bytes
end_is c bytes is = end_of_kept (kept_of c) (waiting_bytes c.waiting) bytes is.goes_on is.waits (few_wait c.waiting)
