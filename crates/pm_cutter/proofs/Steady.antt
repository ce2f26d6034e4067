-- What is finished stays, the end finishes one sentence more at most, and the sentences stand one behind another.
use Rattle.std.proofs.Common.{◌≡◌, ◌⊎◌, ℕ, ◌+◌, ◌-◌, ◌≤◌, Bool, true, false, List, [], ◌∷◌, ◌++◌, length, take, drop, map, Option, None, refl, sym, ap, subst, ◌∙◌, inl, inr, arith, append_assoc, length-append, length-drop}
use Rattle.std.proofs.lemmas.List.{append-nil, length-take-le}
use Rattle.pm_cutter.specs.Cutting.{Mode, gap, Ends, Move, move_over, sentences_from, mode_behind, Part, part, parts, cut, finished, start_of, rest_by, rest_of}
use Rattle.pm_cutter.specs.CuttingLaws.{IsFront, AreParts, CuttingIsSteady}
use Rattle.pm_cutter.specs.Machine.{held_by, held_part, parts_from, waits, from_or, from_of}
use Rattle.pm_cutter.proofs.Steps.{Does, leaves, stays, stops, braces, does, two, settled, none_waiting, waiting, no_brace}
use Rattle.pm_cutter.proofs.Going.{parts_from_start}

-- ---- what follows

-- the parts that a byte and those behind it finish
after : Bool → ℕ → List ℕ → ℕ → List ℕ → Move → List Part
after end at held b bs r = map (held_part at held b) r.1 ++ parts_from end r.0 (at + 1) (held_by (start_of r.0) (held ++ b ∷ [])) bs

no_parts : (at : ℕ) (held : List ℕ) (b : ℕ) (m : Mode) (hs : List ℕ) (es : List Ends) → es ≡ [] → map (held_part at held b) es ++ parts_from false m (at + 1) hs [] ≡ []
unfolding parts_from
no_parts at held b m hs es none = rw none refl

stay : (m : Mode) (at : ℕ) (held xs ys : List ℕ) → IsFront (parts_from false m at held xs) (parts_from false m at held (xs ++ ys))
unfolding parts_from after
stay m at held [] ys = (parts_from false m at held ys, refl)
stay m at held (b ∷ []) ys = go (waits m b) refl
  where
    r : Move
    r = move_over false m at (b ∷ [])

    go : (t : Bool) → waits m b ≡ t → IsFront (parts_from false m at held (b ∷ [])) (parts_from false m at held (b ∷ ys))
    go true e =
        (parts_from false m at held (b ∷ ys), ap (λ ps. ps ++ parts_from false m at held (b ∷ ys)) (sym (no_parts at held b r.0 (held_by (start_of r.0) (held ++ b ∷ [])) r.1 (none_waiting m at b e))))
    go false e =
        let more = parts_from false r.0 (at + 1) (held_by (start_of r.0) (held ++ b ∷ [])) ys in
        (more, ap (λ q. after false at held b ys q) (settled false m at b ys e) ∙ ap (λ ps. ps ++ more) (sym (append-nil (map (held_part at held b) r.1))))
stay m at held (b ∷ c ∷ xs) ys =
    let r : Move = move_over false m at (b ∷ c ∷ xs) in
    let later = stay r.0 (at + 1) (held_by (start_of r.0) (held ++ b ∷ [])) (c ∷ xs) ys in (
      later.0,
      ap (λ q. after false at held b (c ∷ xs ++ ys) q) (two false false m at b c (xs ++ ys) xs)
          ∙ (ap (λ ps. map (held_part at held b) r.1 ++ ps) later.1 ∙ sym (append_assoc (map (held_part at held b) r.1) _ later.0)),
    )

finished_stays : (xs ys : List ℕ) → IsFront (finished xs) (finished (xs ++ ys))
finished_stays xs ys =
    let s = stay gap 0 [] xs ys in
    (s.0, sym (parts_from_start false (xs ++ ys)) ∙ (s.1 ∙ ap (λ ps. ps ++ s.0) (parts_from_start false xs)))

-- ---- the end

-- the end finishes nothing, or one sentence behind which nothing is left
abbrev EndsSo : List Part → List Part → Mode → Type 0
EndsSo ps qs m = (ps ≡ qs) ⊎ ((p : Part) × (ps ≡ qs ++ p ∷ []) × (m ≡ gap))

ends_after : (xs ps qs : List Part) (m : Mode) → EndsSo ps qs m → EndsSo (xs ++ ps) (xs ++ qs) m
ends_after xs ps qs m (inl h) = inl (ap (λ us. xs ++ us) h)
ends_after xs ps qs m (inr t) = inr (t.0, ap (λ us. xs ++ us) t.1 ∙ sym (append_assoc xs qs (t.0 ∷ [])), t.2)

ends_last : (m : Mode) (at b : ℕ) (held : List ℕ) (r : Move) → Does (b ∷ []) (start_of m) at r → waits m b ≡ true → EndsSo (map (held_part at held b) r.1 ++ []) [] r.0
ends_last m at b held r (leaves n e) w = inl refl
ends_last m at b held r (stays n e) w = inl refl
ends_last m at b held r stops w = inr (held_part at held b (from_of m at, at), refl, refl)
ends_last m at b held r (braces none is) w = absurd (no_brace b (waiting m b w) is)

ends_so : (m : Mode) (at : ℕ) (held xs : List ℕ) → EndsSo (parts_from true m at held xs) (parts_from false m at held xs) (mode_behind true m at xs)
unfolding parts_from mode_behind after
ends_so m at held [] = inl refl
ends_so m at held (b ∷ []) = go (waits m b) refl
  where
    r : Move
    r = move_over true m at (b ∷ [])

    finished_by : Move → List Part
    finished_by q = map (held_part at held b) q.1 ++ []

    go : (t : Bool) → waits m b ≡ t → EndsSo (parts_from true m at held (b ∷ [])) (parts_from false m at held (b ∷ [])) (mode_behind true m at (b ∷ []))
    go true e =
        let none : [] ≡ finished_by (move_over false m at (b ∷ [])) = ap (λ (es : List Ends). map (held_part at held b) es ++ []) (sym (none_waiting m at b e)) in
        subst (λ (qs : List Part). EndsSo (finished_by r) qs r.0) none (ends_last m at b held r (does true m at (b ∷ [])) e)
    go false e = inl (ap finished_by (settled true m at b [] e))
ends_so m at held (b ∷ c ∷ xs) =
    let r : Move = move_over true m at (b ∷ c ∷ xs) in
    subst (λ (q : Move). EndsSo (after true at held b (c ∷ xs) r) (after false at held b (c ∷ xs) q) (mode_behind true r.0 (at + 1) (c ∷ xs))) (two true false m at b c xs xs)
    (ends_after (map (held_part at held b) r.1) _ _ _ (ends_so r.0 (at + 1) (held_by (start_of r.0) (held ++ b ∷ [])) (c ∷ xs)))

cut_ends : (xs : List ℕ) → EndsSo (cut xs) (finished xs) (mode_behind true gap 0 xs)
cut_ends xs = subst (λ (ps : List Part). EndsSo ps (finished xs) (mode_behind true gap 0 xs)) (parts_from_start true xs) (subst (λ (qs : List Part). EndsSo (parts_from true gap 0 [] xs) qs (mode_behind true gap 0 xs)) (parts_from_start false xs) (ends_so gap 0 [] xs))

-- ---- one behind another

-- sentences from an offset on, up to one
abbrev Rises : ℕ → List Ends → ℕ → Type 0
Rises from [] stop = from ≤ stop
Rises from (e ∷ es) stop = (from ≤ e.0) × (e.0 ≤ e.1) × Rises e.1 es stop

rises_within : (from : ℕ) (es : List Ends) (stop : ℕ) → Rises from es stop → from ≤ stop
rises_within from [] stop r = r
rises_within from (e ∷ es) stop r = let later = rises_within e.1 es stop r.2 in omega (arith, later, r.0, r.1)

rises_by : (xs : List ℕ) (s : Option ℕ) (at from stop : ℕ) (r : Move) (more : Mode → List Ends) → Does xs s at r → from_or at s ≤ at → from ≤ from_or at s
    → ((n : Mode) (low : ℕ) → from_of n (at + 1) ≤ at + 1 → low ≤ from_of n (at + 1) → Rises low (more n) stop) → Rises from (r.1 ++ more r.0) stop
unfolding start_of
rises_by xs s at from stop r more (leaves n e) within low later =
    let place : from_of n (at + 1) ≡ at + 1 = ap (λ o. from_or (at + 1) o) e in later n from (omega arith) (omega arith)
rises_by xs s at from stop r more (stays n e) within low later =
    let place : from_of n (at + 1) ≡ from_or at s = ap (λ o. from_or (at + 1) o) e in later n from (omega arith) (omega arith)
rises_by xs s at from stop r more stops within low later = (low, within, later gap at (omega arith) (omega arith))
rises_by xs s at from stop r more (braces none is) within low later = (omega arith, omega arith, later gap (at + 1) (omega arith) (omega arith))

rises : (end : Bool) (m : Mode) (at from : ℕ) (bs : List ℕ) (stop : ℕ) → from_of m at ≤ at → from ≤ from_of m at → at + length bs ≡ stop → Rises from (sentences_from end m at bs) stop
unfolding sentences_from
rises end m at from [] stop within low place = omega (arith, within, low, place)
rises end m at from (b ∷ bs) stop within low place =
    rises_by (b ∷ bs) (start_of m) at from stop (move_over end m at (b ∷ bs)) (λ n. sentences_from end n (at + 1) bs) (does end m at (b ∷ bs)) within low
    (λ n start p q. rises end n (at + 1) start bs stop p q (omega arith))

stand_of : (whole : List ℕ) (from : ℕ) (es : List Ends) → Rises from es (length whole) → AreParts whole from (map (part whole) es)
stand_of whole from [] r = r
stand_of whole from (e ∷ es) r =
    let within = rises_within e.1 es (length whole) r.2 in
    let long : length (take (e.1 - e.0) (drop e.0 whole)) ≡ e.1 - e.0 = length-take-le (e.1 - e.0) (drop e.0 whole) (omega (arith, within, r.1, length-drop e.0 whole)) in
    let place : e.0 + length (take (e.1 - e.0) (drop e.0 whole)) ≡ e.1 = omega (arith, long, r.1) in
    (r.0, ap (λ n. take n (drop e.0 whole)) (sym long), subst (λ (n : ℕ). AreParts whole n (map (part whole) es)) (sym place) (stand_of whole e.1 es r.2))

-- ---- the laws

one_more : (ps qs : List Part) (m : Mode) → EndsSo ps qs m → (ps ≡ qs) ⊎ ((p : Part) × (ps ≡ qs ++ p ∷ []))
one_more ps qs m (inl h) = inl h
one_more ps qs m (inr t) = inr (t.0, t.1)

in_gap : (ps qs : List Part) (p : Part) (m : Mode) → EndsSo ps qs m → ps ≡ qs ++ p ∷ [] → m ≡ gap
in_gap ps qs p m (inl h) e = absurd (let long = ap length (sym h ∙ e) in omega (arith, long, length-append qs (p ∷ [])))
in_gap ps qs p m (inr t) e = t.2

nothing_in_gap : (xs : List ℕ) (m : Mode) → m ≡ gap → rest_by xs m ≡ None
unfolding rest_by
nothing_in_gap xs m e = ap (λ n. rest_by xs n) e

pub cutting_is_steady : CuttingIsSteady
unfolding parts rest_of start_of
cutting_is_steady = record {
  stays = finished_stays;
  ends = λ xs. one_more (cut xs) (finished xs) (mode_behind true gap 0 xs) (cut_ends xs);
  stand = λ xs. stand_of xs 0 (sentences_from true gap 0 xs) (rises true gap 0 0 xs (length xs) (omega arith) (omega arith) (omega arith));
  nothing_left = λ xs p e. nothing_in_gap xs (mode_behind true gap 0 xs) (in_gap (cut xs) (finished xs) p (mode_behind true gap 0 xs) (cut_ends xs) e);
}
