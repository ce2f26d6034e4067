-- How a machine goes on from bytes to bytes.
use Rattle.std.proofs.Common.{◌≡◌, ℕ, ◌+◌, ◌-◌, ◌<◌, Bool, true, false, ◌&&◌, ◌==◌, List, [], ◌∷◌, ◌++◌, length, take, drop, map, None, refl, sym, ap, subst, ◌∙◌, arith, append_assoc, length-append}
use Rattle.std.specs.Prelude.{slice_index, nat_lt}
use Rattle.std.proofs.Math.Seq.{drop-append-add, take-append_seam}
use Rattle.std.proofs.lemmas.List.{drop-drop, map-append, append-nil}
use Rattle.std.proofs.lemmas.Bool.Decides.{nat_tests}
use Rattle.pm_cutter.specs.Cutting.{Mode, gap, Move, move_over, sentences_from, mode_behind, Part, part, parts, start_of}
use Rattle.pm_cutter.specs.declared.mode.Mode.{Mode as KeptMode}
use Rattle.pm_cutter.specs.Machine.{region_of, mode_of, Kept, held_by, held_part, parts_from, Takes, waits, from_or, from_of, Holds, GoesOn, started}
use Rattle.pm_cutter.proofs.Steps.{Does, leaves, stays, stops, braces, does, two, settled, none_waiting, start_of-mode_of}

-- ---- what is held

past_held : (n at b : ℕ) (hs bs whole : List ℕ) → n + length hs ≡ at → drop n whole ≡ hs ++ b ∷ bs → drop (at + 1) whole ≡ bs
past_held n at b hs bs whole place same =
    let far : at + 1 ≡ n + (length hs + 1) = omega arith in
    ap (λ k. drop k whole) far ∙ (sym (drop-drop (length hs + 1) n whole) ∙ (ap (λ xs. drop (length hs + 1) xs) same ∙ drop-append-add hs (b ∷ bs) 1))

holds_none : (m : Mode) (at : ℕ) (hs whole bs : List ℕ) → start_of m ≡ None → drop at whole ≡ bs → Holds (record { mode = m; at = at; held = held_by (start_of m) hs }) whole bs
holds_none m at hs whole bs none same = record { place = rw none (omega arith); same = rw none same }

-- what is held behind a byte is the end of the bytes up to there
holds_behind : (k : Kept) (b : ℕ) (bs whole : List ℕ) (xs : List ℕ) (r : Move) → Does xs (start_of k.mode) k.at r → Holds k whole (b ∷ bs)
    → Holds (record { mode = r.0; at = k.at + 1; held = held_by (start_of r.0) (k.held ++ b ∷ []) }) whole bs
unfolding start_of
holds_behind k b bs whole xs r (leaves m e) h =
    holds_none m (k.at + 1) (k.held ++ b ∷ []) whole bs e (past_held (from_of k.mode k.at) k.at b k.held bs whole h.place h.same)
holds_behind k b bs whole xs r (stays m e) h =
    record { place = rw e (let p = h.place in omega (arith, p, length-append k.held (b ∷ []))); same = rw e (h.same ∙ sym (append_assoc k.held (b ∷ []) bs)) }
holds_behind k b bs whole xs r stops h =
    holds_none gap (k.at + 1) (k.held ++ b ∷ []) whole bs refl (past_held (from_of k.mode k.at) k.at b k.held bs whole h.place h.same)
holds_behind k b bs whole xs r (braces none is) h =
    holds_none gap (k.at + 1) (k.held ++ b ∷ []) whole bs refl (past_held (from_of k.mode k.at) k.at b k.held bs whole h.place h.same)

pub no_less : (n : ℕ) → nat_lt n n ≡ false
no_less n = grind (arith, nat_tests)

less_next : (n : ℕ) → nat_lt n (n + 1) ≡ true
less_next n = grind (arith, nat_tests)

held_text : (n at b : ℕ) (hs bs whole : List ℕ) → n + length hs ≡ at → drop n whole ≡ hs ++ b ∷ bs → hs ≡ take (at - n) (drop n whole)
held_text n at b hs bs whole place same =
    let far : at - n ≡ length hs = omega arith in rw (far, same) (sym (take-append_seam hs (b ∷ bs)))

brace_text : (n at b : ℕ) (hs bs whole : List ℕ) → n ≡ at → n + length hs ≡ at → drop n whole ≡ hs ++ b ∷ bs → hs ++ b ∷ [] ≡ take (at + 1 - at) (drop at whole)
brace_text n at b [] bs whole is place same =
    let far : at + 1 - at ≡ 1 = omega arith in rw far (ap (λ xs. take 1 xs) (sym same ∙ ap (λ k. drop k whole) is))
brace_text n at b (h ∷ hs) bs whole is place same = absurd (omega arith)

one_part : (at : ℕ) (xs ys : List ℕ) → xs ≡ ys → ◌≡◌ {A = List Part} (record { offset = at; text = xs } ∷ []) (record { offset = at; text = ys } ∷ [])
one_part at xs ys e = ap (λ zs. record { offset = at; text = zs } ∷ []) e

-- the parts that a byte finishes are those of the bytes
same_parts : (k : Kept) (b : ℕ) (bs whole : List ℕ) (xs : List ℕ) (r : Move) → Does xs (start_of k.mode) k.at r → Holds k whole (b ∷ bs)
    → map (held_part k.at k.held b) r.1 ≡ map (part whole) r.1
same_parts k b bs whole xs r (leaves m e) h = refl
same_parts k b bs whole xs r (stays m e) h = refl
same_parts k b bs whole xs r stops h =
    let n = from_of k.mode k.at in
    one_part n _ _ (rw (no_less k.at) (held_text n k.at b k.held bs whole h.place h.same))
same_parts k b bs whole xs r (braces none is) h =
    one_part k.at _ _ (rw (less_next k.at) (brace_text (from_of k.mode k.at) k.at b k.held bs whole (ap (λ s. from_or k.at s) none) h.place h.same))

pub parts_are : (end : Bool) (k : Kept) (bs whole : List ℕ) → Holds k whole bs → parts_from end k.mode k.at k.held bs ≡ map (part whole) (sentences_from end k.mode k.at bs)
unfolding parts_from sentences_from
parts_are end k [] whole h = refl
parts_are end k (b ∷ bs) whole h =
    let d = does end k.mode k.at (b ∷ bs) in
    let r : Move = move_over end k.mode k.at (b ∷ bs) in
    let next : Kept = record { mode = r.0; at = k.at + 1; held = held_by (start_of r.0) (k.held ++ b ∷ []) } in
    ap (λ ps. ps ++ parts_from end next.mode next.at next.held bs) (same_parts k b bs whole (b ∷ bs) r d h)
    ∙ (ap (λ ps. map (part whole) r.1 ++ ps) (parts_are end next bs whole (holds_behind k b bs whole (b ∷ bs) r d h))
    ∙ sym (map-append (part whole) r.1 (sentences_from end r.0 (k.at + 1) bs)))

pub held_at_start : (bs : List ℕ) → Holds started bs bs
unfolding start_of
held_at_start bs = record { place = refl; same = refl }

pub parts_from_start : (end : Bool) (bs : List ℕ) → parts_from end gap 0 [] bs ≡ parts end bs
unfolding parts
parts_from_start end bs = parts_are end started bs bs (held_at_start bs)

-- ---- going on

pub goes_nowhere : (ps : List Part) (k : Kept) (bs : List ℕ) → GoesOn ps k bs ps k bs
goes_nowhere ps k bs = record { parts = λ end ys. refl; mode = λ end ys. refl; count = refl; holds = λ whole ys h. h }

pub goes_through : (ps : List Part) (k : Kept) (bs : List ℕ) (qs : List Part) (l : Kept) (cs : List ℕ) (rs : List Part) (n : Kept) (ds : List ℕ)
    → GoesOn ps k bs qs l cs → GoesOn qs l cs rs n ds → GoesOn ps k bs rs n ds
goes_through ps k bs qs l cs rs n ds f g = record {
  parts = λ end ys. g.parts end ys ∙ f.parts end ys;
  mode = λ end ys. g.mode end ys ∙ f.mode end ys;
  count = g.count ∙ f.count;
  holds = λ whole ys h. g.holds whole ys (f.holds whole ys h);
}

-- more bytes behind
pub goes_longer : (ps : List Part) (k : Kept) (bs : List ℕ) (qs : List Part) (l : Kept) (cs ds : List ℕ) → GoesOn ps k bs qs l cs → GoesOn ps k (bs ++ ds) qs l (cs ++ ds)
goes_longer ps k bs qs l cs ds f = record {
  parts = λ end ys. rw (append_assoc cs ds ys, append_assoc bs ds ys) (f.parts end (ds ++ ys));
  mode = λ end ys. rw (append_assoc cs ds ys, append_assoc bs ds ys) (f.mode end (ds ++ ys));
  count = let c = f.count in omega (arith, c, length-append cs ds, length-append bs ds);
  holds = λ whole ys h. rw (append_assoc cs ds ys) (f.holds whole (ds ++ ys) (rw (append_assoc bs ds ys) at h));
}

-- more parts before
pub goes_behind : (ps : List Part) (k : Kept) (bs : List ℕ) (qs : List Part) (l : Kept) (cs : List ℕ) → GoesOn [] k bs qs l cs → GoesOn ps k bs (ps ++ qs) l cs
goes_behind ps k bs qs l cs f = record {
  parts = λ end ys. append_assoc ps qs _ ∙ ap (λ rs. ps ++ rs) (f.parts end ys);
  mode = f.mode;
  count = f.count;
  holds = f.holds;
}

same_kept : (k l : Kept) → k.mode ≡ l.mode → k.at ≡ l.at → k.held ≡ l.held → k ≡ l
same_kept k l p q r =
    ap (λ m. record { mode = m; at = k.at; held = k.held }) p
    ∙ (ap (λ n. record { mode = l.mode; at = n; held = k.held }) q ∙ ap (λ hs. record { mode = l.mode; at = l.at; held = hs }) r)

-- over a byte
goes_over : (ps : List Part) (k : Kept) (b : ℕ) (bs xs : List ℕ) (qs : List Part) (l : Kept) → Takes ps k xs qs l → slice_index xs 0 ≡ b
    → ((end : Bool) (ys : List ℕ) → move_over end k.mode k.at (b ∷ (bs ++ ys)) ≡ move_over false k.mode k.at xs) → GoesOn ps k (b ∷ bs) qs l bs
unfolding parts_from mode_behind
goes_over ps k b bs xs qs l t first same = subst (λ (us : List Part). GoesOn ps k (b ∷ bs) us l bs) (sym new_parts) (subst (λ (n : Kept). GoesOn ps k (b ∷ bs) (ps ++ map (held_part k.at k.held b) r.1) n bs) (sym new_kept) goes)
  where
    r : Move
    r = move_over false k.mode k.at xs

    next : Kept
    next = record { mode = r.0; at = k.at + 1; held = held_by (start_of r.0) (k.held ++ b ∷ []) }

    new_kept : l ≡ next
    new_kept = same_kept l next t.mode t.at (t.held ∙ (ap (λ m. held_by (start_of m) (k.held ++ slice_index xs 0 ∷ [])) t.mode ∙ ap (λ c. held_by (start_of r.0) (k.held ++ c ∷ [])) first))

    new_parts : qs ≡ ps ++ map (held_part k.at k.held b) r.1
    new_parts = t.parts ∙ ap (λ c. ps ++ map (held_part k.at k.held c) r.1) first

    after : Bool → List ℕ → Move → List Part
    after end ys m = map (held_part k.at k.held b) m.1 ++ parts_from end m.0 (k.at + 1) (held_by (start_of m.0) (k.held ++ b ∷ [])) (bs ++ ys)

    goes : GoesOn ps k (b ∷ bs) (ps ++ map (held_part k.at k.held b) r.1) next bs
    goes = record {
      parts = λ end ys. append_assoc ps (map (held_part k.at k.held b) r.1) _ ∙ ap (λ m. ps ++ after end ys m) (sym (same end ys));
      mode = λ end ys. ap (λ (m : Move). mode_behind end m.0 (k.at + 1) (bs ++ ys)) (sym (same end ys));
      count = omega arith;
      holds = λ whole ys h. holds_behind k b (bs ++ ys) whole xs r (does false k.mode k.at xs) h;
    }

-- a byte with one more behind it
pub goes_over_two : (ps : List Part) (k : Kept) (b c : ℕ) (bs xs : List ℕ) (qs : List Part) (l : Kept) → Takes ps k (b ∷ c ∷ xs) qs l → GoesOn ps k (b ∷ c ∷ bs) qs l (c ∷ bs)
goes_over_two ps k b c bs xs qs l t = goes_over ps k b (c ∷ bs) (b ∷ c ∷ xs) qs l t refl (λ end ys. two end false k.mode k.at b c (bs ++ ys) xs)

-- a byte that doesn't wait
pub goes_over_one : (ps : List Part) (k : Kept) (b : ℕ) (bs : List ℕ) (qs : List Part) (l : Kept) → waits k.mode b ≡ false → Takes ps k (b ∷ bs) qs l → GoesOn ps k (b ∷ bs) qs l bs
goes_over_one ps k b bs qs l e t =
    goes_over ps k b bs (b ∷ bs) qs l t refl (λ end ys. settled end k.mode k.at b (bs ++ ys) e ∙ sym (settled false k.mode k.at b bs e))

-- what waits finishes nothing
pub waiting_none : (k : Kept) (b : ℕ) → waits k.mode b ≡ true → parts_from false k.mode k.at k.held (b ∷ []) ≡ []
unfolding parts_from
waiting_none k b e = rw (none_waiting k.mode k.at b e) refl

-- ---- the code

pub takes_on : (ps : List Part) (k : Kept) (bs : List ℕ) (m : KeptMode) (hs : List ℕ) → ◌≡◌ {A = Move} (mode_of m, []) (move_over false k.mode k.at bs)
    → hs ≡ held_by (start_of (region_of m.region)) (k.held ++ slice_index bs 0 ∷ []) → Takes ps k bs ps (record { mode = mode_of m; at = k.at + 1; held = hs })
takes_on ps k bs m hs is held = record {
  mode = ap (λ (r : Move). r.0) is;
  at = refl;
  held = held ∙ ap (λ o. held_by o (k.held ++ slice_index bs 0 ∷ [])) (sym (start_of-mode_of m));
  parts = sym (append-nil ps) ∙ ap (λ (r : Move). ps ++ map (held_part k.at k.held (slice_index bs 0)) r.1) is;
}

pub takes_last : (ps : List Part) (k : Kept) (bs : List ℕ) (m : Mode) (hs : List ℕ) (qs : List Part) (start end : ℕ) → ◌≡◌ {A = Move} (gap, (start, end) ∷ []) (move_over false k.mode k.at bs)
    → m ≡ gap → hs ≡ [] → qs ≡ ps ++ held_part k.at k.held (slice_index bs 0) (start, end) ∷ [] → Takes ps k bs qs (record { mode = m; at = k.at + 1; held = hs })
unfolding start_of
takes_last ps k bs m hs qs start end is mode held parts = record {
  mode = mode ∙ ap (λ (r : Move). r.0) is;
  at = refl;
  held = held ∙ ap (λ (n : Mode). held_by (start_of n) (k.held ++ slice_index bs 0 ∷ [])) (sym mode);
  parts = parts ∙ ap (λ (r : Move). ps ++ map (held_part k.at k.held (slice_index bs 0)) r.1) is;
}

-- over the first byte, unless it is the only one and waits
pub goes_over_first : (ps : List Part) (k : Kept) (bs : List ℕ) (qs : List Part) (l : Kept) → 0 < length bs → (length bs == 1 && waits k.mode (slice_index bs 0)) ≡ false → Takes ps k bs qs l
    → GoesOn ps k bs qs l (drop 1 bs)
goes_over_first ps k [] qs l some e t = absurd (omega arith)
goes_over_first ps k (b ∷ []) qs l some e t = goes_over_one ps k b [] qs l e t
goes_over_first ps k (b ∷ c ∷ bs) qs l some e t = goes_over_two ps k b c bs bs qs l t

pub first_byte : (bs : List ℕ) → 0 < length bs → bs ≡ slice_index bs 0 ∷ drop 1 bs
first_byte [] some = absurd (omega arith)
first_byte (b ∷ bs) some = refl
