-- Every text splits into sentences and a rest.
use Rattle.std.proofs.Common.{◌≡◌, ℕ, suc, ◌+◌, Bool, true, false, cond, ◌&&◌, ◌||◌, not, ◌==◌, List, [], ◌∷◌, ◌++◌, length, refl, sym, ap, subst, ◌∙◌, arith, append_assoc}
use Rattle.std.specs.Prelude.{codes, eqb}
use Rattle.std.proofs.lemmas.Bool.Decides.{nat_tests}
use Rattle.std.proofs.lemmas.Bool.{and_parts}
use Rattle.pm_tokens.specs.Symbols.{begins}
use Rattle.pm_tokens.specs.Pieces.{is_blank, begins_with}
use Rattle.pm_cutter.specs.Cutting.{Mode, gap, inside, comment, passing, uncommented, Move, is_stop, is_brace, in_sentence, move_over, Part, cut}
use Rattle.pm_cutter.specs.Splitting.{Closes, closed, nested, inner, StaysOpen, comment_cut, open_within, closed_within, inner_open, is_plain, IsBody, body_end, quote, body_comment, dot, plain, blank_or_end, IsOpenBody, body_cut, quote_open, comment_open, comment_before, dot_open, plain_open, Starts, AreSentences, script_end, comment_left, sentence_left, blank, script_comment, open_brace, close_brace, sentence}
use Rattle.pm_cutter.proofs.Steps.{is_number}
use Rattle.pm_cutter.proofs.Split.{is_byte, front, no_open, splitting_is_cut}

-- sentences from any offset on, and the rest
abbrev Split : List ℕ → ℕ → Type 0
Split bs from = (ps : List Part) × (rest : List ℕ) × AreSentences from bs ps rest

-- From a mode on, the bytes split.
data Goes : Mode → List ℕ → Type 0 where
  in_gap : {bs : List ℕ} → ((from : ℕ) → Split bs from) → Goes gap bs
  in_body : {start : ℕ} {quoted : Bool} {text bs : List ℕ} → IsBody quoted text → blank_or_end bs ≡ true → Goes gap bs → Goes (inside start quoted) (text ++ 46 ∷ bs)
  in_open_body : {start : ℕ} {quoted : Bool} {bs : List ℕ} → IsOpenBody quoted bs → Goes (inside start quoted) bs
  in_comment : {n : ℕ} {m : Mode} {xs ys : List ℕ} → Closes xs → Goes (uncommented n m) ys → Goes (comment n m) (xs ++ ys)
  in_open_comment : {n : ℕ} {m : Mode} {bs : List ℕ} → StaysOpen bs → Goes (comment n m) bs
  in_passing : {m : Mode} {b : ℕ} {bs : List ℕ} → Goes m bs → Goes (passing m) (b ∷ bs)
  passing_end : {m : Mode} → Goes (passing m) []

-- ---- tests

at_one : (P : List ℕ → Type 0) (b x : ℕ) (zs : List ℕ) → begins (x ∷ []) (b ∷ zs) ≡ true → P (x ∷ zs) → P (b ∷ zs)
at_one P b x zs e h = subst (λ (y : ℕ). P (y ∷ zs)) (sym (is_byte b x (and_parts (eqb x b) true e).0)) h

at_two : (P : List ℕ → Type 0) (b c x y : ℕ) (zs : List ℕ) → begins (x ∷ y ∷ []) (b ∷ c ∷ zs) ≡ true → P (x ∷ y ∷ zs) → P (b ∷ c ∷ zs)
at_two P b c x y zs e h =
    let t = and_parts (eqb x b) (eqb y c && true) e in
    let u = and_parts (eqb y c) true t.1 in
    subst (λ (z : ℕ). P (z ∷ c ∷ zs)) (sym (is_byte b x t.0)) (subst (λ (z : ℕ). P (x ∷ z ∷ zs)) (sym (is_byte c y u.0)) h)

test : (P : Move → Type 0) (t : Bool) (x y : Move) → (t ≡ true → P x) → (t ≡ false → P y) → P (cond t x y)
test P true x y f g = f refl
test P false x y f g = g refl

-- ---- comments

-- two bytes aren't one
no_two : (b x y : ℕ) → begins (x ∷ y ∷ []) (b ∷ []) ≡ true → ⊥
no_two b x y e = let t = and_parts (eqb x b) false e in let wrong : false ≡ true = t.1 in cc

opens_in_gap : (b : ℕ) (bs : List ℕ) → Goes (passing (comment 0 gap)) bs → begins (codes "(*") (b ∷ bs) ≡ true → Goes gap (b ∷ bs)
opens_in_gap b bs (in_passing {b = c} (in_comment {xs = us} {ys = vs} cl (in_gap h))) e =
    at_two (λ zs. Goes gap zs) b c 40 42 (us ++ vs) e (in_gap (λ from. let r = h (from + 2 + length us) in (r.0, r.1, script_comment cl r.2)))
opens_in_gap b bs (in_passing {b = c} (in_open_comment {bs = us} o)) e = at_two (λ zs. Goes gap zs) b c 40 42 us e (in_gap (λ from. ([], 40 ∷ 42 ∷ us, comment_left o)))
opens_in_gap b bs passing_end e = absurd (no_two b 40 42 e)

opens_in_body : (start : ℕ) (quoted : Bool) (b : ℕ) (bs : List ℕ) → Goes (passing (comment 0 (inside start quoted))) bs → begins (codes "(*") (b ∷ bs) ≡ true → Goes (inside start quoted) (b ∷ bs)
opens_in_body start quoted b bs (in_passing {b = c} (in_comment {xs = us} cl (in_body {text = vs} {bs = cs} body ends g))) e =
    let all : Goes (inside start quoted) (40 ∷ 42 ∷ ((us ++ vs) ++ 46 ∷ cs)) = in_body {text = 40 ∷ 42 ∷ (us ++ vs)} (body_comment cl body) ends g in
    at_two (λ zs. Goes (inside start quoted) zs) b c 40 42 (us ++ (vs ++ 46 ∷ cs)) e
    (subst (λ (zs : List ℕ). Goes (inside start quoted) (40 ∷ 42 ∷ zs)) (append_assoc us vs (46 ∷ cs)) all)
opens_in_body start quoted b bs (in_passing {b = c} (in_comment {xs = us} cl (in_open_body {bs = vs} o))) e =
    at_two (λ zs. Goes (inside start quoted) zs) b c 40 42 (us ++ vs) e (in_open_body (comment_before cl o))
opens_in_body start quoted b bs (in_passing {b = c} (in_open_comment {bs = us} o)) e = at_two (λ zs. Goes (inside start quoted) zs) b c 40 42 us e (in_open_body (comment_open o))
opens_in_body start quoted b bs passing_end e = absurd (no_two b 40 42 e)

opens_in_comment : (n : ℕ) (m : Mode) (b : ℕ) (bs : List ℕ) → Goes (passing (comment (suc n) m)) bs → begins (codes "(*") (b ∷ bs) ≡ true → Goes (comment n m) (b ∷ bs)
opens_in_comment n m b bs (in_passing {b = c} (in_comment {xs = us} cl (in_comment {xs = vs} {ys = ws} dl g))) e =
    let all : Goes (comment n m) (40 ∷ 42 ∷ ((us ++ vs) ++ ws)) = in_comment {n = n} {m = m} {xs = 40 ∷ 42 ∷ (us ++ vs)} (nested cl dl) g in
    at_two (λ zs. Goes (comment n m) zs) b c 40 42 (us ++ (vs ++ ws)) e
    (subst (λ (zs : List ℕ). Goes (comment n m) (40 ∷ 42 ∷ zs)) (append_assoc us vs ws) all)
opens_in_comment n m b bs (in_passing {b = c} (in_comment {xs = us} cl (in_open_comment {bs = vs} o))) e =
    at_two (λ zs. Goes (comment n m) zs) b c 40 42 (us ++ vs) e (in_open_comment {n = n} {m = m} (closed_within cl o))
opens_in_comment n m b bs (in_passing {b = c} (in_open_comment {bs = us} o)) e = at_two (λ zs. Goes (comment n m) zs) b c 40 42 us e (in_open_comment {n = n} {m = m} (open_within o))
opens_in_comment n m b bs passing_end e = absurd (no_two b 40 42 e)

closes_comment : (n : ℕ) (m : Mode) (b : ℕ) (bs : List ℕ) → Goes (passing (uncommented n m)) bs → begins (codes "*)") (b ∷ bs) ≡ true → Goes (comment n m) (b ∷ bs)
closes_comment n m b bs (in_passing {b = c} {bs = ys} g) e =
    let all : Goes (comment n m) (42 ∷ 41 ∷ ys) = in_comment {n = n} {m = m} {xs = 42 ∷ 41 ∷ []} closed g in
    at_two (λ zs. Goes (comment n m) zs) b c 42 41 ys e all
closes_comment n m b bs passing_end e = absurd (no_two b 42 41 e)

on_in_comment : (n : ℕ) (m : Mode) (b : ℕ) (bs : List ℕ) → Goes (comment n m) bs → begins (codes "(*") (b ∷ bs) ≡ false → begins (codes "*)") (b ∷ bs) ≡ false → Goes (comment n m) (b ∷ bs)
on_in_comment n m b bs (in_comment {xs = us} {ys = vs} cl g) p q =
    let f = front us cl b vs in in_comment {n = n} {m = m} {xs = b ∷ us} (inner (sym f.0 ∙ p) (sym f.1 ∙ q) cl) g
on_in_comment n m b bs (in_open_comment o) p q = in_open_comment {n = n} {m = m} (inner_open p q o)

-- ---- bodies

quotes : (start : ℕ) (quoted : Bool) (b : ℕ) (bs : List ℕ) → Goes (inside start (not quoted)) bs → begins (codes "\"") (b ∷ bs) ≡ true → Goes (inside start quoted) (b ∷ bs)
quotes start quoted b bs (in_body {text = us} {bs = cs} body ends g) e =
    at_one (λ zs. Goes (inside start quoted) zs) b 34 (us ++ 46 ∷ cs) e (in_body {text = 34 ∷ us} (quote body) ends g)
quotes start quoted b bs (in_open_body o) e = at_one (λ zs. Goes (inside start quoted) zs) b 34 bs e (in_open_body (quote_open o))

stop_is : (b : ℕ) (bs : List ℕ) → is_stop true (b ∷ bs) ≡ true → (b ≡ 46) × (blank_or_end bs ≡ true)
unfolding is_stop
stop_is b [] e = (is_number b 46 (and_parts (b == 46) true e).0, refl)
stop_is b (c ∷ bs) e = let t = and_parts (b == 46) (is_blank c) e in (is_number b 46 t.0, t.1)

stops_body : (start : ℕ) (quoted : Bool) (b : ℕ) (bs : List ℕ) → Goes gap bs → (not quoted && is_stop true (b ∷ bs)) ≡ true → Goes (inside start quoted) (b ∷ bs)
stops_body start true b bs g e = absurd cc
stops_body start false b bs g e =
    let s = stop_is b bs e in subst (λ (c : ℕ). Goes (inside start false) (c ∷ bs)) (sym s.0) (in_body {text = []} body_end s.1 g)

no_blank_behind : (us cs : List ℕ) → is_stop true (46 ∷ (us ++ 46 ∷ cs)) ≡ false → begins_with is_blank us ≡ false
unfolding is_stop
no_blank_behind [] cs e = refl
no_blank_behind (c ∷ us) cs e = e

no_quote : (b : ℕ) → (eqb 34 b && true) ≡ false → (b == 34) ≡ false
no_quote b e = go (eqb 34 b) refl
  where
    go : (t : Bool) → eqb 34 b ≡ t → (b == 34) ≡ false
    go true h = absurd (let wrong : (true && true) ≡ false = ap (λ s. s && true) (sym h) ∙ e in cc)
    go false h = grind (arith, nat_tests, h)

is_plain_in : (b : ℕ) → (b == 34) ≡ false → is_plain true b ≡ true
is_plain_in b e = rw e refl

is_plain_out : (b : ℕ) → (b == 34) ≡ false → (b == 46) ≡ false → is_plain false b ≡ true
is_plain_out b e f = rw (e, f) refl

on_in_body : (start : ℕ) (quoted : Bool) (b : ℕ) (us cs : List ℕ) → IsBody quoted us → begins (codes "(*") (b ∷ (us ++ 46 ∷ cs)) ≡ false → begins (codes "\"") (b ∷ (us ++ 46 ∷ cs)) ≡ false
    → (not quoted && is_stop true (b ∷ (us ++ 46 ∷ cs))) ≡ false → IsBody quoted (b ∷ us)
on_in_body start true b us cs body no_comment no_mark s = plain (is_plain_in b (no_quote b no_mark)) (sym (no_open b us cs) ∙ no_comment) body
on_in_body start false b us cs body no_comment no_mark s = go (b == 46) refl
  where
    go : (t : Bool) → (b == 46) ≡ t → IsBody false (b ∷ us)
    go true h =
        let same : b ≡ 46 = is_number b 46 h in
        let stays : is_stop true (46 ∷ (us ++ 46 ∷ cs)) ≡ false = subst (λ (c : ℕ). is_stop true (c ∷ (us ++ 46 ∷ cs)) ≡ false) same s in
        subst (λ (c : ℕ). IsBody false (c ∷ us)) (sym same) (dot (no_blank_behind us cs stays) body)
    go false h = plain (is_plain_out b (no_quote b no_mark) h) (sym (no_open b us cs) ∙ no_comment) body

more_behind : (bs : List ℕ) → is_stop true (46 ∷ bs) ≡ false → blank_or_end bs ≡ false
unfolding is_stop
more_behind [] e = absurd cc
more_behind (c ∷ bs) e = e

on_in_open_body : (start : ℕ) (quoted : Bool) (b : ℕ) (bs : List ℕ) → IsOpenBody quoted bs → begins (codes "(*") (b ∷ bs) ≡ false → begins (codes "\"") (b ∷ bs) ≡ false
    → (not quoted && is_stop true (b ∷ bs)) ≡ false → IsOpenBody quoted (b ∷ bs)
on_in_open_body start true b bs o no_comment no_mark s = plain_open (is_plain_in b (no_quote b no_mark)) no_comment o
on_in_open_body start false b bs o no_comment no_mark s = go (b == 46) refl
  where
    go : (t : Bool) → (b == 46) ≡ t → IsOpenBody false (b ∷ bs)
    go true h =
        let same : b ≡ 46 = is_number b 46 h in
        let stays : is_stop true (46 ∷ bs) ≡ false = subst (λ (c : ℕ). is_stop true (c ∷ bs) ≡ false) same s in
        subst (λ (c : ℕ). IsOpenBody false (c ∷ bs)) (sym same) (dot_open (more_behind bs stays) o)
    go false h = plain_open (is_plain_out b (no_quote b no_mark) h) no_comment o

goes_on : (start : ℕ) (quoted : Bool) (b : ℕ) (bs : List ℕ) → Goes (inside start quoted) bs → begins (codes "(*") (b ∷ bs) ≡ false → begins (codes "\"") (b ∷ bs) ≡ false
    → (not quoted && is_stop true (b ∷ bs)) ≡ false → Goes (inside start quoted) (b ∷ bs)
goes_on start quoted b bs (in_body {text = us} {bs = cs} body ends g) no_comment no_mark s =
    in_body {text = b ∷ us} (on_in_body start quoted b us cs body no_comment no_mark s) ends g
goes_on start quoted b bs (in_open_body o) no_comment no_mark s = in_open_body (on_in_open_body start quoted b bs o no_comment no_mark s)

-- ---- over a byte

abbrev Back : Mode → ℕ → List ℕ → Move → Type 0
Back m b bs r = Goes r.0 bs → Goes m (b ∷ bs)

back_body : (start : ℕ) (quoted : Bool) (at b : ℕ) (bs : List ℕ) → begins (codes "(*") (b ∷ bs) ≡ false → Back (inside start quoted) b bs (in_sentence true start quoted at (b ∷ bs))
unfolding in_sentence
back_body start quoted at b bs no_comment =
    test (Back (inside start quoted) b bs) (begins (codes "\"") (b ∷ bs)) _ _ (λ e g. quotes start quoted b bs g e)
    (λ no_mark. test (Back (inside start quoted) b bs) (not quoted && is_stop true (b ∷ bs)) _ _ (λ e g. stops_body start quoted b bs g e) (λ s g. goes_on start quoted b bs g no_comment no_mark s))

starts_of : (text bs : List ℕ) → Starts (text ++ 46 ∷ bs) → Starts text
unfolding is_brace
starts_of [] bs s = record { no_blank = refl; no_comment = refl; no_brace = refl }
starts_of (b ∷ us) bs s = record { no_blank = s.no_blank; no_comment = sym (no_open b us bs) ∙ s.no_comment; no_brace = s.no_brace }

starts : (start b : ℕ) (us bs : List ℕ) → Goes (inside start false) bs → bs ≡ b ∷ us → Starts bs → Goes gap bs
starts start b us bs (in_body {text = ts} {bs = cs} body ends (in_gap h)) e s =
    in_gap (λ from. let r = h (from + length ts + 1) in (record { offset = from; text = ts } ∷ r.0, r.1, sentence (starts_of ts cs s) body ends r.2))
starts start b us bs (in_open_body o) e s =
    subst (λ (zs : List ℕ). Goes gap zs) (sym e)
    (in_gap (λ from. ([], b ∷ us, sentence_left (subst (λ (zs : List ℕ). Starts zs) e s) (subst (λ (zs : List ℕ). IsOpenBody false zs) e o))))

blank_before : (b : ℕ) (bs : List ℕ) → Goes gap bs → is_blank b ≡ true → Goes gap (b ∷ bs)
blank_before b bs (in_gap h) e = in_gap (λ from. let r = h (from + 1) in (r.0, r.1, blank e r.2))

brace_before : (b : ℕ) (bs : List ℕ) → Goes gap bs → is_brace (b ∷ bs) ≡ true → Goes gap (b ∷ bs)
unfolding is_brace
brace_before b bs (in_gap h) e = go (begins (codes "{") (b ∷ bs)) refl
  where
    opens : Goes gap (123 ∷ bs)
    opens = in_gap (λ from. let r = h (from + 1) in (record { offset = from; text = codes "{" } ∷ r.0, r.1, open_brace r.2))

    shuts : Goes gap (125 ∷ bs)
    shuts = in_gap (λ from. let r = h (from + 1) in (record { offset = from; text = codes "}" } ∷ r.0, r.1, close_brace r.2))

    go : (t : Bool) → begins (codes "{") (b ∷ bs) ≡ t → Goes gap (b ∷ bs)
    go true f = at_one (λ zs. Goes gap zs) b 123 bs f opens
    go false f = at_one (λ zs. Goes gap zs) b 125 bs (ap (λ t. t || begins (codes "}") (b ∷ bs)) (sym f) ∙ e) shuts

back : (m : Mode) (at b : ℕ) (bs : List ℕ) → Back m b bs (move_over true m at (b ∷ bs))
unfolding move_over
back gap at b bs =
    test (Back gap b bs) (begins (codes "(*") (b ∷ bs)) _ _ (λ e g. opens_in_gap b bs g e)
    (λ no_comment. test (Back gap b bs) (is_blank b) _ _ (λ e g. blank_before b bs g e)
    (λ no_blank. test (Back gap b bs) (is_brace (b ∷ bs)) _ _ (λ e g. brace_before b bs g e)
    (λ no_brace g. starts at b bs (b ∷ bs) (back_body at false at b bs no_comment g) refl (record { no_blank = no_blank; no_comment = no_comment; no_brace = no_brace }))))
back (inside start quoted) at b bs =
    test (Back (inside start quoted) b bs) (begins (codes "(*") (b ∷ bs)) _ _ (λ e g. opens_in_body start quoted b bs g e) (λ no_comment. back_body start quoted at b bs no_comment)
back (comment n m) at b bs =
    test (Back (comment n m) b bs) (begins (codes "(*") (b ∷ bs)) _ _ (λ e g. opens_in_comment n m b bs g e)
    (λ p. test (Back (comment n m) b bs) (begins (codes "*)") (b ∷ bs)) _ _ (λ e g. closes_comment n m b bs g e) (λ q g. on_in_comment n m b bs g p q))
back (passing m) at b bs = λ g. in_passing g

-- ---- whole texts

goes : (m : Mode) (at : ℕ) (bs : List ℕ) → Goes m bs
goes gap at [] = in_gap (λ from. ([], [], script_end))
goes (inside start quoted) at [] = in_open_body body_cut
goes (comment n m) at [] = in_open_comment {n = n} {m = m} comment_cut
goes (passing m) at [] = passing_end
goes m at (b ∷ bs) = back m at b bs (goes (move_over true m at (b ∷ bs)).0 (at + 1) bs)

split_of : (bs : List ℕ) → Goes gap bs → (from : ℕ) → Split bs from
split_of bs (in_gap h) = h

pub cut_splits : (bytes : List ℕ) → (rest : List ℕ) × AreSentences 0 bytes (cut bytes) rest
cut_splits bytes =
    let r = split_of bytes (goes gap 0 bytes) 0 in (r.1, subst (λ (ps : List Part). AreSentences 0 bytes ps r.1) (splitting_is_cut bytes r.0 r.1 r.2) r.2)
