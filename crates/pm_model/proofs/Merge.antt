-- Merging two heaps, cell by cell.
use Rattle.std.proofs.Common.{◌≡◌, ◌⊎◌, inl, inr, ◌-◌, ◌<◌, ◌≤◌, List, [], ◌∷◌, ◌++◌, Bool, true, false, if◌then◌else◌, ℤ, ◌<ℤ◌, refl, sym, ap, ◌∙◌, subst, append_assoc, arith, length, take, drop, get_or}
use Rattle.std.specs.Bool.{Decides}
use Rattle.std.proofs.lemmas.Bool.Decides.{Decides-int_eq}
use Rattle.std.proofs.lemmas.Int.{ints}
use Rattle.std.proofs.lemmas.List.{append-nil, take_all}
use lib.IntN.{ℤ_discrete}
use Rattle.pm_model.specs.declared.heap.Cell.{Cell}
use Rattle.pm_model.specs.Resource.{Content, Empty, IsValid, Compatible, plus}
use Rattle.pm_model.specs.Heap.{content_of, content_at, Above, IsHeap, AreTogether, Clash}
use Rattle.pm_model.proofs.Joins.{compatible_comm, plus_comm, valid_plus}

-- ---- what cells say of a location

if_so : {P : Type 0} (b : Bool) (m n : Content) → Decides b P → P → (if b then m else n) ≡ m
if_so true m n d p = refl
if_so false m n d p = absurd (cc (d.1 p))

if_not : {P : Type 0} (b : Bool) (m n : Content) → Decides b P → ¬ P → (if b then m else n) ≡ n
if_not true m n d p = absurd (p (d.0 refl))
if_not false m n d p = refl

pub at_first : (c : Cell) (cells : List Cell) (l : ℤ) → c.loc ≡ l → content_at (c ∷ cells) l ≡ content_of c
unfolding content_at
at_first c cells l e = if_so _ (content_of c) (content_at cells l) (Decides-int_eq c.loc l) e

pub at_others : (c : Cell) (cells : List Cell) (l : ℤ) → ¬ (c.loc ≡ l) → content_at (c ∷ cells) l ≡ content_at cells l
unfolding content_at
at_others c cells l n = if_not _ (content_of c) (content_at cells l) (Decides-int_eq c.loc l) n

pub absent : (l : ℤ) (cells : List Cell) → Above l cells → content_at cells l ≡ Empty
unfolding content_at
absent l [] h = refl
absent l (c ∷ cells) h = at_others c cells l (λ e. let lt = h.0 in absurd (omega (arith, ints))) ∙ absent l cells h.1

above_lower : (k l : ℤ) (cells : List Cell) → k <ℤ l → Above l cells → Above k cells
above_lower k l [] lt h = tt
above_lower k l (c ∷ cells) lt h = (let lower = h.0 in omega (arith, ints), above_lower k l cells lt h.1)

-- ---- one location

abbrev Sums : Content → Content → Content → Type 0
Sums a b c = Compatible a b × (c ≡ plus a b)

sums_along : {a b c x y z : Content} → a ≡ x → b ≡ y → c ≡ z → Sums x y z → Sums a b c
sums_along {a} {b} {c} {x} {y} {z} e f g h =
    subst (λ u. Sums u b c) (sym e) (subst (λ v. Sums x v c) (sym f) (subst (λ w. Sums x y w) (sym g) h))

sums_comm : (a b c : Content) → Sums a b c → Sums b a c
sums_comm a b c h = (compatible_comm a b h.0, h.1 ∙ plus_comm a b h.0)

pub compatible_along : {a b x y : Content} → a ≡ x → b ≡ y → Compatible x y → Compatible a b
compatible_along {a} {b} {x} {y} e f h = subst (λ u. Compatible u b) (sym e) (subst (λ v. Compatible x v) (sym f) h)

-- ---- whole heaps

-- c is a and b together, and starts no lower than both
pub record Merged (a b c : List Cell) : Type 0 where
  pub heap : IsHeap c
  pub at : (l : ℤ) → Sums (content_at a l) (content_at b l) (content_at c l)
  pub above : (l : ℤ) → Above l a → Above l b → Above l c

merged_comm : {a b c : List Cell} → Merged a b c → Merged b a c
merged_comm {a} {b} {c} m = record { heap = m.heap; at = λ l. sums_comm _ _ _ (m.at l); above = λ l p q. m.above l q p }

clash_comm : {a b : List Cell} → Clash a b → Clash b a
clash_comm {a} {b} k = record { at = k.at; apart = λ h. k.apart (compatible_comm _ _ h) }

merged_none : (b : List Cell) → IsHeap b → Merged [] b b
unfolding content_at
merged_none b h = record { heap = h; at = λ l. (tt, refl); above = λ l p q. q }

-- a cell that is lower than all of b
merged_lower : (x : Cell) (a b c : List Cell) → IsHeap (x ∷ a) → Above x.loc b → Merged a b c → Merged (x ∷ a) b (x ∷ c)
merged_lower x a b c h up m = record {
  heap = (h.0, m.above x.loc h.1 up, m.heap);
  at = λ l. elim (ℤ_discrete x.loc l) [
    | yes e ↦ sums_along (at_first x a l e) (subst (λ k. content_at b k ≡ Empty) e (absent x.loc b up)) (at_first x c l e) (tt, refl)
    | no n ↦ sums_along (at_others x a l n) refl (at_others x c l n) (m.at l)
  ];
  above = λ l p q. (p.0, m.above l p.1 q);
}

clash_lower : (x : Cell) (a b : List Cell) → IsHeap (x ∷ a) → Clash a b → Clash (x ∷ a) b
clash_lower x a b h k = record {
  at = k.at;
  apart = λ fit. elim (ℤ_discrete x.loc k.at) [
    | yes e ↦ k.apart (compatible_along (subst (λ z. content_at a z ≡ Empty) e (absent x.loc a h.1)) refl tt)
    | no n ↦ k.apart (compatible_along (sym (at_others x a k.at n)) refl fit)
  ];
}

-- two cells of one location
merged_both : (x y z : Cell) (a b c : List Cell) → IsHeap (x ∷ a) → IsHeap (y ∷ b) → x.loc ≡ y.loc → z.loc ≡ x.loc → Compatible (content_of x) (content_of y) → content_of z ≡ plus (content_of x) (content_of y) → Merged a b c → Merged (x ∷ a) (y ∷ b) (z ∷ c)
merged_both x y z a b c h k same is fit sum m = record {
  heap = (
    subst IsValid (sym sum) (valid_plus (content_of x) (content_of y) h.0 k.0 fit),
    subst (λ l. Above l c) (sym is) (m.above x.loc h.1 (subst (λ l. Above l b) (sym same) k.1)),
    m.heap,
  );
  at = λ l. elim (ℤ_discrete x.loc l) [
    | yes e ↦ sums_along (at_first x a l e) (at_first y b l (sym same ∙ e)) (at_first z c l (is ∙ e)) (fit, sum)
    | no n ↦ sums_along (at_others x a l n) (at_others y b l (λ e. n (same ∙ e))) (at_others z c l (λ e. n (sym is ∙ e))) (m.at l)
  ];
  above = λ l p q. (subst (λ k. l <ℤ k) (sym is) p.0, m.above l p.1 q.1);
}

clash_both : (x y : Cell) (a b : List Cell) → IsHeap (x ∷ a) → IsHeap (y ∷ b) → x.loc ≡ y.loc → Clash a b → Clash (x ∷ a) (y ∷ b)
clash_both x y a b h k same clash = record {
  at = clash.at;
  apart = λ fit. elim (ℤ_discrete x.loc clash.at) [
    | yes e ↦ clash.apart (compatible_along (subst (λ z. content_at a z ≡ Empty) e (absent x.loc a h.1)) refl tt)
    | no n ↦ clash.apart (compatible_along (sym (at_others x a clash.at n)) (sym (at_others y b clash.at (λ e. n (same ∙ e)))) fit)
  ];
}

-- ---- a merge on its way: what is done of a and b, and what is left of each
pub record Remains (a b done left right : List Cell) : Type 0 where
  pub left_heap : IsHeap left
  pub right_heap : IsHeap right
  pub rest : (c : List Cell) → Merged left right c → Merged a b (done ++ c)
  pub clash : Clash left right → Clash a b

pub started : (a b : List Cell) → IsHeap a → IsHeap b → Remains a b [] a b
started a b h k = record { left_heap = h; right_heap = k; rest = λ c m. m; clash = λ k. k }

more : {a b : List Cell} (done : List Cell) (x : Cell) (c : List Cell) → Merged a b (done ++ x ∷ c) → Merged a b ((done ++ x ∷ []) ++ c)
more {a} {b} done x c m = subst (Merged a b) (sym (append_assoc done (x ∷ []) c)) m

left_first : {a b done xs ys : List Cell} (x y : Cell) → x.loc <ℤ y.loc → Remains a b done (x ∷ xs) (y ∷ ys) → Remains a b (done ++ x ∷ []) xs (y ∷ ys)
left_first {a} {b} {done} {xs} {ys} x y lt r = record {
  left_heap = r.left_heap.2;
  right_heap = r.right_heap;
  rest = λ c m. more done x c (r.rest (x ∷ c) (merged_lower x xs (y ∷ ys) c r.left_heap (lt, above_lower x.loc y.loc ys lt r.right_heap.1) m));
  clash = λ k. r.clash (clash_lower x xs (y ∷ ys) r.left_heap k);
}

flipped : {a b done left right : List Cell} → Remains a b done left right → Remains b a done right left
flipped r = record {
  left_heap = r.right_heap;
  right_heap = r.left_heap;
  rest = λ c m. merged_comm (r.rest c (merged_comm m));
  clash = λ k. clash_comm (r.clash (clash_comm k));
}

both_first : {a b done xs ys : List Cell} (x y z : Cell) → x.loc ≡ y.loc → z.loc ≡ x.loc → Compatible (content_of x) (content_of y) → content_of z ≡ plus (content_of x) (content_of y) → Remains a b done (x ∷ xs) (y ∷ ys) → Remains a b (done ++ z ∷ []) xs ys
both_first {a} {b} {done} {xs} {ys} x y z same is fit sum r = record {
  left_heap = r.left_heap.2;
  right_heap = r.right_heap.2;
  rest = λ c m. more done z c (r.rest (z ∷ c) (merged_both x y z xs ys c r.left_heap r.right_heap same is fit sum m));
  clash = λ k. r.clash (clash_both x y xs ys r.left_heap r.right_heap same k);
}

-- two cells of one location that don't fit
both_clash : {a b done xs ys : List Cell} (x y : Cell) → x.loc ≡ y.loc → ¬ Compatible (content_of x) (content_of y) → Remains a b done (x ∷ xs) (y ∷ ys) → Clash a b
both_clash {a} {b} {done} {xs} {ys} x y same apart r = r.clash (record {
  at = x.loc;
  apart = λ fit. apart (compatible_along (sym (at_first x xs x.loc refl)) (sym (at_first y ys x.loc (sym same))) fit);
})

together : {a b c : List Cell} → Merged a b c → AreTogether a b c
together m = record { heap = m.heap; fits = λ l. (m.at l).0; sums = λ l. (m.at l).1 }

-- one of the two is used up
pub ended : (a b done left right : List Cell) → (left ≡ []) ⊎ (right ≡ []) → Remains a b done left right → AreTogether a b ((done ++ left) ++ right)
ended a b done left right (inl e) r =
    let m = subst (λ xs. Merged xs right right) (sym e) (merged_none right r.right_heap) in
    let same : (done ++ left) ++ right ≡ done ++ right = ap (λ xs. (done ++ xs) ++ right) e ∙ ap (λ xs. xs ++ right) (append-nil done) in
    together (subst (Merged a b) (sym same) (r.rest right m))
ended a b done left right (inr e) r =
    let m = subst (λ xs. Merged left xs left) (sym e) (merged_comm (merged_none left r.left_heap)) in
    let same : (done ++ left) ++ right ≡ done ++ left = ap (λ xs. (done ++ left) ++ xs) e ∙ append-nil (done ++ left) in
    together (subst (Merged a b) (sym same) (r.rest left m))

-- ---- the same over lists that are split by their lengths, as code does

abbrev pub others : List Cell → List Cell
others cells = take (length cells - 1) (drop 1 cells)

parts : (d : Cell) (cells : List Cell) → 1 ≤ length cells → cells ≡ get_or cells 0 d ∷ others cells
parts d [] h = absurd (omega arith)
parts d (x ∷ cells) h = ap (λ xs. x ∷ xs) (sym (take_all (length (x ∷ cells) - 1) cells (omega arith)))

split : (d : Cell) (a b done left right : List Cell) → 1 ≤ length left → 1 ≤ length right → Remains a b done left right → Remains a b done (get_or left 0 d ∷ others left) (get_or right 0 d ∷ others right)
split d a b done left right p q r = subst (λ xs. Remains a b done xs (get_or right 0 d ∷ others right)) (parts d left p) (subst (λ ys. Remains a b done left ys) (parts d right q) r)

pub step_left : (d : Cell) (a b done left right : List Cell) → 1 ≤ length left → 1 ≤ length right → (get_or left 0 d).loc <ℤ (get_or right 0 d).loc → Remains a b done left right → Remains a b (done ++ get_or left 0 d ∷ []) (others left) right
step_left d a b done left right p q lt r =
    subst (λ ys. Remains a b (done ++ get_or left 0 d ∷ []) (others left) ys) (sym (parts d right q)) (left_first (get_or left 0 d) (get_or right 0 d) lt (split d a b done left right p q r))

pub step_right : (d : Cell) (a b done left right : List Cell) → 1 ≤ length left → 1 ≤ length right → (get_or right 0 d).loc <ℤ (get_or left 0 d).loc → Remains a b done left right → Remains a b (done ++ get_or right 0 d ∷ []) left (others right)
step_right d a b done left right p q lt r = flipped (step_left d b a done right left q p lt (flipped r))

pub step_both : (d z : Cell) (a b done left right : List Cell) → 1 ≤ length left → 1 ≤ length right → (get_or left 0 d).loc ≡ (get_or right 0 d).loc → z.loc ≡ (get_or left 0 d).loc → Compatible (content_of (get_or left 0 d)) (content_of (get_or right 0 d)) → content_of z ≡ plus (content_of (get_or left 0 d)) (content_of (get_or right 0 d)) → Remains a b done left right → Remains a b (done ++ z ∷ []) (others left) (others right)
step_both d z a b done left right p q same is fit sum r = both_first (get_or left 0 d) (get_or right 0 d) z same is fit sum (split d a b done left right p q r)

pub step_clash : (d : Cell) (a b done left right : List Cell) → 1 ≤ length left → 1 ≤ length right → (get_or left 0 d).loc ≡ (get_or right 0 d).loc → ¬ Compatible (content_of (get_or left 0 d)) (content_of (get_or right 0 d)) → Remains a b done left right → Clash a b
step_clash d a b done left right p q same apart r = both_clash (get_or left 0 d) (get_or right 0 d) same apart (split d a b done left right p q r)

pub is_empty : (cells : List Cell) → length cells < 1 → cells ≡ []
is_empty [] h = refl
is_empty (x ∷ cells) h = absurd (omega arith)
