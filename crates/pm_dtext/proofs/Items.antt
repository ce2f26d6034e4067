-- Reading so many items, in a loop.
use Rattle.std.proofs.Common.{◌≡◌, ℕ, suc, ◌<◌, ◌≤◌, ◌+◌, ◌-◌, List, [], ◌∷◌, ◌++◌, refl, sym, ◌∙◌, ap, arith, append_assoc, append-nil, Result, Ok, Err}
use Rattle.pm_dtext.specs.declared.fault.Fault.{Fault}
use Rattle.pm_dtext.specs.Reading.{◌>>=◌, part_at, items_at}

-- what is read with these items before it
abbrev pub behind : {A : Type 0} → List A → Result (List A × List ℕ) Fault → Result (List A × List ℕ) Fault
behind done (Ok xs) = Ok (done ++ xs.0, xs.1)
behind done (Err f) = Err f

-- of the items at the bytes these are read, and so many are left at the rest
pub record ItemsLeft {A : Type 0} (inner : List ℕ → Result (A × List ℕ) Fault) (count : ℕ) (bytes : List ℕ) (done : List A) (turn : ℕ) (rest : List ℕ) : Type 0 where
  pub within : turn ≤ count
  pub same : items_at inner count bytes ≡ behind done (items_at inner (count - turn) rest)

pub whole : {A : Type 0} (r : Result (List A × List ℕ) Fault) → r ≡ behind [] r
whole (Ok xs) = refl
whole (Err f) = refl

pub items_begun : {A : Type 0} (inner : List ℕ → Result (A × List ℕ) Fault) (count : ℕ) (bytes : List ℕ) → ItemsLeft inner count bytes [] 0 bytes
items_begun inner count bytes =
    let all : count - 0 ≡ count = omega arith in
    record { within = omega arith; same = whole (items_at inner count bytes) ∙ ap (λ n. behind [] (items_at inner n bytes)) (sym all) }

one_more : {A : Type 0} (inner : List ℕ → Result (A × List ℕ) Fault) (left : ℕ) (rest : List ℕ) (x : A) (next : List ℕ) (done : List A) → part_at inner rest ≡ Ok (x, next) → behind done (items_at inner (suc left) rest) ≡ behind (done ++ x ∷ []) (items_at inner left next)
unfolding items_at
one_more {A} inner left rest x next done e = rw e (go (items_at inner left next))
  where
    go : (r : Result (List A × List ℕ) Fault) → behind done (r >>= λ xs. Ok (x ∷ xs.0, xs.1)) ≡ behind (done ++ x ∷ []) r
    go (Ok xs) = ap (λ ys. Ok (ys, xs.1)) (sym (append_assoc done (x ∷ []) xs.0))
    go (Err f) = refl

pub items_turned : {A : Type 0} (inner : List ℕ → Result (A × List ℕ) Fault) (count : ℕ) (bytes : List ℕ) (done : List A) (turn : ℕ) (rest : List ℕ) (x : A) (next : List ℕ) → ItemsLeft inner count bytes done turn rest → turn < count → part_at inner rest ≡ Ok (x, next) → ItemsLeft inner count bytes (done ++ x ∷ []) (turn + 1) next
items_turned inner count bytes done turn rest x next h more e =
    let now : count - turn ≡ suc (count - (turn + 1)) = omega arith in
    record {
      within = omega arith;
      same = h.same ∙ (ap (λ n. behind done (items_at inner n rest)) now ∙ one_more inner (count - (turn + 1)) rest x next done e);
    }

failed : {A : Type 0} (inner : List ℕ → Result (A × List ℕ) Fault) (left : ℕ) (rest : List ℕ) (f : Fault) (done : List A) → part_at inner rest ≡ Err f → behind done (items_at inner (suc left) rest) ≡ Err f
unfolding items_at
failed inner left rest f done e = rw e refl

pub items_failed : {A : Type 0} (inner : List ℕ → Result (A × List ℕ) Fault) (count : ℕ) (bytes : List ℕ) (done : List A) (turn : ℕ) (rest : List ℕ) (f : Fault) → ItemsLeft inner count bytes done turn rest → turn < count → part_at inner rest ≡ Err f → items_at inner count bytes ≡ Err f
items_failed inner count bytes done turn rest f h more e =
    let now : count - turn ≡ suc (count - (turn + 1)) = omega arith in
    h.same ∙ (ap (λ n. behind done (items_at inner n rest)) now ∙ failed inner (count - (turn + 1)) rest f done e)

pub items_ended : {A : Type 0} (inner : List ℕ → Result (A × List ℕ) Fault) (count : ℕ) (bytes : List ℕ) (done : List A) (turn : ℕ) (rest : List ℕ) → ItemsLeft inner count bytes done turn rest → count ≤ turn → items_at inner count bytes ≡ Ok (done, rest)
unfolding items_at
items_ended inner count bytes done turn rest h last =
    let now : count - turn ≡ 0 = omega arith in
    h.same ∙ (ap (λ n. behind done (items_at inner n rest)) now ∙ ap (λ xs. Ok (xs, rest)) (append-nil done))
