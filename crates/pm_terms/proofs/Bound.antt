-- Names in scope, from the last that was bound.
use Rattle.std.proofs.Common.{◌≡◌, ℕ, ◌+◌, ◌-◌, ◌<◌, ◌≤◌, Bool, true, false, cond, Option, Some, List, [], ◌∷◌, ◌++◌, length, get_or, take, refl, sym, ap, ◌∙◌, arith}
use Rattle.std.proofs.lemmas.List.{take_more}
use Rattle.std.specs.List.{position_from}
use denote.Ref.{Bor}
use Rattle.pm_terms.specs.Scope.{Names, names_in}

-- the last name that is bound comes first
pub names_in_push : (bound : List (Bor (List ℕ))) (b : Bor (List ℕ)) (vars : Names) → names_in (bound ++ b ∷ []) vars ≡ b.now ∷ names_in bound vars
unfolding names_in
names_in_push [] b vars = refl
names_in_push (n ∷ bound) b vars = names_in_push bound b (n.now ∷ vars)

-- one step of the search for a name
find_step : (p : List ℕ → Bool) (bs : List (Bor (List ℕ))) (k : ℕ) (d : Bor (List ℕ)) (vars : Names) → 0 < k → k ≤ length bs
    → position_from p (length bs - k) (names_in (take k bs) vars)
    ≡ cond (p (get_or bs (k - 1) d).now) (Some (length bs - k)) (position_from p (length bs - (k - 1)) (names_in (take (k - 1) bs) vars))
find_step p bs k d vars up fits =
    let here : k ≡ k - 1 + 1 = omega arith in
    let next : length bs - k + 1 ≡ length bs - (k - 1) = omega arith in
    let lt : k - 1 < length bs = omega arith in
    let top : names_in (take k bs) vars ≡ (get_or bs (k - 1) d).now ∷ names_in (take (k - 1) bs) vars =
    ap (λ (i : ℕ). names_in (take i bs) vars) here ∙ rw (take_more bs (k - 1) d lt) (names_in_push (take (k - 1) bs) (get_or bs (k - 1) d) vars) in
    rw (top, next) refl

pub find_hit : (p : List ℕ → Bool) (bs : List (Bor (List ℕ))) (k : ℕ) (d : Bor (List ℕ)) (vars : Names) (total : Option ℕ) → 0 < k → k ≤ length bs → p (get_or bs (k - 1) d).now ≡ true
    → position_from p (length bs - k) (names_in (take k bs) vars) ≡ total → Some (length bs - k) ≡ total
find_hit p bs k d vars total up fits hit so_far =
    let step = find_step p bs k d vars up fits in
    sym (rw hit at step) ∙ so_far

pub find_miss : (p : List ℕ → Bool) (bs : List (Bor (List ℕ))) (k : ℕ) (d : Bor (List ℕ)) (vars : Names) (total : Option ℕ) → 0 < k → k ≤ length bs → p (get_or bs (k - 1) d).now ≡ false
    → position_from p (length bs - k) (names_in (take k bs) vars) ≡ total → position_from p (length bs - (k - 1)) (names_in (take (k - 1) bs) vars) ≡ total
find_miss p bs k d vars total up fits miss so_far =
    let step = find_step p bs k d vars up fits in
    sym (rw miss at step) ∙ so_far
