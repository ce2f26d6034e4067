-- Steps over a comment.
use Rattle.std.proofs.Common.{◌≡◌, ℕ, zero, suc, ◌+◌, ◌-◌, ◌<◌, ◌≤◌, List, [], ◌∷◌, length, drop, Some, None, refl, sym, ap, ◌∙◌, arith}
use Rattle.pm_tokens.specs.Pieces.{comment_step, comment_end}

-- what is left of a step is passed over
pub comment_end-left : (at left depth : ℕ) (bs : List ℕ) → left ≤ length bs → comment_end at left depth bs ≡ comment_end (at + left) 0 depth (drop left bs)
unfolding comment_end
comment_end-left at zero depth bs le = ap (λ k. comment_end k 0 depth bs) (omega arith)
comment_end-left at (suc left) depth [] le = absurd (omega arith)
comment_end-left at (suc left) depth (b ∷ bs) le =
    let same : at + 1 + left ≡ at + suc left = omega arith in
    comment_end-left (at + 1) left depth bs (omega arith) ∙ ap (λ k. comment_end k 0 depth (drop left bs)) same

pub comment_on : (at depth next len : ℕ) (bs : List ℕ) → 0 < depth → 0 < len → len ≤ length bs → comment_step depth bs ≡ (next, len)
    → comment_end at 0 depth bs ≡ comment_end (at + len) 0 next (drop len bs)
unfolding comment_end
comment_on at zero next len bs some long within is = absurd (omega arith)
comment_on at (suc d) next len [] some long within is = absurd (omega arith)
comment_on at (suc d) next len (b ∷ bs) some long within is =
    let first : comment_end at 0 (suc d) (b ∷ bs) ≡ comment_end (at + 1) (len - 1) next bs = ap (λ s. comment_end (at + 1) (s.1 - 1) s.0 bs) is in
    let place : at + 1 + (len - 1) ≡ at + len = omega arith in
    let same : len ≡ suc (len - 1) = omega arith in
    let tail : drop (len - 1) bs ≡ drop len (b ∷ bs) = ap (λ k. drop k (b ∷ bs)) (sym same) in
    first ∙ (comment_end-left (at + 1) (len - 1) next bs (omega arith) ∙ (ap (λ k. comment_end k 0 next (drop (len - 1) bs)) place ∙ ap (λ rest. comment_end (at + len) 0 next rest) tail))

pub comment_open : (at depth : ℕ) (bs : List ℕ) → 0 < depth → length bs ≡ 0 → comment_end at 0 depth bs ≡ None
unfolding comment_end
comment_open at zero bs some end = absurd (omega arith)
comment_open at (suc d) [] some end = refl
comment_open at (suc d) (b ∷ bs) some end = absurd (omega arith)

pub comment_closed : (at depth : ℕ) (bs : List ℕ) → depth ≤ 0 → comment_end at 0 depth bs ≡ Some at
unfolding comment_end
comment_closed at zero bs none = refl
comment_closed at (suc d) bs none = absurd (omega arith)
