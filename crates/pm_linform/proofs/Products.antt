-- Products of integers: the laws that go with sums.
use Rattle.std.proofs.Common.{◌≡◌, ℤ, pos, negsuc, ◌+ℤ◌, ◌-ℤ◌, ◌*ℤ◌, neg_ℤ, ap, ap₂, sym, ◌∙◌, arith}
use Rattle.std.proofs.lemmas.Int.{ints}
use lib.IntN.{ℤ_ind, +ℤ_idl, +ℤ_one, -ℤ_one, zero-*ℤ, suc_ℤ-*ℤ, pred_ℤ-*ℤ, *ℤ_comm}

up_left : (b c x : ℤ) → (x +ℤ b) *ℤ c ≡ (x *ℤ c) +ℤ (b *ℤ c) → ((x +ℤ pos 1) +ℤ b) *ℤ c ≡ ((x +ℤ pos 1) *ℤ c) +ℤ (b *ℤ c)
up_left b c x h =
    let e : (x +ℤ pos 1) +ℤ b ≡ (x +ℤ b) +ℤ pos 1 = omega (arith, ints) in
    let l : ((x +ℤ pos 1) +ℤ b) *ℤ c ≡ ((x +ℤ b) *ℤ c) +ℤ c = ap (λ z. z *ℤ c) (e ∙ +ℤ_one (x +ℤ b)) ∙ suc_ℤ-*ℤ (x +ℤ b) c in
    let m : (x +ℤ pos 1) *ℤ c ≡ (x *ℤ c) +ℤ c = ap (λ z. z *ℤ c) (+ℤ_one x) ∙ suc_ℤ-*ℤ x c in
    let s : ((x *ℤ c) +ℤ (b *ℤ c)) +ℤ c ≡ ((x *ℤ c) +ℤ c) +ℤ (b *ℤ c) = omega (arith, ints) in
    l ∙ ap (λ z. z +ℤ c) h ∙ s ∙ ap (λ z. z +ℤ (b *ℤ c)) (sym m)

down_left : (b c x : ℤ) → (x +ℤ b) *ℤ c ≡ (x *ℤ c) +ℤ (b *ℤ c) → ((x -ℤ pos 1) +ℤ b) *ℤ c ≡ ((x -ℤ pos 1) *ℤ c) +ℤ (b *ℤ c)
down_left b c x h =
    let e : (x -ℤ pos 1) +ℤ b ≡ (x +ℤ b) -ℤ pos 1 = omega (arith, ints) in
    let l : ((x -ℤ pos 1) +ℤ b) *ℤ c ≡ ((x +ℤ b) *ℤ c) -ℤ c = ap (λ z. z *ℤ c) (e ∙ -ℤ_one (x +ℤ b)) ∙ pred_ℤ-*ℤ (x +ℤ b) c in
    let m : (x -ℤ pos 1) *ℤ c ≡ (x *ℤ c) -ℤ c = ap (λ z. z *ℤ c) (-ℤ_one x) ∙ pred_ℤ-*ℤ x c in
    let s : ((x *ℤ c) +ℤ (b *ℤ c)) -ℤ c ≡ ((x *ℤ c) -ℤ c) +ℤ (b *ℤ c) = omega (arith, ints) in
    l ∙ ap (λ z. z -ℤ c) h ∙ s ∙ ap (λ z. z +ℤ (b *ℤ c)) (sym m)

pub distributes_left : (a b c : ℤ) → (a +ℤ b) *ℤ c ≡ (a *ℤ c) +ℤ (b *ℤ c)
distributes_left a b c =
    let z : (pos 0 +ℤ b) *ℤ c ≡ (pos 0 *ℤ c) +ℤ (b *ℤ c) = ap (λ y. y *ℤ c) (+ℤ_idl b) ∙ sym (ap (λ y. y +ℤ (b *ℤ c)) (zero-*ℤ c) ∙ +ℤ_idl (b *ℤ c)) in
    ℤ_ind (λ x. (x +ℤ b) *ℤ c ≡ (x *ℤ c) +ℤ (b *ℤ c)) z (λ n h. up_left b c (pos n) h) (λ n h. down_left b c (neg_ℤ (pos n)) h) a

pub distributes : (a b c : ℤ) → a *ℤ (b +ℤ c) ≡ (a *ℤ b) +ℤ (a *ℤ c)
distributes a b c = *ℤ_comm a (b +ℤ c) ∙ distributes_left b c a ∙ ap₂ (λ x y. x +ℤ y) (*ℤ_comm b a) (*ℤ_comm c a)

pub neg_left : (a b : ℤ) → neg_ℤ a *ℤ b ≡ neg_ℤ (a *ℤ b)
neg_left a b =
    let e : neg_ℤ a +ℤ a ≡ pos 0 = omega (arith, ints) in
    let h : (neg_ℤ a *ℤ b) +ℤ (a *ℤ b) ≡ pos 0 = sym (distributes_left (neg_ℤ a) a b) ∙ ap (λ x. x *ℤ b) e ∙ zero-*ℤ b in
    omega (arith, ints)

pub zero_times : (a : ℤ) → pos 0 *ℤ a ≡ pos 0
zero_times a = zero-*ℤ a

pub times_zero : (a : ℤ) → a *ℤ pos 0 ≡ pos 0
times_zero a = *ℤ_comm a (pos 0) ∙ zero-*ℤ a

pub one_times : (a : ℤ) → pos 1 *ℤ a ≡ a
one_times a = suc_ℤ-*ℤ (pos 0) a ∙ ap (λ y. y +ℤ a) (zero-*ℤ a) ∙ +ℤ_idl a

-- one step of the first factor, up and down
assoc_up : (b c x : ℤ) → (x *ℤ b) *ℤ c ≡ x *ℤ (b *ℤ c) → ((x +ℤ pos 1) *ℤ b) *ℤ c ≡ (x +ℤ pos 1) *ℤ (b *ℤ c)
assoc_up b c x h =
    let l : ((x +ℤ pos 1) *ℤ b) *ℤ c ≡ ((x *ℤ b) *ℤ c) +ℤ (b *ℤ c) = ap (λ y. y *ℤ c) (distributes_left x (pos 1) b ∙ ap (λ y. (x *ℤ b) +ℤ y) (one_times b)) ∙ distributes_left (x *ℤ b) b c in
    let r : (x +ℤ pos 1) *ℤ (b *ℤ c) ≡ (x *ℤ (b *ℤ c)) +ℤ (b *ℤ c) = distributes_left x (pos 1) (b *ℤ c) ∙ ap (λ y. (x *ℤ (b *ℤ c)) +ℤ y) (one_times (b *ℤ c)) in
    l ∙ ap (λ y. y +ℤ (b *ℤ c)) h ∙ sym r

pub minus_times : (a : ℤ) → negsuc 0 *ℤ a ≡ neg_ℤ a
minus_times a = neg_left (pos 1) a ∙ ap neg_ℤ (one_times a)

assoc_down : (b c x : ℤ) → (x *ℤ b) *ℤ c ≡ x *ℤ (b *ℤ c) → ((x -ℤ pos 1) *ℤ b) *ℤ c ≡ (x -ℤ pos 1) *ℤ (b *ℤ c)
assoc_down b c x h =
    let l : ((x -ℤ pos 1) *ℤ b) *ℤ c ≡ ((x *ℤ b) *ℤ c) +ℤ (neg_ℤ b *ℤ c) = ap (λ y. y *ℤ c) (distributes_left x (negsuc 0) b ∙ ap (λ y. (x *ℤ b) +ℤ y) (minus_times b)) ∙ distributes_left (x *ℤ b) (neg_ℤ b) c in
    let r : (x -ℤ pos 1) *ℤ (b *ℤ c) ≡ (x *ℤ (b *ℤ c)) +ℤ neg_ℤ (b *ℤ c) = distributes_left x (negsuc 0) (b *ℤ c) ∙ ap (λ y. (x *ℤ (b *ℤ c)) +ℤ y) (minus_times (b *ℤ c)) in
    l ∙ ap₂ (λ y w. y +ℤ w) h (neg_left b c) ∙ sym r

pub times_assoc : (a b c : ℤ) → (a *ℤ b) *ℤ c ≡ a *ℤ (b *ℤ c)
times_assoc a b c =
    let z : (pos 0 *ℤ b) *ℤ c ≡ pos 0 *ℤ (b *ℤ c) = ap (λ x. x *ℤ c) (zero-*ℤ b) ∙ zero-*ℤ c ∙ sym (zero-*ℤ (b *ℤ c)) in
    ℤ_ind (λ x. (x *ℤ b) *ℤ c ≡ x *ℤ (b *ℤ c)) z (λ n h. assoc_up b c (pos n) h) (λ n h. assoc_down b c (neg_ℤ (pos n)) h) a
