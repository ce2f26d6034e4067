-- How resources join: the laws of a partial commutative monoid, one location at a time.
use Rattle.std.proofs.Common.{◌≡◌, ℕ, ◌+◌, ℤ, refl, sym, ap, ap₂, ◌∙◌, subst, add_assoc, add_comm, arith}
use Rattle.pm_model.specs.Resource.{Content, Empty, Has, IsValid, Res, Compatible, plus, Joins, Extends, nothing}
use Rattle.pm_model.specs.Forcing.{HasAtLeast}

-- ---- one location

pub compatible_comm : (a b : Content) → Compatible a b → Compatible b a
compatible_comm Empty Empty h = tt
compatible_comm Empty (Has w x) h = tt
compatible_comm (Has u v) Empty h = tt
compatible_comm (Has u v) (Has w x) h = (sym h.0, omega arith)

pub plus_comm : (a b : Content) → Compatible a b → plus a b ≡ plus b a
plus_comm Empty Empty h = refl
plus_comm Empty (Has w x) h = refl
plus_comm (Has u v) Empty h = refl
plus_comm (Has u v) (Has w x) h = ap₂ Has (add_comm u w) h.0

abbrev Both : Content → Content → Content → Type 0
Both a b c = Compatible b c × Compatible a (plus b c) × (plus (plus a b) c ≡ plus a (plus b c))

regroup : (a b c : Content) → Compatible a b → Compatible (plus a b) c → Both a b c
regroup Empty b c h k = (k, tt, refl)
regroup (Has u v) Empty c h k = (tt, k, refl)
regroup (Has u v) (Has w x) Empty h k = (tt, h, refl)
regroup (Has u v) (Has w x) (Has y z) h k = ((sym h.0 ∙ k.0, omega arith), (h.0, omega arith), ap (λ n. Has n v) (add_assoc u w y))

pub valid_plus : (a b : Content) → IsValid a → IsValid b → Compatible a b → IsValid (plus a b)
valid_plus Empty b h k c = k
valid_plus (Has u v) Empty h k c = h
valid_plus (Has u v) (Has w x) h k c = (omega arith, c.1)

pub plus_empty : (a : Content) → plus a Empty ≡ a
plus_empty Empty = refl
plus_empty (Has u v) = refl

pub compatible_empty : (a : Content) → Compatible a Empty
compatible_empty Empty = tt
compatible_empty (Has u v) = tt

more_has : (a b : Content) (u : ℕ) (v : ℤ) → Compatible a b → HasAtLeast a u v → HasAtLeast (plus a b) u v
more_has Empty b u v c h = absurd h
more_has (Has w x) Empty u v c h = h
more_has (Has w x) (Has y z) u v c h = (omega arith, h.1)

-- ---- resources

-- two that are compatible everywhere have a join
join_of : (a b : Res) → ((l : ℤ) → Compatible (a.at l) (b.at l)) → Res
join_of a b h = record {
  at = λ l. plus (a.at l) (b.at l);
  valid = λ l. valid_plus (a.at l) (b.at l) (a.valid l) (b.valid l) (h l);
  bound = a.bound + b.bound;
  beyond = λ l k. ap₂ plus (a.beyond l (omega arith)) (b.beyond l (omega arith));
}

pub joined : (a b : Res) → ((l : ℤ) → Compatible (a.at l) (b.at l)) → (c : Res) × Joins a b c
unfolding join_of
joined a b h = (join_of a b h, record { fits = h; sums = λ l. refl })

pub joins_comm : {a b c : Res} → Joins a b c → Joins b a c
joins_comm {a} {b} {c} j = record {
  fits = λ l. compatible_comm (a.at l) (b.at l) (j.fits l);
  sums = λ l. j.sums l ∙ plus_comm (a.at l) (b.at l) (j.fits l);
}

-- (a + b) + c is a + (b + c)
pub joins_assoc : {a b c ab abc : Res} → Joins a b ab → Joins ab c abc → (bc : Res) × Joins b c bc × Joins a bc abc
unfolding join_of
joins_assoc {a} {b} {c} {ab} {abc} j k =
    let at : (l : ℤ) → Both (a.at l) (b.at l) (c.at l) = λ l. regroup (a.at l) (b.at l) (c.at l) (j.fits l) (subst (λ x. Compatible x (c.at l)) (j.sums l) (k.fits l)) in
    (join_of b c (λ l. (at l).0), record { fits = λ l. (at l).0; sums = λ l. refl }, record { fits = λ l. (at l).1; sums = λ l. k.sums l ∙ ap (λ x. plus x (c.at l)) (j.sums l) ∙ (at l).2 })

-- a + (b + c) is (a + b) + c
pub joins_assoc_left : {a b c bc abc : Res} → Joins b c bc → Joins a bc abc → (ab : Res) × Joins a b ab × Joins ab c abc
joins_assoc_left j k =
    let (ba, p, q) = joins_assoc (joins_comm j) (joins_comm k) in
    (ba, joins_comm p, joins_comm q)

-- (a + b) + c is (a + c) + b
pub joins_swap : {a b c ab abc : Res} → Joins a b ab → Joins ab c abc → (ac : Res) × Joins a c ac × Joins ac b abc
joins_swap j k =
    let (bc, p, q) = joins_assoc j k in
    joins_assoc_left (joins_comm p) q

pub joins_nothing : (a : Res) → Joins a nothing a
unfolding nothing
joins_nothing a = record { fits = λ l. compatible_empty (a.at l); sums = λ l. sym (plus_empty (a.at l)) }

pub nothing_joins : (a : Res) → Joins nothing a a
unfolding nothing
nothing_joins a = record { fits = λ l. tt; sums = λ l. refl }

pub extends_left : {a b c : Res} → Joins a b c → Extends a c
extends_left {b = b} j = record { rest = b; joins = j }

pub extends_refl : (a : Res) → Extends a a
extends_refl a = extends_left (joins_nothing a)

pub extends_trans : {a b c : Res} → Extends a b → Extends b c → Extends a c
extends_trans h k =
    let (bc, p, q) = joins_assoc h.joins k.joins in
    extends_left q

pub extends_has : {a c : Res} (l : ℤ) (u : ℕ) (v : ℤ) → Extends a c → HasAtLeast (a.at l) u v → HasAtLeast (c.at l) u v
extends_has {a} {c} l u v e h = subst (λ x. HasAtLeast x u v) (sym (e.joins.sums l)) (more_has (a.at l) (e.rest.at l) u v (e.joins.fits l) h)
