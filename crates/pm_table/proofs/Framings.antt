-- What framing leaves has fails more nodes than what it was framed in, and isn't deeper.
use Rattle.std.proofs.Common.{◌≡◌, inl, inr, ℕ, suc, ◌+◌, ◌-◌, max, Bool, true, false, ◌&&◌, ◌||◌, if◌then◌else◌, refl, ap, Option, Some, None, IfSome, arith}
use Rattle.std.specs.Bool.{then_some}
use Rattle.std.specs.Prelude.{option_and_then, nat_lt}
use Rattle.pm_logic.specs.declared.formula.Term.{Term}
use Rattle.pm_logic.specs.declared.formula.Formula.{Formula}
use Rattle.pm_logic.specs.declared.formula.Formula.TheVariants.{Pure as Fact, Pts, Call}
use Rattle.pm_logic.specs.Trees.{Sep, Wand, And, Or, Imp, All, Ex, Later, Pers, Upd}
use Rattle.pm_logic.specs.Abstraction.{term_eq}
use Rattle.pm_logic.specs.Substitution.{shift_of}
use Rattle.pm_logic.specs.Size.{nodes_of, depth_of}
use Rattle.pm_goal.specs.Find.{first_of_two}
use Rattle.pm_table.specs.Equality.{formula_eq}
use Rattle.pm_table.specs.Basic.{is_truth}
use Rattle.pm_table.specs.Modalities.{under_later}
use Rattle.pm_table.specs.Framing.{truth, star, conjunction, disjunction, above, whole, fewer_units, frame}
use Rattle.pm_table.specs.FramingLaws.{IsNoLarger, IsLeft, FramingShrinks}

-- ---- sizes of nodes

record IsPair (f a b : Formula) : Type 0 where
  nodes : nodes_of f ≡ suc (nodes_of a + nodes_of b)
  depth : depth_of f ≡ suc (max (depth_of a) (depth_of b))

record IsSingle (f a : Formula) : Type 0 where
  nodes : nodes_of f ≡ suc (nodes_of a)
  depth : depth_of f ≡ suc (depth_of a)

first_part : {f a b : Formula} → IsPair f a b → IsNoLarger f a
first_part p = record { nodes = omega (arith, p.nodes); depth = omega (arith, p.depth) }

second_part : {f a b : Formula} → IsPair f a b → IsNoLarger f b
second_part p = record { nodes = omega (arith, p.nodes); depth = omega (arith, p.depth) }

itself : (a : Formula) → IsNoLarger a a
itself a = record { nodes = omega arith; depth = omega arith }

pair : {f g a b l r : Formula} → IsPair f a b → IsPair g l r → IsNoLarger a l → IsNoLarger b r → IsNoLarger f g
pair p q s t = record { nodes = omega (arith, p.nodes, q.nodes, s.nodes, t.nodes); depth = omega (arith, p.depth, q.depth, s.depth, t.depth) }

single : {f g a l : Formula} → IsSingle f a → IsSingle g l → IsNoLarger a l → IsNoLarger f g
single p q s = record { nodes = omega (arith, p.nodes, q.nodes, s.nodes); depth = omega (arith, p.depth, q.depth, s.depth) }

through : {f a l : Formula} → IsNoLarger f a → IsNoLarger a l → IsNoLarger f l
through s t = record { nodes = omega (arith, s.nodes, t.nodes); depth = omega (arith, s.depth, t.depth) }

-- ---- rests of parts

widened : {f a l : Formula} → IsNoLarger f a → IsLeft a l → IsLeft f l
widened s (inl e) = inl e
widened s (inr t) = inr (through s t)

kept : {a l : Formula} → IsLeft a l → is_truth l ≡ false → IsNoLarger a l
kept (inl e) fails = let holds = ap is_truth e in cc
kept (inr s) fails = s

by_test : (P : Formula → Type 0) (c : Bool) (x y : Formula) → P x → (c ≡ false → P y) → P (if c then x else y)
by_test P true x y holds fails = holds
by_test P false x y holds fails = fails refl

-- the first is kept with the second beside it, or the second alone is left
one_left : {f g a b l : Formula} → IsPair f a b → IsPair g l b → IsLeft a l → IsLeft f (if is_truth l then b else g)
one_left {f} {g} {a} {b} {l} p q h = by_test (IsLeft f) (is_truth l) b g (inr (second_part p)) (λ fails. inr (pair p q (kept h fails) (itself b)))

one_right : {f g a b r : Formula} → IsPair f a b → IsPair g a r → IsLeft b r → IsLeft f (if is_truth r then a else g)
one_right {f} {g} {a} {b} {r} p q h = by_test (IsLeft f) (is_truth r) a g (inr (first_part p)) (λ fails. inr (pair p q (itself a) (kept h fails)))

both_left : {f g a b l r : Formula} → IsPair f a b → IsPair g l r → IsLeft a l → IsLeft b r → IsLeft f (if is_truth l then r else if is_truth r then l else g)
both_left {f} {g} {a} {b} {l} {r} p q h k =
    by_test (IsLeft f) (is_truth l) r (if is_truth r then l else g) (widened (second_part p) k) (λ fails.
    by_test (IsLeft f) (is_truth r) l g (widened (first_part p) h) (λ fails'. inr (pair p q (kept h fails) (kept k fails'))))

or_true : (x y : Bool) → (x || y) ≡ false → (x ≡ false) × (y ≡ false)
or_true true y e = cc
or_true false y e = (refl, e)

-- ---- the nodes

star_left : (a b : Formula) (x y : Option Formula) → IfSome x (IsLeft a) → IfSome y (IsLeft b) → IfSome (star a b x y) (IsLeft (Sep a b))
unfolding star nodes_of depth_of
star_left a b (Some l) y h k = one_left (record { nodes = refl; depth = refl }) (record { nodes = refl; depth = refl }) h
star_left a b None (Some r) h k = one_right (record { nodes = refl; depth = refl }) (record { nodes = refl; depth = refl }) k
star_left a b None None h k = tt

conjunction_left : (a b : Formula) (x y : Option Formula) → IfSome x (IsLeft a) → IfSome y (IsLeft b) → IfSome (conjunction a b x y) (IsLeft (And a b))
unfolding conjunction nodes_of depth_of
conjunction_left a b (Some l) (Some r) h k = both_left (record { nodes = refl; depth = refl }) (record { nodes = refl; depth = refl }) h k
conjunction_left a b (Some l) None h k = one_left (record { nodes = refl; depth = refl }) (record { nodes = refl; depth = refl }) h
conjunction_left a b None (Some r) h k = one_right (record { nodes = refl; depth = refl }) (record { nodes = refl; depth = refl }) k
conjunction_left a b None None h k = tt

disjunction_left : (a b : Formula) (x y : Option Formula) → IfSome x (IsLeft a) → IfSome y (IsLeft b) → IfSome (disjunction a b x y) (IsLeft (Or a b))
unfolding disjunction nodes_of depth_of
disjunction_left a b (Some l) (Some r) h k =
    by_test (IsLeft (Or a b)) (is_truth l || is_truth r) truth (Or l r) (inl refl) (λ fails.
    inr (pair {a = a} {b = b} {l = l} {r = r} (record { nodes = refl; depth = refl }) (record { nodes = refl; depth = refl }) (kept h (or_true (is_truth l) (is_truth r) fails).0) (kept k (or_true (is_truth l) (is_truth r) fails).1)))
disjunction_left a b (Some l) None h k =
    by_test (IsLeft (Or a b)) (is_truth l) truth (Or l b) (inl refl) (λ fails.
    inr (pair {a = a} {b = b} {l = l} {r = b} (record { nodes = refl; depth = refl }) (record { nodes = refl; depth = refl }) (kept h fails) (itself b)))
disjunction_left a b None (Some r) h k =
    by_test (IsLeft (Or a b)) (is_truth r) truth (Or a r) (inl refl) (λ fails.
    inr (pair {a = a} {b = b} {l = a} {r = r} (record { nodes = refl; depth = refl }) (record { nodes = refl; depth = refl }) (itself a) (kept k fails)))
disjunction_left a b None None h k = tt

-- a node whose size grows with that of its part
above_left : (node : Formula → Formula) (a : Formula) (x : Option Formula) → ((l : Formula) → IsNoLarger a l → IsNoLarger (node a) (node l)) → IfSome x (IsLeft a) → IfSome (above node x) (IsLeft (node a))
unfolding above
above_left node a (Some l) grows h = by_test (IsLeft (node a)) (is_truth l) truth (node l) (inl refl) (λ fails. inr (grows l (kept h fails)))
above_left node a None grows h = tt

grows_all : (a l : Formula) → IsNoLarger a l → IsNoLarger (All a) (All l)
unfolding nodes_of depth_of
grows_all a l = single (record { nodes = refl; depth = refl }) (record { nodes = refl; depth = refl })

grows_ex : (a l : Formula) → IsNoLarger a l → IsNoLarger (Ex a) (Ex l)
unfolding nodes_of depth_of
grows_ex a l = single (record { nodes = refl; depth = refl }) (record { nodes = refl; depth = refl })

grows_later : (a l : Formula) → IsNoLarger a l → IsNoLarger (Later a) (Later l)
unfolding nodes_of depth_of
grows_later a l = single (record { nodes = refl; depth = refl }) (record { nodes = refl; depth = refl })

grows_upd : (a l : Formula) → IsNoLarger a l → IsNoLarger (Upd a) (Upd l)
unfolding nodes_of depth_of
grows_upd a l = single (record { nodes = refl; depth = refl }) (record { nodes = refl; depth = refl })

grows_wand : (w a l : Formula) → IsNoLarger a l → IsNoLarger (Wand w a) (Wand w l)
unfolding nodes_of depth_of
grows_wand w a l s = pair {a = w} {b = a} {l = w} {r = l} (record { nodes = refl; depth = refl }) (record { nodes = refl; depth = refl }) (itself w) s

-- ---- the entries

else_left : (q : Formula) (x y : Option Formula) → IfSome x (IsLeft q) → IfSome y (IsLeft q) → IfSome (first_of_two x y) (IsLeft q)
else_left q (Some x) y h k = h
else_left q None y h k = k

test_left : (q : Formula) (c : Bool) → IfSome (then_some c truth) (IsLeft q)
test_left q true = inl refl
test_left q false = tt

whole_left : (r q : Formula) → IfSome (whole r q) (IsLeft q)
unfolding whole
whole_left r q = test_left q (formula_eq r q)

units_left : (l v : Term) (b n : ℕ) (c : Bool) → IfSome (then_some c (Pts l n v)) (IsLeft (Pts l b v))
unfolding nodes_of depth_of
units_left l v b n true = inr (record { nodes = omega arith; depth = omega arith })
units_left l v b n false = tt

fewer_left : (r : Formula) (l : Term) (b : ℕ) (v : Term) → IfSome (fewer_units r l b v) (IsLeft (Pts l b v))
unfolding fewer_units
fewer_left (Pts k a w) l b v = units_left l v b (b - a) (term_eq k l && term_eq w v && nat_lt a b)
fewer_left _ l b v = tt

-- of what stands under ▷, where R is so
stripped_left : (a : Formula) → ((r : Formula) → IfSome (frame r a) (IsLeft a)) → (o : Option Formula) → IfSome (option_and_then (λ r0. frame r0 a) o) (IsLeft a)
stripped_left a each (Some r) = each r
stripped_left a each None = tt

pub framing_shrinks : FramingShrinks
unfolding frame
framing_shrinks r (Pts l b v) = else_left (Pts l b v) (whole r (Pts l b v)) (fewer_units r l b v) (whole_left r (Pts l b v)) (fewer_left r l b v)
framing_shrinks r (Sep a b) = else_left (Sep a b) (whole r (Sep a b)) (star a b (frame r a) (frame r b)) (whole_left r (Sep a b)) (star_left a b (frame r a) (frame r b) (framing_shrinks r a) (framing_shrinks r b))
framing_shrinks r (And a b) = else_left (And a b) (whole r (And a b)) (conjunction a b (frame r a) (frame r b)) (whole_left r (And a b)) (conjunction_left a b (frame r a) (frame r b) (framing_shrinks r a) (framing_shrinks r b))
framing_shrinks r (Or a b) = else_left (Or a b) (whole r (Or a b)) (disjunction a b (frame r a) (frame r b)) (whole_left r (Or a b)) (disjunction_left a b (frame r a) (frame r b) (framing_shrinks r a) (framing_shrinks r b))
framing_shrinks r (Ex a) = else_left (Ex a) (whole r (Ex a)) (above (λ x. Ex x) (frame (shift_of r) a)) (whole_left r (Ex a)) (above_left (λ x. Ex x) a (frame (shift_of r) a) (grows_ex a) (framing_shrinks (shift_of r) a))
framing_shrinks r (All a) = else_left (All a) (whole r (All a)) (above (λ x. All x) (frame (shift_of r) a)) (whole_left r (All a)) (above_left (λ x. All x) a (frame (shift_of r) a) (grows_all a) (framing_shrinks (shift_of r) a))
framing_shrinks r (Later a) =
    let parts = first_of_two (option_and_then (λ r0. frame r0 a) (under_later r)) (frame r a) in
    else_left (Later a) (whole r (Later a)) (above (λ x. Later x) parts) (whole_left r (Later a)) (above_left (λ x. Later x) a parts (grows_later a) (else_left a (option_and_then (λ r0. frame r0 a) (under_later r)) (frame r a) (stripped_left a (λ s. framing_shrinks s a) (under_later r)) (framing_shrinks r a)))
framing_shrinks r (Upd a) = else_left (Upd a) (whole r (Upd a)) (above (λ x. Upd x) (frame r a)) (whole_left r (Upd a)) (above_left (λ x. Upd x) a (frame r a) (grows_upd a) (framing_shrinks r a))
framing_shrinks r (Wand a b) = else_left (Wand a b) (whole r (Wand a b)) (above (λ x. Wand a x) (frame r b)) (whole_left r (Wand a b)) (above_left (λ x. Wand a x) b (frame r b) (grows_wand a b) (framing_shrinks r b))
framing_shrinks r (Fact p) = whole_left r (Fact p)
framing_shrinks r (Imp a b) = whole_left r (Imp a b)
framing_shrinks r (Pers a) = whole_left r (Pers a)
framing_shrinks r (Call p args) = whole_left r (Call p args)
