-- One part more, around a proof.
use Rattle.std.proofs.Common.{◌≡◌, ℕ, ◌+◌, ◌≤◌, inl, inr, [], ◌∷◌, refl, sym, ap, subst, ◌∙◌, Some, slice_get, arith}
use Rattle.pm_logic.specs.Size.{depth_of}
use Rattle.pm_logic.specs.declared.formula.Pure.{Pure}
use Rattle.pm_logic.specs.declared.formula.Formula.{Formula}
use Rattle.pm_logic.specs.declared.formula.Formula.TheVariants.{Pure as Assert}
use Rattle.pm_logic.specs.declared.formula.Formula.TheViews as view
use Rattle.pm_logic.proofs.Sizes.{depth_pure}
use Rattle.pm_goal.specs.Left.{star_onto}
use Rattle.pm_rules.specs.declared.rules.Entail.{Entail}
use Rattle.pm_proof.specs.Trees.{Tree, entail, conclusion, holes_of}
use Rattle.pm_proof.specs.Valid.{EntailScoped}
use Rattle.pm_proof.specs.Known.{Proves, Every, FillProves, FillExtends}
use Rattle.pm_proof.proofs.Fills.{weaker}
use Rattle.pm_schemes.specs.Sketches.{deepest}
use Rattle.pm_star.specs.Stars.{room, left_more, right_more}
use Rattle.pm_star.specs.Levels.{IsShared, IsHalved, IsLevel, IsTurned, Around, left_side, right_side}
use Rattle.pm_star.specs.declared.side.Side.{Side}
use Rattle.pm_star.specs.declared.side.Side.TheVariants as side
use Rattle.pm_star.specs.declared.levels.Halves.{Halves}
use Rattle.pm_star.proofs.Scoping.{depth_sep, depth_box, scoped_sep, sep_scoped}

-- the only hole, and the first of two
pub only_hole : (e h : Entail) (n d k : ℕ) (step inner : Tree) → Proves Every e (h ∷ []) n d k step → h ≡ conclusion inner → slice_get (holes_of step) 0 ≡ Some (conclusion inner)
only_hole e h n d k step inner p is = rw (p.holes, sym is) refl

pub first_hole : (e h g : Entail) (n d k : ℕ) (step inner : Tree) → Proves Every e (h ∷ g ∷ []) n d k step → h ≡ conclusion inner → slice_get (holes_of step) 0 ≡ Some (conclusion inner)
first_hole e h g n d k step inner p is = rw (p.holes, sym is) refl

-- what is built over the only hole
pub around : (k n m d : ℕ) (h : Entail) (l r : Formula) (by step out : Tree) → Proves Every (entail k l r) (h ∷ []) n d k step → h ≡ conclusion by → FillExtends step 0 by out → n ≤ m → d ≤ room l r → Around k m by l r out
around k n m d h l r by step out p is f nm dr = f (entail k l r) m (room l r) k (weaker Every (entail k l r) (conclusion by ∷ []) n d k m (room l r) k step nm dr (omega arith) (subst (λ (y : Entail). Proves Every (entail k l r) (y ∷ []) n d k step) is p))

-- an entailment is its variables and its sides
pub whole : (k : ℕ) (e c : Entail) → e ≡ c → c.vars ≡ k → entail k e.left e.right ≡ c
whole k e c is vars = rw (is, sym vars) refl

pub behind_room : (x l r : Formula) → deepest (x ∷ l ∷ r ∷ []) [] + 1 ≤ room (view.Sep x l) (view.Sep x r)
behind_room x l r = omega (arith, depth_sep x l, depth_sep x r)

pub behind_done : (k : ℕ) (x : Formula) (e : Entail) (by step out : Tree) → e ≡ conclusion by → (conclusion by).vars ≡ k → Proves Every (entail k (view.Sep x e.left) (view.Sep x e.right)) (entail k e.left e.right ∷ []) 2 (deepest (x ∷ e.left ∷ e.right ∷ []) [] + 1) k step → FillExtends step 0 by out → Around k 2 by (view.Sep x (left_side by)) (view.Sep x (right_side by)) out
behind_done k x e by step out is vars p f =
    subst (λ (y : Entail). Around k 2 by (view.Sep x y.left) (view.Sep x y.right) out) is (around k 2 2 (deepest (x ∷ e.left ∷ e.right ∷ []) [] + 1) (entail k e.left e.right) (view.Sep x e.left) (view.Sep x e.right) by step out p (whole k e (conclusion by) is vars) f (omega arith) (behind_room x e.left e.right))

pub beside_done : (k : ℕ) (x : Formula) (e : Entail) (by step out : Tree) → e ≡ conclusion by → (conclusion by).vars ≡ k → Proves Every (entail k (view.Sep e.left x) (view.Sep e.right x)) (entail k e.left e.right ∷ []) 2 (deepest (e.left ∷ x ∷ e.right ∷ []) [] + 1) k step → FillExtends step 0 by out → Around k 2 by (view.Sep (left_side by) x) (view.Sep (right_side by) x) out
beside_done k x e by step out is vars p f =
    let deep : deepest (e.left ∷ x ∷ e.right ∷ []) [] + 1 ≤ room (view.Sep e.left x) (view.Sep e.right x) = omega (arith, depth_sep e.left x, depth_sep e.right x) in
    subst (λ (y : Entail). Around k 2 by (view.Sep y.left x) (view.Sep y.right x) out) is (around k 2 2 (deepest (e.left ∷ x ∷ e.right ∷ []) [] + 1) (entail k e.left e.right) (view.Sep e.left x) (view.Sep e.right x) by step out p (whole k e (conclusion by) is vars) f (omega arith) deep)

-- ---- what may be used again

pub only_shared : (f : Formula) → IsShared f → ((p : Pure) → f ≡ Assert p → ⊥) → ((a : Formula) → f ≡ view.Pers a → ⊥) → ⊥
only_shared f h not_pure not_pers = elim h [
  | inl p ↦ not_pure p.0 p.1
  | inr a ↦ not_pers a.0 a.1
]

abbrev Again : ℕ → Formula → Formula → Tree → Type 0
Again k x y t = Proves Every (entail k (view.Sep x y) (view.Sep x (view.Sep x y))) [] 11 (deepest (x ∷ y ∷ []) [] + 3) k t

pub box_done : (k : ℕ) (x a b y : Formula) (t : Tree) → x ≡ view.Pers a → b ≡ a → Proves Every (entail k (view.Sep (view.Pers b) y) (view.Sep (view.Pers b) (view.Sep (view.Pers b) y))) [] 5 (deepest (b ∷ y ∷ []) [] + 3) k t → Again k x y t
box_done k x a b y t is at p =
    let e : Entail = entail k (view.Sep (view.Pers b) y) (view.Sep (view.Pers b) (view.Sep (view.Pers b) y)) in
    subst (λ (z : Formula). Again k z y t) (ap view.Pers at ∙ sym is) (weaker Every e [] 5 (deepest (b ∷ y ∷ []) [] + 3) k 11 (deepest (view.Pers b ∷ y ∷ []) [] + 3) k t (omega arith) (omega (arith, depth_box b)) (omega arith) p)

pub fact_done : (k : ℕ) (x : Formula) (a b : Pure) (y : Formula) (t : Tree) → x ≡ Assert a → b ≡ a → Proves Every (entail k (view.Sep (Assert b) y) (view.Sep (Assert b) (view.Sep (Assert b) y))) [] 11 (deepest (y ∷ []) (b ∷ []) + 3) k t → Again k x y t
fact_done k x a b y t is at p =
    let e : Entail = entail k (view.Sep (Assert b) y) (view.Sep (Assert b) (view.Sep (Assert b) y)) in
    subst (λ (z : Formula). Again k z y t) (ap Assert at ∙ sym is) (weaker Every e [] 11 (deepest (y ∷ []) (b ∷ []) + 3) k 11 (deepest (Assert b ∷ y ∷ []) [] + 3) k t (omega arith) (omega (arith, depth_pure b)) (omega arith) p)

-- ---- halves

-- a half with the part on its side is no shallower
pub deeper : (z : Side) (x f : Formula) → depth_of f ≤ depth_of (star_onto (left_more z x []) f)
unfolding star_onto
deeper side.Left x f = omega (arith, depth_sep x f)
deeper side.Right x f = omega arith
deeper side.Both x f = omega (arith, depth_sep x f)

pub deeper_right : (z : Side) (x f : Formula) → depth_of f ≤ depth_of (star_onto (right_more z x []) f)
unfolding star_onto
deeper_right side.Left x f = omega arith
deeper_right side.Right x f = omega (arith, depth_sep x f)
deeper_right side.Both x f = omega (arith, depth_sep x f)

level_room : (z : Side) (x l p q : Formula) → deepest (x ∷ l ∷ p ∷ q ∷ []) [] + 3 ≤ room (view.Sep x l) (view.Sep (star_onto (left_more z x []) p) (star_onto (right_more z x []) q))
level_room z x l p q =
    let p1 : Formula = star_onto (left_more z x []) p in
    let q1 : Formula = star_onto (right_more z x []) q in
    omega (arith, depth_sep x l, depth_sep p1 q1, deeper z x p, deeper_right z x q)

-- the hole of a level is what the halves prove
pub level_hole : (k : ℕ) (a : Halves) (e : Entail) → e ≡ conclusion a.proof → IsHalved k a → entail k e.left (view.Sep a.left a.right) ≡ conclusion a.proof
level_hole k a e is halved = ap (λ (y : Entail). entail k y.left (view.Sep a.left a.right)) is ∙ sym halved

level_of : (k : ℕ) (x : Formula) (z : Side) (a : Halves) (e : Entail) (n m : ℕ) (step out : Tree) (l r : Formula) → n ≤ 30 → m ≤ 3 → e ≡ conclusion a.proof → IsHalved k a → l ≡ star_onto (left_more z x []) a.left → r ≡ star_onto (right_more z x []) a.right → Proves Every (entail k (view.Sep x e.left) (view.Sep l r)) (entail k e.left (view.Sep a.left a.right) ∷ []) n (deepest (x ∷ e.left ∷ a.left ∷ a.right ∷ []) [] + m) k step → FillExtends step 0 a.proof out → IsLevel k x z a (record { proof = out; left = l; right = r })
level_of k x z a e n m step out l r n30 m3 is halved lis ris p f = record {
  left = lis;
  right = ris;
  known = subst (λ (y : Entail). Around k 30 a.proof (view.Sep x y.left) (view.Sep l r) out) is (around k n 30 (deepest (x ∷ e.left ∷ a.left ∷ a.right ∷ []) [] + m) (entail k e.left (view.Sep a.left a.right)) (view.Sep x e.left) (view.Sep l r) a.proof step out p (level_hole k a e is halved) f n30 (rw (lis, ris) (omega (arith, level_room z x e.left a.left a.right))));
}

pub left_done : (k : ℕ) (x : Formula) (a : Halves) (e : Entail) (step out : Tree) (l : Formula) → e ≡ conclusion a.proof → IsHalved k a → l ≡ view.Sep x a.left → Proves Every (entail k (view.Sep x e.left) (view.Sep (view.Sep x a.left) a.right)) (entail k e.left (view.Sep a.left a.right) ∷ []) 4 (deepest (x ∷ e.left ∷ a.left ∷ a.right ∷ []) [] + 2) k step → FillExtends step 0 a.proof out → IsLevel k x side.Left a (record { proof = out; left = l; right = a.right })
unfolding star_onto
left_done k x a e step out l is halved lis p f = level_of k x side.Left a e 4 2 step out l a.right (omega arith) (omega arith) is halved lis refl (rw lis p) f

pub right_done : (k : ℕ) (x : Formula) (a : Halves) (e : Entail) (step out : Tree) (r : Formula) → e ≡ conclusion a.proof → IsHalved k a → r ≡ view.Sep x a.right → Proves Every (entail k (view.Sep x e.left) (view.Sep a.left (view.Sep x a.right))) (entail k e.left (view.Sep a.left a.right) ∷ []) 10 (deepest (x ∷ e.left ∷ a.left ∷ a.right ∷ []) [] + 2) k step → FillExtends step 0 a.proof out → IsLevel k x side.Right a (record { proof = out; left = a.left; right = r })
unfolding star_onto
right_done k x a e step out r is halved ris p f = level_of k x side.Right a e 10 2 step out a.left r (omega arith) (omega arith) is halved refl ris (rw ris p) f

pub both_done : (k : ℕ) (x : Formula) (a : Halves) (e : Entail) (step out : Tree) (l r : Formula) → e ≡ conclusion a.proof → IsHalved k a → l ≡ view.Sep x a.left → r ≡ view.Sep x a.right → Proves Every (entail k (view.Sep x e.left) (view.Sep (view.Sep x a.left) (view.Sep x a.right))) (entail k e.left (view.Sep a.left a.right) ∷ []) 26 (deepest (x ∷ e.left ∷ a.left ∷ a.right ∷ []) [] + 3) k step → FillExtends step 0 a.proof out → IsLevel k x side.Both a (record { proof = out; left = l; right = r })
unfolding star_onto
both_done k x a e step out l r is halved lis ris p f = level_of k x side.Both a e 26 3 step out l r (omega arith) (omega arith) is halved lis ris (rw (lis, ris) p) f

pub turned_done : (k : ℕ) (a : Halves) (e : Entail) (step out : Tree) → e ≡ conclusion a.proof → IsHalved k a → Proves Every (entail k e.left (view.Sep a.right a.left)) (entail k e.left (view.Sep a.left a.right) ∷ []) 2 (deepest (e.left ∷ a.left ∷ a.right ∷ []) [] + 1) k step → FillExtends step 0 a.proof out → IsTurned k a (record { proof = out; left = a.right; right = a.left })
turned_done k a e step out is halved p f =
    let deep : deepest (e.left ∷ a.left ∷ a.right ∷ []) [] + 1 ≤ room e.left (view.Sep a.right a.left) = omega (arith, depth_sep a.right a.left) in
    record {
      left = refl;
      right = refl;
      known = subst (λ (y : Entail). Around k 2 a.proof y.left (view.Sep a.right a.left) out) is (around k 2 2 (deepest (e.left ∷ a.left ∷ a.right ∷ []) [] + 1) (entail k e.left (view.Sep a.left a.right)) e.left (view.Sep a.right a.left) a.proof step out p (level_hole k a e is halved) f (omega arith) deep);
    }

-- the first of a step's two holes, closed
pub both_closed : (k : ℕ) (x l p q : Formula) (doubled step out : Tree) → Again k x l doubled → Proves Every (entail k (view.Sep x l) (view.Sep (view.Sep x p) (view.Sep x q))) (entail k (view.Sep x l) (view.Sep x (view.Sep x l)) ∷ entail k l (view.Sep p q) ∷ []) 15 (deepest (x ∷ l ∷ p ∷ q ∷ []) [] + 3) k step → FillProves step 0 doubled out → Proves Every (entail k (view.Sep x l) (view.Sep (view.Sep x p) (view.Sep x q))) (entail k l (view.Sep p q) ∷ []) 26 (deepest (x ∷ l ∷ p ∷ q ∷ []) [] + 3) k out
both_closed k x l p q doubled step out s t f =
    let h : Entail = entail k (view.Sep x l) (view.Sep x (view.Sep x l)) in
    let d : ℕ = deepest (x ∷ l ∷ p ∷ q ∷ []) [] + 3 in
    let s1 = weaker Every h [] 11 (deepest (x ∷ l ∷ []) [] + 3) k 11 d k doubled (omega arith) (omega arith) (omega arith) s in
    f Every (entail k (view.Sep x l) (view.Sep (view.Sep x p) (view.Sep x q))) (h ∷ entail k l (view.Sep p q) ∷ []) [] 15 11 d k t (subst (λ (y : Entail). Proves Every y [] 11 d k doubled) (sym s1.concludes) s1)
    (λ preds e all. subst (EntailScoped preds) (sym s1.concludes) (e.0, sep_scoped preds k x (view.Sep x l) (scoped_sep preds k x l e.0).0 e.0))
