-- Walks with the sides turned.
use Rattle.std.proofs.Common.{◌≡◌, ℕ, suc, ◌+◌, ◌-◌, ◌*◌, ◌≤◌, List, [], ◌∷◌, length, refl, ap, subst, ◌∙◌, arith}
use Rattle.pm_logic.specs.Size.{depth_of}
use Rattle.pm_logic.specs.Scope.{Scoped}
use Rattle.pm_logic.specs.declared.formula.Formula.{Formula}
use Rattle.pm_logic.specs.declared.formula.Formula.TheViews as view
use Rattle.pm_goal.specs.Left.{star_onto}
use Rattle.pm_rules.specs.declared.rules.Entail.{Entail}
use Rattle.pm_proof.specs.Trees.{Tree, entail}
use Rattle.pm_proof.proofs.Fills.{extends_weaker}
use Rattle.pm_star.specs.Stars.{room, left_more, right_more, lefts, rights}
use Rattle.pm_star.specs.Levels.{IsHalved, IsTurned, IsDealt, IsSplit, Around, across, left_side}
use Rattle.pm_star.specs.declared.side.Side.{Side}
use Rattle.pm_star.specs.declared.side.Side.TheVariants as side
use Rattle.pm_star.specs.declared.levels.Halves.{Halves}
use Rattle.pm_star.proofs.Scoping.{Scopes, depth_sep, scoped_sep, sep_scoped, scoped_onto}
use Rattle.pm_star.proofs.Walking.{around_more, halved_of}
use Rattle.pm_star.proofs.Moving.{onto_deep}

-- ---- what goes to the left goes to the right where the sides are turned

left_across : (z : Side) (f : Formula) (fs : List Formula) → left_more (across z) f fs ≡ right_more z f fs
left_across side.Left f fs = refl
left_across side.Right f fs = refl
left_across side.Both f fs = refl

right_across : (z : Side) (f : Formula) (fs : List Formula) → right_more (across z) f fs ≡ left_more z f fs
right_across side.Left f fs = refl
right_across side.Right f fs = refl
right_across side.Both f fs = refl

lefts_across : (sides : ℕ → Side) (i : ℕ) (fs : List Formula) → lefts (λ j. across (sides j)) i fs ≡ rights sides i fs
lefts_across sides i [] = refl
lefts_across sides i (f ∷ fs) = left_across (sides i) f (lefts (λ j. across (sides j)) (suc i) fs) ∙ ap (right_more (sides i) f) (lefts_across sides (suc i) fs)

rights_across : (sides : ℕ → Side) (i : ℕ) (fs : List Formula) → rights (λ j. across (sides j)) i fs ≡ lefts sides i fs
rights_across sides i [] = refl
rights_across sides i (f ∷ fs) = right_across (sides i) f (rights (λ j. across (sides j)) (suc i) fs) ∙ ap (left_more (sides i) f) (rights_across sides (suc i) fs)

-- ---- a walk

pub turned_halved : (k : ℕ) (a b : Halves) → IsTurned k a b → IsHalved k b
turned_halved k a b s = halved_of k (left_side a.proof) b s.known.concludes

-- one that is not turned
pub split_straight : (k : ℕ) (sides : ℕ → Side) (fs : List Formula) (a b : Halves) → IsDealt k sides fs 0 a b → IsSplit k sides fs a b
split_straight k sides fs a b s =
    let r : Formula = view.Sep b.left b.right in
    let l : Formula = star_onto fs (left_side a.proof) in
    record {
      left = s.left;
      right = s.right;
      known = extends_weaker a.proof b.proof (entail k l r) (30 * (length fs - 0)) (room l r) k (30 * length fs + 4) (room l r) k (omega arith) (omega arith) (omega arith) s.known;
    }

-- the sides turned, and the parts dealt
turned_dealt : (k : ℕ) (sides : ℕ → Side) (fs : List Formula) (a b c : Halves) → IsTurned k a b → IsDealt k sides fs 0 b c → Around k (30 * length fs + 2) a.proof (star_onto fs (left_side a.proof)) (view.Sep c.left c.right) c.proof
turned_dealt k sides fs a b c t s =
    let l : Formula = left_side a.proof in
    let l1 : Formula = star_onto fs l in
    let r : Formula = view.Sep b.left b.right in
    let r1 : Formula = view.Sep c.left c.right in
    let m : ℕ = 30 * (length fs - 0) in
    let q : Around k m b.proof l1 r1 c.proof = subst (λ (y : Entail). Around k m b.proof (star_onto fs y.left) r1 c.proof) t.known.concludes s.known in
    let dl : depth_of b.left ≤ depth_of c.left = rw s.left (onto_deep (lefts sides 0 fs) b.left) in
    let dr : depth_of b.right ≤ depth_of c.right = rw s.right (onto_deep (rights sides 0 fs) b.right) in
    let deep : room l r ≤ room l1 r1 = omega (arith, onto_deep fs l, depth_sep b.left b.right, depth_sep c.left c.right, dl, dr) in
    let total : 2 + m ≤ 30 * length fs + 2 = omega arith in
    let wants : Scopes k l1 r1 l r = λ preds e.
    let h = scoped_sep preds k c.left c.right e.1 in
    let hl = (scoped_onto preds k (lefts sides 0 fs) b.left (subst (Scoped preds k) s.left h.0)).1 in
    let hr = (scoped_onto preds k (rights sides 0 fs) b.right (subst (Scoped preds k) s.right h.1)).1 in
    ((scoped_onto preds k fs l e.0).1, sep_scoped preds k b.left b.right hl hr) in
    around_more k 2 m (30 * length fs + 2) a.proof b.proof c.proof l r l1 r1 total deep wants t.known q

-- and turned back
dealt_back : (k n : ℕ) (l : Formula) (by : Tree) (c d : Halves) → Around k n by l (view.Sep c.left c.right) c.proof → IsTurned k c d → Around k (n + 2) by l (view.Sep d.left d.right) d.proof
dealt_back k n l by c d p t =
    let r : Formula = view.Sep c.left c.right in
    let r1 : Formula = view.Sep d.left d.right in
    let q : Around k 2 c.proof l r1 d.proof = subst (λ (y : Entail). Around k 2 c.proof y.left r1 d.proof) p.concludes t.known in
    let deep : room l r ≤ room l r1 = rw (t.left, t.right) (omega (arith, depth_sep c.left c.right, depth_sep c.right c.left)) in
    let wants : Scopes k l r1 l r = λ preds e.
    let h = scoped_sep preds k d.left d.right e.1 in
    (e.0, sep_scoped preds k c.left c.right (subst (Scoped preds k) t.right h.1) (subst (Scoped preds k) t.left h.0)) in
    around_more k n 2 (n + 2) by c.proof d.proof l r l r1 (omega arith) deep wants p q

pub split_turned : (k : ℕ) (sides : ℕ → Side) (fs : List Formula) (a b c d : Halves) → IsTurned k a b → IsDealt k (λ i. across (sides i)) fs 0 b c → IsTurned k c d → IsSplit k sides fs a d
split_turned k sides fs a b c d t s u =
    let l : Formula = star_onto fs (left_side a.proof) in
    let r : Formula = view.Sep d.left d.right in
    let m : ℕ = 30 * length fs + 2 in
    let all = dealt_back k m l a.proof c d (turned_dealt k (λ i. across (sides i)) fs a b c t s) u in
    record {
      left = u.left ∙ s.right ∙ ap (λ ls. star_onto ls b.right) (rights_across sides 0 fs) ∙ ap (star_onto (lefts sides 0 fs)) t.right;
      right = u.right ∙ s.left ∙ ap (λ ls. star_onto ls b.left) (lefts_across sides 0 fs) ∙ ap (star_onto (rights sides 0 fs)) t.left;
      known = extends_weaker a.proof d.proof (entail k l r) (m + 2) (room l r) k (30 * length fs + 4) (room l r) k (omega arith) (omega arith) (omega arith) all;
    }
