-- What is known of a proof with a hole filled.
use Rattle.std.proofs.Common.{ℕ, zero, suc, ◌+◌, ◌-◌, ◌≡◌, ◌≤◌, ◌<◌, inl, inr, max, sym, ap, refl, ◌∙◌, arith, List, [], ◌∷◌, ◌++◌, length, slice_get, Option, Some, None}
use Rattle.std.proofs.lemmas.List.{append-nil}
use Rattle.std.specs.List.{AllByRecursion}
use Rattle.pm_logic.specs.declared.formula.Preds.{Preds}
use Rattle.pm_rules.specs.declared.rules.Entail.{Entail}
use Rattle.pm_rules.specs.declared.rules.Rule.{Rule}
use Rattle.pm_rules.specs.Rules.{RuleOk, premises}
use Rattle.pm_proof.specs.Trees.{Tree, Hole, Axiom, First, Second, Both, node, conclusion, conclusion_of, holes_of, hole_count, rules, depth, variables, filled, splice}
use Rattle.pm_proof.specs.Valid.{Throughout, Valid, ValidWhere, EntailScoped, ArgumentsFit, IsScoped}
use Rattle.pm_proof.specs.Known.{Tables, ScopedWhere, Proves, Extends, FillProves, FillExtends}
use Rattle.pm_proof.proofs.Counts.{side, counted, get_left, get_right, get_within, splice_left, splice_right}
use Rattle.pm_proof.proofs.Scoping.{scoped_root}

same_item : (a b : Entail) → Some a ≡ Some b → a ≡ b
same_item a b e = cc

-- all that a filled hole leaves or adds
pub record Filled (t : Tree) (i : ℕ) (x y : Tree) : Type 0 where
  pub concludes : conclusion y ≡ conclusion t
  pub holes : holes_of y ≡ splice (holes_of t) i (holes_of x)
  pub size : rules y ≡ rules t + rules x
  pub shallow : depth y ≤ max (depth t) (depth x)
  pub narrow : variables y ≤ max (variables t) (variables x)

pub fills : (t : Tree) (i : ℕ) (x : Tree) → slice_get (holes_of t) i ≡ Some (conclusion x) → Filled t i x (filled t i x)
fills (Hole e) zero x h = record {
  concludes = sym (same_item e (conclusion x) h);
  holes = sym (append-nil (holes_of x));
  size = omega arith;
  shallow = omega arith;
  narrow = omega arith;
}
fills (Hole e) (suc i) x h = absurd (cc)
fills (Axiom r e) i x h = absurd (cc)
fills (First r e a) i x h =
    let f = fills a i x h in
    record { concludes = refl; holes = f.holes; size = omega (arith, f.size); shallow = omega (arith, f.shallow); narrow = omega (arith, f.narrow) }
fills (Second r e b) i x h =
    let f = fills b i x h in
    record { concludes = refl; holes = f.holes; size = omega (arith, f.size); shallow = omega (arith, f.shallow); narrow = omega (arith, f.narrow) }
fills (Both r e a b) i x h = elim (side i (hole_count a)) [
  | inl s ↦
      let lt : i < length (holes_of a) = rw (counted a) s.1 in
      let f = fills a i x (sym (get_left (holes_of a) (holes_of b) i lt) ∙ h) in
      record {
        concludes = rw s.0 refl;
        holes = rw s.0 (rw f.holes (sym (splice_left (holes_of a) (holes_of b) (holes_of x) i lt)));
        size = rw s.0 (omega (arith, f.size));
        shallow = rw s.0 (omega (arith, f.shallow));
        narrow = rw s.0 (omega (arith, f.narrow));
      }
  | inr s ↦
      let le : length (holes_of a) ≤ i = rw (counted a) s.1 in
      let at : i - length (holes_of a) ≡ i - hole_count a = ap (λ n. i - n) (counted a) in
      let f = fills b (i - hole_count a) x (ap (slice_get (holes_of b)) (sym at) ∙ sym (get_right (holes_of a) (holes_of b) i le) ∙ h) in
      record {
        concludes = rw s.0 refl;
        holes = rw s.0 (ap (λ l. holes_of a ++ l) f.holes ∙ ap (λ j. holes_of a ++ splice (holes_of b) j (holes_of x)) (sym at) ∙ sym (splice_right (holes_of a) (holes_of b) (holes_of x) i le));
        size = rw s.0 (omega (arith, f.size));
        shallow = rw s.0 (omega (arith, f.shallow));
        narrow = rw s.0 (omega (arith, f.narrow));
      }
]

-- what holds throughout both holds throughout the filled one
pub fills_throughout : (H : Entail → Type 0) (R : Rule → List Entail → Entail → Type 0) (t : Tree) (i : ℕ) (x : Tree) → slice_get (holes_of t) i ≡ Some (conclusion x) → Throughout H R t → Throughout H R x → Throughout H R (filled t i x)
fills_throughout H R (Hole e) zero x h v w = w
fills_throughout H R (Hole e) (suc i) x h v w = absurd (cc)
fills_throughout H R (Axiom r e) i x h v w = absurd (cc)
fills_throughout H R (First r e a) i x h v w = (rw (fills a i x h).concludes v.0, fills_throughout H R a i x h v.1 w)
fills_throughout H R (Second r e b) i x h v w = (rw (fills b i x h).concludes v.0, fills_throughout H R b i x h v.1 w)
fills_throughout H R (Both r e a b) i x h v w = elim (side i (hole_count a)) [
  | inl s ↦
      let lt : i < length (holes_of a) = rw (counted a) s.1 in
      let get = sym (get_left (holes_of a) (holes_of b) i lt) ∙ h in
      rw s.0 (rw (fills a i x get).concludes v.0, fills_throughout H R a i x get v.1 w, v.2)
  | inr s ↦
      let le : length (holes_of a) ≤ i = rw (counted a) s.1 in
      let at : i - length (holes_of a) ≡ i - hole_count a = ap (λ n. i - n) (counted a) in
      let get = ap (slice_get (holes_of b)) (sym at) ∙ sym (get_right (holes_of a) (holes_of b) i le) ∙ h in
      rw s.0 (rw (fills b (i - hole_count a) x get).concludes v.0, v.1, fills_throughout H R b (i - hole_count a) x get v.2 w)
]

pub fills_valid : (preds : Preds) (t : Tree) (i : ℕ) (x : Tree) → slice_get (holes_of t) i ≡ Some (conclusion x) → Valid preds t → Valid preds x → Valid preds (filled t i x)
fills_valid preds t i x h v w = fills_throughout (λ e. Unit {0}) (RuleOk preds) t i x h v w

pub fills_scoped : (preds : Preds) (t : Tree) (i : ℕ) (x : Tree) → slice_get (holes_of t) i ≡ Some (conclusion x) → IsScoped preds t → IsScoped preds x → IsScoped preds (filled t i x)
fills_scoped preds t i x h v w = fills_throughout (EntailScoped preds) (λ r ps e. EntailScoped preds e × ArgumentsFit preds e.vars r) t i x h v w

-- what holds of each of two lists
pub all_both : (P : Entail → Type 0) (xs ys : List Entail) → AllByRecursion P xs → AllByRecursion P ys → AllByRecursion P (xs ++ ys)
all_both P [] ys a b = b
all_both P (x ∷ xs) ys a b = (a.0, all_both P xs ys a.1 b)

pub all_parts : (P : Entail → Type 0) (xs ys : List Entail) → AllByRecursion P (xs ++ ys) → AllByRecursion P xs × AllByRecursion P ys
all_parts P [] ys a = (tt, a)
all_parts P (x ∷ xs) ys a = let r = all_parts P xs ys a.1 in ((a.0, r.0), r.1)

-- what holds of each item of a list with others in place of one holds of the others, and of the list where it holds of that one
pub splice_all : (P : Entail → Type 0) (xs : List Entail) (i : ℕ) (x : Entail) (zs : List Entail) → slice_get xs i ≡ Some x → P x → AllByRecursion P (splice xs i zs) → AllByRecursion P xs
splice_all P [] i x zs h p a = tt
splice_all P (y ∷ xs) zero x zs h p a = (rw (same_item y x h) p, (all_parts P zs xs a).1)
splice_all P (y ∷ xs) (suc i) x zs h p a = (a.0, splice_all P xs i x zs h p a.1)

pub splice_inner : (P : Entail → Type 0) (xs : List Entail) (i : ℕ) (x : Entail) (zs : List Entail) → slice_get xs i ≡ Some x → AllByRecursion P (splice xs i zs) → AllByRecursion P zs
splice_inner P [] i x zs h a = absurd (cc)
splice_inner P (y ∷ xs) zero x zs h a = (all_parts P zs xs a).0
splice_inner P (y ∷ xs) (suc i) x zs h a = splice_inner P xs i x zs h a.1

-- hole i is one of the tree's
pub hole_within : (t : Tree) (i : ℕ) (e : Entail) → slice_get (holes_of t) i ≡ Some e → i < hole_count t
hole_within t i e h = omega (arith, get_within (holes_of t) i e h, counted t)

pub fill_proves : (t : Tree) (i : ℕ) (x y : Tree) → y ≡ filled t i x → slice_get (holes_of t) i ≡ Some (conclusion x) → FillProves t i x y
fill_proves t i x y is get on e hs gs n m d k p q wants =
    let f = fills t i x get in
    let at : slice_get hs i ≡ Some (conclusion x) = rw p.holes at get in
    rw is (record {
      concludes = f.concludes ∙ p.concludes;
      holes = f.holes ∙ rw (p.holes, q.holes) refl;
      valid = λ preds among. fills_valid preds t i x get (p.valid preds among) (q.valid preds among);
      scoped = λ preds s all.
          let c = wants preds s all in
          fills_scoped preds t i x get (p.scoped preds s (splice_all (EntailScoped preds) hs i (conclusion x) gs at c all)) (q.scoped preds c (splice_inner (EntailScoped preds) hs i (conclusion x) gs at all));
      size = omega (arith, f.size, p.size, q.size);
      shallow = omega (arith, f.shallow, p.shallow, q.shallow);
      narrow = omega (arith, f.narrow, p.narrow, q.narrow);
    })

-- the only place of a list of one
only : (e x : Entail) (i : ℕ) → slice_get (e ∷ []) i ≡ Some x → i ≡ 0
only e x zero h = refl
only e x (suc i) h = absurd (cc)

pub fill_extends : (t : Tree) (i : ℕ) (x y : Tree) → y ≡ filled t i x → slice_get (holes_of t) i ≡ Some (conclusion x) → FillExtends t i x y
fill_extends t i x y is get e n d k p =
    let f = fills t i x get in
    let first : i ≡ 0 = only (conclusion x) (conclusion x) i (ap (λ l. slice_get l i) (sym p.holes) ∙ get) in
    rw is (record {
      concludes = f.concludes ∙ p.concludes;
      holes = f.holes ∙ rw (p.holes, first) (append-nil (holes_of x));
      valid = λ preds v. fills_valid preds t i x get (p.valid preds tt) v;
      scoped = λ preds s v. fills_scoped preds t i x get (p.scoped preds s (scoped_root preds x v, tt)) v;
      size = omega (arith, f.size, p.size);
      shallow = omega (arith, f.shallow, p.shallow);
      narrow = omega (arith, f.narrow, p.narrow);
    })

-- a rule over valid premises
pub node_valid : (preds : Preds) (r : Rule) (a b : Option Tree) (e : Entail) → ValidWhere preds a → ValidWhere preds b → RuleOk preds r (premises (conclusion_of a) (conclusion_of b)) e → Valid preds (node r a b e)
node_valid preds r None None e v w ok = ok
node_valid preds r (Some a) None e v w ok = (ok, v)
node_valid preds r None (Some b) e v w ok = (ok, w)
node_valid preds r (Some a) (Some b) e v w ok = (ok, v, w)

-- ---- bounds may grow, and what is built around what was built

pub weaker : (on : Tables) (e : Entail) (hs : List Entail) (n d k n1 d1 k1 : ℕ) (t : Tree) → n ≤ n1 → d ≤ d1 → k ≤ k1 → Proves on e hs n d k t → Proves on e hs n1 d1 k1 t
weaker on e hs n d k n1 d1 k1 t hn hd hk p = record {
  concludes = p.concludes;
  holes = p.holes;
  valid = p.valid;
  scoped = p.scoped;
  size = omega (arith, p.size);
  shallow = omega (arith, p.shallow);
  narrow = omega (arith, p.narrow);
}

pub extends_weaker : (by t : Tree) (e : Entail) (n d k n1 d1 k1 : ℕ) → n ≤ n1 → d ≤ d1 → k ≤ k1 → Extends by e n d k t → Extends by e n1 d1 k1 t
extends_weaker by t e n d k n1 d1 k1 hn hd hk p = record {
  concludes = p.concludes;
  holes = p.holes;
  valid = p.valid;
  scoped = p.scoped;
  size = omega (arith, p.size);
  shallow = omega (arith, p.shallow);
  narrow = omega (arith, p.narrow);
}

pub extends_more : (by t u : Tree) (e f : Entail) (n m d k : ℕ) → Extends by e n d k t → Extends t f m d k u → ScopedWhere f (conclusion by ∷ []) e → Extends by f (n + m) d k u
extends_more by t u e f n m d k p q wants = record {
  concludes = q.concludes;
  holes = q.holes ∙ p.holes;
  valid = λ preds v. q.valid preds (p.valid preds v);
  scoped = λ preds s v. q.scoped preds s (p.scoped preds (wants preds s (scoped_root preds by v, tt)) v);
  size = omega (arith, p.size, q.size);
  shallow = omega (arith, p.shallow, q.shallow);
  narrow = omega (arith, p.narrow, q.narrow);
}

pub extends_proves : (on : Tables) (by t : Tree) (h e : Entail) (hs : List Entail) (n m d k : ℕ) → Proves on h hs n d k by → Extends by e m d k t → ScopedWhere e hs h → Proves on e hs (n + m) d k t
extends_proves on by t h e hs n m d k p q wants = record {
  concludes = q.concludes;
  holes = q.holes ∙ p.holes;
  valid = λ preds among. q.valid preds (p.valid preds among);
  scoped = λ preds s all. q.scoped preds s (p.scoped preds (wants preds s all) all);
  size = omega (arith, p.size, q.size);
  shallow = omega (arith, p.shallow, q.shallow);
  narrow = omega (arith, p.narrow, q.narrow);
}
