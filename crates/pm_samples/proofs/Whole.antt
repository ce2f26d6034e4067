-- What is built here can be written down.
use Rattle.std.proofs.Common.{◌≡◌, ℕ, zero, suc, ◌+◌, ◌*◌, ◌≤◌, List, [], ◌∷◌, ◌++◌, refl, sym, ap, subst, ◌∙◌, arith}
use Rattle.std.specs.Prelude.{max, map, slice_get, Some, IsTrue}
use Rattle.std.specs.List.{AllByRecursion}
use Rattle.pm_logic.specs.declared.formula.Formula.{Formula}
use Rattle.pm_logic.specs.declared.formula.Formula.TheVariants.{Pure as Fact}
use Rattle.pm_logic.specs.declared.formula.Formula.TheViews as view
use Rattle.pm_logic.specs.declared.formula.Pure.TheVariants.{True}
use Rattle.pm_logic.specs.declared.formula.Pred.{Pred}
use Rattle.pm_logic.specs.declared.formula.Preds.{Preds}
use Rattle.pm_logic.specs.declared.limits.TheConstants.{MAX_LINE_LEVELS}
use Rattle.pm_logic.specs.Scope.{Scoped}
use Rattle.pm_logic.specs.Size.{depth_of}
use Rattle.pm_rules.specs.declared.pattern.Binary.TheVariants as two
use Rattle.pm_rules.specs.declared.rules.Entail.{Entail}
use Rattle.pm_names.specs.Names.{is_name}
use Rattle.pm_dtext.specs.Texts.{arities_of}
use Rattle.pm_check.specs.Fronts.{EachBehind}
use Rattle.pm_check.specs.Table.{BeginsTable}
use Rattle.pm_check.specs.Derivation.{IsDerivation}
use Rattle.pm_check.proofs.Growing.{each_none, each_more}
use Rattle.pm_check.proofs.Tables.{table_none}
use Rattle.pm_proof.specs.Trees.{Tree, Hole, Axiom, First, Second, Both, entail, empty, conclusion, holes_of, variables, splice, side_depth}
use Rattle.pm_proof.specs.Known.{Proves, Every, FillProves}
use Rattle.pm_proof.specs.Valid.{EntailScoped}
use Rattle.pm_proof.proofs.Scoping.{scoped_fits}
use Rattle.pm_schemes.specs.Sketches.{deepest}
use Rattle.pm_schemes.proofs.Scopes.{scoped_two}
use Rattle.pm_schemes.proofs.Depths.{depth_two}
use Rattle.pm_star.specs.Stars.{Moves}
use Rattle.pm_star.proofs.Scoping.{truth_scoped, depth_truth}
use Rattle.pm_write.specs.declared.writing.Named.{Named}
use Rattle.pm_write.specs.Derived.{statement_of, IsOneOf, IsWritable, AreWritable}
use Rattle.pm_samples.specs.Whole.{IsWhole, IsChain, IsStatable, only}

-- ---- the table of no predicates

none_begin : BeginsTable [] []
none_begin = table_none [] (omega arith, tt)

pub none_begins : (preds : Preds) → preds.list ≡ [] → BeginsTable (arities_of preds.list) preds.list
none_begins preds none = subst (λ (qs : List Pred). BeginsTable (arities_of qs) qs) (sym none) none_begin

-- ---- bounds

within : (e : Entail) (hs : List Entail) (n d f : ℕ) (t : Tree) → d ≤ f → Proves Every e hs n d 0 t → Proves Every e hs n f 0 t
within e hs n d f t le p = record { concludes = p.concludes; holes = p.holes; valid = p.valid; scoped = p.scoped; size = p.size; shallow = omega (arith, le, p.shallow); narrow = p.narrow }

whole : (e : Entail) (n d : ℕ) (t : Tree) → d ≤ side_depth e + 8 → Proves Every e [] n d 0 t → IsWhole t
whole e n d t le p =
    (n, subst (λ (x : Entail). Proves Every x [] n (side_depth x + 8) 0 t) (sym p.concludes) (within e [] n d (side_depth e + 8) t le p))

pub moved_whole : (k n : ℕ) (l r : Formula) (t : Tree) → k ≡ 0 → Moves k n l r t → IsWhole t
moved_whole k n l r t none p = whole (entail 0 l r) (100 * (n + 1)) (side_depth (entail 0 l r) + 8) t (omega arith) (subst (λ (j : ℕ). Moves j n l r t) none p)

-- ---- a left side becomes part of what is stated

stating_room : (l r : Formula) → suc (max (depth_of l) (depth_of r)) ≤ max (depth_of (Fact True)) (depth_of (view.Wand l r))
stating_room l r = let w : depth_of (view.Wand l r) ≡ suc (max (depth_of l) (depth_of r)) = depth_two two.Wand l r in omega (arith, w)

sides_within : (a b s : ℕ) → suc (max a b) ≤ s → max a b + 8 ≤ s + 8
sides_within a b s le = omega (arith, le)

letters_within : (a b s : ℕ) → suc (max a b) ≤ s → max a (max b 2) + 3 ≤ s + 8
letters_within a b s le = omega (arith, le)

-- a whole proof has no variables
root_vars : (t : Tree) → (conclusion t).vars ≤ variables t
root_vars (Hole e) = omega arith
root_vars (Axiom r e) = omega arith
root_vars (First r e a) = omega arith
root_vars (Second r e b) = omega arith
root_vars (Both r e a b) = omega arith

whole_vars : (t : Tree) → IsWhole t → (conclusion t).vars ≡ 0
whole_vars t (n, p) = let v = root_vars t in omega (arith, v, p.narrow)

pub whole_root : (t : Tree) → IsWhole t → conclusion t ≡ entail 0 (conclusion t).left (conclusion t).right
whole_root t w = ap (λ (k : ℕ). entail k (conclusion t).left (conclusion t).right) (whole_vars t w)

abbrev pub Stating : Formula → Formula → Tree → Type 0
Stating l r s = Proves Every (entail 0 (Fact True) (view.Wand l r)) (entail 0 l r ∷ []) 5 (deepest (l ∷ r ∷ []) [] + 3) 0 s

-- its hole is what the proof concludes
pub stating_hole : (t s : Tree) → IsWhole t → Stating (conclusion t).left (conclusion t).right s → slice_get (holes_of s) 0 ≡ Some (conclusion t)
stating_hole t s w p = ap (λ (hs : List Entail). slice_get hs 0) p.holes ∙ ap (λ (e : Entail). Some e) (sym (whole_root t w))

pub stated_whole : (t s y : Tree) → IsWhole t → Stating (conclusion t).left (conclusion t).right s → FillProves s 0 t y → IsWhole y
stated_whole t s y w p fill =
    let l : Formula = (conclusion t).left in
    let r : Formula = (conclusion t).right in
    let e : Entail = entail 0 (Fact True) (view.Wand l r) in
    let d : ℕ = side_depth e + 8 in
    let is : conclusion t ≡ entail 0 l r = whole_root t w in
    let room : suc (max (depth_of l) (depth_of r)) ≤ side_depth e = stating_room l r in
    let q : Proves Every (conclusion t) [] w.0 d 0 t = within (conclusion t) [] w.0 (side_depth (conclusion t) + 8) d t (sides_within (depth_of l) (depth_of r) (side_depth e) room) w.1 in
    let p1 : Proves Every e (conclusion t ∷ []) 5 d 0 s = subst (λ (x : Entail). Proves Every e (x ∷ []) 5 d 0 s) (sym is) (within e (entail 0 l r ∷ []) 5 (deepest (l ∷ r ∷ []) [] + 3) d s (letters_within (depth_of l) (depth_of r) (side_depth e) room) p) in
    let open_scoped : (preds : Preds) → EntailScoped preds e → AllByRecursion (EntailScoped preds) [] → EntailScoped preds (conclusion t) = λ preds h none. subst (EntailScoped preds) (sym is) (scoped_two preds 0 two.Wand l r h.1) in
    whole e (5 + w.0) d y (omega arith) (fill Every e (conclusion t ∷ []) [] 5 w.0 d 0 p1 q open_scoped)

-- ---- writing

root_scoped : (preds : Preds) (e : Entail) → e.vars ≡ 0 → e.left ≡ Fact True → Scoped preds 0 e.right → EntailScoped preds e
root_scoped preds e vars left scoped = (
  subst (λ (k : ℕ). Scoped preds k e.left) (sym vars) (subst (Scoped preds 0) (sym left) (truth_scoped preds 0)),
  subst (λ (k : ℕ). Scoped preds k e.right) (sym vars) scoped,
)

root_deep : (e : Entail) → e.left ≡ Fact True → depth_of e.right ≤ 900 → side_depth e + 8 ≤ MAX_LINE_LEVELS
root_deep e left deep =
    let two : depth_of e.left ≡ 2 = ap depth_of left ∙ depth_truth in
    omega (arith, two, deep)

pub statable : (preds : Preds) (e : Entail) → e.vars ≡ 0 → e.left ≡ Fact True → Scoped preds 0 e.right → depth_of e.right ≤ 900 → IsStatable preds e
statable preds e vars left scoped deep = record { vars = vars; left = left; scoped = scoped; deep = deep }

alone : (preds : Preds) (x : Named) → IsTrue (is_name x.name) → IsWhole x.proof → IsStatable preds (conclusion x.proof) → IsWritable preds [] x
alone preds x name (n, p) s = record {
  named = name;
  new = refl;
  closed = s.vars;
  left = s.left;
  valid = p.valid preds tt;
  fits = scoped_fits preds x.proof (p.scoped preds (root_scoped preds (conclusion x.proof) s.vars s.left s.scoped) tt) (omega (arith, p.shallow, root_deep (conclusion x.proof) s.left s.deep)) (omega (arith, p.narrow));
  holes = subst (AllByRecursion (IsOneOf [])) (sym p.holes) tt;
}

pub writable : (preds : Preds) (xs : List Named) (x : Named) → xs ≡ [] ++ x ∷ [] → IsTrue (is_name x.name) → IsWhole x.proof → IsStatable preds (conclusion x.proof) → AreWritable preds xs
writable preds xs x one name w s =
    subst (AreWritable preds) (sym one) (each_more (IsWritable preds) [] x (each_none (IsWritable preds)) (alone preds x name w s))

pub derived : (text : List ℕ) (preds : Preds) (xs : List Named) (name : List ℕ) (t : Tree) → preds.list ≡ [] → xs ≡ [] ++ record { name = name; proof = t } ∷ [] → IsDerivation text preds (map statement_of xs) → IsDerivation text (record { list = [] }) (only name (conclusion t).right)
derived text preds xs name t none one is =
    subst (λ (qs : List Pred). IsDerivation text (record { list = qs }) (only name (conclusion t).right)) none (subst (λ (ys : List Named). IsDerivation text preds (map statement_of ys)) one is)

-- ---- chains

pub chain_of : (hs : List Entail) (n : ℕ) (t : Tree) → Proves Every empty hs n 4 0 t → IsChain hs t
chain_of hs n t p = (n, p)

pub chain_hole : (t : Tree) → t ≡ Hole empty → IsChain (empty ∷ []) t
chain_hole t is = (
  0,
  subst (Proves Every empty (empty ∷ []) 0 4 0) (sym is) (record {
    concludes = refl;
    holes = refl;
    valid = λ preds on. tt;
    scoped = λ preds h all. h;
    size = omega arith;
    shallow = omega (arith, depth_truth);
    narrow = omega arith;
  }),
)

pub chain_filled : (hs gs : List Entail) (i : ℕ) (t x y : Tree) → FillProves t i x y → IsChain hs t → IsChain gs x → IsChain (splice hs i gs) y
chain_filled hs gs i t x y fill (n, p) (m, q) =
    (n + m, fill Every empty hs gs n m 4 0 p (subst (λ (e : Entail). Proves Every e gs m 4 0 x) (sym q.concludes) q) (λ preds h all. subst (EntailScoped preds) (sym q.concludes) h))

pub chain_whole : (t : Tree) → IsChain [] t → IsWhole t
chain_whole t (n, p) = whole empty n 4 t (omega arith) p

pub chain_hole_at : (gs : List Entail) (t x : Tree) → IsChain (empty ∷ []) t → IsChain gs x → slice_get (holes_of t) 0 ≡ Some (conclusion x)
chain_hole_at gs t x (n, p) (m, q) = ap (λ (hs : List Entail). slice_get hs 0) p.holes ∙ ap (λ (e : Entail). Some e) (sym q.concludes)

-- either hole of two
two_at : (i : ℕ) → i ≤ 1 → slice_get (empty ∷ empty ∷ []) i ≡ Some empty
two_at zero le = refl
two_at (suc zero) le = refl
two_at (suc (suc i)) le = absurd (omega (arith, le))

one_left : (i : ℕ) → i ≤ 1 → splice (empty ∷ empty ∷ []) i [] ≡ empty ∷ []
one_left zero le = refl
one_left (suc zero) le = refl
one_left (suc (suc i)) le = absurd (omega (arith, le))

pub twice_hole : (i : ℕ) (t x : Tree) → i ≤ 1 → IsChain (empty ∷ empty ∷ []) t → IsChain [] x → slice_get (holes_of t) i ≡ Some (conclusion x)
twice_hole i t x le (n, p) (m, q) = ap (λ (hs : List Entail). slice_get hs i) p.holes ∙ two_at i le ∙ ap (λ (e : Entail). Some e) (sym q.concludes)

pub twice_filled : (i : ℕ) (t x y : Tree) → i ≤ 1 → FillProves t i x y → IsChain (empty ∷ empty ∷ []) t → IsChain [] x → IsChain (empty ∷ []) y
twice_filled i t x y le fill h k = subst (λ (hs : List Entail). IsChain hs y) (one_left i le) (chain_filled (empty ∷ empty ∷ []) [] i t x y fill h k)
