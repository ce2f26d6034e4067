-- What is taken apart by its kind.
use Rattle.std.proofs.Common.{◌≡◌, ℕ, ◌+◌, ◌*◌, ◌≤◌, [], ◌∷◌, refl, sym, ◌∙◌, ap, ap₂, subst, arith, Option, Some, None}
use Rattle.pm_logic.specs.declared.formula.Formula.{Formula}
use Rattle.pm_logic.specs.declared.formula.Formula.TheViews as view
use Rattle.pm_logic.specs.Size.{depth_of, nodes_of}
use Rattle.pm_goal.specs.declared.work.Kind.{Kind}
use Rattle.pm_goal.specs.declared.work.Kind.TheVariants.{Int, Spat}
use Rattle.pm_goal.specs.Left.{of_kind}
use Rattle.pm_rules.specs.declared.rules.Entail.{Entail}
use Rattle.pm_proof.specs.Trees.{Tree, Hole, Axiom, First, Second, Both, entail, conclusion, side_depth, depth}
use Rattle.pm_proof.specs.Known.{Proves, Every}
use Rattle.pm_proof.proofs.Fills.{weaker}
use Rattle.pm_schemes.specs.Sketches.{deepest}
use Rattle.pm_classes.specs.declared.entry.Pair.{Pair}
use Rattle.pm_classes.specs.declared.entry.One.{One}
use Rattle.pm_classes.specs.Classes.{Parts, into_and, into_or, into_exist}
use Rattle.pm_classes.specs.Entries.{HasProof, PairAnswers, OneAnswers, SepAnswer, AndAnswer, OrAnswer, ExistAnswer}
use Rattle.pm_classes.proofs.Sizes.{has_levels, depth_pers, nodes_pers, depth_or, depth_ex}
use Rattle.pm_table.specs.Destructs.{into_parts}
use Rattle.pm_intro.specs.Closing.{Closes}
use Rattle.pm_intro.specs.Hands.{PartsAnswer, CasesAnswer, BodyAnswer, HasParts, HasCases, HasBody, parts_say}

-- ---- entries of formulas by what they say of two parts, or one

module _ (E : Formula → Formula → Entail) (k : ℕ) where
  abbrev pub says : Parts → Entail
  says p = E p.first p.second

  pub pair_proof : (f : Formula) (o : Option Parts) (r : Pair) → PairAnswers says k f o (Some r) → HasProof k f (E r.first r.second) r.proof
  pair_proof f None r a = absurd a
  pair_proof f (Some p) r a = subst (λ x. HasProof k f (E x r.second) r.proof) (sym a.first) (subst (λ x. HasProof k f (E p.first x) r.proof) (sym a.second) a.proof)

  pub pair_none : (F : Formula → Formula → Entail) (f g : Formula) (o : Option Parts) → PairAnswers says k f o None → PairAnswers (λ p. F p.first p.second) k g o None
  pair_none F f g None a = tt
  pair_none F f g (Some p) a = absurd a

  -- another entry with the same parts, and a proof of what it says
  pub pair_some : (F : Formula → Formula → Entail) (f g : Formula) (o : Option Parts) (r r1 : Pair) → PairAnswers says k f o (Some r) → r1.first ≡ r.first → r1.second ≡ r.second → HasProof k g (F r1.first r1.second) r1.proof → PairAnswers (λ p. F p.first p.second) k g o (Some r1)
  pair_some F f g None r r1 a e1 e2 h = absurd a
  pair_some F f g (Some p) r r1 a e1 e2 h = record {
    first = e1 ∙ a.first;
    second = e2 ∙ a.second;
    proof = subst (λ x. HasProof k g (F x p.second) r1.proof) (e1 ∙ a.first) (subst (λ x. HasProof k g (F r1.first x) r1.proof) (e2 ∙ a.second) h);
  }

  -- the parts are those of the table
  pub pair_is : (f : Formula) (o : Option Parts) (r : Pair) → PairAnswers says k f o (Some r) → o ≡ Some (record { first = r.first; second = r.second })
  pair_is f None r a = absurd a
  pair_is f (Some p) r a = ap₂ (λ x y. Some (record { first = x; second = y })) (sym a.first) (sym a.second)

  pub none_is : (f : Formula) (o : Option Parts) → PairAnswers says k f o None → o ≡ None
  none_is f None a = refl
  none_is f (Some p) a = absurd a

module _ (E : Formula → Entail) (k : ℕ) where
  pub one_proof : (f : Formula) (o : Option Formula) (r : One) → OneAnswers E k f o (Some r) → HasProof k f (E r.formula) r.proof
  one_proof f None r a = absurd a
  one_proof f (Some g) r a = subst (λ x. HasProof k f (E x) r.proof) (sym a.formula) a.proof

  pub one_none : (F : Formula → Entail) (f g : Formula) (o : Option Formula) → OneAnswers E k f o None → OneAnswers F k g o None
  one_none F f g None a = tt
  one_none F f g (Some p) a = absurd a

  pub one_some : (F : Formula → Entail) (f g : Formula) (o : Option Formula) (r r1 : One) → OneAnswers E k f o (Some r) → r1.formula ≡ r.formula → HasProof k g (F r1.formula) r1.proof → OneAnswers F k g o (Some r1)
  one_some F f g None r r1 a e h = absurd a
  one_some F f g (Some p) r r1 a e h = record { formula = e ∙ a.formula; proof = subst (λ x. HasProof k g (F x) r1.proof) (e ∙ a.formula) h }

  pub one_is : (f : Formula) (o : Option Formula) (r : One) → OneAnswers E k f o (Some r) → o ≡ Some r.formula
  one_is f None r a = absurd a
  one_is f (Some p) r a = ap Some (sym a.formula)

  pub nothing_is : (f : Formula) (o : Option Formula) → OneAnswers E k f o None → o ≡ None
  nothing_is f None a = refl
  nothing_is f (Some p) a = absurd a

-- ---- under a box

-- a proof of a formula is within the bounds of one of its box
wider : (k : ℕ) (f : Formula) (e : Entail) (t : Tree) → HasProof k f e t → HasProof k (view.Pers f) e t
wider k f e t p = weaker Every e [] (200 * nodes_of f) (depth_of f + 8) (k + depth_of f) (200 * nodes_of (view.Pers f)) (depth_of (view.Pers f) + 8) (k + depth_of (view.Pers f)) t (omega (arith, nodes_pers f)) (omega (arith, depth_pers f)) (omega (arith, depth_pers f)) p

wider_pair : (says : Parts → Entail) (k : ℕ) (f : Formula) (o : Option Parts) (r : Option Pair) → PairAnswers says k f o r → PairAnswers says k (view.Pers f) o r
wider_pair says k f None None a = tt
wider_pair says k f None (Some r) a = absurd a
wider_pair says k f (Some p) None a = absurd a
wider_pair says k f (Some p) (Some r) a = record { first = a.first; second = a.second; proof = wider k f (says p) r.proof a.proof }

pub int_parts : (z : Kind) (k : ℕ) (f : Formula) (r : Option Pair) → z ≡ Int → AndAnswer k f r → PartsAnswer z k f r
int_parts z k f r is a = subst (λ x. PartsAnswer x k f r) (sym is) (wider_pair (parts_say Int k f) k f (into_and f) r a)

pub spat_parts : (z : Kind) (k : ℕ) (f : Formula) (r : Option Pair) → z ≡ Spat → SepAnswer k f r → PartsAnswer z k f r
spat_parts z k f r is a = subst (λ x. PartsAnswer x k f r) (sym is) a

pub root_deep : (t : Tree) → side_depth (conclusion t) ≤ depth t
root_deep (Hole e) = omega arith
root_deep (Axiom r e) = omega arith
root_deep (First r e a) = omega arith
root_deep (Second r e b) = omega arith
root_deep (Both r e a b) = omega arith

-- the sides of what is proved are within the proof's depth
pub right_deep : (k n d j : ℕ) (l r : Formula) (t : Tree) → Proves Every (entail k l r) [] n d j t → depth_of r ≤ d
right_deep k n d j l r t p = let e : side_depth (conclusion t) ≡ side_depth (entail k l r) = ap side_depth p.concludes in omega (arith, root_deep t, p.shallow, e)

pub boxed_cases : (k : ℕ) (f a b : Formula) (by t : Tree) → HasProof k f (entail k f (view.Or a b)) by
    → Closes by (entail k (view.Pers f) (view.Or (view.Pers a) (view.Pers b))) 3 (deepest (f ∷ a ∷ b ∷ []) [] + 2) k t
    → HasProof k (view.Pers f) (entail k (view.Pers f) (view.Or (view.Pers a) (view.Pers b))) t
boxed_cases k f a b by t p closes =
    let n = 200 * nodes_of f in
    let d = depth_of f + 9 in
    let j = k + depth_of f in
    let e = entail k (view.Pers f) (view.Or (view.Pers a) (view.Pers b)) in
    let p1 : Proves Every (conclusion by) [] n d j by = subst (λ x. Proves Every x [] n d j by) (sym p.concludes) (weaker Every (entail k f (view.Or a b)) [] n (depth_of f + 8) j n d j by (omega arith) (omega arith) (omega arith) p) in
    let q : Proves Every e [] (3 + n) d j t = closes [] n d j (omega (arith, has_levels f, right_deep k n (depth_of f + 8) j f (view.Or a b) by p, depth_or a b)) (omega arith) p1 in
    weaker Every e [] (3 + n) d j (200 * nodes_of (view.Pers f)) (depth_of (view.Pers f) + 8) (k + depth_of (view.Pers f)) t (omega (arith, nodes_pers f)) (omega (arith, depth_pers f)) (omega (arith, depth_pers f)) q

pub boxed_body : (k : ℕ) (f b : Formula) (by t : Tree) → HasProof k f (entail k f (view.Ex b)) by
    → Closes by (entail k (view.Pers f) (view.Ex (view.Pers b))) 3 (deepest (f ∷ b ∷ []) [] + 2) k t
    → HasProof k (view.Pers f) (entail k (view.Pers f) (view.Ex (view.Pers b))) t
boxed_body k f b by t p closes =
    let n = 200 * nodes_of f in
    let d = depth_of f + 9 in
    let j = k + depth_of f in
    let e = entail k (view.Pers f) (view.Ex (view.Pers b)) in
    let p1 : Proves Every (conclusion by) [] n d j by = subst (λ x. Proves Every x [] n d j by) (sym p.concludes) (weaker Every (entail k f (view.Ex b)) [] n (depth_of f + 8) j n d j by (omega arith) (omega arith) (omega arith) p) in
    let q : Proves Every e [] (3 + n) d j t = closes [] n d j (omega (arith, has_levels f, right_deep k n (depth_of f + 8) j f (view.Ex b) by p, depth_ex b)) (omega arith) p1 in
    weaker Every e [] (3 + n) d j (200 * nodes_of (view.Pers f)) (depth_of (view.Pers f) + 8) (k + depth_of (view.Pers f)) t (omega (arith, nodes_pers f)) (omega (arith, depth_pers f)) (omega (arith, depth_pers f)) q

-- ---- alternatives and bodies by kind

pub spat_cases : (z : Kind) (k : ℕ) (f : Formula) (r : Pair) → z ≡ Spat → OrAnswer k f (Some r) → CasesAnswer z k f (Some r)
spat_cases z k f r is a = subst (λ x. CasesAnswer x k f (Some r)) (sym is) a

pub int_cases : (z : Kind) (k : ℕ) (f : Formula) (r r1 : Pair) → z ≡ Int → OrAnswer k f (Some r) → r1.first ≡ r.first → r1.second ≡ r.second → HasCases Int k f r1 → CasesAnswer z k f (Some r1)
int_cases z k f r r1 is a e1 e2 h = subst (λ x. CasesAnswer x k f (Some r1)) (sym is) (pair_some (λ x y. entail k f (view.Or x y)) k (λ x y. entail k (view.Pers f) (view.Or (view.Pers x) (view.Pers y))) f (view.Pers f) (into_or f) r r1 a e1 e2 h)

pub no_cases : (z : Kind) (k : ℕ) (f : Formula) → OrAnswer k f None → CasesAnswer z k f None
no_cases z k f a = pair_none (λ x y. entail k f (view.Or x y)) k (λ x y. entail k (of_kind z f) (view.Or (of_kind z x) (of_kind z y))) f (of_kind z f) (into_or f) a

pub spat_body : (z : Kind) (k : ℕ) (f : Formula) (r : One) → z ≡ Spat → ExistAnswer k f (Some r) → BodyAnswer z k f (Some r)
spat_body z k f r is a = subst (λ x. BodyAnswer x k f (Some r)) (sym is) a

pub int_body : (z : Kind) (k : ℕ) (f : Formula) (r r1 : One) → z ≡ Int → ExistAnswer k f (Some r) → r1.formula ≡ r.formula → HasBody Int k f r1 → BodyAnswer z k f (Some r1)
int_body z k f r r1 is a e h = subst (λ x. BodyAnswer x k f (Some r1)) (sym is) (one_some (λ x. entail k f (view.Ex x)) k (λ x. entail k (view.Pers f) (view.Ex (view.Pers x))) f (view.Pers f) (into_exist f) r r1 a e h)

pub no_body : (z : Kind) (k : ℕ) (f : Formula) → ExistAnswer k f None → BodyAnswer z k f None
no_body z k f a = one_none (λ x. entail k f (view.Ex x)) k (λ x. entail k (of_kind z f) (view.Ex (of_kind z x))) f (of_kind z f) (into_exist f) a

-- what the code is handed has the proof that the table's entry says
pub cases_proof : (z : Kind) (k : ℕ) (f : Formula) (r : Pair) → CasesAnswer z k f (Some r) → HasCases z k f r
cases_proof z k f r a = pair_proof (λ x y. entail k (of_kind z f) (view.Or (of_kind z x) (of_kind z y))) k (of_kind z f) (into_or f) r a

pub or_proof : (k : ℕ) (f : Formula) (r : Pair) → OrAnswer k f (Some r) → HasProof k f (entail k f (view.Or r.first r.second)) r.proof
or_proof k f r a = pair_proof (λ x y. entail k f (view.Or x y)) k f (into_or f) r a

pub exist_proof : (k : ℕ) (f : Formula) (r : One) → ExistAnswer k f (Some r) → HasProof k f (entail k f (view.Ex r.formula)) r.proof
exist_proof k f r a = one_proof (λ x. entail k f (view.Ex x)) k f (into_exist f) r a

pub body_proof : (z : Kind) (k : ℕ) (f : Formula) (r : One) → BodyAnswer z k f (Some r) → HasBody z k f r
body_proof z k f r a = one_proof (λ x. entail k (of_kind z f) (view.Ex (of_kind z x))) k (of_kind z f) (into_exist f) r a

pub parts_proof : (z : Kind) (k : ℕ) (f : Formula) (r : Pair) → PartsAnswer z k f (Some r) → HasParts z k f r
parts_proof z k f r a = pair_proof (λ x y. entail k (of_kind z f) (view.Sep (of_kind z x) (of_kind z y))) k (of_kind z f) (into_parts z f) r a
