-- The premises wand by wand.
use Rattle.std.proofs.Common.{◌≡◌, ℕ, zero, suc, ◌+◌, ◌*◌, ◌<◌, ◌≤◌, Bool, true, false, List, [], ◌∷◌, length, Option, Some, None, IfSome, refl, ap, sym, ◌∙◌, subst, arith}
use Rattle.std.specs.Prelude.{option_and_then, option_map, cond}
use Rattle.pm_logic.specs.declared.formula.Formula.{Formula}
use Rattle.pm_logic.specs.declared.formula.Formula.TheViews as view
use Rattle.pm_logic.specs.Trees.{Sep, Wand, And, Or, Imp, All, Ex, Later, Pers, Upd}
use Rattle.pm_logic.specs.Size.{nodes_of}
use Rattle.pm_logic.proofs.Views.{view_later}
use Rattle.pm_classes.specs.Persistence.{is_persistent}
use Rattle.pm_classes.specs.Classes.{Parts, parts, under, into_wand}
use Rattle.pm_classes.proofs.Sizes.{has_nodes}
use Rattle.pm_table.specs.Equality.{formula_eq}
use Rattle.pm_table.specs.Terms.{premises_before, premises}
use Rattle.pm_table.proofs.Equals.{formula, formula_same}
use Rattle.pm_apply.specs.Reaching.{steps_for}

-- ---- what is behind a wand is smaller

abbrev IsSmaller : Formula → Option Parts → Type 0
IsSmaller f o = IfSome o (λ p. nodes_of p.second < nodes_of f)

smaller_test : (f : Formula) (c : Bool) (p : Parts) → nodes_of p.second < nodes_of f → IsSmaller f (cond c (Some p) None)
smaller_test f true p h = h
smaller_test f false p h = tt

smaller_later : (a : Formula) (o : Option Parts) → IsSmaller a o → IsSmaller (Later a) (option_map (under view.Later) o)
unfolding nodes_of
smaller_later a (Some p) h = let same : nodes_of (view.Later p.second) ≡ suc (nodes_of p.second) = ap nodes_of (view_later p.second) in omega (arith, h, same)
smaller_later a None h = tt

smaller_pers : (a : Formula) (o : Option Parts) → IsSmaller a o → IsSmaller (Pers a) o
unfolding nodes_of
smaller_pers a (Some p) h = omega (arith, h)
smaller_pers a None h = tt

smaller : (f : Formula) → IsSmaller f (into_wand f)
unfolding into_wand nodes_of
smaller (Wand a b) = omega arith
smaller (Imp a b) = smaller_test (Imp a b) (is_persistent a) (parts a b) (omega arith)
smaller (Later a) = smaller_later a (into_wand a) (smaller a)
smaller (Pers a) = smaller_pers a (into_wand a) (smaller a)
smaller _ = tt

pub second_smaller : (r : Formula) (p : Parts) → into_wand r ≡ Some p → nodes_of p.second < nodes_of r
second_smaller r p e = subst (IsSmaller r) e (smaller r)

-- ---- the test

pub same_formula : (f g : Formula) → f ≡ g → formula_eq f g ≡ true
same_formula f g e = subst (λ x. formula_eq f x ≡ true) e (formula_same f)

not_true : (b : Bool) → (b ≡ true → ⊥) → b ≡ false
not_true true h = absurd (h refl)
not_true false h = refl

pub other_formula : (f g : Formula) → (f ≡ g → ⊥) → formula_eq f g ≡ false
other_formula f g differs = not_true (formula_eq f g) (λ e. differs (formula f g e))

-- ---- the premises on the way

abbrev onward : (c r : Formula) → (Parts → Option (List Formula)) → Option Parts → Option (List Formula)
onward c r next o = cond (formula_eq r c) (Some []) (option_and_then (λ (p : Parts). option_map (λ ps. p.first ∷ ps) (next p)) o)

same_onward : (c r : Formula) (o : Option Parts) (f g : Parts → Option (List Formula)) → ((p : Parts) → o ≡ Some p → f p ≡ g p) → onward c r f o ≡ onward c r g o
same_onward c r None f g each = refl
same_onward c r (Some p) f g each = ap (λ x. cond (formula_eq r c) (Some []) (option_map (λ ps. p.first ∷ ps) x)) (each p refl)

-- more steps than nodes change nothing
enough : (n m : ℕ) (c r : Formula) → nodes_of r ≤ n → nodes_of r ≤ m → premises_before n c r ≡ premises_before m c r
unfolding premises_before
enough zero m c r le le1 = absurd (let some = has_nodes r in omega arith)
enough (suc n) zero c r le le1 = absurd (let some = has_nodes r in omega arith)
enough (suc n) (suc m) c r le le1 =
    same_onward c r (into_wand r) (λ (p : Parts). premises_before n c p.second) (λ (p : Parts). premises_before m c p.second) (λ p e.
    let less = second_smaller r p e in enough n m c p.second (omega (arith, less, le)) (omega (arith, less, le1)))

premises_are : (c r : Formula) → premises c r ≡ onward c r (λ (p : Parts). premises c p.second) (into_wand r)
unfolding premises_before
premises_are c r =
    enough (nodes_of r) (suc (nodes_of r)) c r (omega arith) (omega arith)
    ∙ same_onward c r (into_wand r) (λ (p : Parts). premises_before (nodes_of r) c p.second) (λ (p : Parts). premises c p.second) (λ p e.
    let less = second_smaller r p e in enough (nodes_of r) (nodes_of p.second) c p.second (omega (arith, less)) (omega arith))

pub premises_none : (c r : Formula) → r ≡ c → premises c r ≡ Some []
premises_none c r e = premises_are c r ∙ ap (λ b. cond b (Some []) (option_and_then (λ (p : Parts). option_map (λ ps. p.first ∷ ps) (premises c p.second)) (into_wand r))) (same_formula r c e)

module _ (c r : Formula) (differs : r ≡ c → ⊥) where
  by_wand : premises c r ≡ option_and_then (λ (p : Parts). option_map (λ ps. p.first ∷ ps) (premises c p.second)) (into_wand r)
  by_wand = premises_are c r ∙ ap (λ b. cond b (Some []) (option_and_then (λ (p : Parts). option_map (λ ps. p.first ∷ ps) (premises c p.second)) (into_wand r))) (other_formula r c differs)

  pub premises_stop : into_wand r ≡ None → premises c r ≡ None
  premises_stop e = by_wand ∙ ap (option_and_then (λ (p : Parts). option_map (λ ps. p.first ∷ ps) (premises c p.second))) e

  pub premises_more : (p : Parts) → into_wand r ≡ Some p → premises c r ≡ option_map (λ ps. p.first ∷ ps) (premises c p.second)
  premises_more p e = by_wand ∙ ap (option_and_then (λ (p : Parts). option_map (λ ps. p.first ∷ ps) (premises c p.second))) e

  some_first : (o : Option Parts) (ps : List Formula) → option_and_then (λ (p : Parts). option_map (λ ps. p.first ∷ ps) (premises c p.second)) o ≡ Some ps → (p : Formula) × (qs : List Formula) × (ps ≡ p ∷ qs)
  some_first None ps e = absurd cc
  some_first (Some x) ps e = of_map x.first (premises c x.second) e
    where
      of_map : (f : Formula) (o : Option (List Formula)) → option_map (λ ps. f ∷ ps) o ≡ Some ps → (p : Formula) × (qs : List Formula) × (ps ≡ p ∷ qs)
      of_map f None h = absurd cc
      of_map f (Some qs) h = (f, qs, cc)

  -- there is a premise where the conclusion isn't the formula itself
  pub some_premise : (ps : List Formula) → premises c r ≡ Some ps → (p : Formula) × (qs : List Formula) × (ps ≡ p ∷ qs)
  some_premise ps e = some_first (into_wand r) ps (sym by_wand ∙ e)

-- ---- the rules on the way

steps_grow : (m n : ℕ) → m ≤ n → steps_for m ≤ steps_for n
steps_grow zero n le = omega arith
steps_grow (suc m) zero le = absurd (omega (arith, le))
steps_grow (suc m) (suc n) le = omega (arith, le, steps_grow m n (omega (arith, le)))

pub steps_more : (m n : ℕ) → m < n → steps_for m + (200 * n + 40) ≤ steps_for n
steps_more m zero lt = absurd (omega (arith, lt))
steps_more m (suc n) lt = omega (arith, steps_grow m n (omega (arith, lt)))

product : (a b : ℕ) → a * suc b ≡ a + a * b
product a b = omega arith

turned : (a b : ℕ) → suc a * b ≡ b + a * b
turned a b = omega arith

-- the rules of all wands, as a square of the nodes
pub steps_within : (n : ℕ) → steps_for n ≤ 240 * (n * suc n)
steps_within zero = omega arith
steps_within (suc n) = omega (arith, steps_within n, turned n (suc (suc n)), product n (suc n))
