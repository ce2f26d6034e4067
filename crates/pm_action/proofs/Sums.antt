-- Nodes and depths of lists of formulas.
use Rattle.std.proofs.Common.{◌≡◌, ℕ, zero, suc, ◌+◌, ◌-◌, ◌<◌, ◌≤◌, max, List, [], ◌∷◌, ◌++◌, length, drop, get_or, refl, sym, ap, subst, arith}
use Rattle.pm_logic.specs.declared.formula.Formula.{Formula}
use Rattle.pm_logic.specs.Size.{nodes_of, depth_of}
use Rattle.pm_table.specs.Limits.{all_nodes, greatest_depth}

pub nodes_append : (fs gs : List Formula) → all_nodes (fs ++ gs) ≡ all_nodes fs + all_nodes gs
nodes_append [] gs = omega arith
nodes_append (f ∷ fs) gs = omega (arith, nodes_append fs gs)

pub depth_append : (fs gs : List Formula) → greatest_depth (fs ++ gs) ≡ max (greatest_depth fs) (greatest_depth gs)
depth_append [] gs = omega arith
depth_append (f ∷ fs) gs = omega (arith, depth_append fs gs)

pub from_place : {A : Type 0} (xs : List A) (i : ℕ) (x : A) → i < length xs → x ≡ get_or xs i x → drop i xs ≡ x ∷ drop (suc i) xs
from_place [] i x lt at = absurd (omega (arith, lt))
from_place (y ∷ xs) zero x lt at = ap (λ z. z ∷ xs) (sym at)
from_place (y ∷ xs) (suc i) x lt at = from_place xs i x (omega (arith, lt)) at

-- from the place before on
module _ (fs : List Formula) (i : ℕ) (f : Formula) (some : 0 < i) (within : i ≤ length fs) (at : f ≡ get_or fs (i - 1) f) where
  before : drop (i - 1) fs ≡ f ∷ drop i fs
  before = let here : suc (i - 1) ≡ i = omega (arith, some) in subst (λ n. drop (i - 1) fs ≡ f ∷ drop n fs) here (from_place fs (i - 1) f (omega (arith, some, within)) at)

  pub more_nodes : all_nodes (drop (i - 1) fs) ≡ nodes_of f + all_nodes (drop i fs)
  more_nodes = ap all_nodes before

  pub more_depth : greatest_depth (drop (i - 1) fs) ≡ max (depth_of f) (greatest_depth (drop i fs))
  more_depth = ap greatest_depth before

pub none_left : {A : Type 0} (fs : List A) → drop (length fs) fs ≡ []
none_left [] = refl
none_left (f ∷ fs) = none_left fs
