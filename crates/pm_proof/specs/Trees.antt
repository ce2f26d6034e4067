-- A proof as a tree, and what is read off it.
use Rattle.std.specs.Prelude.{◌≡◌, ℕ, zero, suc, ◌+◌, ◌-◌, ◌^◌, min, max, nat_lt, if◌then◌else◌, Option, None, Some, List, [], ◌∷◌, ◌++◌}
use Rattle.std.specs.Coded.{Coded}
use base.Stored.{Gv, gnil, gnum, gcons}
use Rattle.pm_logic.specs.declared.formula.Formula.{Formula}
use Rattle.pm_logic.specs.declared.formula.Formula.TheVariants.{Pure as Fact}
use Rattle.pm_logic.specs.declared.formula.Pure.TheVariants.{True}
use Rattle.pm_logic.specs.Size.{depth_of}
use Rattle.pm_rules.specs.declared.rules.Entail.{Entail}
use Rattle.pm_rules.specs.declared.rules.Rule.{Rule}
use Rattle.pm_rules.specs.contracts.rules.Entail as entail_row
use Rattle.pm_rules.specs.contracts.rules.Rule as rule_row

-- a hole, or a rule with its conclusion and the premises that it has: none, a first one, a second one, or both
pub data Tree : Type 0 where
  Hole : Entail → Tree
  Axiom : Rule → Entail → Tree
  First : Rule → Entail → Tree → Tree
  Second : Rule → Entail → Tree → Tree
  Both : Rule → Entail → Tree → Tree → Tree

-- k | f ⊢ g
abbrev pub entail : ℕ → Formula → Formula → Entail
entail k f g = record { vars = k; left = f; right = g }

-- the rule with the premises that are there
abbrev pub node : Rule → Option Tree → Option Tree → Entail → Tree
node r None None e = Axiom r e
node r (Some a) None e = First r e a
node r None (Some b) e = Second r e b
node r (Some a) (Some b) e = Both r e a b

abbrev pub conclusion : Tree → Entail
conclusion (Hole e) = e
conclusion (Axiom r e) = e
conclusion (First r e a) = e
conclusion (Second r e b) = e
conclusion (Both r e a b) = e

abbrev pub conclusion_of : Option Tree → Option Entail
conclusion_of None = None
conclusion_of (Some t) = Some (conclusion t)

-- `None` at a hole
abbrev pub rule_of : Tree → Option Rule
rule_of (Hole e) = None
rule_of (Axiom r e) = Some r
rule_of (First r e a) = Some r
rule_of (Second r e b) = Some r
rule_of (Both r e a b) = Some r

abbrev pub first_of : Tree → Option Tree
first_of (Hole e) = None
first_of (Axiom r e) = None
first_of (First r e a) = Some a
first_of (Second r e b) = None
first_of (Both r e a b) = Some a

abbrev pub second_of : Tree → Option Tree
second_of (Hole e) = None
second_of (Axiom r e) = None
second_of (First r e a) = None
second_of (Second r e b) = Some b
second_of (Both r e a b) = Some b

-- the holes from left to right
abbrev pub holes_of : Tree → List Entail
holes_of (Hole e) = e ∷ []
holes_of (Axiom r e) = []
holes_of (First r e a) = holes_of a
holes_of (Second r e b) = holes_of b
holes_of (Both r e a b) = holes_of a ++ holes_of b

-- how many they are
abbrev pub hole_count : Tree → ℕ
hole_count (Hole e) = 1
hole_count (Axiom r e) = 0
hole_count (First r e a) = hole_count a
hole_count (Second r e b) = hole_count b
hole_count (Both r e a b) = hole_count a + hole_count b

-- the number of rules
abbrev pub rules : Tree → ℕ
rules (Hole e) = 0
rules (Axiom r e) = 1
rules (First r e a) = rules a + 1
rules (Second r e b) = rules b + 1
rules (Both r e a b) = rules a + rules b + 1

abbrev pub side_depth : Entail → ℕ
side_depth e = max (depth_of e.left) (depth_of e.right)

-- the depth of the deepest formula
abbrev pub depth : Tree → ℕ
depth (Hole e) = side_depth e
depth (Axiom r e) = side_depth e
depth (First r e a) = max (side_depth e) (depth a)
depth (Second r e b) = max (side_depth e) (depth b)
depth (Both r e a b) = max (side_depth e) (max (depth a) (depth b))

-- the greatest number of variables
abbrev pub variables : Tree → ℕ
variables (Hole e) = e.vars
variables (Axiom r e) = e.vars
variables (First r e a) = max e.vars (variables a)
variables (Second r e b) = max e.vars (variables b)
variables (Both r e a b) = max e.vars (max (variables a) (variables b))

-- the tree with x at hole i, counted from 0
abbrev pub filled : Tree → ℕ → Tree → Tree
filled (Hole e) i x = x
filled (Axiom r e) i x = Axiom r e
filled (First r e a) i x = First r e (filled a i x)
filled (Second r e b) i x = Second r e (filled b i x)
filled (Both r e a b) i x = if nat_lt i (hole_count a) then Both r e (filled a i x) b else Both r e a (filled b (i - hole_count a) x)

-- the list with zs in place of item i
abbrev pub splice : {A : Type 0} → List A → ℕ → List A → List A
splice [] i zs = []
splice (x ∷ xs) zero zs = zs ++ xs
splice (x ∷ xs) (suc i) zs = x ∷ splice xs i zs

-- ---- how the code keeps a tree

-- ⌜True⌝ ⊢ ⌜True⌝, which takes no memory
abbrev pub empty : Entail
empty = entail 0 (Fact True) (Fact True)

-- the number of holes as far as 64 bits go
abbrev pub IsCount : ℕ → Tree → Type 0
IsCount n t = n ≡ min (hole_count t) (2 ^ 64 - 1)

abbrev pub levels : Tree → ℕ
levels (Hole e) = 0
levels (Axiom r e) = 0
levels (First r e a) = levels a + 1
levels (Second r e b) = levels b + 1
levels (Both r e a b) = max (levels a) (levels b) + 1

pub e_code : Entail → Gv
e_code = entail_row.the_row.coded.code

pub r_code : Rule → Gv
r_code = rule_row.the_row.coded.code

abbrev code : Tree → Gv
code (Hole e) = gcons gnil (e_code e)
code (Axiom r e) = gcons (gnum 0) (gcons (r_code r) (e_code e))
code (First r e a) = gcons (gcons gnil gnil) (gcons (gcons (r_code r) (e_code e)) (code a))
code (Second r e a) = gcons (gcons gnil (gcons gnil gnil)) (gcons (gcons (r_code r) (e_code e)) (code a))
code (Both r e a b) = gcons (gcons (gcons gnil gnil) gnil) (gcons (gcons (r_code r) (e_code e)) (gcons (code a) (code b)))

e_inj : (x y : Entail) → e_code x ≡ e_code y → x ≡ y
unfolding e_code
e_inj = entail_row.the_row.coded.inj

r_inj : (x y : Rule) → r_code x ≡ r_code y → x ≡ y
unfolding r_code
r_inj = rule_row.the_row.coded.inj

pub code_inj : (x y : Tree) → code x ≡ code y → x ≡ y
code_inj (Hole e) (Hole e') h = let pe : e ≡ e' = e_inj e e' (cc) in cc
code_inj (Hole e) (Axiom r' e') h = cc
code_inj (Hole e) (First r' e' a') h = cc
code_inj (Hole e) (Second r' e' a') h = cc
code_inj (Hole e) (Both r' e' a' b') h = cc
code_inj (Axiom r e) (Hole e') h = cc
code_inj (Axiom r e) (Axiom r' e') h = let pe : e ≡ e' = e_inj e e' (cc) in let pr : r ≡ r' = r_inj r r' (cc) in cc
code_inj (Axiom r e) (First r' e' a') h = cc
code_inj (Axiom r e) (Second r' e' a') h = cc
code_inj (Axiom r e) (Both r' e' a' b') h = cc
code_inj (First r e a) (Hole e') h = cc
code_inj (First r e a) (Axiom r' e') h = cc
code_inj (First r e a) (First r' e' a') h = let pe : e ≡ e' = e_inj e e' (cc) in let pr : r ≡ r' = r_inj r r' (cc) in let pa : a ≡ a' = code_inj a a' (cc) in cc
code_inj (First r e a) (Second r' e' a') h = cc
code_inj (First r e a) (Both r' e' a' b') h = cc
code_inj (Second r e a) (Hole e') h = cc
code_inj (Second r e a) (Axiom r' e') h = cc
code_inj (Second r e a) (First r' e' a') h = cc
code_inj (Second r e a) (Second r' e' a') h = let pe : e ≡ e' = e_inj e e' (cc) in let pr : r ≡ r' = r_inj r r' (cc) in let pa : a ≡ a' = code_inj a a' (cc) in cc
code_inj (Second r e a) (Both r' e' a' b') h = cc
code_inj (Both r e a b) (Hole e') h = cc
code_inj (Both r e a b) (Axiom r' e') h = cc
code_inj (Both r e a b) (First r' e' a') h = cc
code_inj (Both r e a b) (Second r' e' a') h = cc
code_inj (Both r e a b) (Both r' e' a' b') h = let pe : e ≡ e' = e_inj e e' (cc) in let pr : r ≡ r' = r_inj r r' (cc) in let pa : a ≡ a' = code_inj a a' (cc) in let pb : b ≡ b' = code_inj b b' (cc) in cc

unfoldable pub tree_code : Coded Tree
tree_code = record { code = code; inj = code_inj }
