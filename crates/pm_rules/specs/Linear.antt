-- Linear atoms and the certificates by which facts give an atom.
use Rattle.std.specs.Prelude.{◌≡◌, ◌⊎◌, ◌≤◌, ◌^◌, ℕ, ℤ, pos, ◌+ℤ◌, ◌-ℤ◌, ◌*ℤ◌, neg_ℤ, ◌≤ℤ◌, nat_eq, if◌then◌else◌, List, [], ◌∷◌, length, map, Option, Some, None, IsSome}
use Rattle.std.specs.List.{AllByRecursion}
use Rattle.pm_logic.specs.declared.formula.Term.{Term}
use Rattle.pm_logic.specs.declared.formula.Term.TheVariants.{Lit, Var}
use Rattle.pm_logic.specs.declared.formula.Pure.{Pure}
use Rattle.pm_logic.specs.declared.formula.Pure.TheVariants.{True, False, Eq, Le, Lt}
use Rattle.pm_logic.specs.declared.formula.Formula.{Formula}
use Rattle.pm_logic.specs.declared.formula.Formula.TheVariants.{Pure as Fact}
use Rattle.pm_logic.specs.Trees.{add, sub, neg, scale, both, either, nope}
use Rattle.pm_linform.specs.Entries.{IsAtMost}
use Rattle.pm_rules.specs.Equations.{all_of}

-- ---- the form of a term: the coefficient of each index, and the constant

unfoldable pub coefficient_of : Term → ℕ → ℤ
coefficient_of (Lit z) i = pos 0
coefficient_of (Var j) i = if nat_eq j i then pos 1 else pos 0
coefficient_of (add s t) i = coefficient_of s i +ℤ coefficient_of t i
coefficient_of (sub s t) i = coefficient_of s i -ℤ coefficient_of t i
coefficient_of (neg t) i = neg_ℤ (coefficient_of t i)
coefficient_of (scale z t) i = z *ℤ coefficient_of t i

unfoldable pub constant_of : Term → ℤ
constant_of (Lit z) = z
constant_of (Var j) = pos 0
constant_of (add s t) = constant_of s +ℤ constant_of t
constant_of (sub s t) = constant_of s -ℤ constant_of t
constant_of (neg t) = neg_ℤ (constant_of t)
constant_of (scale z t) = z *ℤ constant_of t

-- no entry of the term's form is larger than 2^62 in size
pub record HasSmallForm (t : Term) : Type 0 where
  pub coefficients : (i : ℕ) → IsAtMost (pos (2 ^ 62)) (coefficient_of t i)
  pub constant : IsAtMost (pos (2 ^ 62)) (constant_of t)

-- and so it is with each subterm
unfoldable pub IsSmall : Term → Type 0
IsSmall (Lit z) = HasSmallForm (Lit z)
IsSmall (Var j) = HasSmallForm (Var j)
IsSmall (add s t) = HasSmallForm (add s t) × IsSmall s × IsSmall t
IsSmall (sub s t) = HasSmallForm (sub s t) × IsSmall s × IsSmall t
IsSmall (neg t) = HasSmallForm (neg t) × IsSmall t
IsSmall (scale z t) = HasSmallForm (scale z t) × IsSmall t

-- ---- the atoms

infixl 6 ◌−◌
abbrev pub ◌−◌ : Term → Term → Term
s − t = sub s t

abbrev pub one_more : Term → Term
one_more t = add t (Lit (pos 1))

abbrev pub number : ℕ → Term
number n = Lit (pos n)

-- what is at most 0 where the atom holds, and what is at most 0 where it doesn't
pub record Atom : Type 0 where
  pub holds : Term
  pub fails : Term

infix 4 ◌or◌
abbrev pub ◌or◌ : Term → Term → Option Atom
a or b = Some (record { holds = a; fails = b })

-- the linear atoms; an equation s = t has two ways to fail, of which t < s is the one here and s < t that of t = s
unfoldable pub atom : Pure → Option Atom
atom (Le s t) = s − t or one_more (t − s)
atom (Lt s t) = one_more (s − t) or t − s
atom (Eq s t) = s − t or one_more (t − s)
atom True = number 0 or number 1
atom False = number 1 or number 0
atom (nope (Le s t)) = one_more (t − s) or s − t
atom (nope (Lt s t)) = t − s or one_more (s − t)
atom (nope (Eq s t)) = None
atom (nope True) = None
atom (nope False) = None
atom (nope (both a b)) = None
atom (nope (either a b)) = None
atom (nope (nope a)) = None
atom (both a b) = None
atom (either a b) = None

abbrev pub IsAtom : Pure → Type 0
IsAtom f = IsSome (atom f)

-- the forms of an atom, 0 for what isn't one
abbrev pub holding : Option Atom → Term
holding (Some a) = a.holds
holding None = number 0

abbrev pub failing : Option Atom → Term
failing (Some a) = a.fails
failing None = number 0

abbrev pub holds : Pure → Term
holds f = holding (atom f)

abbrev pub fails : Pure → Term
fails f = failing (atom f)

-- each term of the pure formula is small
unfoldable pub AreSmall : Pure → Type 0
AreSmall True = Unit {0}
AreSmall False = Unit {0}
AreSmall (Eq s t) = IsSmall s × IsSmall t
AreSmall (Le s t) = IsSmall s × IsSmall t
AreSmall (Lt s t) = IsSmall s × IsSmall t
AreSmall (both a b) = AreSmall a × AreSmall b
AreSmall (either a b) = AreSmall a × AreSmall b
AreSmall (nope a) = AreSmall a

unfoldable pub IsEquation : Pure → Type 0
IsEquation True = ⊥
IsEquation False = ⊥
IsEquation (Eq s t) = Unit {0}
IsEquation (Le s t) = ⊥
IsEquation (Lt s t) = ⊥
IsEquation (both a b) = ⊥
IsEquation (either a b) = ⊥
IsEquation (nope a) = ⊥

-- ---- certificates

-- the sum of the factors times an entry of the forms
abbrev pub weighted : (Term → ℤ) → List ℤ → List Term → ℤ
weighted entry [] ts = pos 0
weighted entry (c ∷ cs) [] = pos 0
weighted entry (c ∷ cs) (t ∷ ts) = (c *ℤ entry t) +ℤ weighted entry cs ts

-- a factor is negative only at an equation
abbrev pub HaveSigns : List ℤ → List Pure → Type 0
HaveSigns [] fs = Unit {0}
HaveSigns (c ∷ cs) [] = Unit {0}
HaveSigns (c ∷ cs) (f ∷ fs) = (pos 0 ≤ℤ c ⊎ IsEquation f) × HaveSigns cs fs

-- the factors, of the negated g and of the facts, show that the facts give g: the sum of the factors times the forms, which
-- is at most 0 where the facts hold and g doesn't, has no variable and is at least 1
pub record IsShown (cs : List ℤ) (fs : List Pure) (g : Pure) : Type 0 where
  pub atoms : AllByRecursion IsAtom (g ∷ fs)
  pub small : AllByRecursion AreSmall (g ∷ fs)
  pub each : length cs ≡ length (g ∷ fs)
  pub sizes : AllByRecursion (IsAtMost (pos (2 ^ 31))) cs
  pub signs : HaveSigns cs (nope g ∷ fs)
  pub variables : (i : ℕ) → weighted (λ t. coefficient_of t i) cs (fails g ∷ map holds fs) ≡ pos 0
  pub constant : pos 1 ≤ℤ weighted constant_of cs (fails g ∷ map holds fs)

-- an equation takes a second list of factors, for it read the other way
unfoldable pub HasSecond : List ℤ → List Pure → Pure → Type 0
HasSecond ds fs True = ds ≡ []
HasSecond ds fs False = ds ≡ []
HasSecond ds fs (Eq s t) = IsShown ds fs (Eq t s)
HasSecond ds fs (Le s t) = ds ≡ []
HasSecond ds fs (Lt s t) = ds ≡ []
HasSecond ds fs (both a b) = ds ≡ []
HasSecond ds fs (either a b) = ds ≡ []
HasSecond ds fs (nope a) = ds ≡ []

-- ⌜f1 ∧ (f2 ∧ … ∧ True)⌝ ⊢ ⌜g⌝ with such factors
pub record HasFactors (cs ds : List ℤ) (vars : ℕ) (left right : Formula) : Type 0 where
  pub fs : List Pure
  pub g : Pure
  pub left_is : left ≡ Fact (all_of fs)
  pub right_is : right ≡ Fact g
  pub few : vars ≤ 65
  pub first : IsShown cs fs g
  pub second : HasSecond ds fs g
