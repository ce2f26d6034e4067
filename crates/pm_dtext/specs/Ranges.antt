-- Which values the lines of a derivation text have.
use Rattle.std.specs.Prelude.{◌≡◌, ℕ, suc, ◌<◌, ◌≤◌, ◌^◌, nat_le, IsTrue, not, List, length, slice_get, Option, Some, None, is_some, ⊤}
use Rattle.std.specs.List.{AllByRecursion, list_any}
use Rattle.std.specs.Str.{bytes_eq}
use Rattle.pm_logic.specs.declared.limits.TheConstants.{MAX_LINE_LEVELS, MAX_LINE_TERMS, MAX_LINE_VARIABLES, MAX_PREDICATES, MAX_VARIABLES}
use Rattle.pm_logic.specs.declared.formula.Term.{Term}
use Rattle.pm_logic.specs.declared.formula.Term.TheVariants.{Lit, Var}
use Rattle.pm_logic.specs.declared.formula.Pure.{Pure}
use Rattle.pm_logic.specs.declared.formula.Pure.TheVariants as pure
use Rattle.pm_logic.specs.declared.formula.Formula.{Formula}
use Rattle.pm_logic.specs.declared.formula.Formula.TheVariants.{Pure as Fact, Pts, Call}
use Rattle.pm_logic.specs.declared.formula.Pred.{Pred}
use Rattle.pm_logic.specs.declared.formula.TheConstants.{UNIT}
use Rattle.pm_logic.specs.Trees.{add, sub, neg, scale, both, either, nope, Sep, Wand, And, Or, Imp, All, Ex, Later, Pers, Upd}
pub use Rattle.pm_logic.specs.Integers.{IsI64}
use Rattle.pm_logic.specs.Size.{term_depth, depth_of}
use Rattle.pm_rules.specs.declared.rules.Rule.{Rule}
use Rattle.pm_rules.specs.declared.rules.Rule.TheVariants.{Inst, AllE, ExI, Linear, Rewrite}
use Rattle.pm_rules.specs.declared.rules.Entail.{Entail}
use Rattle.pm_rules.specs.Rules.{premise_count}
use Rattle.pm_names.specs.Names.{is_name}
use Rattle.pm_dtext.specs.declared.line.Line.{Line}
use Rattle.pm_dtext.specs.declared.line.Line.TheVariants.{Step, Qed}

-- ---- terms, pure formulas and formulas with k variables

unfoldable pub TermInRange : ℕ → Term → Type 0
TermInRange k (Lit z) = IsI64 z
TermInRange k (Var i) = i < k
TermInRange k (add s t) = TermInRange k s × TermInRange k t
TermInRange k (sub s t) = TermInRange k s × TermInRange k t
TermInRange k (neg t) = TermInRange k t
TermInRange k (scale z t) = IsI64 z × TermInRange k t

unfoldable pub PureInRange : ℕ → Pure → Type 0
PureInRange k pure.True = Unit {0}
PureInRange k pure.False = Unit {0}
PureInRange k (pure.Eq s t) = TermInRange k s × TermInRange k t
PureInRange k (pure.Le s t) = TermInRange k s × TermInRange k t
PureInRange k (pure.Lt s t) = TermInRange k s × TermInRange k t
PureInRange k (both a b) = PureInRange k a × PureInRange k b
PureInRange k (either a b) = PureInRange k a × PureInRange k b
PureInRange k (nope a) = PureInRange k a

-- a predicate of the table, with as many arguments as its arity
abbrev pub HasArity : List ℕ → ℕ → ℕ → Type 0
HasArity arities p n = slice_get arities p ≡ Some n

-- over the table of these arities; units are 1 to a whole
unfoldable pub InRange : List ℕ → ℕ → Formula → Type 0
InRange arities k (Fact a) = PureInRange k a
InRange arities k (Sep p q) = InRange arities k p × InRange arities k q
InRange arities k (Wand p q) = InRange arities k p × InRange arities k q
InRange arities k (And p q) = InRange arities k p × InRange arities k q
InRange arities k (Or p q) = InRange arities k p × InRange arities k q
InRange arities k (Imp p q) = InRange arities k p × InRange arities k q
InRange arities k (All p) = InRange arities (suc k) p
InRange arities k (Ex p) = InRange arities (suc k) p
InRange arities k (Later p) = InRange arities k p
InRange arities k (Pers p) = InRange arities k p
InRange arities k (Upd p) = InRange arities k p
InRange arities k (Pts l u v) = TermInRange k l × (1 ≤ u) × (u ≤ UNIT) × TermInRange k v
InRange arities k (Call p ts) = HasArity arities p (length ts) × AllByRecursion (TermInRange k) ts

-- in range, and at most MAX_LINE_LEVELS deep
pub record TermFits (k : ℕ) (t : Term) : Type 0 where
  pub in_range : TermInRange k t
  pub levels : term_depth t ≤ MAX_LINE_LEVELS

pub record FormulaFits (arities : List ℕ) (k : ℕ) (f : Formula) : Type 0 where
  pub in_range : InRange arities k f
  pub levels : depth_of f ≤ MAX_LINE_LEVELS

-- ---- lines

-- the number of a proof line before the one of number n
pub record IsEarlier (n cited : ℕ) : Type 0 where
  pub some : 1 ≤ cited
  pub before : cited < n
  pub small : cited < 2 ^ 64

abbrev pub CiteFits : ℕ → Option ℕ → Type 0
CiteFits n None = ⊤
CiteFits n (Some cited) = IsEarlier n cited

-- what a rule takes besides premises and a conclusion with k variables
unfoldable pub ArgsFit : List ℕ → ℕ → Rule → Type 0
ArgsFit arities k (Inst sigma) = (length sigma ≤ MAX_LINE_TERMS) × AllByRecursion (TermFits k) sigma
ArgsFit arities k (AllE t) = TermFits k t
ArgsFit arities k (ExI t) = TermFits k t
ArgsFit arities k (Linear c d) = ((length c ≤ 66) × AllByRecursion IsI64 c) × ((length d ≤ 66) × AllByRecursion IsI64 d)
ArgsFit arities k (Rewrite b) = FormulaFits arities (suc k) b
ArgsFit arities k _ = Unit {0}

-- as many citations as the rule has premises, at most MAX_LINE_VARIABLES variables, and arguments and both sides over them
pub record StepFits (arities : List ℕ) (n : ℕ) (rule : Rule) (first second : Option ℕ) (e : Entail) : Type 0 where
  pub first_stands : is_some first ≡ nat_le 1 (premise_count rule)
  pub second_stands : is_some second ≡ nat_le 2 (premise_count rule)
  pub first_fits : CiteFits n first
  pub second_fits : CiteFits n second
  pub vars : e.vars ≤ MAX_LINE_VARIABLES
  pub args : ArgsFit arities e.vars rule
  pub left : FormulaFits arities e.vars e.left
  pub right : FormulaFits arities e.vars e.right

-- a line over the table of these arities, where n is the number of the next proof line
abbrev pub LineFits : List ℕ → ℕ → Line → Type 0
LineFits arities n (Step rule first second e) = StepFits arities n rule first second e
LineFits arities n (Qed name cited) = IsTrue (is_name name) × IsEarlier n cited

-- ---- the lines before them

abbrev pub AritiesFit : List ℕ → Type 0
AritiesFit arities = (length arities ≤ MAX_PREDICATES) × AllByRecursion (λ a. a ≤ MAX_VARIABLES) arities

-- the next predicate, where these names are taken
pub record PredFits (arities : List ℕ) (names : List (List ℕ)) (q : Pred) : Type 0 where
  pub named : IsTrue (is_name q.name)
  pub new : IsTrue (not (list_any (λ x. bytes_eq x q.name) names))
  pub arity : HasArity arities (length names) q.arity
  pub body : FormulaFits arities q.arity q.body
