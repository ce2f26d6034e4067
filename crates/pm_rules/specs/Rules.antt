-- The conditions by which a rule leads from premises to a conclusion.
use Rattle.std.specs.Prelude.{◌≡◌, ◌+◌, ◌≤◌, ℕ, List, [], ◌∷◌, ◌++◌, length, Option, Result, Ok, Err, slice_get, MatchOption}
use Rattle.std.specs.List.{AllByRecursion}
use Rattle.std.specs.Option.{option_to_list}
use Rattle.pm_logic.specs.declared.formula.Formula.{Formula}
use Rattle.pm_logic.specs.declared.formula.Preds.{Preds}
use Rattle.pm_logic.specs.declared.formula.TheConstants.{BOUND}
use Rattle.pm_logic.specs.Scope.{Scoped}
use Rattle.pm_logic.specs.Size.{depth_of}
use Rattle.pm_rules.specs.declared.rules.Rule.{Rule}
use Rattle.pm_rules.specs.declared.rules.Rule.TheVariants.{Rewrite}
use Rattle.pm_rules.specs.declared.rules.Entail.{Entail}
use Rattle.pm_rules.specs.declared.rules.Condition.{Condition}
use Rattle.pm_rules.specs.declared.rules.Condition.TheVariants.{Premises, Variables, Arguments, Shape, Bracket}
use Rattle.pm_rules.specs.declared.rules.Unmet.{Unmet}
use Rattle.pm_rules.specs.Shapes.{Letters, Sequent, instance}
use Rattle.pm_rules.specs.Rows.{Row, Shapes, Computed, row, HasArguments, HasBracket, Frame, Shaped, Counted, frame_for}

-- ---- what is asked of the caller

-- scoped in the table and in so many variables, which are with the depth at most the bound
pub record IsFit (preds : Preds) (vars : ℕ) (f : Formula) : Type 0 where
  pub scoped : Scoped preds vars f
  pub within : vars + depth_of f ≤ BOUND

pub record AreFit (preds : Preds) (e : Entail) : Type 0 where
  pub left : IsFit preds e.vars e.left
  pub right : IsFit preds e.vars e.right

-- a rule's template has one variable more than the conclusion
unfoldable pub HasFitTemplate : Preds → Rule → ℕ → Type 0
HasFitTemplate preds (Rewrite b) vars = IsFit preds (vars + 1) b
HasFitTemplate preds _ vars = Unit {0}

-- each body is fit in the parameters of its predicate
pub record HasFitBodies (preds : Preds) : Type 0 where
  pub at : (p : ℕ) → MatchOption (slice_get preds.list p) (Unit {0}) (λ q. IsFit preds q.arity q.body)

-- ---- the conditions

-- the premises that are there, in order
abbrev pub premises : Option Entail → Option Entail → List Entail
premises first second = option_to_list first ++ option_to_list second

abbrev pub number_of : Frame → ℕ
number_of (Shaped n more given c) = n
number_of (Counted n count) = n

-- the number of a rule, its row's
abbrev pub rule_number : Rule → ℕ
rule_number rule = number_of (frame_for rule)

abbrev pub count_of : Frame → ℕ
count_of (Shaped n more given c) = length given
count_of (Counted n count) = count

-- how many premises the rule takes
abbrev pub premise_count : Rule → ℕ
premise_count rule = count_of (frame_for rule)

-- 1: as many premises as the row has
abbrev pub HasPremises : Rule → List Entail → Type 0
HasPremises rule ps = length ps ≡ premise_count rule

-- 2: their variables are the row's; a premise of a computed row has any number
abbrev pub HaveVariables : Frame → List Entail → Entail → Type 0
HaveVariables (Shaped n more given c) ps e = AllByRecursion (λ p. p.vars ≡ e.vars + more) ps
HaveVariables (Counted n count) ps e = Unit {0}

abbrev pub HasVariables : Rule → List Entail → Entail → Type 0
HasVariables rule ps e = HaveVariables (frame_for rule) ps e

-- 3: `HasArguments`: an instance has a term for each variable of its premise

-- 4: the entailments have the row's shapes, the same letter being the same formula, or stand in its relation
pub record IsInstance (s : Letters) (a : Sequent) (e : Entail) : Type 0 where
  pub left_is : e.left ≡ instance s a.left
  pub right_is : e.right ≡ instance s a.right

abbrev pub AreInstances : Letters → List Sequent → List Entail → Type 0
AreInstances s [] [] = Unit {0}
AreInstances s [] (p ∷ ps) = ⊥
AreInstances s (a ∷ rest) [] = ⊥
AreInstances s (a ∷ rest) (p ∷ ps) = IsInstance s a p × AreInstances s rest ps

pub record HasLetters (given : List Sequent) (c : Sequent) (ps : List Entail) (e : Entail) : Type 0 where
  pub letters : Letters
  pub premises : AreInstances letters given ps
  pub conclusion : IsInstance letters c e

abbrev pub HasShapeOf : Row → Preds → List Entail → Entail → Type 0
HasShapeOf (Shapes n more given c) preds ps e = HasLetters given c ps e
HasShapeOf (Computed n count holds) preds ps e = holds preds ps e

abbrev pub HasShape : Preds → Rule → List Entail → Entail → Type 0
HasShape preds rule ps e = HasShapeOf (row rule) preds ps e

-- 5: `HasBracket`: what stands in the row's brackets

pub record RuleOk (preds : Preds) (rule : Rule) (ps : List Entail) (e : Entail) : Type 0 where
  pub premises : HasPremises rule ps
  pub variables : HasVariables rule ps e
  pub arguments : HasArguments rule ps
  pub shape : HasShape preds rule ps e
  pub bracket : HasBracket rule e

-- the condition fails, and those before it hold
abbrev pub FirstUnmet : Preds → Rule → List Entail → Entail → Condition → Type 0
FirstUnmet preds rule ps e Premises = ¬ HasPremises rule ps
FirstUnmet preds rule ps e Variables = HasPremises rule ps × ¬ HasVariables rule ps e
FirstUnmet preds rule ps e Arguments = HasPremises rule ps × HasVariables rule ps e × ¬ HasArguments rule ps
FirstUnmet preds rule ps e Shape = HasPremises rule ps × HasVariables rule ps e × HasArguments rule ps × ¬ HasShape preds rule ps e
FirstUnmet preds rule ps e Bracket = HasPremises rule ps × HasVariables rule ps e × HasArguments rule ps × HasShape preds rule ps e × ¬ HasBracket rule e

-- the numbers that are printed
abbrev pub condition_number : Condition → ℕ
condition_number Premises = 1
condition_number Variables = 2
condition_number Arguments = 3
condition_number Shape = 4
condition_number Bracket = 5

-- Ok exactly where all conditions hold, and else the rule's number and the first that fails
abbrev pub Decides : {T : Type 0} → Preds → Rule → List Entail → Entail → Result T Unmet → Type 0
Decides preds rule ps e (Ok _) = RuleOk preds rule ps e
Decides preds rule ps e (Err u) = (u.rule ≡ rule_number rule) × FirstUnmet preds rule ps e u.condition
