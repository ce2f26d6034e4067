-- Which proofs are valid, and which can be written down.
use Rattle.std.specs.Prelude.{ℕ, suc, ◌≤◌, Option, None, Some, List, [], ◌∷◌, length}
use Rattle.std.specs.List.{AllByRecursion}
use Rattle.pm_logic.specs.declared.formula.Term.{Term}
use Rattle.pm_logic.specs.declared.formula.Formula.{Formula}
use Rattle.pm_logic.specs.declared.formula.Preds.{Preds}
use Rattle.pm_logic.specs.Scope.{TermScoped, Scoped}
use Rattle.pm_logic.specs.Size.{term_depth, depth_of}
use Rattle.pm_logic.specs.Integers.{IsI64}
use Rattle.pm_logic.specs.declared.limits.TheConstants.{MAX_LINE_LEVELS, MAX_LINE_TERMS, MAX_LINE_VARIABLES}
use Rattle.pm_rules.specs.declared.rules.Entail.{Entail}
use Rattle.pm_rules.specs.declared.rules.Rule.{Rule}
use Rattle.pm_rules.specs.declared.rules.Rule.TheVariants.{Inst, AllE, ExI, Linear, Rewrite}
use Rattle.pm_rules.specs.Rules.{RuleOk}
use Rattle.pm_proof.specs.Trees.{Tree, Hole, Axiom, First, Second, Both, conclusion}

-- H holds of each hole, and R of each rule with its premises and its conclusion
abbrev pub Throughout : (Entail → Type 0) → (Rule → List Entail → Entail → Type 0) → Tree → Type 0
Throughout H R (Hole e) = H e
Throughout H R (Axiom r e) = R r [] e
Throughout H R (First r e a) = R r (conclusion a ∷ []) e × Throughout H R a
Throughout H R (Second r e b) = R r (conclusion b ∷ []) e × Throughout H R b
Throughout H R (Both r e a b) = R r (conclusion a ∷ conclusion b ∷ []) e × Throughout H R a × Throughout H R b

-- each rule leads from its premises to its conclusion under the table
abbrev pub Valid : Preds → Tree → Type 0
Valid preds t = Throughout (λ e. Unit {0}) (RuleOk preds) t

abbrev pub ValidWhere : Preds → Option Tree → Type 0
ValidWhere preds None = Unit {0}
ValidWhere preds (Some t) = Valid preds t

-- ---- what a line of a derivation text has room for

pub record TermFits (k : ℕ) (t : Term) : Type 0 where
  pub scoped : TermScoped k t
  pub levels : term_depth t ≤ MAX_LINE_LEVELS

pub record FormulaFits (preds : Preds) (k : ℕ) (f : Formula) : Type 0 where
  pub scoped : Scoped preds k f
  pub levels : depth_of f ≤ MAX_LINE_LEVELS

pub record EntailFits (preds : Preds) (e : Entail) : Type 0 where
  pub vars : e.vars ≤ MAX_LINE_VARIABLES
  pub left : FormulaFits preds e.vars e.left
  pub right : FormulaFits preds e.vars e.right

-- what a rule takes besides, where its conclusion has k variables; a template has one more
unfoldable pub ArgumentsFit : Preds → ℕ → Rule → Type 0
ArgumentsFit preds k (Inst sigma) = (length sigma ≤ MAX_LINE_TERMS) × AllByRecursion (TermFits k) sigma
ArgumentsFit preds k (AllE t) = TermFits k t
ArgumentsFit preds k (ExI t) = TermFits k t
ArgumentsFit preds k (Linear c d) = (length c ≤ 66) × AllByRecursion IsI64 c × (length d ≤ 66) × AllByRecursion IsI64 d
ArgumentsFit preds k (Rewrite b) = FormulaFits preds (suc k) b
ArgumentsFit preds k _ = Unit {0}

pub record RuleFits (preds : Preds) (r : Rule) (e : Entail) : Type 0 where
  pub arguments : ArgumentsFit preds e.vars r
  pub entail : EntailFits preds e

-- both sides name only variables of the entailment, and predicates of the table with as many arguments as they take
abbrev pub EntailScoped : Preds → Entail → Type 0
EntailScoped preds e = Scoped preds e.vars e.left × Scoped preds e.vars e.right

-- each entailment of the tree is scoped; arguments of rules, of which the depth of the tree says nothing, fit
abbrev pub IsScoped : Preds → Tree → Type 0
IsScoped preds t = Throughout (EntailScoped preds) (λ r ps e. EntailScoped preds e × ArgumentsFit preds e.vars r) t

-- each entailment and each argument fits
abbrev pub Fits : Preds → Tree → Type 0
Fits preds t = Throughout (EntailFits preds) (λ r ps e. RuleFits preds r e) t
