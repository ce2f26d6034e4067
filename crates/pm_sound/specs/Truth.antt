-- When a rule is sound.
use Rattle.std.specs.Prelude.{ℕ, List, slice_get, MatchOption}
use Rattle.std.specs.List.{AllByRecursion}
use Rattle.pm_logic.specs.declared.formula.Preds.{Preds}
use Rattle.pm_logic.specs.Scope.{Scoped}
use Rattle.pm_logic.specs.Guard.{IsGuarded}
use Rattle.pm_model.specs.Entailment.{IsTrueEntailment}
use Rattle.pm_rules.specs.declared.rules.Entail.{Entail}
use Rattle.pm_rules.specs.declared.rules.Rule.{Rule}
use Rattle.pm_rules.specs.Rules.{RuleOk}

-- the entailment is true in its own number of variables
abbrev pub IsTrueEntail : Preds → Entail → Type 0
IsTrueEntail preds e = IsTrueEntailment preds e.vars e.left e.right

-- both sides are scoped in the table and in the entailment's variables
pub record AreScoped (preds : Preds) (e : Entail) : Type 0 where
  pub left : Scoped preds e.vars e.left
  pub right : Scoped preds e.vars e.right

-- each body is guarded and scoped in the parameters of its predicate
pub record IsWellFormed (preds : Preds) : Type 0 where
  pub guarded : IsGuarded preds.list
  pub scoped : (p : ℕ) → MatchOption (slice_get preds.list p) (Unit {0}) (λ q. Scoped preds q.arity q.body)

-- true premises, the rule's conditions met: a true conclusion
abbrev pub IsSound : Rule → Type 0
IsSound rule = (preds : Preds) (ps : List Entail) (e : Entail) → IsWellFormed preds → AllByRecursion (AreScoped preds) ps → AreScoped preds e → AllByRecursion (IsTrueEntail preds) ps → RuleOk preds rule ps e → IsTrueEntail preds e
