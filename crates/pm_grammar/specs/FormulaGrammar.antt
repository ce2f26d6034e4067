-- The grammar of formulas: the tokens that one is written with, one constructor a production.
use Rattle.std.specs.Prelude.{◌≡◌, ℕ, ◌<◌, ◌^◌, true, List, [], ◌∷◌, ◌++◌, length, Some}
use Rattle.pm_logic.specs.declared.formula.Term.{Term}
use Rattle.pm_logic.specs.declared.formula.Pure.{Pure}
use Rattle.pm_logic.specs.declared.formula.Pure.TheVariants.{True, False}
use Rattle.pm_logic.specs.declared.formula.Formula.{Formula}
use Rattle.pm_logic.specs.declared.formula.Formula.TheVariants.{Pure as Fact, Pts, Call}
use Rattle.pm_logic.specs.declared.formula.Formula.TheViews as formula
use Rattle.pm_logic.specs.declared.formula.TheConstants.{UNIT}
use Rattle.pm_tokens.specs.declared.symbol.Symbol.TheVariants as s
use Rattle.pm_tokens.specs.Tokens.{Token, name, number, symbol}
use Rattle.pm_terms.specs.declared.level.PureLevel.TheVariants as pure_level
use Rattle.pm_text.specs.declared.level.Binder.{Binder}
use Rattle.pm_text.specs.declared.level.Binder.TheVariants as binder
use Rattle.pm_text.specs.declared.level.Level.{Level}
use Rattle.pm_text.specs.declared.level.Level.TheVariants.{Wands, Ors, Stars, Prefixes, Names as Bound}
use Rattle.pm_terms.specs.Scope.{Names, Callable, Callables, callable_of}
use Rattle.pm_text.specs.FormulaReading.{quantified, units_of, is_share}
use Rattle.pm_grammar.specs.TermGrammar.{IsTerm, sum, operand}
use Rattle.pm_grammar.specs.PureGrammar.{IsPure}

-- terms with commas between
pub data AreTerms (names : Names) : List Token → List Term → Type 0 where
  last : {xs : List Token} {a : Term} → IsTerm names sum xs a → AreTerms names xs (a ∷ [])
  comma : {xs ys : List Token} {a : Term} {ts : List Term} → IsTerm names sum xs a → AreTerms names ys ts → AreTerms names (xs ++ symbol s.Comma ∷ ys) (a ∷ ts)

pub data AreArguments (names : Names) : List Token → List Term → Type 0 where
  none : AreArguments names [] []
  some : {xs : List Token} {ts : List Term} → AreTerms names xs ts → AreArguments names xs ts

-- Whether the tokens end in the body of a quantifier or an update. A body goes as far right as it can, so no infix follows it.
pub data End : Type 0 where
  closed : End
  body : End

pub data IsFormula (preds : Callables) : Names → Level → End → List Token → Formula → Type 0 where
  of_or : {names : Names} {e : End} {xs : List Token} {a : Formula} → IsFormula preds names Ors e xs a → IsFormula preds names Wands e xs a
  wand : {names : Names} {e : End} {xs ys : List Token} {a b : Formula} → IsFormula preds names Ors closed xs a → IsFormula preds names Wands e ys b → IsFormula preds names Wands e (xs ++ symbol s.Wand ∷ ys) (formula.Wand a b)
  implication : {names : Names} {e : End} {xs ys : List Token} {a b : Formula} → IsFormula preds names Ors closed xs a → IsFormula preds names Wands e ys b → IsFormula preds names Wands e (xs ++ symbol s.Arrow ∷ ys) (formula.Imp a b)
  update_wand : {names : Names} {e : End} {xs ys : List Token} {a b : Formula} → IsFormula preds names Ors closed xs a → IsFormula preds names Wands e ys b → IsFormula preds names Wands e (xs ++ symbol s.UpdateWand ∷ ys) (formula.Wand a (formula.Upd b))
  of_star : {names : Names} {e : End} {xs : List Token} {a : Formula} → IsFormula preds names Stars e xs a → IsFormula preds names Ors e xs a
  disjunction : {names : Names} {e : End} {xs ys : List Token} {a b : Formula} → IsFormula preds names Stars closed xs a → IsFormula preds names Ors e ys b → IsFormula preds names Ors e (xs ++ symbol s.Or ∷ ys) (formula.Or a b)
  of_prefix : {names : Names} {e : End} {xs : List Token} {a : Formula} → IsFormula preds names Prefixes e xs a → IsFormula preds names Stars e xs a
  conjunction : {names : Names} {e : End} {xs ys : List Token} {a b : Formula} → IsFormula preds names Prefixes closed xs a → IsFormula preds names Stars e ys b → IsFormula preds names Stars e (xs ++ symbol s.And ∷ ys) (formula.And a b)
  star : {names : Names} {e : End} {xs ys : List Token} {a b : Formula} → IsFormula preds names Prefixes closed xs a → IsFormula preds names Stars e ys b → IsFormula preds names Stars e (xs ++ symbol s.Star ∷ ys) (formula.Sep a b)
  asterisk : {names : Names} {e : End} {xs ys : List Token} {a b : Formula} → IsFormula preds names Prefixes closed xs a → IsFormula preds names Stars e ys b → IsFormula preds names Stars e (xs ++ symbol s.Asterisk ∷ ys) (formula.Sep a b)
  later : {names : Names} {e : End} {xs : List Token} {a : Formula} → IsFormula preds names Prefixes e xs a → IsFormula preds names Prefixes e (symbol s.Later ∷ xs) (formula.Later a)
  persistently : {names : Names} {e : End} {xs : List Token} {a : Formula} → IsFormula preds names Prefixes e xs a → IsFormula preds names Prefixes e (symbol s.Persistently ∷ xs) (formula.Pers a)
  universal : {names : Names} {xs : List Token} {a : Formula} → IsFormula preds names (Bound binder.All) body xs a → IsFormula preds names Prefixes body (symbol s.Forall ∷ xs) a
  existential : {names : Names} {xs : List Token} {a : Formula} → IsFormula preds names (Bound binder.Ex) body xs a → IsFormula preds names Prefixes body (symbol s.Exists ∷ xs) a
  -- one name or more, then a comma and the body
  further : {names : Names} {b : Binder} {x : List ℕ} {xs : List Token} {a : Formula} → IsFormula preds (x ∷ names) (Bound b) body xs a → IsFormula preds names (Bound b) body (name x ∷ xs) (quantified b a)
  bound : {names : Names} {b : Binder} {e : End} {x : List ℕ} {xs : List Token} {a : Formula} → IsFormula preds (x ∷ names) Wands e xs a → IsFormula preds names (Bound b) body (name x ∷ symbol s.Comma ∷ xs) (quantified b a)
  update : {names : Names} {e : End} {xs : List Token} {a : Formula} → IsFormula preds names Wands e xs a → IsFormula preds names Prefixes body (symbol s.Update ∷ xs) (formula.Upd a)
  group : {names : Names} {e : End} {xs : List Token} {a : Formula} → IsFormula preds names Wands e xs a → IsFormula preds names Prefixes closed (symbol s.Open ∷ (xs ++ symbol s.Close ∷ [])) a
  fact : {names : Names} {xs : List Token} {p : Pure} → IsPure names pure_level.Ors xs p → IsFormula preds names Prefixes closed (symbol s.OpenPure ∷ (xs ++ symbol s.ClosePure ∷ [])) (Fact p)
  unit : {names : Names} → IsFormula preds names Prefixes closed (symbol s.Emp ∷ []) (Fact True)
  truth : {names : Names} → IsFormula preds names Prefixes closed (symbol s.True ∷ []) (Fact True)
  falsehood : {names : Names} → IsFormula preds names Prefixes closed (symbol s.False ∷ []) (Fact False)
  call : {names : Names} {x : List ℕ} {p : Callable} {xs : List Token} {ts : List Term} → callable_of preds x ≡ Some p → AreArguments names xs ts → length ts ≡ p.arity → IsFormula preds names Prefixes closed (name x ∷ symbol s.Open ∷ (xs ++ symbol s.Close ∷ [])) (Call p.index ts)
  whole : {names : Names} {xs ys : List Token} {l v : Term} → IsTerm names operand xs l → IsTerm names operand ys v → IsFormula preds names Prefixes closed (xs ++ symbol s.PointsTo ∷ ys) (Pts l UNIT v)
  part : {names : Names} {xs ys : List Token} {l v : Term} {n d : ℕ} → IsTerm names operand xs l → n < 2 ^ 63 → d < 2 ^ 63 → is_share n d ≡ true → IsTerm names operand ys v → IsFormula preds names Prefixes closed (xs ++ symbol s.PointsTo ∷ symbol s.OpenBrace ∷ number n ∷ symbol s.Slash ∷ number d ∷ symbol s.CloseBrace ∷ ys) (Pts l (units_of n d) v)
