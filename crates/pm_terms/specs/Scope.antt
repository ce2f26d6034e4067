-- What names stand for: variables by how many binders are between, and predicates by their places in the table.
use Rattle.std.specs.Prelude.{ℕ, suc, List, [], ◌∷◌, length, if◌then◌else◌, Option, Some, None}
use denote.Ref.{Bor}
use Rattle.std.specs.List.{position_from}
use Rattle.std.specs.Str.{bytes_eq}
use Rattle.pm_logic.specs.declared.formula.Pred.{Pred}
use Rattle.pm_terms.specs.declared.context.Own.{Own}
use Rattle.pm_terms.specs.declared.context.Callee.{Callee}

-- the names of the variables, index 0 first
abbrev pub Names : Type 0
Names = List (List ℕ)

-- The names in scope: of those bound in the text the last is the innermost, and behind them are those outside.
unfoldable pub names_in : List (Bor (List ℕ)) → Names → Names
names_in [] vars = vars
names_in (n ∷ bound) vars = names_in bound (n.now ∷ vars)

-- a predicate's name, its place in the table and its number of parameters
pub record Callable : Type 0 where
  pub name : List ℕ
  pub index : ℕ
  pub arity : ℕ

abbrev pub Callables : Type 0
Callables = List Callable

-- the predicates of a table, whose places are counted from i
abbrev pub callables : ℕ → List Pred → Callables
callables i [] = []
callables i (p ∷ preds) = record { name = p.name; index = i; arity = p.arity } ∷ callables (suc i) preds

-- the same in the body of a new predicate, which counts before those of the table
abbrev pub callables_in : List ℕ → ℕ → List Pred → Callables
callables_in name arity preds = record { name = name; index = length preds; arity = arity } ∷ callables 0 preds

-- those that may be called where the body of this predicate is read, if it is the body of one
abbrev pub callables_of : Option Own → List Pred → Callables
callables_of None preds = callables 0 preds
callables_of (Some own) preds = callables_in own.name.now own.arity preds

-- the variable of this name, the innermost counting
unfoldable pub variable_of : Names → List ℕ → Option ℕ
variable_of names x = position_from (bytes_eq x) 0 names

-- the predicate of this name
unfoldable pub callable_of : Callables → List ℕ → Option Callable
callable_of [] x = None
callable_of (p ∷ preds) x = if bytes_eq x p.name then Some p else callable_of preds x

-- the same without its name
abbrev pub callee : Option Callable → Option Callee
callee None = None
callee (Some p) = Some (record { index = p.index; arity = p.arity })
