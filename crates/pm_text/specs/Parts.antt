-- Parts of the reading of formulas, as the code has them.
use Rattle.std.specs.Prelude.{ℕ, suc, Bool, true, false, List, [], drop, if◌then◌else◌, Option, Some, None, Ok}
use denote.Ref.{Bor}
use Rattle.pm_logic.specs.declared.formula.Pure.TheVariants.{True, False}
use Rattle.pm_logic.specs.declared.formula.Formula.{Formula}
use Rattle.pm_logic.specs.declared.formula.Formula.TheVariants.{Pure as Fact}
use Rattle.pm_logic.specs.declared.formula.Formula.TheViews as formula
use Rattle.pm_tokens.specs.declared.symbol.Symbol.{Symbol}
use Rattle.pm_tokens.specs.declared.symbol.Symbol.TheVariants as s
use Rattle.pm_tokens.specs.Tokens.{Place}
use Rattle.pm_terms.specs.declared.context.Context.{Context}
use Rattle.pm_terms.specs.declared.context.Callee.{Callee}
use Rattle.pm_terms.specs.declared.level.PureLevel.TheVariants as pure_level
use Rattle.pm_terms.specs.Scope.{Names, Callable, Callables, names_in, callables_of}
use Rattle.pm_terms.specs.Steps.{Read, made, closed_by}
use Rattle.pm_terms.specs.PureReading.{pure_in}
use Rattle.pm_text.specs.declared.level.Binder.TheVariants as binder
use Rattle.pm_text.specs.declared.level.Level.{Level}
use Rattle.pm_text.specs.declared.level.Level.TheVariants as level
use Rattle.pm_text.specs.declared.openings.Modality.{Modality}
use Rattle.pm_text.specs.declared.openings.Modality.TheVariants as modality
use Rattle.pm_text.specs.declared.openings.Opening.{Opening}
use Rattle.pm_text.specs.declared.openings.Opening.TheVariants as o
use Rattle.pm_text.specs.FormulaReading.{Formulas, units_of, is_share, begins_location, points_to_at, formula_in}

-- ---- what a text is read with

abbrev pub scope : Context → List (Bor (List ℕ)) → Names
scope context bound = names_in bound context.vars

abbrev pub table : Context → Callables
table context = callables_of context.own context.preds.now

-- what reads a part of a formula where so many constructs may still be opened
abbrev pub inside : Context → ℕ → Formulas
inside context room = formula_in context.stop (table context) room

-- the units that n of d parts of a whole are, if they are a share
abbrev pub shared : (n d : ℕ) → Option ℕ
shared n d = if is_share n d then Some (units_of n d) else None

-- the predicate without its name
abbrev pub called : Callee → Callable
called p = record { name = []; index = p.index; arity = p.arity }

-- ---- what a symbol opens

abbrev pub opening_of : Symbol → Opening
opening_of s.Later = o.Modal modality.Later
opening_of s.Persistently = o.Modal modality.Persistently
opening_of s.Update = o.Modal modality.Update
opening_of s.Forall = o.Quantifier binder.All
opening_of s.Exists = o.Quantifier binder.Ex
opening_of s.Open = o.Group
opening_of s.OpenPure = o.Fact
opening_of s.Emp = o.Truth
opening_of s.True = o.Truth
opening_of s.False = o.Falsehood
opening_of r = o.Location

-- whether this begins an operand that is no location
abbrev pub is_formula_only : Opening → Bool
is_formula_only o.Group = false
is_formula_only o.Location = false
is_formula_only p = true

-- what of a formula the modality is put before
abbrev pub level_under : Modality → Level
level_under modality.Later = level.Prefixes
level_under modality.Persistently = level.Prefixes
level_under modality.Update = level.Wands

unfoldable pub under : Modality → Formula → Formula
under modality.Later a = formula.Later a
under modality.Persistently a = formula.Pers a
under modality.Update a = formula.Upd a

-- what is read at a symbol that opens this, the first of the tokens
unfoldable pub opened : (stop : ℕ) → Callables → Formulas → (room : ℕ) → Names → Opening → List Place → Read Formula
opened stop preds self room names (o.Modal m) ts = made (under m) (self (level_under m) names (drop 1 ts))
opened stop preds self room names (o.Quantifier b) ts = self (level.Names b) names (drop 1 ts)
opened stop preds self room names o.Group ts =
    if begins_location (drop 1 ts) then points_to_at stop preds self room names ts else closed_by s.Close stop (self level.Wands names (drop 1 ts))
opened stop preds self room names o.Fact ts = closed_by s.ClosePure stop (made Fact (pure_in stop names (suc room) pure_level.Ors (drop 1 ts)))
opened stop preds self room names o.Truth ts = Ok (Fact True, drop 1 ts)
opened stop preds self room names o.Falsehood ts = Ok (Fact False, drop 1 ts)
opened stop preds self room names o.Location ts = points_to_at stop preds self room names ts

-- how many names more than constructs are opened at the beginning
abbrev pub ahead : Level → ℕ
ahead level.Wands = 0
ahead level.Ors = 0
ahead level.Stars = 0
ahead level.Prefixes = 0
ahead (level.Names b) = 1
ahead level.Updates = 0
