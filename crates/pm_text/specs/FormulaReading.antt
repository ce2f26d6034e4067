-- Reading of formulas. To add a production: a line of the grammar below and its equations, the function of the same name in
-- src/formulas.rt, a constructor of FormulaGrammar in pm_grammar with its cases in proofs/, and a row of Printing in pm_print;
-- then `rt check` in pm_text, pm_print, pm_grammar and pm_roundtrip.
--   wand    ::=  or  |  or -∗ wand  |  or → wand  |  or ==∗ wand
--   or      ::=  star  |  star ∨ or
--   star    ::=  prefix  |  prefix ∧ star  |  prefix ∗ star
--   prefix  ::=  ▷ prefix  |  □ prefix  |  ∀ x … , wand  |  ∃ x … , wand  |  |==> wand  |  atom
--   atom    ::=  ( wand )  |  ⌜ pure or ⌝  |  emp  |  True  |  False  |  p ( terms )  |  operand ↦ operand  |  operand ↦ { n / d } operand
use Rattle.std.specs.Prelude.{ℕ, zero, suc, ◌*◌, ◌/◌, ◌%◌, Bool, ◌&&◌, not, ◌==◌, nat_le, if◌then◌else◌, List, [], ◌∷◌, drop, length, Option, Some, None, Result, Ok, Err}
use Rattle.pm_logic.specs.declared.limits.TheConstants.{MAX_LEVELS}
use Rattle.pm_logic.specs.declared.formula.Term.{Term}
use Rattle.pm_logic.specs.declared.formula.Pure.{Pure}
use Rattle.pm_logic.specs.declared.formula.Pure.TheVariants.{True, False}
use Rattle.pm_logic.specs.declared.formula.Formula.{Formula}
use Rattle.pm_logic.specs.declared.formula.Formula.TheVariants.{Pure as Fact, Pts, Call}
use Rattle.pm_logic.specs.declared.formula.Formula.TheViews as formula
use Rattle.pm_logic.specs.declared.formula.TheConstants.{UNIT}
use Rattle.pm_logic.specs.Size.{term_depth, pure_depth, depth_of}
use Rattle.pm_tokens.specs.declared.symbol.Symbol.{Symbol}
use Rattle.pm_tokens.specs.declared.symbol.Symbol.TheVariants as s
use Rattle.pm_tokens.specs.Tokens.{name, number, symbol, Place, place}
use Rattle.pm_terms.specs.declared.fault.TextFault.{TextFault}
use Rattle.pm_terms.specs.declared.fault.TextFault.TheVariants.{Unexpected, Fraction, Arity, Deep}
use Rattle.pm_terms.specs.declared.level.PureLevel.TheVariants as pure_level
use Rattle.pm_text.specs.declared.level.Binder.{Binder}
use Rattle.pm_text.specs.declared.level.Binder.TheVariants as binder
use Rattle.pm_text.specs.declared.level.Infix.{Infix}
use Rattle.pm_text.specs.declared.level.Infix.TheVariants as infixes
use Rattle.pm_text.specs.declared.level.Level.{Level}
use Rattle.pm_text.specs.declared.level.Level.TheVariants as level
use Rattle.pm_terms.specs.Scope.{Names, Callable, Callables, callable_of}
use Rattle.pm_terms.specs.Steps.{Read, ◌>>=◌, made, fault_or, sees, offset, unexpected, expect, closed_by, natural, digits, bound_at, with_commas, after_group, all_of, shallow}
use Rattle.pm_terms.specs.TermReading.{deep_term, operand_in, sum_in}
use Rattle.pm_terms.specs.PureReading.{pure_in}

-- ---- infixes and quantifiers

unfoldable pub infix_of : Level → Symbol → Option Infix
infix_of level.Wands s.Wand = Some infixes.Wand
infix_of level.Wands s.Arrow = Some infixes.Implies
infix_of level.Wands s.UpdateWand = Some infixes.UpdateWand
infix_of level.Ors s.Or = Some infixes.Or
infix_of level.Stars s.And = Some infixes.And
infix_of level.Stars s.Star = Some infixes.Star
infix_of level.Stars s.Asterisk = Some infixes.Star
infix_of l r = None

-- what of a formula stands on the right of the infix
abbrev pub right_of : Infix → Level
right_of infixes.Wand = level.Wands
right_of infixes.Implies = level.Wands
right_of infixes.UpdateWand = level.Updates
right_of infixes.Or = level.Ors
right_of infixes.And = level.Stars
right_of infixes.Star = level.Stars

unfoldable pub joined : Infix → Formula → Formula → Formula
joined infixes.Wand a b = formula.Wand a b
joined infixes.Implies a b = formula.Imp a b
joined infixes.UpdateWand a b = formula.Wand a (formula.Upd b)
joined infixes.Or a b = formula.Or a b
joined infixes.And a b = formula.And a b
joined infixes.Star a b = formula.Sep a b

unfoldable pub quantified : Binder → Formula → Formula
quantified binder.All a = formula.All a
quantified binder.Ex a = formula.Ex a

abbrev pub next_infix : Level → List Place → Option Infix
next_infix l [] = None
next_infix l (place (name x) at ∷ ts) = None
next_infix l (place (number n) at ∷ ts) = None
next_infix l (place (symbol r) at ∷ ts) = infix_of l r

-- ---- units

-- the units that n of d parts of a whole are
unfoldable pub units_of : (n d : ℕ) → ℕ
units_of n d = (n * UNIT) / d

-- they are a number of units, from 1 to a whole
unfoldable pub is_share : (n d : ℕ) → Bool
is_share n d = not (d == 0) && (n * UNIT) % d == 0 && nat_le 1 (units_of n d) && nat_le (units_of n d) UNIT

unfoldable pub share : (n d at : ℕ) → Result ℕ TextFault
share n d at = natural d at >>= λ d. if is_share n d then Ok (units_of n d) else Err (Fraction at)

unfoldable pub fraction : ℕ → List Place → Read ℕ
fraction stop ts = do
  n ← digits stop natural ts
  rest ← expect s.Slash stop n.1
  units ← digits stop (share n.0) rest
  after ← expect s.CloseBrace stop units.1
  Ok (units.0, after)

-- the units of a points-to, a whole where none are named
unfoldable pub units : ℕ → List Place → Read ℕ
units stop ts = if sees s.OpenBrace ts then fraction stop (drop 1 ts) else Ok (UNIT, ts)

-- whether the parenthesis before these tokens begins a term
unfoldable pub begins_location : List Place → Bool
begins_location ts = sees s.PointsTo (after_group 0 ts)

-- what reads a part of a formula inside one construct more
abbrev pub Formulas : Type 0
Formulas = Level → Names → List Place → Read Formula

module _ (stop : ℕ) (preds : Callables) where
  -- ---- calls and points-to, where so many constructs may still be opened behind the parenthesis or the sign

  unfoldable pub callable_at : List ℕ → ℕ → Result Callable TextFault
  callable_at p at = bound_at at (callable_of preds p)

  -- at the closing parenthesis
  unfoldable pub call_end : Callable → List Term → List Place → Read Formula
  call_end p args ts =
      if not (sees s.Close ts) then Err (unexpected stop ts)
      else if length args == p.arity then Ok (Call p.index args, drop 1 ts)
      else Err (Arity (offset stop ts))

  unfoldable pub arguments : Names → ℕ → List Place → Read (List Term)
  arguments names room ts = if sees s.Close ts then Ok ([], ts) else with_commas (sum_in stop names room) ts

  -- the fault at the first token inside the parentheses of a call
  unfoldable pub deep_call : Names → Callable → List Place → TextFault
  deep_call names p ts = if sees s.Close ts then fault_or (Deep (offset stop ts)) (call_end p [] ts) else deep_term stop names ts

  unfoldable pub call_in : Names → ℕ → Callable → List Place → Read Formula
  call_in names zero p ts = Err (deep_call names p ts)
  call_in names (suc room) p ts = arguments names (suc room) ts >>= λ args. call_end p args.0 args.1

  -- the fault at the first token behind the sign of a points-to
  unfoldable pub deep_value : Names → List Place → TextFault
  deep_value names ts = if sees s.OpenBrace ts then Deep (offset stop ts) else deep_term stop names ts

  unfoldable pub value_in : Names → ℕ → Term → List Place → Read Formula
  value_in names zero loc ts = Err (deep_value names ts)
  value_in names (suc room) loc ts = do
    u ← units stop ts
    val ← operand_in stop names (suc room) u.1
    Ok (Pts loc u.0 val.0, val.1)

  -- ---- the fault where as many constructs are open as may be

  -- at an operand
  unfoldable pub deep_operand : Names → List Place → TextFault
  deep_operand names (place (symbol s.Later) at ∷ ts) = Deep at
  deep_operand names (place (symbol s.Persistently) at ∷ ts) = Deep at
  deep_operand names (place (symbol s.Forall) at ∷ ts) = Deep at
  deep_operand names (place (symbol s.Exists) at ∷ ts) = Deep at
  deep_operand names (place (symbol s.Update) at ∷ ts) = Deep at
  deep_operand names (place (symbol s.OpenPure) at ∷ ts) = Deep at
  deep_operand names (place (symbol s.Emp) at ∷ ts) = Deep at
  deep_operand names (place (symbol s.True) at ∷ ts) = Deep at
  deep_operand names (place (symbol s.False) at ∷ ts) = Deep at
  deep_operand names (place (name p) at ∷ ts) =
      if sees s.Open ts then fault_or (Deep at) (callable_at p at) else deep_term stop names (place (name p) at ∷ ts)
  deep_operand names ts = deep_term stop names ts

  -- at a name that a quantifier binds
  unfoldable pub deep_binder : List Place → TextFault
  deep_binder [] = Unexpected stop
  deep_binder (place (name x) at ∷ ts) = Deep at
  deep_binder (place (number n) at ∷ ts) = Unexpected at
  deep_binder (place (symbol r) at ∷ ts) = Unexpected at

  unfoldable pub deep_formula : Level → Names → List Place → TextFault
  deep_formula (level.Names b) names ts = deep_binder ts
  deep_formula l names ts = deep_operand names ts

  -- ---- one level, where self reads inside one construct more, and room is how many may be opened there

  module _ (self : Formulas) (room : ℕ) (names : Names) where
    unfoldable pub points_to_at : List Place → Read Formula
    points_to_at ts = do
      loc ← operand_in stop names (suc room) ts
      rest ← expect s.PointsTo stop loc.1
      value_in names room loc.0 rest

    -- at a name before a parenthesis
    unfoldable pub call_at : List ℕ → ℕ → List Place → Read Formula
    call_at p at ts = callable_at p at >>= λ p. call_in names room p ts

    unfoldable pub prefix_at : List Place → Read Formula
    prefix_at (place (symbol s.Later) at ∷ ts) = made formula.Later (self level.Prefixes names ts)
    prefix_at (place (symbol s.Persistently) at ∷ ts) = made formula.Pers (self level.Prefixes names ts)
    prefix_at (place (symbol s.Forall) at ∷ ts) = self (level.Names binder.All) names ts
    prefix_at (place (symbol s.Exists) at ∷ ts) = self (level.Names binder.Ex) names ts
    prefix_at (place (symbol s.Update) at ∷ ts) = made formula.Upd (self level.Wands names ts)
    prefix_at (place (symbol s.Open) at ∷ ts) =
        if begins_location ts then points_to_at (place (symbol s.Open) at ∷ ts) else closed_by s.Close stop (self level.Wands names ts)
    prefix_at (place (symbol s.OpenPure) at ∷ ts) = closed_by s.ClosePure stop (made Fact (pure_in stop names (suc room) pure_level.Ors ts))
    prefix_at (place (symbol s.Emp) at ∷ ts) = Ok (Fact True, ts)
    prefix_at (place (symbol s.True) at ∷ ts) = Ok (Fact True, ts)
    prefix_at (place (symbol s.False) at ∷ ts) = Ok (Fact False, ts)
    prefix_at (place (name p) at ∷ ts) = if sees s.Open ts then call_at p at (drop 1 ts) else points_to_at (place (name p) at ∷ ts)
    prefix_at ts = points_to_at ts

    -- behind the left operand of an infix, if there is one
    unfoldable pub infix_then : Option Infix → Formula → List Place → Read Formula
    infix_then None a ts = Ok (a, ts)
    infix_then (Some i) a ts = made (joined i a) (self (right_of i) names (drop 1 ts))

    unfoldable pub infix_at : Level → Formula → List Place → Read Formula
    infix_at l a ts = infix_then (next_infix l ts) a ts

    unfoldable pub stars_at : List Place → Read Formula
    stars_at ts = prefix_at ts >>= λ a. infix_at level.Stars a.0 a.1

    unfoldable pub ors_at : List Place → Read Formula
    ors_at ts = stars_at ts >>= λ a. infix_at level.Ors a.0 a.1

    unfoldable pub wands_at : List Place → Read Formula
    wands_at ts = ors_at ts >>= λ a. infix_at level.Wands a.0 a.1

  -- behind a name that a quantifier binds: a further name, or a comma and the body
  unfoldable pub behind_name : Formulas → (room : ℕ) → Names → Binder → List Place → Read Formula
  behind_name self room names b [] = Err (Unexpected stop)
  behind_name self room names b (place (name x) at ∷ ts) = self (level.Names b) names (place (name x) at ∷ ts)
  behind_name self room names b (place (number n) at ∷ ts) = Err (Unexpected at)
  behind_name self room names b (place (symbol s.Comma) at ∷ ts) = wands_at self room names ts
  behind_name self room names b (place (symbol r) at ∷ ts) = Err (Unexpected at)

  -- from the first name that a quantifier binds on
  unfoldable pub names_at : Formulas → (room : ℕ) → Names → Binder → List Place → Read Formula
  names_at self room names b [] = Err (Unexpected stop)
  names_at self room names b (place (name x) at ∷ ts) = made (quantified b) (behind_name self room (x ∷ names) b ts)
  names_at self room names b (place (number n) at ∷ ts) = Err (Unexpected at)
  names_at self room names b (place (symbol r) at ∷ ts) = Err (Unexpected at)

  unfoldable pub formula_at : Formulas → (room : ℕ) → Names → Level → List Place → Read Formula
  formula_at self room names level.Wands ts = wands_at self room names ts
  formula_at self room names level.Ors ts = ors_at self room names ts
  formula_at self room names level.Stars ts = stars_at self room names ts
  formula_at self room names level.Prefixes ts = prefix_at self room names ts
  formula_at self room names (level.Names b) ts = names_at self room names b ts
  formula_at self room names level.Updates ts = self level.Wands names ts

  -- where so many constructs may still be opened
  unfoldable pub formula_in : ℕ → Formulas
  formula_in zero l names ts = Err (deep_formula l names ts)
  formula_in (suc room) l names ts = formula_at (formula_in room) room names l ts

-- ---- Whole texts of a length, whose tokens stop at an offset: fewer than MAX_LEVELS constructs are open at each token, and the tree is at most MAX_LEVELS deep.

unfoldable pub formula_of : Callables → Names → (end stop : ℕ) → List Place → Result Formula TextFault
formula_of preds names end stop ts = shallow depth_of (offset stop ts) (all_of end stop (formula_in stop preds MAX_LEVELS level.Wands names ts))

unfoldable pub pure_of : Names → (end stop : ℕ) → List Place → Result Pure TextFault
pure_of names end stop ts = shallow pure_depth (offset stop ts) (all_of end stop (pure_in stop names MAX_LEVELS pure_level.Ors ts))

unfoldable pub term_of : Names → (end stop : ℕ) → List Place → Result Term TextFault
term_of names end stop ts = shallow term_depth (offset stop ts) (all_of end stop (sum_in stop names MAX_LEVELS ts))
