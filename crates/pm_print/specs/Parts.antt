-- The parts of what is printed, as code joins them.
use Rattle.std.specs.Prelude.{ℕ, zero, suc, nat_lt, if◌then◌else◌, List, [], ◌∷◌, ◌++◌}
use Rattle.pm_logic.specs.declared.formula.Term.{Term}
use Rattle.pm_logic.specs.declared.formula.Term.TheVariants.{Lit, Var}
use Rattle.pm_logic.specs.declared.formula.Pure.{Pure}
use Rattle.pm_logic.specs.declared.formula.Pure.TheVariants.{True, False, Eq, Le, Lt}
use Rattle.pm_logic.specs.declared.formula.Formula.{Formula}
use Rattle.pm_logic.specs.declared.formula.Formula.TheVariants.{Pure as Fact, Pts, Call}
use Rattle.pm_logic.specs.Trees.{add, sub, neg, scale, both, either, nope, Sep, Wand, And, Or, Imp, All, Ex, Later, Pers, Upd}
use Rattle.pm_tokens.specs.declared.symbol.Symbol.TheVariants as s
use Rattle.pm_tokens.specs.Tokens.{name}
use Rattle.pm_print.specs.declared.sign.Sign.{Sign}
use Rattle.pm_print.specs.declared.sign.Sign.TheVariants as g
use Rattle.pm_print.specs.declared.sign.Shape.{Shape}
use Rattle.pm_print.specs.Printing.{Names, Piece, blank, token, sign, operator, before, bound, binder_name, term_pieces}

-- a sign, with the blanks around it
unfoldable pub sign_pieces : Sign → List Piece
sign_pieces g.Plus = operator s.Plus
sign_pieces g.Minus = operator s.Minus
sign_pieces g.Times = operator s.Asterisk
sign_pieces g.Equals = operator s.Equals
sign_pieces g.AtMost = operator s.AtMost
sign_pieces g.Less = operator s.Less
sign_pieces g.Star = operator s.Star
sign_pieces g.Wand = operator s.Wand
sign_pieces g.And = operator s.And
sign_pieces g.Or = operator s.Or
sign_pieces g.Arrow = operator s.Arrow
sign_pieces g.PointsTo = operator s.PointsTo
sign_pieces g.Defines = operator s.Defines
sign_pieces g.Colon = operator s.Colon
sign_pieces g.Not = before s.Not
sign_pieces g.Later = before s.Later
sign_pieces g.Persistently = before s.Persistently
sign_pieces g.Update = before s.Update
sign_pieces g.Forall = before s.Forall
sign_pieces g.Exists = before s.Exists
sign_pieces g.Comma = before s.Comma
sign_pieces g.True = sign s.True ∷ []
sign_pieces g.False = sign s.False ∷ []
sign_pieces g.Open = sign s.Open ∷ []
sign_pieces g.Close = sign s.Close ∷ []
sign_pieces g.OpenPure = sign s.OpenPure ∷ []
sign_pieces g.ClosePure = sign s.ClosePure ∷ []
sign_pieces g.Slash = sign s.Slash ∷ []
sign_pieces g.Negation = sign s.Minus ∷ sign s.Open ∷ []
sign_pieces g.OpenUnits = blank ∷ sign s.PointsTo ∷ sign s.OpenBrace ∷ []
sign_pieces g.CloseUnits = sign s.CloseBrace ∷ blank ∷ []

-- the parentheses where the level is below the one that is needed
unfoldable pub opening : (has needs : ℕ) → List Piece
opening has needs = if nat_lt has needs then sign s.Open ∷ [] else []

unfoldable pub closing : (has needs : ℕ) → List Piece
closing has needs = if nat_lt has needs then sign s.Close ∷ [] else []

-- the names under so many binders
unfoldable pub bound_by : ℕ → Names → Names
bound_by zero names = names
bound_by (suc k) names = bound (bound_by k names)

-- what stands before the body of a quantifier around which there are so many variables
unfoldable pub quantifier_pieces : Sign → ℕ → List Piece
quantifier_pieces r k = sign_pieces r ++ token (name (binder_name k)) ∷ sign s.Comma ∷ blank ∷ []

-- ---- the shapes of trees, and anything where a tree isn't of that kind

abbrev pub shape : (level left right : ℕ) → Sign → Shape
shape l a b r = record { level = l; left = a; right = b; sign = r }

unfoldable pub sum_sign : Term → Sign
sum_sign (Lit z) = g.Minus
sum_sign (Var i) = g.Minus
sum_sign (add a b) = g.Plus
sum_sign (sub a b) = g.Minus
sum_sign (neg a) = g.Minus
sum_sign (scale z a) = g.Minus

unfoldable pub comparison_sign : Pure → Sign
comparison_sign True = g.Less
comparison_sign False = g.Less
comparison_sign (Eq a b) = g.Equals
comparison_sign (Le a b) = g.AtMost
comparison_sign (Lt a b) = g.Less
comparison_sign (both p q) = g.Less
comparison_sign (either p q) = g.Less
comparison_sign (nope p) = g.Less

unfoldable pub pure_shape : Pure → Shape
pure_shape True = shape 1 2 1 g.Or
pure_shape False = shape 1 2 1 g.Or
pure_shape (Eq a b) = shape 1 2 1 g.Or
pure_shape (Le a b) = shape 1 2 1 g.Or
pure_shape (Lt a b) = shape 1 2 1 g.Or
pure_shape (both p q) = shape 2 3 2 g.And
pure_shape (either p q) = shape 1 2 1 g.Or
pure_shape (nope p) = shape 1 2 1 g.Or

unfoldable pub formula_shape : Formula → Shape
formula_shape (Fact p) = shape 0 0 0 g.Wand
formula_shape (Sep a b) = shape 2 3 2 g.Star
formula_shape (Wand a b) = shape 0 1 0 g.Wand
formula_shape (And a b) = shape 2 3 2 g.And
formula_shape (Or a b) = shape 1 2 1 g.Or
formula_shape (Imp a b) = shape 0 1 0 g.Arrow
formula_shape (All a) = shape 0 0 0 g.Forall
formula_shape (Ex a) = shape 0 0 0 g.Exists
formula_shape (Later a) = shape 3 3 3 g.Later
formula_shape (Pers a) = shape 3 3 3 g.Persistently
formula_shape (Upd a) = shape 0 0 0 g.Update
formula_shape (Pts l u v) = shape 0 0 0 g.Wand
formula_shape (Call q ts) = shape 0 0 0 g.Wand

-- terms, each behind a comma and a blank
unfoldable pub more_terms : Names → List Term → List Piece
more_terms names [] = []
more_terms names (t ∷ ts) = (sign s.Comma ∷ blank ∷ term_pieces 0 names t) ++ more_terms names ts

-- what stands before parameter i
unfoldable pub separator : ℕ → List Piece
separator zero = []
separator (suc i) = sign s.Comma ∷ blank ∷ []
