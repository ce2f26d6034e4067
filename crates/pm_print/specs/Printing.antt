-- The text of terms, pure formulas and formulas. A part whose level is below the one that is needed stands in parentheses.
use Rattle.std.specs.Prelude.{ℕ, zero, suc, ◌/◌, ◌%◌, ℤ, pos, negsuc, Bool, ◌&&◌, ◌==◌, nat_lt, if◌then◌else◌, List, [], ◌∷◌, ◌++◌, length, get_or, map}
use Rattle.std.specs.Fmt.{decimal}
use Rattle.pm_logic.specs.declared.formula.Term.{Term}
use Rattle.pm_logic.specs.declared.formula.Term.TheVariants.{Lit, Var}
use Rattle.pm_logic.specs.declared.formula.Pure.{Pure}
use Rattle.pm_logic.specs.declared.formula.Pure.TheVariants.{True, False, Eq, Le, Lt}
use Rattle.pm_logic.specs.declared.formula.Formula.{Formula}
use Rattle.pm_logic.specs.declared.formula.Formula.TheVariants.{Pure as Fact, Pts, Call}
use Rattle.pm_logic.specs.declared.formula.Pred.{Pred}
use Rattle.pm_logic.specs.declared.formula.TheConstants.{UNIT}
use Rattle.pm_logic.specs.Trees.{add, sub, neg, scale, both, either, nope, Sep, Wand, And, Or, Imp, All, Ex, Later, Pers, Upd}
use Rattle.pm_tokens.specs.declared.symbol.Symbol.{Symbol}
use Rattle.pm_tokens.specs.declared.symbol.Symbol.TheVariants as s
use Rattle.pm_tokens.specs.Tokens.{Token, name, number, symbol}
use Rattle.pm_tokens.specs.Symbols.{Row, symbols, keywords}
use Rattle.pm_tokens.specs.contracts.symbol.Symbol.{the_type}
use denote.Enum.Bare.{sameb}

-- the names of the variables, index 0 first
abbrev pub Names : Type 0
Names = List (List ℕ)

-- ---- pieces: tokens, and blanks between them

pub data Piece : Type 0 where
  blank : Piece
  token : Token → Piece

abbrev pub sign : Symbol → Piece
sign r = token (symbol r)

unfoldable pub same_symbol : Symbol → Symbol → Bool
same_symbol = sameb the_type

-- the first spelling of a symbol in a table
unfoldable pub spelling : List Row → Symbol → List ℕ
spelling [] r = []
spelling (row ∷ rows) r = if same_symbol row.1 r then row.0 else spelling rows r

unfoldable pub spelled : Piece → List ℕ
spelled blank = 32 ∷ []
spelled (token (name x)) = x
spelled (token (number n)) = decimal n
spelled (token (symbol r)) = spelling (symbols ++ keywords) r

unfoldable pub text_of : List Piece → List ℕ
text_of [] = []
text_of (p ∷ ps) = spelled p ++ text_of ps

-- one blank on each side
abbrev pub operator : Symbol → List Piece
operator r = blank ∷ sign r ∷ blank ∷ []

-- one blank behind
abbrev pub before : Symbol → List Piece
before r = sign r ∷ blank ∷ []

abbrev pub between : Symbol → Symbol → List Piece → List Piece
between l r ps = sign l ∷ (ps ++ sign r ∷ [])

-- parentheses where the level is below the one that is needed
abbrev pub level : (has needs : ℕ) → List Piece → List Piece
level has needs ps = if nat_lt has needs then between s.Open s.Close ps else ps

-- ---- terms: sums 1, products and negations 2, literals and variables 3

abbrev pub literal : ℤ → List Piece
literal (pos n) = token (number n) ∷ []
literal (negsuc n) = sign s.Minus ∷ token (number (suc n)) ∷ []

abbrev pub word : List (List ℕ) → ℕ → Piece
word names i = token (name (get_or names i []))

unfoldable pub term_pieces : ℕ → Names → Term → List Piece
term_pieces needs names (Lit z) = literal z
term_pieces needs names (Var i) = word names i ∷ []
term_pieces needs names (add a b) = level 1 needs (term_pieces 1 names a ++ operator s.Plus ++ term_pieces 2 names b)
term_pieces needs names (sub a b) = level 1 needs (term_pieces 1 names a ++ operator s.Minus ++ term_pieces 2 names b)
term_pieces needs names (neg a) = level 2 needs (sign s.Minus ∷ between s.Open s.Close (term_pieces 0 names a))
term_pieces needs names (scale z a) = level 2 needs (literal z ++ operator s.Asterisk ++ term_pieces 2 names a)

-- terms with a comma and a blank between
unfoldable pub terms_pieces : Names → List Term → List Piece
terms_pieces names [] = []
terms_pieces names (t ∷ []) = term_pieces 0 names t
terms_pieces names (t ∷ u ∷ ts) = term_pieces 0 names t ++ sign s.Comma ∷ blank ∷ terms_pieces names (u ∷ ts)

-- ---- pure formulas: disjunctions 1, conjunctions 2, negations 3, others 4

unfoldable pub pure_pieces : ℕ → Names → Pure → List Piece
pure_pieces needs names True = sign s.True ∷ []
pure_pieces needs names False = sign s.False ∷ []
pure_pieces needs names (Eq a b) = term_pieces 0 names a ++ operator s.Equals ++ term_pieces 0 names b
pure_pieces needs names (Le a b) = term_pieces 0 names a ++ operator s.AtMost ++ term_pieces 0 names b
pure_pieces needs names (Lt a b) = term_pieces 0 names a ++ operator s.Less ++ term_pieces 0 names b
pure_pieces needs names (either p q) = level 1 needs (pure_pieces 2 names p ++ operator s.Or ++ pure_pieces 1 names q)
pure_pieces needs names (both p q) = level 2 needs (pure_pieces 3 names p ++ operator s.And ++ pure_pieces 2 names q)
pure_pieces needs names (nope p) = level 3 needs (before s.Not ++ pure_pieces 3 names p)

-- ---- units: a whole as `↦`, and others as a fraction in lowest terms

-- the greatest number up to n that passes, 0 where none does
unfoldable pub greatest : (ℕ → Bool) → ℕ → ℕ
greatest p zero = 0
greatest p (suc n) = if p (suc n) then suc n else greatest p n

unfoldable pub common_divisor : ℕ → ℕ → ℕ
common_divisor a b = greatest (λ n. a % n == 0 && b % n == 0) a

abbrev pub fraction : (n d : ℕ) → List Piece
fraction n d = between s.OpenBrace s.CloseBrace (token (number n) ∷ sign s.Slash ∷ token (number d) ∷ [])

unfoldable pub units_pieces : ℕ → List Piece
units_pieces u =
    let n = common_divisor u UNIT in
    if u == UNIT then operator s.PointsTo else blank ∷ sign s.PointsTo ∷ (fraction (u / n) (UNIT / n) ++ blank ∷ [])

-- ---- formulas: quantifiers, updates, wands and implications 0, disjunctions 1, conjunctions and stars 2, laters and persistence 3, others 4

-- the name of a binder by the number of variables around it
abbrev pub binder_name : ℕ → List ℕ
binder_name k = 95 ∷ decimal k

abbrev pub bound : Names → Names
bound names = binder_name (length names) ∷ names

abbrev pub quantifier : Symbol → Names → List Piece
quantifier r names = before r ++ token (name (binder_name (length names))) ∷ sign s.Comma ∷ blank ∷ []

abbrev pub names_of : List Pred → Names
names_of preds = map (λ p. p.name) preds

unfoldable pub formula_pieces : List Pred → ℕ → Names → Formula → List Piece
formula_pieces preds needs names (All a) = level 0 needs (quantifier s.Forall names ++ formula_pieces preds 0 (bound names) a)
formula_pieces preds needs names (Ex a) = level 0 needs (quantifier s.Exists names ++ formula_pieces preds 0 (bound names) a)
formula_pieces preds needs names (Upd a) = level 0 needs (before s.Update ++ formula_pieces preds 0 names a)
formula_pieces preds needs names (Wand a b) = level 0 needs (formula_pieces preds 1 names a ++ operator s.Wand ++ formula_pieces preds 0 names b)
formula_pieces preds needs names (Imp a b) = level 0 needs (formula_pieces preds 1 names a ++ operator s.Arrow ++ formula_pieces preds 0 names b)
formula_pieces preds needs names (Or a b) = level 1 needs (formula_pieces preds 2 names a ++ operator s.Or ++ formula_pieces preds 1 names b)
formula_pieces preds needs names (And a b) = level 2 needs (formula_pieces preds 3 names a ++ operator s.And ++ formula_pieces preds 2 names b)
formula_pieces preds needs names (Sep a b) = level 2 needs (formula_pieces preds 3 names a ++ operator s.Star ++ formula_pieces preds 2 names b)
formula_pieces preds needs names (Later a) = level 3 needs (before s.Later ++ formula_pieces preds 3 names a)
formula_pieces preds needs names (Pers a) = level 3 needs (before s.Persistently ++ formula_pieces preds 3 names a)
formula_pieces preds needs names (Fact p) = between s.OpenPure s.ClosePure (pure_pieces 0 names p)
formula_pieces preds needs names (Pts l u v) = term_pieces 3 names l ++ units_pieces u ++ term_pieces 3 names v
formula_pieces preds needs names (Call q ts) = word (names_of preds) q ∷ between s.Open s.Close (terms_pieces names ts)

-- ---- texts

abbrev pub term_text : Names → Term → List ℕ
term_text names t = text_of (term_pieces 0 names t)

abbrev pub pure_text : Names → Pure → List ℕ
pure_text names p = text_of (pure_pieces 0 names p)

abbrev pub formula_text : List Pred → Names → Formula → List ℕ
formula_text preds names f = text_of (formula_pieces preds 0 names f)

-- the tokens of pieces
unfoldable pub tokens_of : List Piece → List Token
tokens_of [] = []
tokens_of (blank ∷ ps) = tokens_of ps
tokens_of (token t ∷ ps) = t ∷ tokens_of ps
