-- The lines of predicates and of statements.
use Rattle.std.specs.Prelude.{ℕ, zero, suc, List, [], ◌∷◌, ◌++◌, codes}
use Rattle.pm_logic.specs.declared.formula.Formula.{Formula}
use Rattle.pm_logic.specs.declared.formula.Pred.{Pred}
use Rattle.pm_tokens.specs.declared.symbol.Symbol.TheVariants as s
use Rattle.pm_tokens.specs.Tokens.{name}
use Rattle.pm_print.specs.Printing.{Names, Piece, blank, token, sign, operator, between, text_of, binder_name, formula_pieces}

-- the names of so many parameters, `_0` first
unfoldable pub parameters : ℕ → Names
parameters zero = []
parameters (suc n) = parameters n ++ binder_name n ∷ []

-- names with a comma and a blank between
unfoldable pub names_pieces : Names → List Piece
names_pieces [] = []
names_pieces (x ∷ []) = token (name x) ∷ []
names_pieces (x ∷ y ∷ names) = token (name x) ∷ sign s.Comma ∷ blank ∷ names_pieces (y ∷ names)

abbrev pub predicate_pieces : List Pred → Pred → List Piece
predicate_pieces preds p =
    token (name (codes "Predicate")) ∷ blank ∷ token (name p.name)
    ∷ (between s.Open s.Close (names_pieces (parameters p.arity)) ++ operator s.Defines ++ formula_pieces preds 0 (parameters p.arity) p.body)

abbrev pub lemma_pieces : List Pred → List ℕ → Formula → List Piece
lemma_pieces preds x f = token (name (codes "Lemma")) ∷ blank ∷ token (name x) ∷ (operator s.Colon ++ formula_pieces preds 0 [] f)

-- a full stop and a line feed
abbrev pub line_end : List ℕ
line_end = 46 ∷ 10 ∷ []

abbrev pub predicate_line : List Pred → Pred → List ℕ
predicate_line preds p = text_of (predicate_pieces preds p) ++ line_end

abbrev pub lemma_line : List Pred → List ℕ → Formula → List ℕ
lemma_line preds x f = text_of (lemma_pieces preds x f) ++ line_end
