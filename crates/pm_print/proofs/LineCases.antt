-- The pieces of lines, one after the other.
use Rattle.std.proofs.Common.{◌≡◌, ℕ, zero, suc, ◌+◌, ◌<◌, List, [], ◌∷◌, ◌++◌, Result, Ok, Err, refl, ap, ◌∙◌, add-one, append_assoc, arith}
use Rattle.std.specs.Prelude.{codes, OnOk}
use Rattle.std.proofs.lemmas.List.{append-nil}
use Rattle.pm_logic.specs.declared.list.Memory.{Memory}
use Rattle.pm_logic.specs.declared.formula.Formula.{Formula}
use Rattle.pm_logic.specs.declared.formula.Pred.{Pred}
use Rattle.pm_tokens.specs.declared.symbol.Symbol.TheVariants as s
use Rattle.pm_tokens.specs.Tokens.{name}
use Rattle.pm_print.specs.declared.sign.Sign.TheVariants as g
use Rattle.pm_print.specs.Printing.{Names, Piece, blank, token, sign, operator, between, text_of, spelled, binder_name, formula_pieces}
use Rattle.pm_print.specs.Parts.{sign_pieces, separator}
use Rattle.pm_print.specs.Lines.{parameters, names_pieces, predicate_pieces, lemma_pieces}
use Rattle.pm_print.proofs.Joined.{text_none}

pub no_parameters : parameters 0 ≡ []
unfolding parameters
no_parameters = refl

pub one_parameter : (n : ℕ) → parameters (n + 1) ≡ parameters n ++ binder_name n ∷ []
unfolding parameters
one_parameter n = rw add-one refl

pub no_names : names_pieces [] ≡ []
unfolding names_pieces
no_names = refl

names_then : (xs : Names) (y x : List ℕ) → names_pieces ((xs ++ y ∷ []) ++ x ∷ []) ≡ names_pieces (xs ++ y ∷ []) ++ (sign s.Comma ∷ blank ∷ token (name x) ∷ [])
unfolding names_pieces
names_then [] y x = refl
names_then (z ∷ []) y x = refl
names_then (z ∷ v ∷ xs) y x = ap (λ (ps : List Piece). token (name z) ∷ sign s.Comma ∷ blank ∷ ps) (names_then (v ∷ xs) y x)

pub next_parameter : (n : ℕ) → names_pieces (parameters (n + 1)) ≡ names_pieces (parameters n) ++ (separator n ++ token (name (binder_name n)) ∷ [])
unfolding names_pieces parameters separator
next_parameter zero = refl
next_parameter (suc n) = rw add-one (names_then (parameters n) (binder_name n) (binder_name (suc n)))

pub separator_none : (n : ℕ) → n ≡ 0 → text_of (separator n) ≡ []
unfolding separator text_of
separator_none n e = rw e refl

pub separator_some : (n : ℕ) → 0 < n → separator n ≡ sign_pieces g.Comma
unfolding separator sign_pieces
separator_some zero some = absurd (omega arith)
separator_some (suc n) some = refl

head_text : (x y : List ℕ) → text_of (token (name x) ∷ blank ∷ token (name y) ∷ []) ≡ x ++ (32 ∷ y)
unfolding text_of spelled
head_text x y = ap (λ (z : List ℕ). x ++ (32 ∷ z)) (append-nil y)

-- a word, a blank and a name one after the other
pub head_joined : (t₀ t₁ t₂ t₃ x y z : List ℕ) (r : Result (Unit {0}) Memory) → t₁ ≡ t₀ ++ x → t₂ ≡ t₁ ++ 32 ∷ [] → z ≡ y → OnOk r (t₃ ≡ t₂ ++ z)
    → OnOk r (t₃ ≡ t₀ ++ text_of (token (name x) ∷ blank ∷ token (name y) ∷ []))
head_joined t₀ t₁ t₂ t₃ x y z (Ok u) h₁ h₂ same h₃ = h₃ ∙ rw (same, h₂, h₁, head_text x y) (simp append_assoc)
head_joined t₀ t₁ t₂ t₃ x y z (Err e) h₁ h₂ same h₃ = tt

pub predicate_is : (preds : List Pred) (p : Pred) (vars : Names) → vars ≡ parameters p.arity → predicate_pieces preds p ≡ (token (name (codes "Predicate")) ∷ blank ∷ token (name p.name) ∷ [])
    ++ (between s.Open s.Close (names_pieces (parameters p.arity)) ++ (sign_pieces g.Defines ++ formula_pieces preds 0 vars p.body))
unfolding sign_pieces
predicate_is preds p vars are = rw are (ap (λ (ps : List Piece). token (name (codes "Predicate")) ∷ blank ∷ token (name p.name) ∷ ps)
    (append_assoc (between s.Open s.Close (names_pieces (parameters p.arity))) (operator s.Defines) (formula_pieces preds 0 (parameters p.arity) p.body)))

pub lemma_is : (preds : List Pred) (x : List ℕ) (f : Formula) (vars : Names) → vars ≡ [] → lemma_pieces preds x f ≡ (token (name (codes "Lemma")) ∷ blank ∷ token (name x) ∷ []) ++ (sign_pieces g.Colon ++ formula_pieces preds 0 vars f)
unfolding sign_pieces
lemma_is preds x f vars none = rw none refl

pub ruleset parameter_rules = (text_none, append-nil, no_parameters, one_parameter, no_names)
