-- The text of a table of predicates.
use Rattle.std.proofs.Common.{◌≡◌, ℕ, ◌-◌, ◌<◌, ◌≤◌, List, [], ◌∷◌, ◌++◌, length, get_or, take, drop, refl, sym, ◌∙◌, ap, arith, append_assoc, append-nil}
use Rattle.std.specs.Prelude.{codes}
use Rattle.std.specs.Fmt.{decimal}
use Rattle.pm_logic.specs.declared.formula.Formula.{Formula}
use Rattle.pm_logic.specs.declared.formula.Pred.{Pred}
use Rattle.pm_dtext.specs.Spelling.{formula_text, items_text, number_text, header_text, pred_text}
use Rattle.pm_dtext.specs.Texts.{arities_of}
use Rattle.pm_check.specs.Table.{preds_text, table_text}
use Rattle.pm_write.proofs.Spelled.{formula_before, items_before, take_all}

number_before : (n : ℕ) (rest : List ℕ) → number_text n rest ≡ number_text n [] ++ rest
number_before n rest = simp (append_assoc, append-nil)

pub no_arities : (preds : List Pred) (out : List ℕ) → length preds < 1 → out ≡ out ++ items_text number_text (arities_of preds) []
unfolding items_text
no_arities [] out few = sym (append-nil out)
no_arities (q ∷ preds) out few = absurd (omega arith)

pub more_arities : (preds : List Pred) (q : Pred) (n : ℕ) (word : List ℕ) → 1 ≤ length preds → q ≡ get_or preds 0 q → n ≡ q.arity → word ≡ codes " " ++ decimal n
    → items_text number_text (arities_of preds) [] ≡ word ++ items_text number_text (arities_of (take (length preds - 1) (drop 1 preds))) []
unfolding items_text
more_arities [] q n word some at arity e = absurd (omega arith)
more_arities (x ∷ preds) q n word some at arity e =
    let same : word ≡ codes " " ++ decimal x.arity = e ∙ ap (λ m. codes " " ++ decimal m) (arity ∙ ap (λ (y : Pred). y.arity) at) in
    ap (λ t. 32 ∷ t) (number_before x.arity (items_text number_text (arities_of preds) []) ∙ ap (λ t. t ++ items_text number_text (arities_of preds) []) (append-nil (decimal x.arity)))
    ∙ ap (λ t. t ++ items_text number_text (arities_of preds) []) (sym same)
    ∙ ap (λ ps. word ++ items_text number_text (arities_of ps) []) (sym (take_all preds (length (x ∷ preds) - 1) (omega arith)))

pub one_pred : (name piece : List ℕ) (f : Formula) → piece ≡ name → codes "pred " ++ (name ++ (32 ∷ formula_text f (10 ∷ []))) ≡ codes "pred " ++ (piece ++ (codes " " ++ (formula_text f [] ++ codes "\n")))
one_pred name piece f same = ap (λ t. codes "pred " ++ (name ++ (32 ∷ t))) (formula_before f (10 ∷ [])) ∙ ap (λ t. codes "pred " ++ (t ++ (32 ∷ (formula_text f [] ++ 10 ∷ [])))) (sym same)

pred_before : (q : Pred) (rest : List ℕ) → pred_text q rest ≡ pred_text q [] ++ rest
pred_before q rest =
    ap (λ t. codes "pred " ++ (q.name ++ (32 ∷ t))) (formula_before q.body (10 ∷ rest))
    ∙ regroup q.name (formula_text q.body [])
    ∙ ap (λ t. (codes "pred " ++ (q.name ++ (32 ∷ t))) ++ rest) (sym (formula_before q.body (10 ∷ [])))
  where
    regroup : (a b : List ℕ) → codes "pred " ++ (a ++ (32 ∷ (b ++ (10 ∷ rest)))) ≡ (codes "pred " ++ (a ++ (32 ∷ (b ++ 10 ∷ [])))) ++ rest
    regroup a b = simp append_assoc

pub more_preds : (preds : List Pred) (q : Pred) → 1 ≤ length preds → q ≡ get_or preds 0 q → preds_text preds [] ≡ pred_text q [] ++ preds_text (take (length preds - 1) (drop 1 preds)) []
more_preds [] q some at = absurd (omega arith)
more_preds (x ∷ preds) q some at =
    pred_before x (preds_text preds [])
    ∙ ap (λ (y : Pred). pred_text y [] ++ preds_text preds []) (sym at)
    ∙ ap (λ ps. pred_text q [] ++ preds_text ps []) (sym (take_all preds (length (x ∷ preds) - 1) (omega arith)))

preds_before : (preds : List Pred) (rest : List ℕ) → preds_text preds rest ≡ preds_text preds [] ++ rest
preds_before [] rest = refl
preds_before (q ∷ preds) rest =
    ap (pred_text q) (preds_before preds rest) ∙ pred_before q (preds_text preds [] ++ rest)
    ∙ sym (append_assoc (pred_text q []) (preds_text preds []) rest)
    ∙ ap (λ t. t ++ rest) (sym (pred_before q (preds_text preds [])))

arities_before : (arities t rest : List ℕ) → items_text number_text arities (t ++ rest) ≡ items_text number_text arities t ++ rest
arities_before arities t rest =
    items_before number_text number_before arities (t ++ rest)
    ∙ sym (append_assoc (items_text number_text arities []) t rest)
    ∙ ap (λ x. x ++ rest) (sym (items_before number_text number_before arities t))

pub table_pieces : (preds : List Pred) → table_text (arities_of preds) preds [] ≡ codes "mosel-derivation 1\narities" ++ (items_text number_text (arities_of preds) [] ++ (codes "\n" ++ preds_text preds []))
table_pieces preds = ap (λ t. codes "mosel-derivation 1\narities" ++ t) (items_before number_text number_before (arities_of preds) (10 ∷ preds_text preds []))

pub table_before : (arities : List ℕ) (preds : List Pred) (rest : List ℕ) → table_text arities preds rest ≡ table_text arities preds [] ++ rest
table_before arities preds rest =
    ap (λ t. header_text (codes "arities" ++ t))
    (ap (λ t. items_text number_text arities (10 ∷ t)) (preds_before preds rest) ∙ arities_before arities (10 ∷ preds_text preds []) rest)
