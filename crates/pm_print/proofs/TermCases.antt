-- Printed terms at the variants as code makes them.
use Rattle.std.proofs.Common.{◌≡◌, ◌⊎◌, inl, inr, ℕ, zero, suc, ℤ, ◌+◌, ◌-◌, ◌<◌, ◌≤◌, List, [], ◌∷◌, ◌++◌, length, take, drop, get_or, refl, sym, ap, ◌∙◌, append_assoc, add-one, arith}
use Rattle.std.proofs.lemmas.List.{append-nil, take_all}
use Rattle.pm_logic.specs.declared.formula.Term.{Term, the_lemmas}
use Rattle.pm_logic.specs.declared.formula.Term.TheVariants.{Lit, Var}
use Rattle.pm_logic.specs.declared.formula.Term.TheViews as view
use Rattle.pm_logic.specs.declared.formula.Term.TheBlock as block
use denote.Hole.Carrier as carrier
use Rattle.pm_tokens.specs.declared.symbol.Symbol.TheVariants as s
use Rattle.pm_print.specs.declared.sign.Sign.{Sign}
use Rattle.pm_print.specs.declared.sign.Sign.TheVariants as g
use Rattle.pm_print.specs.Printing.{Names, Piece, blank, sign, operator, word, literal, term_pieces, terms_pieces}
use Rattle.pm_print.specs.Parts.{opening, closing, sign_pieces, sum_sign, more_terms}
use Rattle.pm_print.proofs.Joined.{text_none, levelled_three}

pub sum_lit : (z : ℤ) → sum_sign (Lit z) ≡ g.Minus
unfolding block.shape-the_row-Term-0 block.hidden-the_row-Term-0 carrier.hidden sum_sign
sum_lit z = refl

pub sum_var : (i : ℕ) → sum_sign (Var i) ≡ g.Minus
unfolding block.shape-the_row-Term-0 block.hidden-the_row-Term-0 carrier.hidden sum_sign
sum_var i = refl

pub sum_add : (a b : Term) → sum_sign (view.Add a b) ≡ g.Plus
unfolding block.shape-the_row-Term-0 block.hidden-the_row-Term-0 carrier.hidden sum_sign
sum_add a b = refl

pub sum_sub : (a b : Term) → sum_sign (view.Sub a b) ≡ g.Minus
unfolding block.shape-the_row-Term-0 block.hidden-the_row-Term-0 carrier.hidden sum_sign
sum_sub a b = refl

pub sum_neg : (a : Term) → sum_sign (view.Neg a) ≡ g.Minus
unfolding block.shape-the_row-Term-0 block.hidden-the_row-Term-0 carrier.hidden sum_sign
sum_neg a = refl

pub sum_scale : (z : ℤ) (a : Term) → sum_sign (view.Scale z a) ≡ g.Minus
unfolding block.shape-the_row-Term-0 block.hidden-the_row-Term-0 carrier.hidden sum_sign
sum_scale z a = refl

pub ruleset sum_signs = (the_lemmas, sum_lit, sum_var, sum_add, sum_sub, sum_neg, sum_scale)

pub lit_pieces : (n : ℕ) (names : Names) (z : ℤ) → term_pieces n names (Lit z) ≡ literal z
unfolding term_pieces
lit_pieces n names z = refl

pub var_pieces : (n : ℕ) (names : Names) (i : ℕ) → term_pieces n names (Var i) ≡ word names i ∷ []
unfolding term_pieces
var_pieces n names i = refl

pub ruleset term_leaves = (the_lemmas, lit_pieces, var_pieces)

pub sum_pieces : (n : ℕ) (names : Names) (t a b x y : Term) (r : Sign) → (t ≡ view.Add a b) ⊎ (t ≡ view.Sub a b) → x ≡ a → y ≡ b → r ≡ sum_sign t
    → term_pieces n names t ≡ opening 1 n ++ (term_pieces 1 names x ++ (sign_pieces r ++ (term_pieces 2 names y ++ closing 1 n)))
unfolding block.shape-the_row-Term-0 block.hidden-the_row-Term-0 carrier.hidden term_pieces sum_sign sign_pieces
sum_pieces n names t a b x y r (inl e) f h k = rw (k, e, f, h) (levelled_three 1 n (term_pieces 1 names a) (operator s.Plus) (term_pieces 2 names b))
sum_pieces n names t a b x y r (inr e) f h k = rw (k, e, f, h) (levelled_three 1 n (term_pieces 1 names a) (operator s.Minus) (term_pieces 2 names b))

pub neg_pieces : (n : ℕ) (names : Names) (t a x : Term) → t ≡ view.Neg a → x ≡ a
    → term_pieces n names t ≡ opening 2 n ++ (sign_pieces g.Negation ++ (term_pieces 0 names x ++ (sign_pieces g.Close ++ closing 2 n)))
unfolding block.shape-the_row-Term-0 block.hidden-the_row-Term-0 carrier.hidden term_pieces sign_pieces
neg_pieces n names t a x e f = rw (e, f) (levelled_three 2 n (sign s.Minus ∷ sign s.Open ∷ []) (term_pieces 0 names a) (sign s.Close ∷ []))

pub scale_pieces : (n : ℕ) (names : Names) (t : Term) (z : ℤ) (a x : Term) → t ≡ view.Scale z a → x ≡ a
    → term_pieces n names t ≡ opening 2 n ++ (literal z ++ (sign_pieces g.Times ++ (term_pieces 2 names x ++ closing 2 n)))
unfolding block.shape-the_row-Term-0 block.hidden-the_row-Term-0 carrier.hidden term_pieces sign_pieces
scale_pieces n names t z a x e f = rw (e, f) (levelled_three 2 n (literal z) (operator s.Asterisk) (term_pieces 2 names a))

pub no_more : (names : Names) → more_terms names [] ≡ []
unfolding more_terms
no_more names = refl

pub one_more : (names : Names) (ts : List Term) (i : ℕ) (d : Term) → i < length ts
    → more_terms names (take (i + 1) ts) ≡ more_terms names (take i ts) ++ (sign_pieces g.Comma ++ term_pieces 0 names (get_or ts i d))
unfolding more_terms sign_pieces
one_more names [] i d lt = absurd (omega arith)
one_more names (t ∷ ts) zero d lt = append-nil (sign s.Comma ∷ blank ∷ term_pieces 0 names t)
one_more names (t ∷ ts) (suc i) d lt =
    let first : List Piece = sign s.Comma ∷ blank ∷ term_pieces 0 names t in
    rw add-one (ap (λ (ps : List Piece). first ++ ps) (rw add-one at (one_more names ts i d (omega arith))) ∙ sym (append_assoc first (more_terms names (take i ts)) (sign s.Comma ∷ blank ∷ term_pieces 0 names (get_or ts i d))))

-- one term more, where it is the next of the list
pub next_more : (names : Names) (ts : List Term) (i : ℕ) (x : Term) → i < length ts → x ≡ get_or ts i x
    → more_terms names (take (i + 1) ts) ≡ more_terms names (take i ts) ++ (sign_pieces g.Comma ++ term_pieces 0 names x)
next_more names ts i x lt is = one_more names ts i x lt ∙ ap (λ (y : Term). more_terms names (take i ts) ++ (sign_pieces g.Comma ++ term_pieces 0 names y)) (sym is)

pub terms_some : (names : Names) (t : Term) (ts : List Term) → terms_pieces names (t ∷ ts) ≡ term_pieces 0 names t ++ more_terms names ts
unfolding terms_pieces more_terms
terms_some names t [] = sym (append-nil (term_pieces 0 names t))
terms_some names t (u ∷ ts) = ap (λ (ps : List Piece). term_pieces 0 names t ++ sign s.Comma ∷ blank ∷ ps) (terms_some names u ts)

pub ruleset more_rules = (arith, text_none, append-nil, no_more)

pub terms_empty : (names : Names) (ts : List Term) → length ts < 1 → terms_pieces names ts ≡ []
unfolding terms_pieces
terms_empty names [] none = refl
terms_empty names (t ∷ ts) none = absurd (omega arith)

pub terms_first : (names : Names) (ts : List Term) (x : Term) → 1 ≤ length ts → x ≡ get_or ts 0 x
    → terms_pieces names ts ≡ term_pieces 0 names x ++ more_terms names (take (length ts - 1) (drop 1 ts))
terms_first names [] x some is = absurd (omega arith)
terms_first names (t ∷ ts) x some is =
    let whole : take (suc (length ts) - 1) ts ≡ ts = take_all (suc (length ts) - 1) ts (omega arith) in
    rw (is, whole) (terms_some names t ts)
