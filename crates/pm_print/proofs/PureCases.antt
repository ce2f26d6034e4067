-- Printed pure formulas at the variants as code makes them.
use Rattle.std.proofs.Common.{◌≡◌, ◌⊎◌, inl, inr, ℕ, ◌++◌, refl, append_assoc}
use Rattle.pm_logic.specs.declared.formula.Term.{Term}
use Rattle.pm_logic.specs.declared.formula.Pure.{Pure, the_lemmas}
use Rattle.pm_logic.specs.declared.formula.Pure.TheVariants.{True, False, Eq, Le, Lt}
use Rattle.pm_logic.specs.declared.formula.Pure.TheViews as view
use Rattle.pm_logic.specs.declared.formula.Pure.TheBlock as block
use denote.Hole.Carrier as carrier
use Rattle.pm_tokens.specs.declared.symbol.Symbol.TheVariants as s
use Rattle.pm_print.specs.declared.sign.Sign.{Sign}
use Rattle.pm_print.specs.declared.sign.Shape.{Shape}
use Rattle.pm_print.specs.declared.sign.Sign.TheVariants as g
use Rattle.pm_print.specs.Printing.{Names, operator, before, term_pieces, pure_pieces}
use Rattle.pm_print.specs.Parts.{shape, opening, closing, sign_pieces, comparison_sign, pure_shape}
use Rattle.pm_print.proofs.Joined.{levelled_two, levelled_three}

pub compared_true : comparison_sign True ≡ g.Less
unfolding block.shape-the_row-Pure-0 block.hidden-the_row-Pure-0 carrier.hidden comparison_sign
compared_true = refl

pub shape_true : pure_shape True ≡ shape 1 2 1 g.Or
unfolding block.shape-the_row-Pure-0 block.hidden-the_row-Pure-0 carrier.hidden pure_shape
shape_true = refl

pub compared_false : comparison_sign False ≡ g.Less
unfolding block.shape-the_row-Pure-0 block.hidden-the_row-Pure-0 carrier.hidden comparison_sign
compared_false = refl

pub shape_false : pure_shape False ≡ shape 1 2 1 g.Or
unfolding block.shape-the_row-Pure-0 block.hidden-the_row-Pure-0 carrier.hidden pure_shape
shape_false = refl

pub compared_eq : (a b : Term) → comparison_sign (Eq a b) ≡ g.Equals
unfolding block.shape-the_row-Pure-0 block.hidden-the_row-Pure-0 carrier.hidden comparison_sign
compared_eq a b = refl

pub shape_eq : (a b : Term) → pure_shape (Eq a b) ≡ shape 1 2 1 g.Or
unfolding block.shape-the_row-Pure-0 block.hidden-the_row-Pure-0 carrier.hidden pure_shape
shape_eq a b = refl

pub compared_le : (a b : Term) → comparison_sign (Le a b) ≡ g.AtMost
unfolding block.shape-the_row-Pure-0 block.hidden-the_row-Pure-0 carrier.hidden comparison_sign
compared_le a b = refl

pub shape_le : (a b : Term) → pure_shape (Le a b) ≡ shape 1 2 1 g.Or
unfolding block.shape-the_row-Pure-0 block.hidden-the_row-Pure-0 carrier.hidden pure_shape
shape_le a b = refl

pub compared_lt : (a b : Term) → comparison_sign (Lt a b) ≡ g.Less
unfolding block.shape-the_row-Pure-0 block.hidden-the_row-Pure-0 carrier.hidden comparison_sign
compared_lt a b = refl

pub shape_lt : (a b : Term) → pure_shape (Lt a b) ≡ shape 1 2 1 g.Or
unfolding block.shape-the_row-Pure-0 block.hidden-the_row-Pure-0 carrier.hidden pure_shape
shape_lt a b = refl

pub compared_and : (a b : Pure) → comparison_sign (view.And a b) ≡ g.Less
unfolding block.shape-the_row-Pure-0 block.hidden-the_row-Pure-0 carrier.hidden comparison_sign
compared_and a b = refl

pub shape_and : (a b : Pure) → pure_shape (view.And a b) ≡ shape 2 3 2 g.And
unfolding block.shape-the_row-Pure-0 block.hidden-the_row-Pure-0 carrier.hidden pure_shape
shape_and a b = refl

pub compared_or : (a b : Pure) → comparison_sign (view.Or a b) ≡ g.Less
unfolding block.shape-the_row-Pure-0 block.hidden-the_row-Pure-0 carrier.hidden comparison_sign
compared_or a b = refl

pub shape_or : (a b : Pure) → pure_shape (view.Or a b) ≡ shape 1 2 1 g.Or
unfolding block.shape-the_row-Pure-0 block.hidden-the_row-Pure-0 carrier.hidden pure_shape
shape_or a b = refl

pub compared_not : (a : Pure) → comparison_sign (view.Not a) ≡ g.Less
unfolding block.shape-the_row-Pure-0 block.hidden-the_row-Pure-0 carrier.hidden comparison_sign
compared_not a = refl

pub shape_not : (a : Pure) → pure_shape (view.Not a) ≡ shape 1 2 1 g.Or
unfolding block.shape-the_row-Pure-0 block.hidden-the_row-Pure-0 carrier.hidden pure_shape
shape_not a = refl

pub ruleset comparison_signs = (the_lemmas, compared_true, compared_false, compared_eq, compared_le, compared_lt, compared_and, compared_or, compared_not)

pub ruleset pure_shapes = (the_lemmas, shape_true, shape_false, shape_eq, shape_le, shape_lt, shape_and, shape_or, shape_not)

pub true_pieces : (n : ℕ) (names : Names) → pure_pieces n names True ≡ sign_pieces g.True
unfolding pure_pieces sign_pieces
true_pieces n names = refl

pub false_pieces : (n : ℕ) (names : Names) → pure_pieces n names False ≡ sign_pieces g.False
unfolding pure_pieces sign_pieces
false_pieces n names = refl

pub ruleset pure_leaves = (the_lemmas, true_pieces, false_pieces)

pub comparison_pieces : (n : ℕ) (names : Names) (p : Pure) (a b : Term) (r : Sign) → (p ≡ Eq a b) ⊎ ((p ≡ Le a b) ⊎ (p ≡ Lt a b)) → r ≡ comparison_sign p
    → pure_pieces n names p ≡ term_pieces 0 names a ++ (sign_pieces r ++ term_pieces 0 names b)
unfolding pure_pieces comparison_sign sign_pieces
comparison_pieces n names p a b r (inl e) k = rw (k, e) (append_assoc (term_pieces 0 names a) (operator s.Equals) (term_pieces 0 names b))
comparison_pieces n names p a b r (inr (inl e)) k = rw (k, e) (append_assoc (term_pieces 0 names a) (operator s.AtMost) (term_pieces 0 names b))
comparison_pieces n names p a b r (inr (inr e)) k = rw (k, e) (append_assoc (term_pieces 0 names a) (operator s.Less) (term_pieces 0 names b))

pub infix_pieces : (n : ℕ) (names : Names) (p a b x y : Pure) (h : Shape) → (p ≡ view.And a b) ⊎ (p ≡ view.Or a b) → x ≡ a → y ≡ b → h ≡ pure_shape p
    → pure_pieces n names p ≡ opening h.level n ++ (pure_pieces h.left names x ++ (sign_pieces h.sign ++ (pure_pieces h.right names y ++ closing h.level n)))
unfolding block.shape-the_row-Pure-0 block.hidden-the_row-Pure-0 carrier.hidden pure_pieces pure_shape sign_pieces
infix_pieces n names p a b x y h (inl e) f g k = rw (k, e, f, g) (levelled_three 2 n (pure_pieces 3 names a) (operator s.And) (pure_pieces 2 names b))
infix_pieces n names p a b x y h (inr e) f g k = rw (k, e, f, g) (levelled_three 1 n (pure_pieces 2 names a) (operator s.Or) (pure_pieces 1 names b))

pub not_pieces : (n : ℕ) (names : Names) (p a x : Pure) → p ≡ view.Not a → x ≡ a
    → pure_pieces n names p ≡ opening 3 n ++ (sign_pieces g.Not ++ (pure_pieces 3 names x ++ closing 3 n))
unfolding block.shape-the_row-Pure-0 block.hidden-the_row-Pure-0 carrier.hidden pure_pieces sign_pieces
not_pieces n names p a x e f = rw (e, f) (levelled_two 3 n (before s.Not) (pure_pieces 3 names a))
