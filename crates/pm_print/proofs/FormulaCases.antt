-- Printed formulas at the variants as code makes them.
use Rattle.std.proofs.Common.{◌≡◌, ◌⊎◌, inl, inr, ℕ, ◌+◌, List, ◌∷◌, ◌++◌, length, refl, add-one}
use Rattle.pm_logic.specs.declared.formula.Term.{Term}
use Rattle.pm_logic.specs.declared.formula.Pure.{Pure}
use Rattle.pm_logic.specs.declared.formula.Pred.{Pred}
use Rattle.pm_logic.specs.declared.formula.Formula.{Formula, the_lemmas}
use Rattle.pm_logic.specs.declared.formula.Formula.TheVariants.{Pure as Fact, Pts, Call}
use Rattle.pm_logic.specs.declared.formula.Formula.TheViews as view
use Rattle.pm_logic.specs.declared.formula.Formula.TheBlock as block
use denote.Hole.Carrier as carrier
use Rattle.pm_tokens.specs.declared.symbol.Symbol.TheVariants as s
use Rattle.pm_logic.proofs.Sizes.{formula_depths}
use Rattle.pm_print.specs.declared.sign.Shape.{Shape}
use Rattle.pm_print.specs.declared.sign.Sign.TheVariants as g
use Rattle.pm_print.specs.Printing.{Names, operator, before, bound, quantifier, between, word, names_of, term_pieces, terms_pieces, pure_pieces, units_pieces, formula_pieces}
use Rattle.pm_print.specs.Parts.{shape, opening, closing, bound_by, sign_pieces, quantifier_pieces, formula_shape}
use Rattle.pm_print.proofs.Joined.{levelled_two, levelled_three}
use Rattle.pm_print.proofs.Named.{length_bound}

pub shape_sep : (a b : Formula) → formula_shape (view.Sep a b) ≡ shape 2 3 2 g.Star
unfolding block.shape-the_row-Formula-0 block.hidden-the_row-Formula-0 carrier.hidden formula_shape
shape_sep a b = refl

pub shape_wand : (a b : Formula) → formula_shape (view.Wand a b) ≡ shape 0 1 0 g.Wand
unfolding block.shape-the_row-Formula-0 block.hidden-the_row-Formula-0 carrier.hidden formula_shape
shape_wand a b = refl

pub shape_and : (a b : Formula) → formula_shape (view.And a b) ≡ shape 2 3 2 g.And
unfolding block.shape-the_row-Formula-0 block.hidden-the_row-Formula-0 carrier.hidden formula_shape
shape_and a b = refl

pub shape_or : (a b : Formula) → formula_shape (view.Or a b) ≡ shape 1 2 1 g.Or
unfolding block.shape-the_row-Formula-0 block.hidden-the_row-Formula-0 carrier.hidden formula_shape
shape_or a b = refl

pub shape_imp : (a b : Formula) → formula_shape (view.Imp a b) ≡ shape 0 1 0 g.Arrow
unfolding block.shape-the_row-Formula-0 block.hidden-the_row-Formula-0 carrier.hidden formula_shape
shape_imp a b = refl

pub shape_all : (a : Formula) → formula_shape (view.All a) ≡ shape 0 0 0 g.Forall
unfolding block.shape-the_row-Formula-0 block.hidden-the_row-Formula-0 carrier.hidden formula_shape
shape_all a = refl

pub shape_ex : (a : Formula) → formula_shape (view.Ex a) ≡ shape 0 0 0 g.Exists
unfolding block.shape-the_row-Formula-0 block.hidden-the_row-Formula-0 carrier.hidden formula_shape
shape_ex a = refl

pub shape_later : (a : Formula) → formula_shape (view.Later a) ≡ shape 3 3 3 g.Later
unfolding block.shape-the_row-Formula-0 block.hidden-the_row-Formula-0 carrier.hidden formula_shape
shape_later a = refl

pub shape_pers : (a : Formula) → formula_shape (view.Pers a) ≡ shape 3 3 3 g.Persistently
unfolding block.shape-the_row-Formula-0 block.hidden-the_row-Formula-0 carrier.hidden formula_shape
shape_pers a = refl

pub shape_upd : (a : Formula) → formula_shape (view.Upd a) ≡ shape 0 0 0 g.Update
unfolding block.shape-the_row-Formula-0 block.hidden-the_row-Formula-0 carrier.hidden formula_shape
shape_upd a = refl

pub shape_fact : (p : Pure) → formula_shape (Fact p) ≡ shape 0 0 0 g.Wand
unfolding formula_shape
shape_fact p = refl

pub shape_pts : (l : Term) (u : ℕ) (v : Term) → formula_shape (Pts l u v) ≡ shape 0 0 0 g.Wand
unfolding formula_shape
shape_pts l u v = refl

pub shape_call : (q : ℕ) (ts : List Term) → formula_shape (Call q ts) ≡ shape 0 0 0 g.Wand
unfolding formula_shape
shape_call q ts = refl

pub ruleset formula_shapes = (the_lemmas, shape_sep, shape_wand, shape_and, shape_or, shape_imp, shape_all, shape_ex, shape_later, shape_pers, shape_upd, shape_fact, shape_pts, shape_call)

pub fact_pieces : (ps : List Pred) (n : ℕ) (names : Names) (p : Pure) → formula_pieces ps n names (Fact p) ≡ between s.OpenPure s.ClosePure (pure_pieces 0 names p)
unfolding formula_pieces
fact_pieces ps n names p = refl

pub pts_pieces : (ps : List Pred) (n : ℕ) (names : Names) (l : Term) (u : ℕ) (v : Term) → formula_pieces ps n names (Pts l u v) ≡ term_pieces 3 names l ++ units_pieces u ++ term_pieces 3 names v
unfolding formula_pieces
pts_pieces ps n names l u v = refl

pub call_pieces : (ps : List Pred) (n : ℕ) (names : Names) (q : ℕ) (ts : List Term) → formula_pieces ps n names (Call q ts) ≡ word (names_of ps) q ∷ between s.Open s.Close (terms_pieces names ts)
unfolding formula_pieces
call_pieces ps n names q ts = refl

pub ruleset formula_leaves = (the_lemmas, formula_depths, fact_pieces, pts_pieces, call_pieces)

pub infix_pieces : (ps : List Pred) (n : ℕ) (names : Names) (f a b x y : Formula) (h : Shape) → (f ≡ view.Sep a b) ⊎ ((f ≡ view.Wand a b) ⊎ ((f ≡ view.And a b) ⊎ ((f ≡ view.Or a b) ⊎ (f ≡ view.Imp a b)))) → x ≡ a → y ≡ b → h ≡ formula_shape f
    → formula_pieces ps n names f ≡ opening h.level n ++ (formula_pieces ps h.left names x ++ (sign_pieces h.sign ++ (formula_pieces ps h.right names y ++ closing h.level n)))
unfolding block.shape-the_row-Formula-0 block.hidden-the_row-Formula-0 carrier.hidden formula_pieces formula_shape sign_pieces
infix_pieces ps n names f a b x y h (inl e) p q k = rw (k, e, p, q) (levelled_three 2 n (formula_pieces ps 3 names a) (operator s.Star) (formula_pieces ps 2 names b))
infix_pieces ps n names f a b x y h (inr (inl e)) p q k = rw (k, e, p, q) (levelled_three 0 n (formula_pieces ps 1 names a) (operator s.Wand) (formula_pieces ps 0 names b))
infix_pieces ps n names f a b x y h (inr (inr (inl e))) p q k = rw (k, e, p, q) (levelled_three 2 n (formula_pieces ps 3 names a) (operator s.And) (formula_pieces ps 2 names b))
infix_pieces ps n names f a b x y h (inr (inr (inr (inl e)))) p q k = rw (k, e, p, q) (levelled_three 1 n (formula_pieces ps 2 names a) (operator s.Or) (formula_pieces ps 1 names b))
infix_pieces ps n names f a b x y h (inr (inr (inr (inr e)))) p q k = rw (k, e, p, q) (levelled_three 0 n (formula_pieces ps 1 names a) (operator s.Arrow) (formula_pieces ps 0 names b))

pub prefix_pieces : (ps : List Pred) (n : ℕ) (names : Names) (f a x : Formula) (h : Shape) → (f ≡ view.Later a) ⊎ ((f ≡ view.Pers a) ⊎ (f ≡ view.Upd a)) → x ≡ a → h ≡ formula_shape f
    → formula_pieces ps n names f ≡ opening h.level n ++ (sign_pieces h.sign ++ (formula_pieces ps h.right names x ++ closing h.level n))
unfolding block.shape-the_row-Formula-0 block.hidden-the_row-Formula-0 carrier.hidden formula_pieces formula_shape sign_pieces
prefix_pieces ps n names f a x h (inl e) p k = rw (k, e, p) (levelled_two 3 n (before s.Later) (formula_pieces ps 3 names a))
prefix_pieces ps n names f a x h (inr (inl e)) p k = rw (k, e, p) (levelled_two 3 n (before s.Persistently) (formula_pieces ps 3 names a))
prefix_pieces ps n names f a x h (inr (inr e)) p k = rw (k, e, p) (levelled_two 0 n (before s.Update) (formula_pieces ps 0 names a))

pub quantified_pieces : (ps : List Pred) (n k m : ℕ) (names : Names) (f a x : Formula) (h : Shape) → (f ≡ view.All a) ⊎ (f ≡ view.Ex a) → x ≡ a → h ≡ formula_shape f → m ≡ length names + k
    → formula_pieces ps n (bound_by k names) f ≡ opening h.level n ++ (quantifier_pieces h.sign m ++ (formula_pieces ps h.right (bound_by (k + 1) names) x ++ closing h.level n))
unfolding block.shape-the_row-Formula-0 block.hidden-the_row-Formula-0 carrier.hidden formula_pieces formula_shape sign_pieces quantifier_pieces bound_by
quantified_pieces ps n k m names f a x h (inl e) p q is = rw (q, e, p, is, add-one, ← length_bound k names) (levelled_two 0 n (quantifier s.Forall (bound_by k names)) (formula_pieces ps 0 (bound (bound_by k names)) a))
quantified_pieces ps n k m names f a x h (inr e) p q is = rw (q, e, p, is, add-one, ← length_bound k names) (levelled_two 0 n (quantifier s.Exists (bound_by k names)) (formula_pieces ps 0 (bound (bound_by k names)) a))
