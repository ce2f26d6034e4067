-- Substitutions that take another one back.
use Rattle.std.proofs.Common.{ℕ, zero, suc, ◌≡◌, List, [], ◌∷◌, map, refl, ap, ◌∙◌}
use denote.Hole.Carrier as carrier
use Rattle.pm_logic.specs.declared.formula.Term.{Term}
use Rattle.pm_logic.specs.declared.formula.Term.TheVariants.{Lit, Var}
use Rattle.pm_logic.specs.declared.formula.Pure.{Pure}
use Rattle.pm_logic.specs.declared.formula.Pure.TheVariants.{True, False, Eq, Le, Lt}
use Rattle.pm_logic.specs.declared.formula.Formula.{Formula}
use Rattle.pm_logic.specs.declared.formula.Formula.TheVariants.{Pure as Fact, Pts, Call}
use Rattle.pm_logic.specs.declared.formula.Formula.TheViews as view
use Rattle.pm_logic.specs.declared.formula.Formula.TheBlock as block
use Rattle.pm_logic.specs.Trees.{add, sub, neg, scale, both, either, nope, Sep, Wand, And, Or, Imp, All, Ex, Later, Pers, Upd}
use Rattle.pm_logic.specs.Substitution.{Sub, in_term, in_pure, in_formula, raised, under, first, one_up, shift_of, opened_of}

-- g takes each index to a term that f takes back
abbrev pub Undoes : Sub → Sub → Type 0
Undoes f g = (i : ℕ) → in_term f (g i) ≡ Var i

raised_under : (f : Sub) (t : Term) → in_term (under f) (raised t) ≡ raised (in_term f t)
unfolding in_term
raised_under f (Lit z) = refl
raised_under f (Var i) = refl
raised_under f (add s t) = ap (λ x. add x (in_term (under f) (raised t))) (raised_under f s) ∙ ap (add (raised (in_term f s))) (raised_under f t)
raised_under f (sub s t) = ap (λ x. sub x (in_term (under f) (raised t))) (raised_under f s) ∙ ap (sub (raised (in_term f s))) (raised_under f t)
raised_under f (neg t) = ap neg (raised_under f t)
raised_under f (scale z t) = ap (scale z) (raised_under f t)

undoes_under : (f g : Sub) → Undoes f g → Undoes (under f) (under g)
unfolding in_term
undoes_under f g h zero = refl
undoes_under f g h (suc i) = raised_under f (g i) ∙ ap raised (h i)

pub undone_term : (f g : Sub) → Undoes f g → (t : Term) → in_term f (in_term g t) ≡ t
unfolding in_term
undone_term f g h (Lit z) = refl
undone_term f g h (Var i) = h i
undone_term f g h (add s t) = ap (λ x. add x (in_term f (in_term g t))) (undone_term f g h s) ∙ ap (add s) (undone_term f g h t)
undone_term f g h (sub s t) = ap (λ x. sub x (in_term f (in_term g t))) (undone_term f g h s) ∙ ap (sub s) (undone_term f g h t)
undone_term f g h (neg t) = ap neg (undone_term f g h t)
undone_term f g h (scale z t) = ap (scale z) (undone_term f g h t)

undone_terms : (f g : Sub) → Undoes f g → (ts : List Term) → map (in_term f) (map (in_term g) ts) ≡ ts
undone_terms f g h [] = refl
undone_terms f g h (t ∷ ts) = ap (λ x. x ∷ map (in_term f) (map (in_term g) ts)) (undone_term f g h t) ∙ ap (λ l. t ∷ l) (undone_terms f g h ts)

undone_pure : (f g : Sub) → Undoes f g → (a : Pure) → in_pure f (in_pure g a) ≡ a
unfolding in_pure
undone_pure f g h True = refl
undone_pure f g h False = refl
undone_pure f g h (Eq s t) = ap (λ x. Eq x (in_term f (in_term g t))) (undone_term f g h s) ∙ ap (Eq s) (undone_term f g h t)
undone_pure f g h (Le s t) = ap (λ x. Le x (in_term f (in_term g t))) (undone_term f g h s) ∙ ap (Le s) (undone_term f g h t)
undone_pure f g h (Lt s t) = ap (λ x. Lt x (in_term f (in_term g t))) (undone_term f g h s) ∙ ap (Lt s) (undone_term f g h t)
undone_pure f g h (both a b) = ap (λ x. both x (in_pure f (in_pure g b))) (undone_pure f g h a) ∙ ap (both a) (undone_pure f g h b)
undone_pure f g h (either a b) = ap (λ x. either x (in_pure f (in_pure g b))) (undone_pure f g h a) ∙ ap (either a) (undone_pure f g h b)
undone_pure f g h (nope a) = ap nope (undone_pure f g h a)

undone : (f g : Sub) → Undoes f g → (a : Formula) → in_formula f (in_formula g a) ≡ a
unfolding in_formula
undone f g h (Fact a) = ap Fact (undone_pure f g h a)
undone f g h (Sep a b) = ap (λ x. Sep x (in_formula f (in_formula g b))) (undone f g h a) ∙ ap (Sep a) (undone f g h b)
undone f g h (Wand a b) = ap (λ x. Wand x (in_formula f (in_formula g b))) (undone f g h a) ∙ ap (Wand a) (undone f g h b)
undone f g h (And a b) = ap (λ x. And x (in_formula f (in_formula g b))) (undone f g h a) ∙ ap (And a) (undone f g h b)
undone f g h (Or a b) = ap (λ x. Or x (in_formula f (in_formula g b))) (undone f g h a) ∙ ap (Or a) (undone f g h b)
undone f g h (Imp a b) = ap (λ x. Imp x (in_formula f (in_formula g b))) (undone f g h a) ∙ ap (Imp a) (undone f g h b)
undone f g h (All a) = ap All (undone (under f) (under g) (undoes_under f g h) a)
undone f g h (Ex a) = ap Ex (undone (under f) (under g) (undoes_under f g h) a)
undone f g h (Later a) = ap Later (undone f g h a)
undone f g h (Pers a) = ap Pers (undone f g h a)
undone f g h (Upd a) = ap Upd (undone f g h a)
undone f g h (Pts l u v) = ap (λ x. Pts x u (in_term f (in_term g v))) (undone_term f g h l) ∙ ap (Pts l u) (undone_term f g h v)
undone f g h (Call q args) = ap (Call q) (undone_terms f g h args)

-- ---- a body under its own binder, opened with the bound variable

-- the body with the free indices of its binder one higher
abbrev pub shifted_body : Formula → Formula
shifted_body b = in_formula (under one_up) b

body_back : Undoes (first (Var 0)) (under one_up)
unfolding in_term
body_back zero = refl
body_back (suc i) = refl

pub body_opened : (b : Formula) → opened_of (shifted_body b) (Var 0) ≡ b
body_opened b = undone (first (Var 0)) (under one_up) body_back b

pub shift_all : (b : Formula) → shift_of (view.All b) ≡ view.All (shifted_body b)
unfolding block.shape-the_row-Formula-0 block.hidden-the_row-Formula-0 carrier.hidden in_formula
shift_all b = refl

pub shift_ex : (b : Formula) → shift_of (view.Ex b) ≡ view.Ex (shifted_body b)
unfolding block.shape-the_row-Formula-0 block.hidden-the_row-Formula-0 carrier.hidden in_formula
shift_ex b = refl

pub shift_later : (a : Formula) → shift_of (view.Later a) ≡ view.Later (shift_of a)
unfolding block.shape-the_row-Formula-0 block.hidden-the_row-Formula-0 carrier.hidden in_formula
shift_later a = refl

pub shift_pers : (a : Formula) → shift_of (view.Pers a) ≡ view.Pers (shift_of a)
unfolding block.shape-the_row-Formula-0 block.hidden-the_row-Formula-0 carrier.hidden in_formula
shift_pers a = refl

-- ---- a raised term, opened

raised_back : (t : Term) → Undoes (first t) one_up
unfolding in_term
raised_back t i = refl

pub term_opened : (t s : Term) → in_term (first t) (in_term one_up s) ≡ s
term_opened t s = undone_term (first t) one_up (raised_back t) s
