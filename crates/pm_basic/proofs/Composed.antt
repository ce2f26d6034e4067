-- One substitution after another, and substitutions that change nothing.
use Rattle.std.proofs.Common.{◌≡◌, ℕ, zero, suc, Bool, true, false, ◌||◌, pos, List, [], ◌∷◌, map, refl, sym, ◌∙◌, ap, ap₂, arith}
use Rattle.std.specs.Prelude.{nat_eq}
use Rattle.std.proofs.lemmas.Bool.Decides.{nat_tests}
use Rattle.pm_logic.specs.declared.formula.Term.{Term}
use Rattle.pm_logic.specs.declared.formula.Term.TheVariants.{Lit, Var}
use Rattle.pm_logic.specs.declared.formula.Pure.{Pure}
use Rattle.pm_logic.specs.declared.formula.Pure.TheVariants.{True, False, Eq, Le, Lt}
use Rattle.pm_logic.specs.declared.formula.Formula.{Formula}
use Rattle.pm_logic.specs.declared.formula.Formula.TheVariants.{Pure as Assert, Pts, Call}
use Rattle.pm_logic.specs.Trees.{add, sub, neg, scale, both, either, nope, Sep, Wand, And, Or, Imp, All, Ex, Later, Pers, Upd}
use Rattle.pm_logic.specs.Substitution.{Sub, in_term, in_pure, in_formula, raised, under}
use Rattle.pm_table.specs.Occurrences.{in_a_term, in_some_term, in_a_pure, in_a_formula}

-- ---- one after another

raised_after : (g : Sub) (t : Term) → in_term (under g) (raised t) ≡ raised (in_term g t)
unfolding in_term
raised_after g (Lit z) = refl
raised_after g (Var i) = refl
raised_after g (add s t) = ap₂ add (raised_after g s) (raised_after g t)
raised_after g (sub s t) = ap₂ sub (raised_after g s) (raised_after g t)
raised_after g (neg t) = ap neg (raised_after g t)
raised_after g (scale z t) = ap (scale z) (raised_after g t)

-- the term for each index by both
abbrev Both : Sub → Sub → Sub → Type 0
Both f g h = (x : ℕ) → in_term g (f x) ≡ h x

under_both : (f g h : Sub) → Both f g h → Both (under f) (under g) (under h)
unfolding in_term
under_both f g h e zero = refl
under_both f g h e (suc x) = raised_after g (f x) ∙ ap raised (e x)

term_both : (f g h : Sub) → Both f g h → (t : Term) → in_term g (in_term f t) ≡ in_term h t
unfolding in_term
term_both f g h e (Lit z) = refl
term_both f g h e (Var x) = e x
term_both f g h e (add s t) = ap₂ add (term_both f g h e s) (term_both f g h e t)
term_both f g h e (sub s t) = ap₂ sub (term_both f g h e s) (term_both f g h e t)
term_both f g h e (neg t) = ap neg (term_both f g h e t)
term_both f g h e (scale z t) = ap (scale z) (term_both f g h e t)

terms_both : (f g h : Sub) → Both f g h → (ts : List Term) → map (in_term g) (map (in_term f) ts) ≡ map (in_term h) ts
terms_both f g h e [] = refl
terms_both f g h e (t ∷ ts) = ap₂ (λ x xs. x ∷ xs) (term_both f g h e t) (terms_both f g h e ts)

pure_both : (f g h : Sub) → Both f g h → (p : Pure) → in_pure g (in_pure f p) ≡ in_pure h p
unfolding in_pure
pure_both f g h e True = refl
pure_both f g h e False = refl
pure_both f g h e (Eq s t) = ap₂ Eq (term_both f g h e s) (term_both f g h e t)
pure_both f g h e (Le s t) = ap₂ Le (term_both f g h e s) (term_both f g h e t)
pure_both f g h e (Lt s t) = ap₂ Lt (term_both f g h e s) (term_both f g h e t)
pure_both f g h e (both a b) = ap₂ both (pure_both f g h e a) (pure_both f g h e b)
pure_both f g h e (either a b) = ap₂ either (pure_both f g h e a) (pure_both f g h e b)
pure_both f g h e (nope a) = ap nope (pure_both f g h e a)

pub formula_both : (f g h : Sub) → Both f g h → (a : Formula) → in_formula g (in_formula f a) ≡ in_formula h a
unfolding in_formula
formula_both f g h e (Assert p) = ap Assert (pure_both f g h e p)
formula_both f g h e (Sep a b) = ap₂ Sep (formula_both f g h e a) (formula_both f g h e b)
formula_both f g h e (Wand a b) = ap₂ Wand (formula_both f g h e a) (formula_both f g h e b)
formula_both f g h e (And a b) = ap₂ And (formula_both f g h e a) (formula_both f g h e b)
formula_both f g h e (Or a b) = ap₂ Or (formula_both f g h e a) (formula_both f g h e b)
formula_both f g h e (Imp a b) = ap₂ Imp (formula_both f g h e a) (formula_both f g h e b)
formula_both f g h e (All a) = ap All (formula_both (under f) (under g) (under h) (under_both f g h e) a)
formula_both f g h e (Ex a) = ap Ex (formula_both (under f) (under g) (under h) (under_both f g h e) a)
formula_both f g h e (Later a) = ap Later (formula_both f g h e a)
formula_both f g h e (Pers a) = ap Pers (formula_both f g h e a)
formula_both f g h e (Upd a) = ap Upd (formula_both f g h e a)
formula_both f g h e (Pts l u v) = ap₂ (λ x y. Pts x u y) (term_both f g h e l) (term_both f g h e v)
formula_both f g h e (Call q args) = ap (Call q) (terms_both f g h e args)

-- ---- where the one index that isn't kept doesn't occur

neither : (a b : Bool) → a || b ≡ false → (a ≡ false) × (b ≡ false)
neither true b h = absurd cc
neither false b h = (refl, h)

-- each index that differs from i by the test stands for itself
abbrev KeepsBut : ℕ → Sub → Type 0
KeepsBut i f = (x : ℕ) → nat_eq i x ≡ false → f x ≡ Var x

one_less : (i x : ℕ) → nat_eq (suc i) (suc x) ≡ false → nat_eq i x ≡ false
one_less i x e = grind (arith, nat_tests, e)

under_but : (i : ℕ) (f : Sub) → KeepsBut i f → KeepsBut (suc i) (under f)
under_but i f h zero e = refl
under_but i f h (suc x) e = ap raised (h x (one_less i x e))

term_but : (i : ℕ) (f : Sub) → KeepsBut i f → (t : Term) → in_a_term i t ≡ false → in_term f t ≡ t
unfolding in_term in_a_term
term_but i f h (Lit z) e = refl
term_but i f h (Var x) e = h x e
term_but i f h (add s t) e = let g = neither (in_a_term i s) (in_a_term i t) e in ap₂ add (term_but i f h s g.0) (term_but i f h t g.1)
term_but i f h (sub s t) e = let g = neither (in_a_term i s) (in_a_term i t) e in ap₂ sub (term_but i f h s g.0) (term_but i f h t g.1)
term_but i f h (neg t) e = ap neg (term_but i f h t e)
term_but i f h (scale z t) e = ap (scale z) (term_but i f h t e)

terms_but : (i : ℕ) (f : Sub) → KeepsBut i f → (ts : List Term) → in_some_term i ts ≡ false → map (in_term f) ts ≡ ts
unfolding in_some_term
terms_but i f h [] e = refl
terms_but i f h (t ∷ ts) e = let g = neither (in_a_term i t) (in_some_term i ts) e in ap₂ (λ x xs. x ∷ xs) (term_but i f h t g.0) (terms_but i f h ts g.1)

pure_but : (i : ℕ) (f : Sub) → KeepsBut i f → (p : Pure) → in_a_pure i p ≡ false → in_pure f p ≡ p
unfolding in_pure in_a_pure
pure_but i f h True e = refl
pure_but i f h False e = refl
pure_but i f h (Eq s t) e = let g = neither (in_a_term i s) (in_a_term i t) e in ap₂ Eq (term_but i f h s g.0) (term_but i f h t g.1)
pure_but i f h (Le s t) e = let g = neither (in_a_term i s) (in_a_term i t) e in ap₂ Le (term_but i f h s g.0) (term_but i f h t g.1)
pure_but i f h (Lt s t) e = let g = neither (in_a_term i s) (in_a_term i t) e in ap₂ Lt (term_but i f h s g.0) (term_but i f h t g.1)
pure_but i f h (both a b) e = let g = neither (in_a_pure i a) (in_a_pure i b) e in ap₂ both (pure_but i f h a g.0) (pure_but i f h b g.1)
pure_but i f h (either a b) e = let g = neither (in_a_pure i a) (in_a_pure i b) e in ap₂ either (pure_but i f h a g.0) (pure_but i f h b g.1)
pure_but i f h (nope a) e = ap nope (pure_but i f h a e)

pub formula_but : (i : ℕ) (f : Sub) → KeepsBut i f → (a : Formula) → in_a_formula i a ≡ false → in_formula f a ≡ a
unfolding in_formula in_a_formula
formula_but i f h (Assert p) e = ap Assert (pure_but i f h p e)
formula_but i f h (Sep a b) e = let g = neither (in_a_formula i a) (in_a_formula i b) e in ap₂ Sep (formula_but i f h a g.0) (formula_but i f h b g.1)
formula_but i f h (Wand a b) e = let g = neither (in_a_formula i a) (in_a_formula i b) e in ap₂ Wand (formula_but i f h a g.0) (formula_but i f h b g.1)
formula_but i f h (And a b) e = let g = neither (in_a_formula i a) (in_a_formula i b) e in ap₂ And (formula_but i f h a g.0) (formula_but i f h b g.1)
formula_but i f h (Or a b) e = let g = neither (in_a_formula i a) (in_a_formula i b) e in ap₂ Or (formula_but i f h a g.0) (formula_but i f h b g.1)
formula_but i f h (Imp a b) e = let g = neither (in_a_formula i a) (in_a_formula i b) e in ap₂ Imp (formula_but i f h a g.0) (formula_but i f h b g.1)
formula_but i f h (All a) e = ap All (formula_but (suc i) (under f) (under_but i f h) a e)
formula_but i f h (Ex a) e = ap Ex (formula_but (suc i) (under f) (under_but i f h) a e)
formula_but i f h (Later a) e = ap Later (formula_but i f h a e)
formula_but i f h (Pers a) e = ap Pers (formula_but i f h a e)
formula_but i f h (Upd a) e = ap Upd (formula_but i f h a e)
formula_but i f h (Pts l u v) e = let g = neither (in_a_term i l) (in_a_term i v) e in ap₂ (λ x y. Pts x u y) (term_but i f h l g.0) (term_but i f h v g.1)
formula_but i f h (Call q args) e = ap (Call q) (terms_but i f h args e)

-- ---- where nothing changes, the index that does doesn't occur

-- the parts of trees
abbrev first_term : Term → Term
first_term (add s t) = s
first_term (sub s t) = s
first_term (neg t) = t
first_term (scale z t) = t
first_term t = t

abbrev second_term : Term → Term
second_term (add s t) = t
second_term (sub s t) = t
second_term t = t

abbrev left_term : Pure → Term
left_term (Eq s t) = s
left_term (Le s t) = s
left_term (Lt s t) = s
left_term p = Lit (pos 0)

abbrev right_term : Pure → Term
right_term (Eq s t) = t
right_term (Le s t) = t
right_term (Lt s t) = t
right_term p = Lit (pos 0)

abbrev first_pure : Pure → Pure
first_pure (both a b) = a
first_pure (either a b) = a
first_pure (nope a) = a
first_pure p = p

abbrev second_pure : Pure → Pure
second_pure (both a b) = b
second_pure (either a b) = b
second_pure p = p

abbrev fact : Formula → Pure
fact (Assert p) = p
fact a = True

abbrev first_part : Formula → Formula
first_part (Sep a b) = a
first_part (Wand a b) = a
first_part (And a b) = a
first_part (Or a b) = a
first_part (Imp a b) = a
first_part (All a) = a
first_part (Ex a) = a
first_part (Later a) = a
first_part (Pers a) = a
first_part (Upd a) = a
first_part a = a

abbrev second_part : Formula → Formula
second_part (Sep a b) = b
second_part (Wand a b) = b
second_part (And a b) = b
second_part (Or a b) = b
second_part (Imp a b) = b
second_part a = a

abbrev location : Formula → Term
location (Pts l u v) = l
location a = Lit (pos 0)

abbrev content : Formula → Term
content (Pts l u v) = v
content a = Lit (pos 0)

abbrev arguments : Formula → List Term
arguments (Call q args) = args
arguments a = []

abbrev head : List Term → Term
head [] = Lit (pos 0)
head (t ∷ ts) = t

abbrev tail : List Term → List Term
tail [] = []
tail (t ∷ ts) = ts

nor : (a b : Bool) → a ≡ false → b ≡ false → a || b ≡ false
nor true b e f = absurd cc
nor false b e f = f

term_kept : (i : ℕ) (f : Sub) → f i ≡ Lit (pos 0) → (t : Term) → in_term f t ≡ t → in_a_term i t ≡ false
unfolding in_term in_a_term
term_kept i f z (Lit y) e = refl
term_kept i f z (Var x) e = other (nat_eq i x) refl
  where
    other : (b : Bool) → nat_eq i x ≡ b → nat_eq i x ≡ false
    other true same = let at : i ≡ x = grind (arith, nat_tests, same) in let zeroed : Lit (pos 0) ≡ Var x = sym z ∙ (ap f at ∙ e) in absurd cc
    other false same = same
term_kept i f z (add s t) e = nor (in_a_term i s) (in_a_term i t) (term_kept i f z s (ap first_term e)) (term_kept i f z t (ap second_term e))
term_kept i f z (sub s t) e = nor (in_a_term i s) (in_a_term i t) (term_kept i f z s (ap first_term e)) (term_kept i f z t (ap second_term e))
term_kept i f z (neg t) e = term_kept i f z t (ap first_term e)
term_kept i f z (scale y t) e = term_kept i f z t (ap first_term e)

terms_kept : (i : ℕ) (f : Sub) → f i ≡ Lit (pos 0) → (ts : List Term) → map (in_term f) ts ≡ ts → in_some_term i ts ≡ false
unfolding in_some_term
terms_kept i f z [] e = refl
terms_kept i f z (t ∷ ts) e = nor (in_a_term i t) (in_some_term i ts) (term_kept i f z t (ap head e)) (terms_kept i f z ts (ap tail e))

pure_kept : (i : ℕ) (f : Sub) → f i ≡ Lit (pos 0) → (p : Pure) → in_pure f p ≡ p → in_a_pure i p ≡ false
unfolding in_pure in_a_pure
pure_kept i f z True e = refl
pure_kept i f z False e = refl
pure_kept i f z (Eq s t) e = nor (in_a_term i s) (in_a_term i t) (term_kept i f z s (ap left_term e)) (term_kept i f z t (ap right_term e))
pure_kept i f z (Le s t) e = nor (in_a_term i s) (in_a_term i t) (term_kept i f z s (ap left_term e)) (term_kept i f z t (ap right_term e))
pure_kept i f z (Lt s t) e = nor (in_a_term i s) (in_a_term i t) (term_kept i f z s (ap left_term e)) (term_kept i f z t (ap right_term e))
pure_kept i f z (both a b) e = nor (in_a_pure i a) (in_a_pure i b) (pure_kept i f z a (ap first_pure e)) (pure_kept i f z b (ap second_pure e))
pure_kept i f z (either a b) e = nor (in_a_pure i a) (in_a_pure i b) (pure_kept i f z a (ap first_pure e)) (pure_kept i f z b (ap second_pure e))
pure_kept i f z (nope a) e = pure_kept i f z a (ap first_pure e)

pub formula_kept : (i : ℕ) (f : Sub) → f i ≡ Lit (pos 0) → (a : Formula) → in_formula f a ≡ a → in_a_formula i a ≡ false
unfolding in_formula in_a_formula
formula_kept i f z (Assert p) e = pure_kept i f z p (ap fact e)
formula_kept i f z (Sep a b) e = nor (in_a_formula i a) (in_a_formula i b) (formula_kept i f z a (ap first_part e)) (formula_kept i f z b (ap second_part e))
formula_kept i f z (Wand a b) e = nor (in_a_formula i a) (in_a_formula i b) (formula_kept i f z a (ap first_part e)) (formula_kept i f z b (ap second_part e))
formula_kept i f z (And a b) e = nor (in_a_formula i a) (in_a_formula i b) (formula_kept i f z a (ap first_part e)) (formula_kept i f z b (ap second_part e))
formula_kept i f z (Or a b) e = nor (in_a_formula i a) (in_a_formula i b) (formula_kept i f z a (ap first_part e)) (formula_kept i f z b (ap second_part e))
formula_kept i f z (Imp a b) e = nor (in_a_formula i a) (in_a_formula i b) (formula_kept i f z a (ap first_part e)) (formula_kept i f z b (ap second_part e))
formula_kept i f z (All a) e = formula_kept (suc i) (under f) (ap raised z) a (ap first_part e)
formula_kept i f z (Ex a) e = formula_kept (suc i) (under f) (ap raised z) a (ap first_part e)
formula_kept i f z (Later a) e = formula_kept i f z a (ap first_part e)
formula_kept i f z (Pers a) e = formula_kept i f z a (ap first_part e)
formula_kept i f z (Upd a) e = formula_kept i f z a (ap first_part e)
formula_kept i f z (Pts l u v) e = nor (in_a_term i l) (in_a_term i v) (term_kept i f z l (ap location e)) (term_kept i f z v (ap content e))
formula_kept i f z (Call q args) e = terms_kept i f z args (ap arguments e)
