-- The tests for equal trees.
use Rattle.std.proofs.Common.{◌≡◌, ℕ, Bool, true, false, ◌&&◌, List, [], ◌∷◌, refl, ap, ap₂, subst}
use Rattle.std.specs.Bool.{Decides}
use Rattle.std.proofs.lemmas.Bool.Decides.{Decides-eqb}
use Rattle.std.specs.Prelude.{nat_eq}
use Rattle.pm_logic.specs.declared.formula.Term.{Term}
use Rattle.pm_logic.specs.declared.formula.Pure.{Pure}
use Rattle.pm_logic.specs.declared.formula.Pure.TheVariants.{True, False, Eq, Le, Lt}
use Rattle.pm_logic.specs.declared.formula.Formula.{Formula}
use Rattle.pm_logic.specs.declared.formula.Formula.TheVariants.{Pure as Assert, Pts, Call}
use Rattle.pm_logic.specs.Trees.{both, either, nope, Sep, Wand, And, Or, Imp, All, Ex, Later, Pers, Upd}
use Rattle.pm_logic.specs.Abstraction.{term_eq}
use Rattle.pm_logic.proofs.Equals.{term_eq_decides}
use Rattle.pm_table.specs.Equality.{terms_eq, pure_eq, formula_eq}

pub two_true : (a b : Bool) → a && b ≡ true → (a ≡ true) × (b ≡ true)
two_true true b h = (refl, h)
two_true false b h = cc h

term : (s t : Term) → term_eq s t ≡ true → s ≡ t
term s t = (term_eq_decides s t).0

term_same : (t : Term) → term_eq t t ≡ true
term_same t = (term_eq_decides t t).1 refl

number : (m n : ℕ) → nat_eq m n ≡ true → m ≡ n
number m n = (Decides-eqb m n).0

number_same : (n : ℕ) → nat_eq n n ≡ true
number_same n = (Decides-eqb n n).1 refl

two : {x y : Bool} → x ≡ true → y ≡ true → x && y ≡ true
two e f = ap₂ (λ x y. x && y) e f

terms : (ss ts : List Term) → terms_eq ss ts ≡ true → ss ≡ ts
unfolding terms_eq
terms [] [] h = refl
terms (s ∷ ss) (t ∷ ts) h = let g = two_true (term_eq s t) (terms_eq ss ts) h in ap₂ (λ x xs. x ∷ xs) (term s t g.0) (terms ss ts g.1)
terms _ _ h = cc h

terms_same : (ts : List Term) → terms_eq ts ts ≡ true
unfolding terms_eq
terms_same [] = refl
terms_same (t ∷ ts) = two (term_same t) (terms_same ts)

pure : (p q : Pure) → pure_eq p q ≡ true → p ≡ q
unfolding pure_eq
pure True True h = refl
pure False False h = refl
pure (Eq a b) (Eq s t) h = let g = two_true (term_eq a s) (term_eq b t) h in ap₂ Eq (term a s g.0) (term b t g.1)
pure (Le a b) (Le s t) h = let g = two_true (term_eq a s) (term_eq b t) h in ap₂ Le (term a s g.0) (term b t g.1)
pure (Lt a b) (Lt s t) h = let g = two_true (term_eq a s) (term_eq b t) h in ap₂ Lt (term a s g.0) (term b t g.1)
pure (both a b) (both p q) h = let g = two_true (pure_eq a p) (pure_eq b q) h in ap₂ both (pure a p g.0) (pure b q g.1)
pure (either a b) (either p q) h = let g = two_true (pure_eq a p) (pure_eq b q) h in ap₂ either (pure a p g.0) (pure b q g.1)
pure (nope a) (nope p) h = ap nope (pure a p h)
pure _ _ h = cc h

pure_same : (p : Pure) → pure_eq p p ≡ true
unfolding pure_eq
pure_same True = refl
pure_same False = refl
pure_same (Eq a b) = two (term_same a) (term_same b)
pure_same (Le a b) = two (term_same a) (term_same b)
pure_same (Lt a b) = two (term_same a) (term_same b)
pure_same (both a b) = two (pure_same a) (pure_same b)
pure_same (either a b) = two (pure_same a) (pure_same b)
pure_same (nope a) = pure_same a

pub pure_eq_decides : (p q : Pure) → Decides (pure_eq p q) (p ≡ q)
pure_eq_decides p q = (pure p q, λ e. subst (λ x. pure_eq p x ≡ true) e (pure_same p))

pub formula : (f g : Formula) → formula_eq f g ≡ true → f ≡ g
unfolding formula_eq
formula (Assert p) (Assert q) h = ap Assert (pure p q h)
formula (Sep a b) (Sep c d) h = let g = two_true (formula_eq a c) (formula_eq b d) h in ap₂ Sep (formula a c g.0) (formula b d g.1)
formula (Wand a b) (Wand c d) h = let g = two_true (formula_eq a c) (formula_eq b d) h in ap₂ Wand (formula a c g.0) (formula b d g.1)
formula (And a b) (And c d) h = let g = two_true (formula_eq a c) (formula_eq b d) h in ap₂ And (formula a c g.0) (formula b d g.1)
formula (Or a b) (Or c d) h = let g = two_true (formula_eq a c) (formula_eq b d) h in ap₂ Or (formula a c g.0) (formula b d g.1)
formula (Imp a b) (Imp c d) h = let g = two_true (formula_eq a c) (formula_eq b d) h in ap₂ Imp (formula a c g.0) (formula b d g.1)
formula (All a) (All c) h = ap All (formula a c h)
formula (Ex a) (Ex c) h = ap Ex (formula a c h)
formula (Later a) (Later c) h = ap Later (formula a c h)
formula (Pers a) (Pers c) h = ap Pers (formula a c h)
formula (Upd a) (Upd c) h = ap Upd (formula a c h)
formula (Pts l u v) (Pts m w x) h =
    let g = two_true (term_eq l m && nat_eq u w) (term_eq v x) h in
    let k = two_true (term_eq l m) (nat_eq u w) g.0 in
    subst (λ y. Pts l u v ≡ Pts y w x) (term l m k.0) (subst (λ y. Pts l u v ≡ Pts l y x) (number u w k.1) (ap (Pts l u) (term v x g.1)))
formula (Call q ss) (Call r ts) h = let g = two_true (nat_eq q r) (terms_eq ss ts) h in ap₂ Call (number q r g.0) (terms ss ts g.1)
formula _ _ h = cc h

pub formula_same : (f : Formula) → formula_eq f f ≡ true
unfolding formula_eq
formula_same (Assert p) = pure_same p
formula_same (Sep a b) = two (formula_same a) (formula_same b)
formula_same (Wand a b) = two (formula_same a) (formula_same b)
formula_same (And a b) = two (formula_same a) (formula_same b)
formula_same (Or a b) = two (formula_same a) (formula_same b)
formula_same (Imp a b) = two (formula_same a) (formula_same b)
formula_same (All a) = formula_same a
formula_same (Ex a) = formula_same a
formula_same (Later a) = formula_same a
formula_same (Pers a) = formula_same a
formula_same (Upd a) = formula_same a
formula_same (Pts l u v) = two (two (term_same l) (number_same u)) (term_same v)
formula_same (Call q ts) = two (number_same q) (terms_same ts)

pub formula_eq_decides : (f g : Formula) → Decides (formula_eq f g) (f ≡ g)
formula_eq_decides f g = (formula f g, λ e. subst (λ x. formula_eq f x ≡ true) e (formula_same f))
