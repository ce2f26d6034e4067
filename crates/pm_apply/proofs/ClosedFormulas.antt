-- A closed formula is its own instance.
use Rattle.std.proofs.Common.{◌≡◌, ℕ, zero, suc, ◌<◌, List, [], ◌∷◌, map, refl, ap, ap₂, ◌∙◌, arith}
use Rattle.pm_logic.specs.declared.formula.Term.{Term}
use Rattle.pm_logic.specs.declared.formula.Term.TheVariants.{Lit, Var}
use Rattle.pm_logic.specs.declared.formula.Pure.{Pure}
use Rattle.pm_logic.specs.declared.formula.Pure.TheVariants.{True, False, Eq, Le, Lt}
use Rattle.pm_logic.specs.declared.formula.Formula.{Formula}
use Rattle.pm_logic.specs.declared.formula.Formula.TheVariants.{Pure as Fact, Pts, Call}
use Rattle.pm_logic.specs.Trees.{add, sub, neg, scale, both, either, nope, Sep, Wand, And, Or, Imp, All, Ex, Later, Pers, Upd}
use Rattle.pm_logic.specs.Scope.{ScopedIn}
use Rattle.pm_logic.specs.Substitution.{Sub, in_term, in_pure, in_formula, raised, under, entries, subst_of}
use Rattle.pm_logic.proofs.Agrees.{formula_agrees}

-- each index stands for itself
abbrev Stays : Sub → Type 0
Stays f = (i : ℕ) → f i ≡ Var i

under_stays : (f : Sub) → Stays f → Stays (under f)
under_stays f h zero = refl
under_stays f h (suc i) = ap raised (h i)

module _ (f : Sub) (h : Stays f) where
  term_stays : (t : Term) → in_term f t ≡ t
  unfolding in_term
  term_stays (Lit z) = refl
  term_stays (Var i) = h i
  term_stays (add a b) = ap₂ add (term_stays a) (term_stays b)
  term_stays (sub a b) = ap₂ sub (term_stays a) (term_stays b)
  term_stays (neg a) = ap neg (term_stays a)
  term_stays (scale z a) = ap (scale z) (term_stays a)

  terms_stay : (ts : List Term) → map (in_term f) ts ≡ ts
  terms_stay [] = refl
  terms_stay (t ∷ ts) = ap₂ (λ x xs. x ∷ xs) (term_stays t) (terms_stay ts)

  pure_stays : (p : Pure) → in_pure f p ≡ p
  unfolding in_pure
  pure_stays True = refl
  pure_stays False = refl
  pure_stays (Eq a b) = ap₂ Eq (term_stays a) (term_stays b)
  pure_stays (Le a b) = ap₂ Le (term_stays a) (term_stays b)
  pure_stays (Lt a b) = ap₂ Lt (term_stays a) (term_stays b)
  pure_stays (both a b) = ap₂ both (pure_stays a) (pure_stays b)
  pure_stays (either a b) = ap₂ either (pure_stays a) (pure_stays b)
  pure_stays (nope a) = ap nope (pure_stays a)

formula_stays : (f : Sub) → Stays f → (a : Formula) → in_formula f a ≡ a
unfolding in_formula
formula_stays f h (Fact a) = ap Fact (pure_stays f h a)
formula_stays f h (Sep a b) = ap₂ Sep (formula_stays f h a) (formula_stays f h b)
formula_stays f h (Wand a b) = ap₂ Wand (formula_stays f h a) (formula_stays f h b)
formula_stays f h (And a b) = ap₂ And (formula_stays f h a) (formula_stays f h b)
formula_stays f h (Or a b) = ap₂ Or (formula_stays f h a) (formula_stays f h b)
formula_stays f h (Imp a b) = ap₂ Imp (formula_stays f h a) (formula_stays f h b)
formula_stays f h (All a) = ap All (formula_stays (under f) (under_stays f h) a)
formula_stays f h (Ex a) = ap Ex (formula_stays (under f) (under_stays f h) a)
formula_stays f h (Later a) = ap Later (formula_stays f h a)
formula_stays f h (Pers a) = ap Pers (formula_stays f h a)
formula_stays f h (Upd a) = ap Upd (formula_stays f h a)
formula_stays f h (Pts l u v) = ap₂ (λ x y. Pts x u y) (term_stays f h l) (term_stays f h v)
formula_stays f h (Call q args) = ap (Call q) (terms_stay f h args)

pub closed_instance : (a : Formula) → ScopedIn 0 a → subst_of a [] ≡ a
closed_instance a s = formula_agrees 0 (entries []) Var (λ i lt. absurd (omega (arith, lt))) a s ∙ formula_stays Var (λ i. refl) a
