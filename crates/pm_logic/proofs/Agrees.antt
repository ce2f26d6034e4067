-- Substitutions that agree below the scope.
use Rattle.std.proofs.Common.{◌≡◌, ℕ, zero, suc, ◌+◌, ◌<◌, List, [], ◌∷◌, map, refl, ap, ap₂, ◌∙◌, arith}
use Rattle.pm_logic.specs.declared.formula.Term.{Term}
use Rattle.pm_logic.specs.declared.formula.Term.TheVariants.{Lit, Var}
use Rattle.pm_logic.specs.declared.formula.Pure.{Pure}
use Rattle.pm_logic.specs.declared.formula.Pure.TheVariants.{True, False, Eq, Le, Lt}
use Rattle.pm_logic.specs.declared.formula.Formula.{Formula}
use Rattle.pm_logic.specs.declared.formula.Formula.TheVariants.{Pure as Fact, Pts, Call}
use Rattle.pm_logic.specs.Trees.{add, sub, neg, scale, both, either, nope, Sep, Wand, And, Or, Imp, All, Ex, Later, Pers, Upd}
use Rattle.pm_logic.specs.Scope.{TermScoped, TermsScoped, PureScoped, ScopedIn}
use Rattle.pm_logic.specs.Substitution.{Sub, in_term, in_pure, in_formula, raised, under, entries, first, one_up, subst_of, shift_of, opened_of}
use Rattle.pm_logic.specs.Kept.{vars_from}

-- the same term for each index below k
abbrev Agree : ℕ → Sub → Sub → Type 0
Agree k f g = (i : ℕ) → i < k → f i ≡ g i

under_agree : (k : ℕ) (f g : Sub) → Agree k f g → Agree (suc k) (under f) (under g)
under_agree k f g h zero lt = refl
under_agree k f g h (suc i) lt = ap raised (h i (omega arith))

term_agrees : (k : ℕ) (f g : Sub) → Agree k f g → (t : Term) → TermScoped k t → in_term f t ≡ in_term g t
unfolding TermScoped in_term
term_agrees k f g h (Lit z) s = refl
term_agrees k f g h (Var i) s = h i s
term_agrees k f g h (add a b) s = ap₂ add (term_agrees k f g h a s.0) (term_agrees k f g h b s.1)
term_agrees k f g h (sub a b) s = ap₂ sub (term_agrees k f g h a s.0) (term_agrees k f g h b s.1)
term_agrees k f g h (neg a) s = ap neg (term_agrees k f g h a s)
term_agrees k f g h (scale z a) s = ap (scale z) (term_agrees k f g h a s)

map_agrees : (k : ℕ) (f g : Sub) → Agree k f g → (ts : List Term) → TermsScoped k ts → map (in_term f) ts ≡ map (in_term g) ts
unfolding TermsScoped
map_agrees k f g h [] s = refl
map_agrees k f g h (t ∷ ts) s = ap₂ (λ x xs. x ∷ xs) (term_agrees k f g h t s.0) (map_agrees k f g h ts s.1)

pure_agrees : (k : ℕ) (f g : Sub) → Agree k f g → (p : Pure) → PureScoped k p → in_pure f p ≡ in_pure g p
unfolding PureScoped in_pure
pure_agrees k f g h True s = refl
pure_agrees k f g h False s = refl
pure_agrees k f g h (Eq a b) s = ap₂ Eq (term_agrees k f g h a s.0) (term_agrees k f g h b s.1)
pure_agrees k f g h (Le a b) s = ap₂ Le (term_agrees k f g h a s.0) (term_agrees k f g h b s.1)
pure_agrees k f g h (Lt a b) s = ap₂ Lt (term_agrees k f g h a s.0) (term_agrees k f g h b s.1)
pure_agrees k f g h (both a b) s = ap₂ both (pure_agrees k f g h a s.0) (pure_agrees k f g h b s.1)
pure_agrees k f g h (either a b) s = ap₂ either (pure_agrees k f g h a s.0) (pure_agrees k f g h b s.1)
pure_agrees k f g h (nope a) s = ap nope (pure_agrees k f g h a s)

pub formula_agrees : (k : ℕ) (f g : Sub) → Agree k f g → (a : Formula) → ScopedIn k a → in_formula f a ≡ in_formula g a
unfolding ScopedIn in_formula
formula_agrees k f g h (Fact a) s = ap Fact (pure_agrees k f g h a s)
formula_agrees k f g h (Sep a b) s = ap₂ Sep (formula_agrees k f g h a s.0) (formula_agrees k f g h b s.1)
formula_agrees k f g h (Wand a b) s = ap₂ Wand (formula_agrees k f g h a s.0) (formula_agrees k f g h b s.1)
formula_agrees k f g h (And a b) s = ap₂ And (formula_agrees k f g h a s.0) (formula_agrees k f g h b s.1)
formula_agrees k f g h (Or a b) s = ap₂ Or (formula_agrees k f g h a s.0) (formula_agrees k f g h b s.1)
formula_agrees k f g h (Imp a b) s = ap₂ Imp (formula_agrees k f g h a s.0) (formula_agrees k f g h b s.1)
formula_agrees k f g h (All a) s = ap All (formula_agrees (suc k) (under f) (under g) (under_agree k f g h) a s)
formula_agrees k f g h (Ex a) s = ap Ex (formula_agrees (suc k) (under f) (under g) (under_agree k f g h) a s)
formula_agrees k f g h (Later a) s = ap Later (formula_agrees k f g h a s)
formula_agrees k f g h (Pers a) s = ap Pers (formula_agrees k f g h a s)
formula_agrees k f g h (Upd a) s = ap Upd (formula_agrees k f g h a s)
formula_agrees k f g h (Pts l u v) s = ap₂ (λ x y. Pts x u y) (term_agrees k f g h l s.0) (term_agrees k f g h v s.1)
formula_agrees k f g h (Call q args) s = ap (Call q) (map_agrees k f g h args s)

vars_at : (i k j : ℕ) → j < k → Var (i + j) ≡ entries (vars_from i k) j
vars_at i zero j lt = absurd (omega arith)
vars_at i (suc k) zero lt = ap Var (omega arith)
vars_at i (suc k) (suc j) lt = ap Var (omega arith) ∙ vars_at (suc i) k j (omega arith)

one_up_agrees : (k : ℕ) → Agree k one_up (entries (vars_from 1 k))
one_up_agrees k i lt = ap Var (omega arith) ∙ vars_at 1 k i lt

first_agrees : (k : ℕ) (t : Term) → Agree (suc k) (first t) (entries (t ∷ vars_from 0 k))
first_agrees k t zero lt = refl
first_agrees k t (suc i) lt = ap Var (omega arith) ∙ vars_at 0 k i (omega arith)

pub shift_substitutes : (k : ℕ) (f : Formula) → ScopedIn k f → shift_of f ≡ subst_of f (vars_from 1 k)
shift_substitutes k f h = formula_agrees k one_up (entries (vars_from 1 k)) (one_up_agrees k) f h

pub opening_substitutes : (k : ℕ) (body : Formula) (t : Term) → ScopedIn (suc k) body → opened_of body t ≡ subst_of body (t ∷ vars_from 0 k)
opening_substitutes k body t h = formula_agrees (suc k) (first t) (entries (t ∷ vars_from 0 k)) (first_agrees k t) body h
