-- A formula after a substitution says what the formula says of the terms' values.
use Rattle.std.proofs.Common.{◌≡◌, ℕ, zero, suc, ◌<◌, ◌≤◌, List, [], ◌∷◌, map, ℤ, ◌+ℤ◌, ◌-ℤ◌, ◌*ℤ◌, neg_ℤ, ◌≤ℤ◌, ◌<ℤ◌, ◌⊎◌, refl, ap, ap₂, ◌∙◌, ◌↔◌, subst, sym}
use Rattle.pm_logic.specs.declared.formula.Formula.{Formula}
use Rattle.pm_logic.specs.declared.formula.Formula.TheVariants.{Pure as Fact, Pts, Call}
use Rattle.pm_logic.specs.Trees.{Sep, Wand, And, Or, Imp, All, Ex, Later, Pers, Upd}
use Rattle.pm_logic.specs.declared.formula.Term.{Term}
use Rattle.pm_logic.specs.declared.formula.Term.TheVariants.{Lit, Var}
use Rattle.pm_logic.specs.declared.formula.Pure.{Pure}
use Rattle.pm_logic.specs.declared.formula.Pure.TheVariants.{True, False, Eq, Le, Lt}
use Rattle.pm_logic.specs.Trees.{add, sub, neg, scale, both, either, nope}
use Rattle.pm_logic.specs.Values.{entry, eval, evals, Holds}
use Rattle.pm_logic.specs.Substitution.{Sub, raised, under, in_term, in_pure, in_formula, entries, first, one_up, subst_of, shift_of, opened_of}
use Rattle.pm_model.specs.Resource.{Res, Joins, Extends, core}
use Rattle.pm_model.specs.Forcing.{Bodies, Forced, HasAtLeast, AtStepBefore}

-- each index has in vals the value of its term in env
pub record Gives (f : Sub) (env vals : List ℤ) : Type 0 where
  pub at : (i : ℕ) → eval env (f i) ≡ entry vals i

pub raised_value : (z : ℤ) (env : List ℤ) (t : Term) → eval (z ∷ env) (raised t) ≡ eval env t
raised_value z env (Lit x) = refl
raised_value z env (Var i) = refl
raised_value z env (add s t) = ap₂ (λ x y. x +ℤ y) (raised_value z env s) (raised_value z env t)
raised_value z env (sub s t) = ap₂ (λ x y. x -ℤ y) (raised_value z env s) (raised_value z env t)
raised_value z env (neg t) = ap neg_ℤ (raised_value z env t)
raised_value z env (scale x t) = ap (λ y. x *ℤ y) (raised_value z env t)

under_at : (f : Sub) (env vals : List ℤ) (z : ℤ) → Gives f env vals → (i : ℕ) → eval (z ∷ env) (under f i) ≡ entry (z ∷ vals) i
under_at f env vals z g zero = refl
under_at f env vals z g (suc i) = raised_value z env (f i) ∙ g.at i

gives_under : {f : Sub} {env vals : List ℤ} (z : ℤ) → Gives f env vals → Gives (under f) (z ∷ env) (z ∷ vals)
gives_under {f} {env} {vals} z g = record { at = under_at f env vals z g }

pub term_value : (f : Sub) (env vals : List ℤ) → Gives f env vals → (t : Term) → eval env (in_term f t) ≡ eval vals t
unfolding in_term
term_value f env vals g (Lit x) = refl
term_value f env vals g (Var i) = g.at i
term_value f env vals g (add s t) = ap₂ (λ x y. x +ℤ y) (term_value f env vals g s) (term_value f env vals g t)
term_value f env vals g (sub s t) = ap₂ (λ x y. x -ℤ y) (term_value f env vals g s) (term_value f env vals g t)
term_value f env vals g (neg t) = ap neg_ℤ (term_value f env vals g t)
term_value f env vals g (scale x t) = ap (λ y. x *ℤ y) (term_value f env vals g t)

pub terms_values : (f : Sub) (env vals : List ℤ) → Gives f env vals → (ts : List Term) → evals env (map (in_term f) ts) ≡ evals vals ts
terms_values f env vals g [] = refl
terms_values f env vals g (t ∷ ts) = ap₂ (λ x xs. x ∷ xs) (term_value f env vals g t) (terms_values f env vals g ts)

pub holds_in : (f : Sub) (env vals : List ℤ) → Gives f env vals → (a : Pure) → Holds env (in_pure f a) ≡ Holds vals a
unfolding in_pure
holds_in f env vals g True = refl
holds_in f env vals g False = refl
holds_in f env vals g (Eq s t) = ap₂ (λ x y. x ≡ y) (term_value f env vals g s) (term_value f env vals g t)
holds_in f env vals g (Le s t) = ap₂ (λ x y. x ≤ℤ y) (term_value f env vals g s) (term_value f env vals g t)
holds_in f env vals g (Lt s t) = ap₂ (λ x y. x <ℤ y) (term_value f env vals g s) (term_value f env vals g t)
holds_in f env vals g (both a b) = λ i. holds_in f env vals g a i × holds_in f env vals g b i
holds_in f env vals g (either a b) = λ i. holds_in f env vals g a i ⊎ holds_in f env vals g b i
holds_in f env vals g (nope a) = λ i. holds_in f env vals g a i → ⊥

-- one type, by induction on the formula
pub forced_in : (body : Bodies) (all : ℕ) (f : Sub) (env vals : List ℤ) → Gives f env vals → (x : Formula) (n b : ℕ) (r : Res) → Forced body all (in_formula f x) env n b r ≡ Forced body all x vals n b r
unfolding in_formula
forced_in body all f env vals g (Fact a) n b r = holds_in f env vals g a
forced_in body all f env vals g (Pts l u v) n b r = ap₂ (λ x y. HasAtLeast (r.at x) u y) (term_value f env vals g l) (term_value f env vals g v)
forced_in body all f env vals g (Sep x y) n b r = λ i. (r1 : Res) × (r2 : Res) × Joins r1 r2 r × forced_in body all f env vals g x n b r1 i × forced_in body all f env vals g y n b r2 i
forced_in body all f env vals g (Wand x y) n b r = λ i. (m : ℕ) → m ≤ n → (s c : Res) → Joins r s c → forced_in body all f env vals g x m b s i → forced_in body all f env vals g y m b c i
forced_in body all f env vals g (And x y) n b r = λ i. forced_in body all f env vals g x n b r i × forced_in body all f env vals g y n b r i
forced_in body all f env vals g (Or x y) n b r = λ i. forced_in body all f env vals g x n b r i ⊎ forced_in body all f env vals g y n b r i
forced_in body all f env vals g (Imp x y) n b r = λ i. (m : ℕ) → m ≤ n → (s : Res) → Extends r s → forced_in body all f env vals g x m b s i → forced_in body all f env vals g y m b s i
forced_in body all f env vals g (All x) n b r = λ i. (z : ℤ) → forced_in body all (under f) (z ∷ env) (z ∷ vals) (gives_under z g) x n b r i
forced_in body all f env vals g (Ex x) n b r = λ i. (z : ℤ) × forced_in body all (under f) (z ∷ env) (z ∷ vals) (gives_under z g) x n b r i
forced_in body all f env vals g (Later x) n b r = λ i. AtStepBefore n (λ m. forced_in body all f env vals g x m all r i)
forced_in body all f env vals g (Pers x) n b r = forced_in body all f env vals g x n b (core r)
forced_in body all f env vals g (Upd x) n b r = λ i. (h c : Res) → Joins h r c → (s : Res) × (d : Res) × Joins h s d × forced_in body all f env vals g x n b s i
forced_in body all f env vals g (Call p args) n b r = ap (λ vs. (p < b) × body n p vs r) (terms_values f env vals g args)

first_at : (env : List ℤ) (t : Term) (i : ℕ) → eval env (first t i) ≡ entry (eval env t ∷ env) i
first_at env t zero = refl
first_at env t (suc i) = refl

pub gives_first : (env : List ℤ) (t : Term) → Gives (first t) env (eval env t ∷ env)
gives_first env t = record { at = first_at env t }

pub gives_up : (z : ℤ) (env : List ℤ) → Gives one_up (z ∷ env) env
gives_up z env = record { at = λ i. refl }

entries_at : (env : List ℤ) (sigma : List Term) (i : ℕ) → eval env (entries sigma i) ≡ entry (evals env sigma) i
entries_at env [] i = refl
entries_at env (t ∷ sigma) zero = refl
entries_at env (t ∷ sigma) (suc i) = entries_at env sigma i

pub gives_entries : (env : List ℤ) (sigma : List Term) → Gives (entries sigma) env (evals env sigma)
gives_entries env sigma = record { at = entries_at env sigma }

-- ---- as equivalences

along : {A B : Type 0} → A ≡ B → A ↔ B
along e = (λ a. subst (λ X. X) e a, λ b. subst (λ X. X) (sym e) b)

-- any substitution: what is forced in env after it is what is forced before it in the values that it gives
pub forced_in_values : (body : Bodies) (all : ℕ) (f : Sub) (env vals : List ℤ) → Gives f env vals → (x : Formula) (n b : ℕ) (r : Res) → Forced body all (in_formula f x) env n b r ↔ Forced body all x vals n b r
forced_in_values body all f env vals g x n b r = along (forced_in body all f env vals g x n b r)

pub forced_subst : (body : Bodies) (all : ℕ) (x : Formula) (sigma : List Term) (env : List ℤ) (n b : ℕ) (r : Res) → Forced body all (subst_of x sigma) env n b r ↔ Forced body all x (evals env sigma) n b r
forced_subst body all x sigma env n b r = forced_in_values body all (entries sigma) env (evals env sigma) (gives_entries env sigma) x n b r

-- one variable more says nothing
pub forced_shift : (body : Bodies) (all : ℕ) (x : Formula) (z : ℤ) (env : List ℤ) (n b : ℕ) (r : Res) → Forced body all (shift_of x) (z ∷ env) n b r ↔ Forced body all x env n b r
forced_shift body all x z env n b r = forced_in_values body all one_up (z ∷ env) env (gives_up z env) x n b r

pub forced_opened : (body : Bodies) (all : ℕ) (x : Formula) (t : Term) (env : List ℤ) (n b : ℕ) (r : Res) → Forced body all (opened_of x t) env n b r ↔ Forced body all x (eval env t ∷ env) n b r
forced_opened body all x t env n b r = forced_in_values body all (first t) env (eval env t ∷ env) (gives_first env t) x n b r
