-- Lists of the terms for the first indices, and the substitutions that they are.
use Rattle.std.proofs.Common.{◌≡◌, ℕ, zero, suc, ◌<◌, Bool, true, false, List, [], ◌∷◌, ◌++◌, length, length-append, map, refl, sym, ◌∙◌, ap, arith}
use Rattle.std.specs.Prelude.{nat_eq}
use Rattle.std.specs.List.{AllByRecursion}
use Rattle.std.proofs.lemmas.Bool.Decides.{nat_tests}
use Rattle.pm_logic.specs.declared.formula.Term.{Term}
use Rattle.pm_logic.specs.declared.formula.Term.TheVariants.{Lit, Var}
use Rattle.pm_logic.specs.declared.formula.Pure.{Pure}
use Rattle.pm_logic.specs.declared.formula.Pure.TheVariants.{True, False, Eq, Le, Lt}
use Rattle.pm_logic.specs.declared.formula.Formula.{Formula}
use Rattle.pm_logic.specs.declared.formula.Formula.TheVariants.{Pure as Assert, Pts, Call}
use Rattle.pm_logic.specs.Trees.{add, sub, neg, scale, both, either, nope, Sep, Wand, And, Or, Imp, All, Ex, Later, Pers, Upd}
use Rattle.pm_logic.specs.Scope.{TermScoped, TermsScoped, ScopedIn}
use Rattle.pm_logic.specs.Size.{term_depth, terms_depth, pure_depth, depth_of}
use Rattle.pm_logic.specs.Substitution.{Sub, in_term, in_pure, in_formula, raised, under, entries, subst_of}
use Rattle.pm_logic.proofs.Agrees.{formula_agrees}
use Rattle.pm_basic.specs.Replacements.{first_terms}

-- ---- the list

pub first_length : (f : Sub) (n : ℕ) → length (first_terms f n) ≡ n
first_length f zero = refl
first_length f (suc n) = omega (arith, length-append (first_terms f n) (f n ∷ []), first_length f n)

entries_before : (ts us : List Term) (j : ℕ) → j < length ts → entries (ts ++ us) j ≡ entries ts j
entries_before [] us j lt = absurd (omega (arith, lt))
entries_before (t ∷ ts) us zero lt = refl
entries_before (t ∷ ts) us (suc j) lt = entries_before ts us j (omega (arith, lt))

entries_at : (ts : List Term) (t : Term) (j : ℕ) → j ≡ length ts → entries (ts ++ t ∷ []) j ≡ t
entries_at [] t zero e = refl
entries_at [] t (suc j) e = absurd (omega (arith, e))
entries_at (s ∷ ts) t zero e = absurd (omega (arith, e))
entries_at (s ∷ ts) t (suc j) e = entries_at ts t j (omega (arith, e))

entry_step : (f : Sub) (n j : ℕ) (b : Bool) → nat_eq j n ≡ b → j < suc n → (j < n → entries (first_terms f n) j ≡ f j) → entries (first_terms f n ++ f n ∷ []) j ≡ f j
entry_step f n j true e lt rest = let same : j ≡ n = grind (arith, nat_tests, e) in entries_at (first_terms f n) (f n) j (same ∙ sym (first_length f n)) ∙ ap f (sym same)
entry_step f n j false e lt rest = let below : j < n = grind (arith, nat_tests, e, lt) in entries_before (first_terms f n) (f n ∷ []) j (omega (arith, below, first_length f n)) ∙ rest below

pub first_entry : (f : Sub) (n j : ℕ) → j < n → entries (first_terms f n) j ≡ f j
first_entry f zero j lt = absurd (omega (arith, lt))
first_entry f (suc n) j lt = entry_step f n j (nat_eq j n) refl lt (first_entry f n j)

-- ---- what is said of each term

all_both : {A : Type 0} (P : A → Type 0) (xs ys : List A) → AllByRecursion P xs → AllByRecursion P ys → AllByRecursion P (xs ++ ys)
all_both P [] ys a b = b
all_both P (x ∷ xs) ys a b = (a.0, all_both P xs ys a.1 b)

pub each_first : (P : Term → Type 0) (f : Sub) (n : ℕ) → ((j : ℕ) → j < n → P (f j)) → AllByRecursion P (first_terms f n)
each_first P f zero h = tt
each_first P f (suc n) h = all_both P (first_terms f n) (f n ∷ []) (each_first P f n (λ j lt. h j (omega (arith, lt)))) (h n (omega arith), tt)

all_scoped : (k : ℕ) (ts : List Term) → AllByRecursion (TermScoped k) ts → TermsScoped k ts
unfolding TermsScoped
all_scoped k [] a = tt
all_scoped k (t ∷ ts) a = (a.0, all_scoped k ts a.1)

pub first_scoped : (k : ℕ) (f : Sub) (n : ℕ) → ((j : ℕ) → j < n → TermScoped k (f j)) → TermsScoped k (first_terms f n)
first_scoped k f n h = all_scoped k (first_terms f n) (each_first (TermScoped k) f n h)

-- ---- their substitution

pub first_fills : (f : Sub) (k : ℕ) (a : Formula) → ScopedIn k a → subst_of a (first_terms f k) ≡ in_formula f a
first_fills f k a s = formula_agrees k (entries (first_terms f k)) f (first_entry f k) a s

-- ---- depths, where each term has depth 1

abbrev pub AreFlat : Sub → Type 0
AreFlat f = (i : ℕ) → term_depth (f i) ≡ 1

depth_raised : (t : Term) → term_depth (raised t) ≡ term_depth t
unfolding term_depth
depth_raised (Lit z) = refl
depth_raised (Var i) = refl
depth_raised (add s t) = omega (arith, depth_raised s, depth_raised t)
depth_raised (sub s t) = omega (arith, depth_raised s, depth_raised t)
depth_raised (neg t) = ap suc (depth_raised t)
depth_raised (scale z t) = ap suc (depth_raised t)

under_flat : (f : Sub) → AreFlat f → AreFlat (under f)
unfolding term_depth
under_flat f h zero = refl
under_flat f h (suc i) = depth_raised (f i) ∙ h i

term_as_deep : (f : Sub) → AreFlat f → (t : Term) → term_depth (in_term f t) ≡ term_depth t
unfolding term_depth in_term
term_as_deep f h (Lit z) = refl
term_as_deep f h (Var i) = h i
term_as_deep f h (add s t) = omega (arith, term_as_deep f h s, term_as_deep f h t)
term_as_deep f h (sub s t) = omega (arith, term_as_deep f h s, term_as_deep f h t)
term_as_deep f h (neg t) = ap suc (term_as_deep f h t)
term_as_deep f h (scale z t) = ap suc (term_as_deep f h t)

terms_as_deep : (f : Sub) → AreFlat f → (ts : List Term) → terms_depth (map (in_term f) ts) ≡ terms_depth ts
unfolding terms_depth
terms_as_deep f h [] = refl
terms_as_deep f h (t ∷ ts) = omega (arith, term_as_deep f h t, terms_as_deep f h ts)

pure_as_deep : (f : Sub) → AreFlat f → (a : Pure) → pure_depth (in_pure f a) ≡ pure_depth a
unfolding pure_depth in_pure
pure_as_deep f h True = refl
pure_as_deep f h False = refl
pure_as_deep f h (Eq s t) = omega (arith, term_as_deep f h s, term_as_deep f h t)
pure_as_deep f h (Le s t) = omega (arith, term_as_deep f h s, term_as_deep f h t)
pure_as_deep f h (Lt s t) = omega (arith, term_as_deep f h s, term_as_deep f h t)
pure_as_deep f h (both a b) = omega (arith, pure_as_deep f h a, pure_as_deep f h b)
pure_as_deep f h (either a b) = omega (arith, pure_as_deep f h a, pure_as_deep f h b)
pure_as_deep f h (nope a) = ap suc (pure_as_deep f h a)

pub as_deep : (f : Sub) → AreFlat f → (a : Formula) → depth_of (in_formula f a) ≡ depth_of a
unfolding depth_of in_formula
as_deep f h (Assert a) = ap suc (pure_as_deep f h a)
as_deep f h (Sep a b) = omega (arith, as_deep f h a, as_deep f h b)
as_deep f h (Wand a b) = omega (arith, as_deep f h a, as_deep f h b)
as_deep f h (And a b) = omega (arith, as_deep f h a, as_deep f h b)
as_deep f h (Or a b) = omega (arith, as_deep f h a, as_deep f h b)
as_deep f h (Imp a b) = omega (arith, as_deep f h a, as_deep f h b)
as_deep f h (All a) = ap suc (as_deep (under f) (under_flat f h) a)
as_deep f h (Ex a) = ap suc (as_deep (under f) (under_flat f h) a)
as_deep f h (Later a) = ap suc (as_deep f h a)
as_deep f h (Pers a) = ap suc (as_deep f h a)
as_deep f h (Upd a) = ap suc (as_deep f h a)
as_deep f h (Pts l u v) = omega (arith, term_as_deep f h l, term_as_deep f h v)
as_deep f h (Call q args) = ap suc (terms_as_deep f h args)
