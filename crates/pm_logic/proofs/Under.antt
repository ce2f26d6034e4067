-- What stands for an index under binders.
use Rattle.std.proofs.Common.{◌≡◌, ℕ, zero, suc, ◌+◌, ◌-◌, ◌<◌, ◌≤◌, List, [], ◌∷◌, pos, Option, Some, None, slice_get, refl, ap, ap₂, sym, ◌∙◌, subst, arith}
use Rattle.pm_logic.specs.declared.formula.Term.{Term}
use Rattle.pm_logic.specs.declared.formula.Term.TheVariants.{Lit, Var}
use Rattle.pm_logic.specs.Trees.{add, sub, neg, scale}
use Rattle.pm_logic.specs.Scope.{TermScoped, TermsScoped}
use Rattle.pm_logic.specs.Substitution.{Sub, raised, raised_by, under_by, entries, first, one_up}
use Rattle.pm_logic.specs.Walks.{first_of}

raised_by_zero : (t : Term) → raised_by 0 t ≡ t
unfolding raised_by
raised_by_zero (Lit z) = refl
raised_by_zero (Var i) = ap Var (omega arith)
raised_by_zero (add s t) = ap₂ add (raised_by_zero s) (raised_by_zero t)
raised_by_zero (sub s t) = ap₂ sub (raised_by_zero s) (raised_by_zero t)
raised_by_zero (neg t) = ap neg (raised_by_zero t)
raised_by_zero (scale z t) = ap (scale z) (raised_by_zero t)

raised-raised_by : (d : ℕ) (t : Term) → raised (raised_by d t) ≡ raised_by (suc d) t
unfolding raised_by
raised-raised_by d (Lit z) = refl
raised-raised_by d (Var i) = ap Var (omega arith)
raised-raised_by d (add s t) = ap₂ add (raised-raised_by d s) (raised-raised_by d t)
raised-raised_by d (sub s t) = ap₂ sub (raised-raised_by d s) (raised-raised_by d t)
raised-raised_by d (neg t) = ap neg (raised-raised_by d t)
raised-raised_by d (scale z t) = ap (scale z) (raised-raised_by d t)

pub under_low : (d i : ℕ) (f : Sub) → i < d → Var i ≡ under_by d f i
under_low zero i f lt = absurd (omega arith)
under_low (suc d) zero f lt = refl
under_low (suc d) (suc i) f lt = ap raised (under_low d i f (omega arith))

pub under_high : (d j i : ℕ) (f : Sub) → i ≡ j + d → raised_by d (f j) ≡ under_by d f i
under_high zero j i f e = raised_by_zero (f j) ∙ ap f (omega arith)
under_high (suc d) j zero f e = absurd (omega arith)
under_high (suc d) j (suc i) f e = sym (raised-raised_by d (f j)) ∙ ap raised (under_high d j i f (omega arith))

-- an index that stands for the free one j
pub under_var : (d j k i : ℕ) (f : Sub) → f j ≡ Var k → i ≡ j + d → Var (k + d) ≡ under_by d f i
unfolding raised_by
under_var d j k i f at e = ap (raised_by d) (sym at) ∙ under_high d j i f e

pub under_itself : (d i : ℕ) → Var i ≡ under_by d Var i
under_itself zero i = refl
under_itself (suc d) zero = refl
under_itself (suc d) (suc i) = ap raised (under_itself d i)

pub entries_some : (sigma : List Term) (i : ℕ) (t : Term) → Some t ≡ slice_get sigma i → t ≡ entries sigma i
entries_some [] i t e = cc e
entries_some (x ∷ sigma) zero t e = cc e
entries_some (x ∷ sigma) (suc i) t e = entries_some sigma i t e

pub entries_none : (sigma : List Term) (i : ℕ) → None ≡ slice_get sigma i → Lit (pos 0) ≡ entries sigma i
entries_none [] i e = refl
entries_none (x ∷ sigma) zero e = cc e
entries_none (x ∷ sigma) (suc i) e = entries_none sigma i e

abbrev OnScoped : ℕ → Option Term → Type 0
OnScoped k None = Unit {0}
OnScoped k (Some t) = TermScoped k t

pub scoped_at : (k : ℕ) (sigma : List Term) (i : ℕ) (t : Term) → TermsScoped k sigma → Some t ≡ slice_get sigma i → TermScoped k t
unfolding TermsScoped
scoped_at k [] i t h e = cc e
scoped_at k (x ∷ sigma) zero t h e = let P : Option Term → Type 0 = λ o. OnScoped k o in subst P (sym e) h.0
scoped_at k (x ∷ sigma) (suc i) t h e = scoped_at k sigma i t h.1 e

-- what stands under d binders for a free index, by the entry in its place
pub entry_some : (d i : ℕ) (sigma : List Term) (t : Term) → d ≤ i → Some t ≡ slice_get sigma (i - d) → raised_by d t ≡ under_by d (entries sigma) i
entry_some d i sigma t le e = ap (raised_by d) (entries_some sigma (i - d) t e) ∙ under_high d (i - d) i (entries sigma) (omega arith)

pub entry_none : (d i : ℕ) (sigma : List Term) → d ≤ i → None ≡ slice_get sigma (i - d) → Lit (pos 0) ≡ under_by d (entries sigma) i
unfolding raised_by
entry_none d i sigma le e = ap (raised_by d) (entries_none sigma (i - d) e) ∙ under_high d (i - d) i (entries sigma) (omega arith)

first_of_some : (sigma : List Term) (t : Term) → Some t ≡ slice_get sigma 0 → first t ≡ first_of sigma
unfolding first_of
first_of_some [] t e = cc e
first_of_some (x ∷ sigma) t e = let same : t ≡ x = cc e in ap first same

first_of_none : (sigma : List Term) → None ≡ slice_get sigma 0 → Var ≡ first_of sigma
unfolding first_of
first_of_none [] e = refl
first_of_none (x ∷ sigma) e = cc e

pub first_here : (d i : ℕ) (sigma : List Term) (t : Term) → Some t ≡ slice_get sigma 0 → i ≡ d → raised_by d t ≡ under_by d (first_of sigma) i
first_here d i sigma t e same = under_high d 0 i (first t) (omega arith) ∙ ap (λ f. under_by d f i) (first_of_some sigma t e)

pub first_later : (d i : ℕ) (sigma : List Term) (t : Term) → Some t ≡ slice_get sigma 0 → d < i → Var (i - 1) ≡ under_by d (first_of sigma) i
first_later d i sigma t e lt =
    ap Var (omega arith)
    ∙ under_var d (suc (i - d - 1)) (i - d - 1) i (first t) refl (omega arith)
    ∙ ap (λ f. under_by d f i) (first_of_some sigma t e)

pub first_none : (d i : ℕ) (sigma : List Term) → None ≡ slice_get sigma 0 → Var i ≡ under_by d (first_of sigma) i
first_none d i sigma e = under_itself d i ∙ ap (λ f. under_by d f i) (first_of_none sigma e)

pub one_up_at : (d i : ℕ) → d ≤ i → Var (i + 1) ≡ under_by d one_up i
one_up_at d i le = ap Var (omega arith) ∙ under_var d (i - d) (suc (i - d)) i one_up refl (omega arith)
