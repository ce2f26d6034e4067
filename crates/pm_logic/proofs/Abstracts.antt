-- What abstraction takes out, opening puts back.
use Rattle.std.proofs.Common.{◌≡◌, ◌⊎◌, inl, inr, ℕ, suc, ◌+◌, ◌-◌, Bool, true, false, if◌then◌else◌, refl, ap, ap₂, sym, ◌∙◌, arith}
use Rattle.std.proofs.lemmas.Bool.{cases_lt}
use Rattle.pm_logic.specs.declared.formula.Term.{Term}
use Rattle.pm_logic.specs.declared.formula.Term.TheVariants.{Lit, Var}
use Rattle.pm_logic.specs.declared.formula.Formula.{Formula}
use Rattle.pm_logic.specs.Trees.{add, sub, neg, scale}
use Rattle.pm_logic.specs.Abstraction.{term_eq, new_index_or, abstracted, abstract_of}
use Rattle.pm_logic.specs.Substitution.{in_term, under_by, raised_by, first, one_up, opened_of}
use Rattle.pm_logic.specs.Walks.{replaced}
use Rattle.pm_logic.proofs.Changed.{changed_back, changed_in}
use Rattle.pm_logic.proofs.Equals.{term_eq_decides}
use Rattle.pm_logic.proofs.Under.{under_low, under_high, under_var, one_up_at}

-- the test's two outcomes
tells : (b : Bool) → (b ≡ true) ⊎ (b ≡ false)
tells true = inl refl
tells false = inr refl

-- index d, opened with s, is s
put_back : (d : ℕ) (s : Term) → replaced (first s) d (Var d) ≡ raised_by d s
unfolding replaced in_term
put_back d s = sym (under_high d 0 d (first s) (omega arith))

-- where the parts' opening gives the term, so does that of the term with its name
new_index_opens : (d : ℕ) (s t u : Term) → replaced (first s) d u ≡ t → replaced (first s) d (new_index_or d (raised_by d s) t u) ≡ t
unfolding new_index_or
new_index_opens d s t u e =
    elim (tells (term_eq t (raised_by d s))) [
      | inl same ↦ ap (λ b. replaced (first s) d (if b then Var d else u)) same ∙ put_back d s ∙ sym ((term_eq_decides t (raised_by d s)).0 same)
      | inr other ↦ ap (λ b. replaced (first s) d (if b then Var d else u)) other ∙ e
    ]

index_opens : (d i : ℕ) (s : Term) → replaced (first s) d (under_by d one_up i) ≡ Var i
unfolding replaced in_term
index_opens d i s =
    elim (cases_lt i d) [
      | inl lt ↦ ap (in_term (under_by d (first s))) (sym (under_low d i one_up lt)) ∙ sym (under_low d i (first s) lt)
      | inr le ↦ ap (in_term (under_by d (first s))) (sym (one_up_at d i le)) ∙ sym (under_var d (suc (i - d)) (i - d) (i + 1) (first s) refl (omega arith)) ∙ ap Var (omega arith)
    ]

pub term_opens : (s : Term) (d : ℕ) (t : Term) → replaced (first s) d (abstracted d (raised_by d s) t) ≡ t
unfolding abstracted replaced in_term
term_opens s d (Lit z) = new_index_opens d s (Lit z) (Lit z) refl
term_opens s d (Var i) = new_index_opens d s (Var i) (under_by d one_up i) (index_opens d i s)
term_opens s d (add a b) = new_index_opens d s (add a b) (add (abstracted d (raised_by d s) a) (abstracted d (raised_by d s) b)) (ap₂ add (term_opens s d a) (term_opens s d b))
term_opens s d (sub a b) = new_index_opens d s (sub a b) (sub (abstracted d (raised_by d s) a) (abstracted d (raised_by d s) b)) (ap₂ sub (term_opens s d a) (term_opens s d b))
term_opens s d (neg a) = new_index_opens d s (neg a) (neg (abstracted d (raised_by d s) a)) (ap neg (term_opens s d a))
term_opens s d (scale z a) = new_index_opens d s (scale z a) (scale z (abstracted d (raised_by d s) a)) (ap (scale z) (term_opens s d a))

pub opens : (f : Formula) (s : Term) → opened_of (abstract_of f s) s ≡ f
opens f s = sym (changed_in (first s) 0 (abstract_of f s)) ∙ changed_back (replaced (first s)) (λ d. abstracted d (raised_by d s)) (term_opens s) 0 f
