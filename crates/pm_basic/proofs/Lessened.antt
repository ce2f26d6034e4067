-- The goal without a variable, as it is built from lists of terms, and the test whether it is mentioned.
use Rattle.std.proofs.Common.{◌≡◌, ℕ, zero, suc, pred, ◌+◌, ◌<◌, ◌≤◌, Bool, false, true, not, if◌then◌else◌, List, length, sym, ◌∙◌, ap, subst, arith, []}
use Rattle.std.specs.Prelude.{IsTrue, ◌↔◌, nat_eq, nat_lt}
use Rattle.std.specs.List.{AllByRecursion}
use Rattle.pm_logic.specs.declared.formula.Term.{Term}
use Rattle.pm_logic.specs.declared.formula.Formula.{Formula}
use Rattle.pm_logic.specs.declared.formula.Formula.TheVariants.{Pure as Assert}
use Rattle.pm_logic.specs.declared.formula.Formula.TheViews as view
use Rattle.pm_logic.specs.declared.formula.TheConstants.{BOUND}
use Rattle.pm_logic.specs.Bounds.{past_indices}
use Rattle.pm_logic.specs.Scope.{TermsScoped, ScopedIn}
use Rattle.pm_logic.specs.Size.{depth_of}
use Rattle.pm_logic.specs.Substitution.{Sub, in_pure, in_formula, entries, subst_of}
use Rattle.pm_logic.proofs.Scopes.{var_scoped_from}
use Rattle.pm_logic.proofs.Views.{view_all}
use Rattle.pm_goal.specs.declared.goal.Hyp.{Hyp}
use Rattle.pm_goal.specs.declared.goal.Fact.{Fact}
use Rattle.pm_goal.specs.declared.goal.Goal.{Goal}
use Rattle.pm_goal.specs.declared.work.Work.{Work}
use Rattle.pm_goal.specs.Left.{left_of_work}
use Rattle.pm_table.specs.Occurrences.{without, to_front}
use Rattle.pm_table.specs.Works as works
use Rattle.pm_table.specs.Works.{Named}
use Rattle.pm_table.specs.Basic.{mentions, names_but, without_var}
use Rattle.pm_action.specs.Acting.{IsHanded}
use Rattle.pm_basic.specs.Replacements.{bound, zeroed, first_terms, IsFillable}
use Rattle.pm_basic.proofs.Replaced.{first_length, first_scoped, first_fills}
use Rattle.pm_basic.proofs.Fillings.{OfEach, each_scoped, each_fillable, star_scoped, star_small, facts_filled, hyps_filled}
use Rattle.pm_basic.proofs.Mentioned.{tested}

-- ---- the terms are below the bound

pred_low : (x : ℕ) → pred x ≤ x
pred_low zero = omega arith
pred_low (suc x) = omega arith

without_low : (k x : ℕ) (b : Bool) → k ≤ BOUND → x < k → (if b then pred x else x) < suc BOUND
without_low k x true le lt = let less : pred x < suc BOUND = omega (arith, le, lt, pred_low x) in less
without_low k x false le lt = omega (arith, le, lt)

front_low : (k x : ℕ) (b c : Bool) → k ≤ BOUND → x < k → (if b then 0 else (if c then x else suc x)) < suc BOUND
front_low k x true c le lt = omega arith
front_low k x false true le lt = omega (arith, le, lt)
front_low k x false false le lt = omega (arith, le, lt)

bound_low : (k x : ℕ) (b : Bool) → k ≤ BOUND → x < k → (if b then 0 else suc x) < suc BOUND
bound_low k x true le lt = omega arith
bound_low k x false le lt = omega (arith, le, lt)

module _ (i k : ℕ) (le : k ≤ BOUND) where
  pub losing_terms : TermsScoped past_indices (first_terms (without i) k)
  unfolding past_indices
  losing_terms = first_scoped (suc BOUND) (without i) k (λ x lt. var_scoped_from (suc BOUND) (if nat_lt i x then pred x else x) (without_low k x (nat_lt i x) le lt))

  pub binding_terms : TermsScoped past_indices (first_terms (to_front i) k)
  unfolding past_indices
  binding_terms = first_scoped (suc BOUND) (to_front i) k (λ x lt. var_scoped_from (suc BOUND) (if nat_eq i x then 0 else (if nat_lt i x then x else suc x)) (front_low k x (nat_eq i x) (nat_lt i x) le lt))

  pub rebinding_terms : TermsScoped past_indices (first_terms (bound i) k)
  unfolding past_indices
  rebinding_terms = first_scoped (suc BOUND) (bound i) k (λ x lt. var_scoped_from (suc BOUND) (if nat_eq i x then 0 else suc x) (bound_low k x (nat_eq i x) le lt))

module _ (w : Work) (h : IsHanded w) (n : ℕ) (vars : n ≡ length w.goal.vars) where
  pub below : n ≤ BOUND
  below = omega (arith, vars, h.few)

  fillable : (f : Sub) (sigma : List Term) → sigma ≡ first_terms f n → TermsScoped past_indices (first_terms f n) → OfEach (IsFillable sigma) w
  fillable f sigma is low = each_fillable w sigma h (ap length is ∙ first_length f n ∙ vars) (subst (TermsScoped past_indices) (sym is) low)

  scoped_each : OfEach (ScopedIn n) w
  scoped_each = subst (λ (j : ℕ). OfEach (ScopedIn j) w) (sym vars) (each_scoped w h)

  -- ---- the test

  module _ (i : ℕ) (star : Formula) (sigma : List Term) (star_is : star ≡ left_of_work w) (is : sigma ≡ first_terms (zeroed i) n) where
    counted : length sigma ≡ length w.goal.vars
    counted = ap length is ∙ first_length (zeroed i) n ∙ vars

    in_all : ScopedIn (length w.goal.vars) star
    in_all = subst (ScopedIn (length w.goal.vars)) (sym star_is) (star_scoped w h)

    pub test_scoped : ScopedIn (length sigma) star
    test_scoped = subst (λ (j : ℕ). ScopedIn j star) (sym counted) in_all

    pub test_small : length sigma + depth_of star ≤ BOUND
    test_small = omega (arith, counted, ap depth_of star_is, star_small w h)

    pub test_done : (b : Bool) → w.held ≡ [] → IsTrue b ↔ (star ≡ subst_of star sigma) → not b ≡ mentions i w.goal
    test_done b nothing e = tested n i w star b nothing star_is (subst (λ (j : ℕ). ScopedIn j star) (sym vars) in_all) (subst (λ (ts : List Term). IsTrue b ↔ (star ≡ subst_of star ts)) is e)

  -- ---- the conclusion

  pub binding_fills : (i : ℕ) (sigma : List Term) → sigma ≡ first_terms (to_front i) n → IsFillable sigma w.goal.concl
  binding_fills i sigma is = let each = fillable (to_front i) sigma is (binding_terms i n below) in each.concl

  pub rebinding_fills : (i : ℕ) (sigma : List Term) → sigma ≡ first_terms (bound i) n → IsFillable sigma w.goal.concl
  rebinding_fills i sigma is = let each = fillable (bound i) sigma is (rebinding_terms i n below) in each.concl

  pub bound_is : (i : ℕ) (sigma : List Term) (body concl : Formula) → sigma ≡ first_terms (to_front i) n → body ≡ subst_of w.goal.concl sigma → concl ≡ view.All body → concl ≡ view.All (in_formula (to_front i) w.goal.concl)
  bound_is i sigma body concl is b e = e ∙ ap view.All (b ∙ ap (subst_of w.goal.concl) is ∙ first_fills (to_front i) n w.goal.concl (let each = scoped_each in each.concl))

  -- ---- the contexts

  module _ (i : ℕ) (sigma : List Term) (is : sigma ≡ first_terms (without i) n) where
    losing : OfEach (IsFillable sigma) w
    losing = fillable (without i) sigma is (losing_terms i n below)

    pub facts_fillable : AllByRecursion (λ (f : Fact). IsFillable sigma (Assert f.pure)) w.goal.pures
    facts_fillable = let each = losing in each.pures

    pub ints_fillable : AllByRecursion (λ (x : Hyp). IsFillable sigma x.formula) w.goal.ints
    ints_fillable = let each = losing in each.ints

    pub spats_fillable : AllByRecursion (λ (x : Hyp). IsFillable sigma x.formula) w.goal.spats
    spats_fillable = let each = losing in each.spats

    abbrev goal_of : List Named → List Fact → List Hyp → List Hyp → Formula → Goal
    goal_of vars pures ints spats concl = record { vars = vars; pures = pures; ints = ints; spats = spats; concl = concl }

    pub lessened : (x : Named) (names : List Named) (pures : List Fact) (ints spats : List Hyp) (concl : Formula)
        → names ≡ names_but x w.goal.vars → pures ≡ works.each_fact (in_pure (entries sigma)) w.goal.pures → ints ≡ works.each_hyp (in_formula (entries sigma)) w.goal.ints → spats ≡ works.each_hyp (in_formula (entries sigma)) w.goal.spats
        → concl ≡ view.All (in_formula (to_front i) w.goal.concl) → goal_of names pures ints spats concl ≡ without_var x i w.goal
    lessened x names pures ints spats concl a b c d e =
        let each = scoped_each in
        let p = b ∙ ap (λ (ts : List Term). works.each_fact (in_pure (entries ts)) w.goal.pures) is ∙ facts_filled (without i) n w.goal.pures each.pures in
        let q = c ∙ ap (λ (ts : List Term). works.each_hyp (in_formula (entries ts)) w.goal.ints) is ∙ hyps_filled (without i) n w.goal.ints each.ints in
        let r = d ∙ ap (λ (ts : List Term). works.each_hyp (in_formula (entries ts)) w.goal.spats) is ∙ hyps_filled (without i) n w.goal.spats each.spats in
        let s = e ∙ view_all (in_formula (to_front i) w.goal.concl) in
        ap (λ (y : List Named). goal_of y pures ints spats concl) a
        ∙ ap (λ (y : List Fact). goal_of (names_but x w.goal.vars) y ints spats concl) p
        ∙ ap (λ (y : List Hyp). goal_of (names_but x w.goal.vars) (works.each_fact (in_pure (without i)) w.goal.pures) y spats concl) q
        ∙ ap (λ (y : List Hyp). goal_of (names_but x w.goal.vars) (works.each_fact (in_pure (without i)) w.goal.pures) (works.each_hyp (in_formula (without i)) w.goal.ints) y concl) r
        ∙ ap (λ (y : Formula). goal_of (names_but x w.goal.vars) (works.each_fact (in_pure (without i)) w.goal.pures) (works.each_hyp (in_formula (without i)) w.goal.ints) (works.each_hyp (in_formula (without i)) w.goal.spats) y) s
