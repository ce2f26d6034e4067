-- What is equal to itself.
use Rattle.std.proofs.Common.{◌≡◌, ◌⊎◌, inl, inr, ℕ, suc, ◌+◌, ◌*◌, ◌^◌, ◌≤◌, max, Bool, true, false, cond, ℤ, pos, List, [], ◌∷◌, ◌++◌, length, refl, ap, ap₂, sym, subst, ◌∙◌, arith}
use Rattle.std.specs.Prelude.{nat_eq, map, ◌+ℤ◌, ◌-ℤ◌, ◌*ℤ◌}
use Rattle.std.specs.List.{AllByRecursion}
use Rattle.std.proofs.lemmas.Int.{ints}
use Rattle.pm_logic.specs.declared.formula.Term.{Term}
use Rattle.pm_logic.specs.declared.formula.Term.TheVariants.{Var}
use Rattle.pm_logic.specs.declared.formula.Pure.{Pure}
use Rattle.pm_logic.specs.declared.formula.Pure.TheVariants.{True, Eq}
use Rattle.pm_logic.specs.declared.formula.Formula.{Formula}
use Rattle.pm_logic.specs.declared.formula.Formula.TheVariants.{Pure as Assert}
use Rattle.pm_logic.specs.declared.formula.TheConstants.{BOUND}
use Rattle.pm_logic.specs.declared.limits.TheConstants.{MAX_LINE_LEVELS}
use Rattle.pm_logic.specs.Scope.{TermScoped, PureScoped, ScopedIn, Scoped}
use Rattle.pm_logic.specs.Size.{depth_of, term_depth}
use Rattle.pm_logic.specs.Substitution.{in_term, in_pure, in_formula, subst_of}
use Rattle.pm_logic.proofs.Sizes.{depth_pure, depth_true, depth_eq, depth_var}
use Rattle.pm_goal.specs.declared.work.Held.{Held}
use Rattle.pm_goal.specs.declared.work.Work.{Work}
use Rattle.pm_goal.specs.Left.{facts, hyps, left_of_work}
use Rattle.pm_linform.specs.Entries.{IsAtMost}
use Rattle.pm_rules.specs.declared.rules.Entail.{Entail}
use Rattle.pm_rules.specs.Equations.{IsFacts}
use Rattle.pm_rules.specs.Linear.{coefficient_of, constant_of, HasSmallForm, IsSmall, AreSmall, atom, IsShown, HasSecond, HasFactors}
use Rattle.pm_proof.specs.Trees.{Tree, entail, conclusion, side_depth}
use Rattle.pm_proof.specs.Valid.{TermFits, EntailScoped}
use Rattle.pm_proof.specs.Known.{Proves, Every, ScopedWhere, FillProves}
use Rattle.pm_proof.proofs.Fills.{weaker}
use Rattle.pm_schemes.specs.Sketches.{deepest}
use Rattle.pm_star.specs.Chains.{ChainProves, across}
use Rattle.pm_star.proofs.Scoping.{truth_scoped, fact_scoped}
use Rattle.pm_table.specs.Limits.{formulas, work_formulas, all_nodes}
use Rattle.pm_table.specs.Running.{rules_within}
use Rattle.pm_action.specs.Meanings.{meaning, room, width}
use Rattle.pm_action.specs.Acting.{IsActed, IsHanded}
use Rattle.pm_action.proofs.Heights.{star_height, concl_height}
use Rattle.pm_action.proofs.Moves.{few}
use Rattle.pm_closing.specs.Closed.{GivesTruth, one_variable, itself}

-- ---- a variable

abbrev v : Term
v = Var 0

one_or_none : (b : Bool) → IsAtMost (pos (2 ^ 62)) (cond b (pos 1) (pos 0))
one_or_none true = record { low = omega (arith, ints); high = omega (arith, ints) }
one_or_none false = record { low = omega (arith, ints); high = omega (arith, ints) }

small_form : HasSmallForm v
unfolding coefficient_of constant_of
small_form = record {
  coefficients = λ i. one_or_none (nat_eq 0 i);
  constant = record { low = omega (arith, ints); high = omega (arith, ints) };
}

is_small : IsSmall v
unfolding IsSmall
is_small = small_form

-- the variable itself has gone
gone : (b : Bool) → (pos 1 *ℤ ((cond b (pos 1) (pos 0) -ℤ cond b (pos 1) (pos 0)) +ℤ pos 0)) +ℤ pos 0 ≡ pos 0
gone true = refl
gone false = refl

is_shown : IsShown (pos 1 ∷ []) [] (Eq v v)
unfolding coefficient_of constant_of AreSmall atom
is_shown = record {
  atoms = (refl, tt);
  small = ((is_small, is_small), tt);
  each = refl;
  sizes = (record { low = omega (arith, ints); high = omega (arith, ints) }, tt);
  signs = (inl (omega (arith, ints)), tt);
  variables = λ i. gone (nat_eq 0 i);
  constant = omega (arith, ints);
}

pub has_factors : HasFactors (pos 1 ∷ []) (pos 1 ∷ []) 1 (Assert True) (Assert (Eq v v))
unfolding HasSecond
has_factors = record {
  fs = [];
  g = Eq v v;
  left_is = refl;
  right_is = refl;
  few = omega arith;
  first = is_shown;
  second = is_shown;
}

pub no_facts : IsFacts True
unfolding IsFacts
no_facts = ([], refl)

pub factors_shown : (first second : List ℤ) → first ≡ pos 1 ∷ [] → second ≡ pos 1 ∷ [] → HasFactors first second 1 (Assert True) (Assert (Eq v v))
factors_shown first second a b = rw (a, b) has_factors

pub one_depth : side_depth one_variable ≡ 3
one_depth = omega (arith, depth_pure True, depth_true, depth_pure (Eq v v), depth_eq v v, depth_var 0)

-- ---- a term in its place

truth_there : (sigma : List Term) → subst_of (Assert True) sigma ≡ Assert True
unfolding in_formula in_pure
truth_there sigma = refl

equal_there : (t : Term) → subst_of (Assert (Eq v v)) (t ∷ []) ≡ Assert (Eq t t)
unfolding in_formula in_pure in_term
equal_there t = refl

pub one_scoped : (f : Formula) → (f ≡ Assert True) ⊎ (f ≡ Assert (Eq v v)) → ScopedIn 1 f
unfolding ScopedIn PureScoped TermScoped
one_scoped f (inl e) = rw e tt
one_scoped f (inr e) = rw e (omega arith, omega arith)

equal_depth : (t : Term) → depth_of (Assert (Eq t t)) ≡ suc (suc (term_depth t))
equal_depth t = omega (arith, depth_pure (Eq t t), depth_eq t t)

pub instance_known : (k : ℕ) (t : Term) (sigma : List Term) (e : Entail) (p : Tree) → sigma ≡ t ∷ [] → e ≡ one_variable
    → Proves Every (entail k (subst_of e.left sigma) (subst_of e.right sigma)) (e ∷ []) 1 (max (side_depth (entail k (subst_of e.left sigma) (subst_of e.right sigma))) (side_depth e)) (max k e.vars) p
    → Proves Every (itself k t) (one_variable ∷ []) 1 (term_depth t + 8) (k + 1) p
instance_known k t sigma e p sis eis q =
    let q1 : Proves Every (entail k (subst_of (Assert True) sigma) (subst_of (Assert (Eq v v)) sigma)) (one_variable ∷ []) 1 (max (side_depth (entail k (subst_of (Assert True) sigma) (subst_of (Assert (Eq v v)) sigma))) (side_depth one_variable)) (max k 1) p = subst (λ (x : Entail). Proves Every (entail k (subst_of x.left sigma) (subst_of x.right sigma)) (x ∷ []) 1 (max (side_depth (entail k (subst_of x.left sigma) (subst_of x.right sigma))) (side_depth x)) (max k x.vars) p) eis q in
    let at : entail k (subst_of (Assert True) sigma) (subst_of (Assert (Eq v v)) sigma) ≡ itself k t = ap (λ ts. entail k (subst_of (Assert True) ts) (subst_of (Assert (Eq v v)) ts)) sis ∙ (ap (λ x. entail k x (subst_of (Assert (Eq v v)) (t ∷ []))) (truth_there (t ∷ [])) ∙ ap (entail k (Assert True)) (equal_there t)) in
    let q2 : Proves Every (itself k t) (one_variable ∷ []) 1 (max (side_depth (itself k t)) (side_depth one_variable)) (max k 1) p = subst (λ (x : Entail). Proves Every x (one_variable ∷ []) 1 (max (side_depth x) (side_depth one_variable)) (max k 1) p) at q1 in
    weaker Every (itself k t) (one_variable ∷ []) 1 (max (side_depth (itself k t)) (side_depth one_variable)) (max k 1) 1 (term_depth t + 8) (k + 1) p (omega arith) (omega (arith, one_depth, equal_depth t, depth_pure True, depth_true)) (omega arith) q2

pub one_term : (sigma old : List Term) (u t : Term) → sigma ≡ old ++ u ∷ [] → old ≡ [] → u ≡ t → sigma ≡ t ∷ []
one_term sigma old u t pushed none same = pushed ∙ ap₂ (λ (xs : List Term) (x : Term). xs ++ x ∷ []) none same

-- what is put in its place, and where
module _ (sigma : List Term) (t : Term) (e : Entail) (sis : sigma ≡ t ∷ []) (eis : e ≡ one_variable) where
  count : length sigma ≡ 1
  count = ap length sis

  pub left_in_place : ScopedIn (length sigma) e.left
  left_in_place = subst (λ (n : ℕ). ScopedIn n e.left) (sym count) (subst (λ (x : Entail). ScopedIn 1 x.left) (sym eis) (one_scoped (Assert True) (inl refl)))

  pub right_in_place : ScopedIn (length sigma) e.right
  right_in_place = subst (λ (n : ℕ). ScopedIn n e.right) (sym count) (subst (λ (x : Entail). ScopedIn 1 x.right) (sym eis) (one_scoped (Assert (Eq v v)) (inr refl)))

  left_levels : depth_of e.left ≡ 2
  left_levels = ap (λ (x : Entail). depth_of x.left) eis ∙ omega (arith, depth_pure True, depth_true)

  right_levels : depth_of e.right ≡ 3
  right_levels = ap (λ (x : Entail). depth_of x.right) eis ∙ omega (arith, depth_pure (Eq v v), depth_eq v v, depth_var 0)

  pub left_fits : length sigma + depth_of e.left ≤ BOUND
  left_fits = omega (arith, count, left_levels)

  pub right_fits : length sigma + depth_of e.right ≤ BOUND
  right_fits = omega (arith, count, right_levels)

equal_scoped : PureScoped 1 (Eq v v)
unfolding PureScoped TermScoped
equal_scoped = (omega arith, omega arith)

one_is_scoped : (e : Entail) → ScopedWhere e [] one_variable
one_is_scoped e preds u all = (truth_scoped preds 1, fact_scoped preds 1 (Eq v v) equal_scoped)

pub term_known : (k : ℕ) (t : Term) (step inner p : Tree) → Proves Every (itself k t) (one_variable ∷ []) 1 (term_depth t + 8) (k + 1) step → Proves Every one_variable [] 1 8 1 inner → FillProves step 0 inner p → Proves Every (itself k t) [] 2 (term_depth t + 8) (k + 1) p
term_known k t step inner p a b fill =
    let b1 : Proves Every one_variable [] 1 (term_depth t + 8) (k + 1) inner = weaker Every one_variable [] 1 8 1 1 (term_depth t + 8) (k + 1) inner (omega arith) (omega arith) (omega arith) b in
    let b2 : Proves Every (conclusion inner) [] 1 (term_depth t + 8) (k + 1) inner = subst (λ (x : Entail). Proves Every x [] 1 (term_depth t + 8) (k + 1) inner) (sym b.concludes) b1 in
    let wants : ScopedWhere (itself k t) [] (conclusion inner) = λ preds u all. subst (EntailScoped preds) (sym b.concludes) (one_is_scoped (itself k t) preds u all) in
    fill Every (itself k t) (one_variable ∷ []) [] 1 1 (term_depth t + 8) (k + 1) a b2 wants

-- ---- in a work

last_of : (P : Formula → Type 0) (xs ys : List Formula) → AllByRecursion P (xs ++ ys) → AllByRecursion P ys
last_of P [] ys a = a
last_of P (x ∷ xs) ys a = last_of P xs ys a.1

first_of_all : (P : Formula → Type 0) (xs ys : List Formula) → AllByRecursion P (xs ++ ys) → AllByRecursion P xs
first_of_all P [] ys a = tt
first_of_all P (x ∷ xs) ys a = (a.0, first_of_all P xs ys a.1)

pub concl_scoped : (w : Work) → IsHanded w → ScopedIn (length w.goal.vars) w.goal.concl
concl_scoped w h =
    let P : Formula → Type 0 = ScopedIn (length w.goal.vars) in
    let g = w.goal in
    let all = first_of_all P (formulas g) (map (λ (x : Held). x.formula) w.held) h.scoped in
    (last_of P (hyps g.spats) (g.concl ∷ []) (last_of P (hyps g.ints) (hyps g.spats ++ (g.concl ∷ [])) (last_of P (facts g.pures) (hyps g.ints ++ (hyps g.spats ++ (g.concl ∷ []))) all))).0

sides_scoped : (k : ℕ) (t : Term) → ScopedIn k (Assert (Eq t t)) → TermScoped k t
unfolding ScopedIn PureScoped
sides_scoped k t h = h.0

pub term_fits : (w : Work) (t : Term) → IsHanded w → depth_of w.goal.concl ≤ MAX_LINE_LEVELS → w.goal.concl ≡ Assert (Eq t t) → TermFits (length w.goal.vars) t
term_fits w t h shallow is = record {
  scoped = sides_scoped (length w.goal.vars) t (subst (ScopedIn (length w.goal.vars)) is (concl_scoped w h));
  levels = omega (arith, shallow, ap depth_of is, equal_depth t);
}

pub truth_of : (w : Work) (x : Formula) (n : ℕ) (p : Tree) → x ≡ left_of_work w → n ≡ length w.goal.vars → Proves Every (entail n x (Assert True)) [] 1 (deepest (x ∷ []) [] + 2) n p → GivesTruth w p
truth_of w x n p is vars q =
    let k : ℕ = length w.goal.vars in
    let e : Entail = entail k (left_of_work w) (Assert True) in
    let q1 : Proves Every (entail n (left_of_work w) (Assert True)) [] 1 (deepest (left_of_work w ∷ []) [] + 2) n p = subst (λ (f : Formula). Proves Every (entail n f (Assert True)) [] 1 (deepest (f ∷ []) [] + 2) n p) is q in
    let q2 : Proves Every e [] 1 (deepest (left_of_work w ∷ []) [] + 2) k p = subst (λ (m : ℕ). Proves Every (entail m (left_of_work w) (Assert True)) [] 1 (deepest (left_of_work w ∷ []) [] + 2) m p) vars q1 in
    weaker Every e [] 1 (deepest (left_of_work w ∷ []) [] + 2) k 1 (room w []) (width w) p (omega arith) (omega (arith, star_height w)) (omega arith) q2

-- a few rules are few
some_rules : (s n : ℕ) → n ≤ 1000 → n ≤ rules_within s
some_rules s n le = few s n (omega (arith, le))

pub equal_acted : (w : Work) (t : Term) (a b p : Tree) → w.goal.concl ≡ Assert (Eq t t) → GivesTruth w a → Proves Every (itself (length w.goal.vars) t) [] 2 (term_depth t + 8) (length w.goal.vars + 1) b → ChainProves a b p → IsActed (all_nodes (work_formulas w)) w [] p
equal_acted w t a b p is given equal chain =
    let k : ℕ = length w.goal.vars in
    let s : ℕ = all_nodes (work_formulas w) in
    let d : ℕ = room w [] in
    let a1 : Proves Every (conclusion a) [] 1 d (width w) a = subst (λ x. Proves Every x [] 1 d (width w) a) (sym given.concludes) given in
    let deep : term_depth t + 8 ≤ d = omega (arith, concl_height w, ap depth_of is, equal_depth t) in
    let b1 : Proves Every (itself k t) [] 2 d (width w) b = weaker Every (itself k t) [] 2 (term_depth t + 8) (k + 1) 2 d (width w) b (omega arith) deep (omega arith) equal in
    let b2 : Proves Every (conclusion b) [] 2 d (width w) b = subst (λ x. Proves Every x [] 2 d (width w) b) (sym equal.concludes) b1 in
    let over : across a b ≡ meaning w = (ap (λ (e : Entail). entail e.vars e.left (conclusion b).right) given.concludes ∙ ap (λ (e : Entail). entail k (left_of_work w) e.right) equal.concludes) ∙ ap (entail k (left_of_work w)) (sym is) in
    let wants : ScopedWhere (across a b) [] (conclusion a) = λ preds u all. subst (EntailScoped preds) (sym given.concludes) (subst (λ (e : Entail). Scoped preds e.vars e.left) over u.0, truth_scoped preds k) in
    let all : Proves Every (across a b) [] (1 + 2 + 1) d (width w) p = chain Every [] [] 1 2 d (width w) a1 b2 wants in
    let all1 : Proves Every (meaning w) [] (1 + 2 + 1) d (width w) p = subst (λ x. Proves Every x [] (1 + 2 + 1) d (width w) p) over all in
    weaker Every (meaning w) [] (1 + 2 + 1) d (width w) (rules_within s) d (width w) p (some_rules s (1 + 2 + 1) (omega arith)) (omega arith) (omega arith) all1

-- ---- as the calls give it

pub one_known : (goal : Pure) (p : Tree) → goal ≡ Eq (Var 0) (Var 0) → Proves Every (entail 1 (Assert True) (Assert goal)) [] 1 (side_depth (entail 1 (Assert True) (Assert goal))) 1 p → Proves Every one_variable [] 1 8 1 p
one_known goal p is q =
    let q1 : Proves Every one_variable [] 1 (side_depth one_variable) 1 p = subst (λ (f : Pure). Proves Every (entail 1 (Assert True) (Assert f)) [] 1 (side_depth (entail 1 (Assert True) (Assert f))) 1 p) is q in
    weaker Every one_variable [] 1 (side_depth one_variable) 1 1 8 1 p (omega arith) (omega (arith, one_depth)) (omega arith) q1

pub equal_of : (w : Work) (t : Term) (n : ℕ) (b : Tree) → n ≡ length w.goal.vars → Proves Every (itself n t) [] 2 (term_depth t + 8) (n + 1) b → Proves Every (itself (length w.goal.vars) t) [] 2 (term_depth t + 8) (length w.goal.vars + 1) b
equal_of w t n b is q = subst (λ (k : ℕ). Proves Every (itself k t) [] 2 (term_depth t + 8) (k + 1) b) is q

pub fits_of : (w : Work) (t : Term) (n : ℕ) → n ≡ length w.goal.vars → TermFits (length w.goal.vars) t → TermFits n t
fits_of w t n is h = subst (λ (k : ℕ). TermFits k t) (sym is) h
