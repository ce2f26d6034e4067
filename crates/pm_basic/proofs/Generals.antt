-- A variable goes to the conclusion: the proof that this takes, and what is answered.
use Rattle.std.proofs.Common.{◌≡◌, inl, ℕ, suc, ◌+◌, ◌<◌, ◌≤◌, max, Bool, true, false, not, if◌then◌else◌, List, [], ◌∷◌, length, refl, sym, ◌∙◌, ap, ap₂, subst, arith, Option, Some, None}
use Rattle.std.specs.Prelude.{Result, Err, nat_lt}
use Rattle.std.specs.List.{AllByRecursion}
use Rattle.std.proofs.lemmas.Bool.Decides.{nat_tests}
use Rattle.pm_logic.specs.declared.formula.Term.{Term}
use Rattle.pm_logic.specs.declared.formula.Term.TheVariants.{Var}
use Rattle.pm_logic.specs.declared.formula.Formula.{Formula}
use Rattle.pm_logic.specs.declared.formula.Formula.TheViews as view
use Rattle.pm_logic.specs.declared.formula.Preds.{Preds}
use Rattle.pm_logic.specs.declared.formula.TheConstants.{BOUND}
use Rattle.pm_logic.specs.declared.limits.TheConstants.{MAX_VARIABLES}
use Rattle.pm_logic.specs.Bounds.{IsBounded}
use Rattle.pm_logic.specs.Scope.{ScopedIn, Scoped}
use Rattle.pm_logic.specs.Size.{term_depth, depth_of}
use Rattle.pm_logic.specs.Substitution.{in_formula, subst_of, opened_of}
use Rattle.pm_logic.proofs.Scopes.{quantified_scoped_in, quantified_fit, var_scoped_from}
use Rattle.pm_logic.proofs.Sizes.{depth_var}
use Rattle.pm_logic.proofs.Kept.{in_formula_fits}
use Rattle.pm_logic.proofs.Views.{view_all}
use Rattle.pm_goal.specs.declared.work.Work.{Work}
use Rattle.pm_goal.specs.declared.refusal.Row.TheVariants.{NoSuchVariable, VariableMentioned, TooManyVariables}
use Rattle.pm_goal.specs.declared.refusal.StepFault.{StepFault}
use Rattle.pm_goal.specs.declared.refusal.StepFault.TheVariants as fault
use Rattle.pm_goal.specs.Left.{left_of_work}
use Rattle.pm_rules.specs.declared.rules.Entail.{Entail}
use Rattle.pm_proof.specs.Trees.{Tree, entail, conclusion, side_depth}
use Rattle.pm_proof.specs.Valid.{TermFits, EntailScoped}
use Rattle.pm_proof.specs.Known.{Proves, Every, ScopedWhere}
use Rattle.pm_proof.specs.declared.proof.Parts.{Parts}
use Rattle.pm_proof.proofs.Fills.{weaker}
use Rattle.pm_classes.proofs.Sizes.{depth_all}
use Rattle.pm_star.specs.Chains.{ChainProves, across}
use Rattle.pm_table.specs.declared.place.Place.{Place}
use Rattle.pm_table.specs.declared.place.Place.TheVariants.{Current as current}
use Rattle.pm_table.specs.Occurrences.{in_a_formula, without, to_front}
use Rattle.pm_table.specs.Outcomes.{Outcome, one, require_some, require_plain}
use Rattle.pm_table.specs.Limits.{limited, resting, work_formulas, all_nodes}
use Rattle.pm_table.specs.Running.{rules_within}
use Rattle.pm_table.specs.Works.{Named, index_named}
use Rattle.pm_table.specs.Basic.{mentions, names_but, without_var, revert_var, gives_goal, on_goal}
use Rattle.pm_action.specs.Meanings.{meaning, room, width}
use Rattle.pm_action.specs.Acting.{IsActed, IsHanded, Answers, Refuses, plainly}
use Rattle.pm_action.proofs.Heights.{star_height, concl_height, concl_depth, sides_height}
use Rattle.pm_action.proofs.Moves.{few}
use Rattle.pm_basic.specs.Replacements.{around, bound, first_terms}
use Rattle.pm_basic.specs.Losses.{Loses, IsRegained, IsSpecial, for_all}
use Rattle.pm_basic.proofs.Ending.{on_rest, rested, refused_by, refused_plainly}
use Rattle.pm_basic.proofs.Fillings.{each_scoped, star_scoped, star_small}
use Rattle.pm_basic.proofs.Lost.{lost_star}
use Rattle.pm_basic.proofs.Placed.{one_fewer, index_low}
use Rattle.pm_basic.proofs.Regained.{star_regained, concl_rebound, lost_scoped, front_scoped, body_scoped, body_for_variable}
use Rattle.pm_basic.proofs.Replaced.{AreFlat, first_length, first_fills, each_first, as_deep}
use Rattle.pm_basic.proofs.Mentioned.{star_mentions}

-- ---- each term is flat

front_flat : (i : ℕ) → AreFlat (to_front i)
unfolding term_depth
front_flat i x = refl

bound_flat : (i : ℕ) → AreFlat (bound i)
unfolding term_depth
bound_flat i x = refl

without_flat : (i : ℕ) → AreFlat (without i)
unfolding term_depth
without_flat i x = refl

around_low : (m x : ℕ) (b : Bool) → x < m → (if b then x else suc x) < suc m
around_low m x true lt = omega (arith, lt)
around_low m x false lt = omega (arith, lt)

around_fits : (i m x : ℕ) → x < m → TermFits (suc m) (around i x)
around_fits i m x lt =
    let shown : ℕ = if nat_lt x i then x else suc x in
    record { scoped = var_scoped_from (suc m) shown (around_low m x (nat_lt x i) lt); levels = omega (arith, depth_var shown) }

module _ (i : ℕ) (w new : Work) (h : IsHanded w) (l : Loses i w new) where
  abbrev k : ℕ
  k = length w.goal.vars

  abbrev m : ℕ
  m = length (names_but l.name w.goal.vars)

  abbrev star : Formula
  star = left_of_work w

  abbrev concl : Formula
  concl = w.goal.concl

  fewer : k ≡ suc m
  fewer = one_fewer l.name w.goal.vars i l.index

  pub index_within : i < k
  index_within = index_low l.name w.goal.vars i l.index

  low : i < suc m
  low = omega (arith, index_within, fewer)

  new_vars : length new.goal.vars ≡ m
  new_vars = ap (λ (x : Work). length x.goal.vars) l.new_is

  new_star : left_of_work new ≡ in_formula (without i) star
  new_star = ap left_of_work l.new_is ∙ sym (lost_star l.name i w.goal) ∙ ap (λ (x : Work). in_formula (without i) (left_of_work x)) (sym (rested w l.nothing))

  new_concl : new.goal.concl ≡ view.All (in_formula (to_front i) concl)
  new_concl = ap (λ (x : Work). x.goal.concl) l.new_is ∙ sym (view_all (in_formula (to_front i) concl))

  star_in : ScopedIn (suc m) star
  star_in = subst (λ (n : ℕ). ScopedIn n star) fewer (star_scoped w h)

  concl_in : ScopedIn (suc m) concl
  concl_in = let each = each_scoped w h in subst (λ (n : ℕ). ScopedIn n concl) fewer each.concl

  unmentioned : in_a_formula i star ≡ false
  unmentioned = star_mentions i w l.nothing ∙ l.loose

  star_deep : depth_of (left_of_work new) ≡ depth_of star
  star_deep = ap depth_of new_star ∙ as_deep (without i) (without_flat i) star

  concl_deep : depth_of new.goal.concl ≡ suc (depth_of concl)
  concl_deep = ap depth_of new_concl ∙ depth_all (in_formula (to_front i) concl) ∙ ap suc (as_deep (to_front i) (front_flat i) concl)

  body_deep : depth_of (in_formula (bound i) concl) ≡ depth_of concl
  body_deep = as_deep (bound i) (bound_flat i) concl

  -- ---- what the new work means, in one variable more

  module _ (n : ℕ) (sigma : List Term) (vars : n ≡ length new.goal.vars) (is : sigma ≡ first_terms (around i) n) where
    count : n ≡ m
    count = vars ∙ new_vars

    pub sigma_length : length sigma ≡ n
    sigma_length = ap length is ∙ first_length (around i) n

    sigma_count : length sigma ≡ m
    sigma_count = sigma_length ∙ count

    pub left_in : (f : Formula) → f ≡ left_of_work new → ScopedIn (length sigma) f
    left_in f e = subst (λ (j : ℕ). ScopedIn j f) (sym sigma_count) (subst (ScopedIn m) (sym (e ∙ new_star)) (lost_scoped i m low star star_in unmentioned))

    pub right_in : (f : Formula) → f ≡ new.goal.concl → ScopedIn (length sigma) f
    right_in f e =
        let c : Formula = in_formula (to_front i) concl in
        let body : ScopedIn (m + 1) c = let next : suc m ≡ m + 1 = omega arith in subst (λ (j : ℕ). ScopedIn j c) next (front_scoped i m low concl concl_in) in
        subst (λ (j : ℕ). ScopedIn j f) (sym sigma_count) (subst (ScopedIn m) (sym (e ∙ new_concl)) (quantified_scoped_in m (view.All c) c (inl refl) body))

    pub left_small : (f : Formula) → f ≡ left_of_work new → length sigma + depth_of f ≤ BOUND
    left_small f e = omega (arith, sigma_count, ap depth_of e, star_deep, star_small w h, fewer)

    pub right_small : (f : Formula) → f ≡ new.goal.concl → length sigma + depth_of f ≤ BOUND
    right_small f e = omega (arith, sigma_count, ap depth_of e, concl_deep, h.shallow, concl_depth w, fewer)

    pub terms_fit : AllByRecursion (TermFits (n + 1)) sigma
    terms_fit =
        let next : suc n ≡ n + 1 = omega arith in
        subst (λ (j : ℕ). AllByRecursion (TermFits j) sigma) next
        (subst (AllByRecursion (TermFits (suc n))) (sym is) (each_first (TermFits (suc n)) (around i) n (around_fits i n)))

    pub regained_done : (left right : Formula) (t : Tree) → left ≡ left_of_work new → right ≡ new.goal.concl
        → Proves Every (entail (n + 1) (subst_of left sigma) (subst_of right sigma)) (entail n left right ∷ []) 1 (max (side_depth (entail (n + 1) (subst_of left sigma) (subst_of right sigma))) (side_depth (entail n left right))) (max (n + 1) n) t
        → IsRegained i w new t
    regained_done left right t left_is right_is p =
        let e : Entail = entail (n + 1) (subst_of left sigma) (subst_of right sigma) in
        let g : Entail = entail n left right in
        let goal : Entail = entail k star (for_all i concl) in
        let d : ℕ = room w (current [] new ∷ []) in
        let terms : sigma ≡ first_terms (around i) m = is ∙ ap (first_terms (around i)) count in
        let first : subst_of left sigma ≡ star = ap₂ subst_of (left_is ∙ new_star) terms ∙ star_regained i m low star star_in unmentioned in
        let second : subst_of right sigma ≡ for_all i concl = ap₂ subst_of (right_is ∙ new_concl) terms ∙ concl_rebound i m low concl concl_in in
        let more : n + 1 ≡ k = omega (arith, count, fewer) in
        let to : e ≡ goal = ap (λ (j : ℕ). entail j (subst_of left sigma) (subst_of right sigma)) more ∙ ap₂ (entail k) first second in
        let from : g ≡ meaning new = ap (λ (j : ℕ). entail j left right) vars ∙ ap₂ (entail (length new.goal.vars)) left_is right_is in
        let q : Proves Every goal (g ∷ []) 1 (max (side_depth goal) (side_depth g)) (max (n + 1) n) t = subst (λ (x : Entail). Proves Every x (g ∷ []) 1 (max (side_depth x) (side_depth g)) (max (n + 1) n) t) to p in
        let r : Proves Every goal (meaning new ∷ []) 1 (max (side_depth goal) (side_depth (meaning new))) (max (n + 1) n) t = subst (λ (x : Entail). Proves Every goal (x ∷ []) 1 (max (side_depth goal) (side_depth x)) (max (n + 1) n) t) from q in
        weaker Every goal (meaning new ∷ []) 1 (max (side_depth goal) (side_depth (meaning new))) (max (n + 1) n) 1 d (width w) t (omega arith)
        (omega (arith, star_height w, concl_height w, sides_height new, body_deep, depth_all (in_formula (bound i) concl))) (omega (arith, more)) r

  -- ---- the conclusion for all values

  module _ (n : ℕ) (vars : n ≡ k) (sigma : List Term) (is : sigma ≡ first_terms (bound i) n) where
    body_is : (f body : Formula) → f ≡ concl → body ≡ subst_of f sigma → body ≡ in_formula (bound i) concl
    body_is f body e b =
        b ∙ ap₂ subst_of e (is ∙ ap (first_terms (bound i)) vars) ∙ first_fills (bound i) k concl (let each = each_scoped w h in each.concl)

    pub body_bounded : (body : Formula) → body ≡ subst_of concl sigma → IsBounded body
    body_bounded body b =
        subst IsBounded (sym (body_is concl body refl b))
        (record { vars = suc k; scoped = body_scoped i k concl (let each = each_scoped w h in each.concl); within = omega (arith, body_deep, h.shallow, concl_depth w) })

    pub special_done : (body : Formula) (t : Tree) → body ≡ subst_of concl sigma
        → Proves Every (entail n (view.All body) (opened_of body (Var i))) [] 1 (side_depth (entail n (view.All body) (opened_of body (Var i)))) n t
        → IsSpecial i w new t
    special_done body t b p =
        let e : Entail = entail n (view.All body) (opened_of body (Var i)) in
        let goal : Entail = entail k (for_all i concl) concl in
        let d : ℕ = room w (current [] new ∷ []) in
        let same : body ≡ in_formula (bound i) concl = body_is concl body refl b in
        let right : opened_of body (Var i) ≡ concl = ap (λ (x : Formula). opened_of x (Var i)) same ∙ body_for_variable i concl in
        let to : e ≡ goal = ap (λ (j : ℕ). entail j (view.All body) (opened_of body (Var i))) vars ∙ ap₂ (entail k) (ap view.All same) right in
        let q : Proves Every goal [] 1 (side_depth goal) n t = subst (λ (x : Entail). Proves Every x [] 1 (side_depth x) n t) to p in
        weaker Every goal [] 1 (side_depth goal) n 1 d (width w) t (omega arith) (omega (arith, concl_height w, body_deep, depth_all (in_formula (bound i) concl))) (omega (arith, vars)) q

  pub var_fits : (n : ℕ) → n ≡ k → TermFits n (Var i)
  var_fits n vars = record { scoped = var_scoped_from n i (omega (arith, vars, index_within)); levels = omega (arith, depth_var i) }

  -- ---- one after the other

  module _ (first second : Tree) (p : IsRegained i w new first) (q : IsSpecial i w new second) where
    pub same_vars : (conclusion second).vars ≡ (conclusion first).vars
    same_vars = ap (λ (e : Entail). e.vars) q.concludes ∙ sym (ap (λ (e : Entail). e.vars) p.concludes)

    pub they_meet : (conclusion second).left ≡ (conclusion first).right
    they_meet = ap (λ (e : Entail). e.left) q.concludes ∙ sym (ap (λ (e : Entail). e.right) p.concludes)

    over : across first second ≡ meaning w
    over = ap₂ (λ (a b : Entail). entail a.vars a.left b.right) p.concludes q.concludes

    for_all_scoped : (preds : Preds) → Scoped preds k concl → Scoped preds k (for_all i concl)
    for_all_scoped preds s =
        let b : Formula = in_formula (bound i) concl in
        let next : suc k ≡ k + 1 = omega arith in
        let body : ScopedIn (k + 1) b = subst (λ (j : ℕ). ScopedIn j b) next (body_scoped i k concl s.indices) in
        record { indices = quantified_scoped_in k (view.All b) b (inl refl) body; calls = quantified_fit preds.list (view.All b) b (inl refl) (in_formula_fits preds.list (bound i) concl s.calls) }

    scope : ScopedWhere (across first second) (meaning new ∷ []) (conclusion first)
    scope preds e hs = let whole : EntailScoped preds (meaning w) = subst (EntailScoped preds) over e in subst (EntailScoped preds) (sym p.concludes) (whole.0, for_all_scoped preds whole.1)

    pub general_done : (t : Tree) → ChainProves first second t → IsActed (all_nodes (work_formulas w)) w (current [] new ∷ []) t
    general_done t chain =
        let s : ℕ = all_nodes (work_formulas w) in
        let d : ℕ = room w (current [] new ∷ []) in
        let k1 : ℕ = width w in
        let p1 : Proves Every (conclusion first) (meaning new ∷ []) 1 d k1 first = subst (λ (e : Entail). Proves Every e (meaning new ∷ []) 1 d k1 first) (sym p.concludes) p in
        let q1 : Proves Every (conclusion second) [] 1 d k1 second = subst (λ (e : Entail). Proves Every e [] 1 d k1 second) (sym q.concludes) q in
        let all : Proves Every (across first second) (meaning new ∷ []) (1 + 1 + 1) d k1 t = chain Every (meaning new ∷ []) [] 1 1 d k1 p1 q1 scope in
        let bound : 1 + 1 + 1 ≤ rules_within s = few s (1 + 1 + 1) (omega arith) in
        weaker Every (meaning w) (meaning new ∷ []) (1 + 1 + 1) d k1 (rules_within s) d k1 t bound (omega arith) (omega arith)
        (subst (λ (e : Entail). Proves Every e (meaning new ∷ []) (1 + 1 + 1) d k1 t) over all)

-- ---- what is answered

pub too_many : (s : ℕ) (w new : Work) (f : StepFault) → MAX_VARIABLES < length new.goal.vars → f ≡ fault.Refused (plainly TooManyVariables) → Answers s w (limited (one new)) (Err f)
too_many s w new f more e = let test : nat_lt MAX_VARIABLES (length new.goal.vars) ≡ true = grind (arith, nat_tests, more) in rw test (refused_plainly s w TooManyVariables f e)

abbrev by_test : Named → ℕ → Work → Bool → Outcome
by_test x i w b = require_plain (not b) VariableMentioned (gives_goal (without_var x i w.goal))

row_is : (x : Named) (i : ℕ) (w : Work) (b : Bool) → index_named x w.goal.vars ≡ Some i → mentions i w.goal ≡ b → revert_var x w.goal ≡ by_test x i w b
row_is x i w b e f = ap (λ (o : Option ℕ). require_some o NoSuchVariable x (λ j. by_test x j w (mentions j w.goal))) e ∙ ap (by_test x i w) f

module _ (s : ℕ) (x : Named) (w : Work) (nothing : w.held ≡ []) where
  pub var_missing : (f : StepFault) → None ≡ index_named x w.goal.vars → Refuses NoSuchVariable x f → Answers s w (limited (on_goal (revert_var x) w)) (Err f)
  var_missing f none r =
      on_rest s w (revert_var x) (Err f) nothing
      (subst (λ (o : Option ℕ). Answers s w (limited (require_some o NoSuchVariable x (λ j. by_test x j w (mentions j w.goal)))) (Err f)) none (refused_by s w NoSuchVariable x f r))

  pub var_mentioned : (i : ℕ) (f : StepFault) → index_named x w.goal.vars ≡ Some i → mentions i w.goal ≡ true → f ≡ fault.Refused (plainly VariableMentioned) → Answers s w (limited (on_goal (revert_var x) w)) (Err f)
  var_mentioned i f e m r =
      on_rest s w (revert_var x) (Err f) nothing
      (subst (λ (o : Outcome). Answers s w (limited o) (Err f)) (sym (row_is x i w true e m)) (refused_plainly s w VariableMentioned f r))

  pub var_reverted : (i : ℕ) (new : Work) (r : Result (Parts Place) StepFault) → index_named x w.goal.vars ≡ Some i → mentions i w.goal ≡ false → new ≡ resting (without_var x i w.goal) → Answers s w (limited (one new)) r → Answers s w (limited (on_goal (revert_var x) w)) r
  var_reverted i new r e m is h =
      on_rest s w (revert_var x) r nothing
      (subst (λ (o : Outcome). Answers s w (limited o) r) (sym (row_is x i w false e m)) (subst (λ (y : Work). Answers s w (limited (one y)) r) is h))
