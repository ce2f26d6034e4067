-- What the two goals of a case distinction show.
use Rattle.std.proofs.Common.{◌≡◌, ℕ, zero, suc, ◌+◌, ◌*◌, ◌≤◌, Bool, true, false, List, [], ◌∷◌, length, insert, refl, sym, ◌∙◌, ap, subst, arith, Some, slice_get}
use Rattle.std.specs.Prelude.{Result, Err}
use Rattle.pm_logic.specs.declared.formula.Pure.{Pure}
use Rattle.pm_logic.specs.declared.formula.Pure.TheViews as pure_view
use Rattle.pm_logic.specs.declared.formula.Formula.{Formula}
use Rattle.pm_logic.specs.declared.formula.Formula.TheVariants.{Pure as Assert}
use Rattle.pm_logic.specs.declared.formula.Formula.TheViews as view
use Rattle.pm_logic.specs.declared.formula.Preds.{Preds}
use Rattle.pm_logic.specs.Trees.{nope}
use Rattle.pm_logic.specs.Scope.{Scoped}
use Rattle.pm_logic.specs.Size.{depth_of}
use Rattle.pm_logic.proofs.Sizes.{depth_pure}
use Rattle.pm_logic.proofs.Views.{view_not}
use Rattle.pm_goal.specs.declared.work.Work.{Work}
use Rattle.pm_goal.specs.declared.refusal.Row.TheVariants.{NameInUse}
use Rattle.pm_goal.specs.declared.refusal.StepFault.{StepFault}
use Rattle.pm_goal.specs.Left.{star_onto, left_of_work}
use Rattle.pm_rules.specs.declared.rules.Entail.{Entail}
use Rattle.pm_proof.specs.Trees.{Tree, Hole, entail, conclusion, holes_of}
use Rattle.pm_proof.specs.Valid.{EntailScoped}
use Rattle.pm_proof.specs.Known.{Proves, Every, FillProves}
use Rattle.pm_proof.specs.declared.proof.Parts.{Parts}
use Rattle.pm_proof.proofs.Fills.{weaker}
use Rattle.pm_schemes.specs.Sketches.{deepest}
use Rattle.pm_star.specs.Stars.{star, work_parts, room as star_room, Moves}
use Rattle.pm_star.specs.Levels.{left_side, right_side}
use Rattle.pm_star.specs.Chains.{ChainProves}
use Rattle.pm_star.proofs.Scoping.{scoped_star, sep_scoped, depth_sep}
use Rattle.pm_star.proofs.Places.{gains_fact}
use Rattle.pm_table.specs.declared.place.Place.{Place}
use Rattle.pm_table.specs.declared.place.Place.TheVariants.{Current as current}
use Rattle.pm_table.specs.Outcomes.{Outcome, gives, require}
use Rattle.pm_table.specs.Limits.{limited, resting, work_formulas, all_nodes}
use Rattle.pm_table.specs.Running.{rules_within}
use Rattle.pm_table.specs.Works.{Named, fits, fact, with_fact}
use Rattle.pm_table.specs.Basic.{on_goal, gives_goals}
use Rattle.pm_table.specs.Rewriting.{cases}
use Rattle.pm_action.specs.Meanings.{meaning, meanings, height, room, width}
use Rattle.pm_action.specs.Acting.{IsActed, Answers, Refuses, Ends}
use Rattle.pm_action.proofs.Heights.{concl_height, star_height, parts_nodes, parts_are}
use Rattle.pm_action.proofs.Hands.{star_is}
use Rattle.pm_action.proofs.Moves.{few}
use Rattle.pm_hand.proofs.Answered.{refuses}
use Rattle.pm_hand.proofs.Known.{inserted}
use Rattle.pm_pure.specs.Cases.{IsCase, CaseShown, CasesShown}
use Rattle.pm_pure.proofs.Chaining.{chained, hole_proves, on_rest}

-- a part is no deeper than the star
insert_deep : (fs : List Formula) (i : ℕ) (f : Formula) → depth_of f ≤ depth_of (star (insert fs i f))
unfolding star_onto
insert_deep fs zero f = omega (arith, depth_sep f (star fs))
insert_deep [] (suc i) f = omega (arith, depth_sep f (star []))
insert_deep (g ∷ fs) (suc i) f = omega (arith, insert_deep fs i f, depth_sep g (star (insert fs i f)))

pub facts_within : (w : Work) (place : ℕ) → place ≡ length w.goal.pures → place ≤ length (work_parts w)
facts_within w place is = omega (arith, is, parts_are w)

-- ---- one case

module _ (w : Work) (p : Pure) (new : Work) (nothing : w.held ≡ []) (case : IsCase w p new) where
  abbrev k : ℕ
  k = length w.goal.vars

  abbrev l : Formula
  l = left_of_work w

  abbrev more : List Formula
  more = insert (work_parts w) (length w.goal.pures) (Assert p)

  case_parts : work_parts new ≡ more
  case_parts = ap work_parts case.is ∙ gains_fact w (resting (with_fact case.name p w.goal)) (fact case.name p) refl refl refl (sym nothing)

  case_star : star more ≡ left_of_work new
  case_star = star_is new more case_parts

  case_means : meaning new ≡ entail k (left_of_work new) w.goal.concl
  case_means = ap (λ (x : Work). entail (length x.goal.vars) (left_of_work new) x.goal.concl) case.is

  pub case_scoped : (preds : Preds) → EntailScoped preds (meaning new) → Scoped preds k (Assert p)
  case_scoped preds e =
      let s : Scoped preds k (left_of_work new) = (subst (EntailScoped preds) case_means e).0 in
      inserted (Scoped preds k) (work_parts w) (length w.goal.pures) (Assert p) (scoped_star preds k more (subst (Scoped preds k) (sym case_star) s))

  case_deep : depth_of (Assert p) ≤ height new + 1
  case_deep = omega (arith, insert_deep (work_parts w) (length w.goal.pures) (Assert p), ap depth_of case_star, star_height new)

  pub case_known : (f : Formula) (place : ℕ) (first hole t : Tree) → f ≡ Assert p → place ≡ length w.goal.pures
      → Moves k (length (work_parts w)) (view.Sep f l) (star (insert (work_parts w) place f)) first → hole ≡ Hole (meaning new) → ChainProves first hole t → CaseShown w p new t
  case_known f place first hole t is at moves wants chain =
      let n : ℕ = 100 * (length (work_parts w) + 1) in
      let a : Formula = Assert p in
      let x : Formula = left_of_work new in
      let c : Formula = w.goal.concl in
      let d : ℕ = room w (current [] new ∷ []) in
      let q : ℕ = width w in
      let m1 : Moves k (length (work_parts w)) (view.Sep a l) (star more) first = subst (λ i. Moves k (length (work_parts w)) (view.Sep a l) (star (insert (work_parts w) i a)) first) at (subst (λ y. Moves k (length (work_parts w)) (view.Sep y l) (star (insert (work_parts w) place y)) first) is moves) in
      let m2 : Moves k (length (work_parts w)) (view.Sep a l) x first = subst (λ y. Moves k (length (work_parts w)) (view.Sep a l) y first) case_star m1 in
      let near : star_room (view.Sep a l) x ≤ d = omega (arith, depth_sep a l, case_deep, star_height w, star_height new) in
      let first1 : Proves Every (entail k (view.Sep a l) x) [] n d q first = weaker Every (entail k (view.Sep a l) x) [] n (star_room (view.Sep a l) x) k n d q first (omega arith) near (omega arith) m2 in
      let width_is : length new.goal.vars ≡ k = ap (λ (y : Work). length y.goal.vars) case.is in
      let hole1 : Proves Every (meaning new) (meaning new ∷ []) 0 d q (Hole (meaning new)) = weaker Every (meaning new) (meaning new ∷ []) 0 (height new + 16) (length new.goal.vars) 0 d q (Hole (meaning new)) (omega arith) (omega arith) (omega (arith, width_is)) (hole_proves new) in
      let hole2 : Proves Every (meaning new) (meaning new ∷ []) 0 d q hole = subst (λ (y : Tree). Proves Every (meaning new) (meaning new ∷ []) 0 d q y) (sym wants) hole1 in
      let hole3 : Proves Every (entail k x c) (meaning new ∷ []) 0 d q hole = subst (λ (e : Entail). Proves Every e (meaning new ∷ []) 0 d q hole) case_means hole2 in
      let all : Proves Every (entail k (view.Sep a l) c) (meaning new ∷ []) (n + 0 + 1) d q t =
      chained k n 0 d q (view.Sep a l) x c [] (meaning new ∷ []) first hole t first1 hole3 (λ preds whole hs. (subst (EntailScoped preds) case_means hs.0).0) chain in
      weaker Every (entail k (view.Sep a l) c) (meaning new ∷ []) (n + 0 + 1) d q (100 * length (work_parts w) + 101) d q t (omega arith) (omega arith) (omega arith) all

  pub case_vars : (f : Formula) (place : ℕ) (first hole : Tree) → Moves k (length (work_parts w)) (view.Sep f l) (star (insert (work_parts w) place f)) first → hole ≡ Hole (meaning new) → (conclusion hole).vars ≡ (conclusion first).vars
  case_vars f place first hole moves wants = ap (λ (x : Tree). (conclusion x).vars) wants ∙ ap (λ (e : Entail). e.vars) case_means ∙ sym (ap (λ (e : Entail). e.vars) moves.concludes)

  pub case_meets : (f : Formula) (place : ℕ) (first hole : Tree) → f ≡ Assert p → place ≡ length w.goal.pures
      → Moves k (length (work_parts w)) (view.Sep f l) (star (insert (work_parts w) place f)) first → hole ≡ Hole (meaning new) → left_side hole ≡ right_side first
  case_meets f place first hole is at moves wants =
      ap left_side wants ∙ sym (ap (λ (e : Entail). e.right) moves.concludes ∙ ap (λ y. star (insert (work_parts w) place y)) is ∙ ap (λ i. star (insert (work_parts w) i (Assert p))) at ∙ case_star)

-- ---- both

module _ (w : Work) (p denial : Pure) (first second : Work) (nothing : w.held ≡ []) (denies : denial ≡ pure_view.Not p) (case1 : IsCase w p first) (case2 : IsCase w denial second) where
  abbrev vars : ℕ
  vars = length w.goal.vars

  abbrev star_w : Formula
  star_w = left_of_work w

  abbrev says : Pure → Entail
  says x = entail vars (view.Sep (Assert x) star_w) w.goal.concl

  abbrev no : Pure
  no = pure_view.Not p

  abbrev By : ℕ → Formula → Tree → Type 0
  By j left t =
      Proves Every (entail j left w.goal.concl) (entail j (view.Sep (Assert p) left) w.goal.concl ∷ entail j (view.Sep (Assert no) left) w.goal.concl ∷ []) 10 (deepest (left ∷ w.goal.concl ∷ []) (p ∷ []) + 5) j t

  step_is : (j : ℕ) (left : Formula) (step : Tree) → j ≡ vars → left ≡ star_w → By j left step → By vars star_w step
  step_is j left step j_is left_is by = subst (λ i. By i star_w step) j_is (subst (λ x. By j x step) left_is by)

  fails_says : (fails : Tree) → CaseShown w denial second fails → conclusion fails ≡ says no
  fails_says fails shown = shown.concludes ∙ ap says denies

  pub second_hole : (j : ℕ) (left : Formula) (step fails : Tree) → j ≡ vars → left ≡ star_w → By j left step → CaseShown w denial second fails → slice_get (holes_of step) 1 ≡ Some (conclusion fails)
  second_hole j left step fails j_is left_is by shown = rw ((step_is j left step j_is left_is by).holes, fails_says fails shown) refl

  abbrev d : ℕ
  d = room w (current [] first ∷ current [] second ∷ [])

  half_known : (j : ℕ) (left : Formula) (step fails half : Tree) → j ≡ vars → left ≡ star_w → By j left step → CaseShown w denial second fails → FillProves step 1 fails half
      → Proves Every (meaning w) (says p ∷ meaning second ∷ []) (10 + (100 * length (work_parts w) + 101)) d (width w) half
  half_known j left step fails half j_is left_is by shown fill =
      let m : ℕ = 100 * length (work_parts w) + 101 in
      let by1 : By vars star_w step = step_is j left step j_is left_is by in
      let deep : deepest (star_w ∷ w.goal.concl ∷ []) (p ∷ []) + 5 ≤ d = omega (arith, star_height w, concl_height w, case_deep w p first nothing case1, depth_pure p) in
      let by2 : Proves Every (meaning w) (says p ∷ says no ∷ []) 10 d (width w) step = weaker Every (meaning w) (says p ∷ says no ∷ []) 10 (deepest (star_w ∷ w.goal.concl ∷ []) (p ∷ []) + 5) vars 10 d (width w) step (omega arith) deep (omega arith) by1 in
      let shown1 : Proves Every (says denial) (meaning second ∷ []) m d (width w) fails = weaker Every (says denial) (meaning second ∷ []) m (room w (current [] second ∷ [])) (width w) m d (width w) fails (omega arith) (omega arith) (omega arith) shown in
      let shown2 : Proves Every (conclusion fails) (meaning second ∷ []) m d (width w) fails = subst (λ (e : Entail). Proves Every e (meaning second ∷ []) m d (width w) fails) (sym shown.concludes) shown1 in
      fill Every (meaning w) (says p ∷ says no ∷ []) (meaning second ∷ []) 10 m d (width w) by2 shown2
      (λ preds e hs. subst (EntailScoped preds) (sym shown.concludes) (sep_scoped preds vars (Assert denial) star_w (case_scoped w denial second nothing case2 preds hs.1.0) e.0, e.1))

  pub first_hole : (j : ℕ) (left : Formula) (step fails half holds : Tree) → j ≡ vars → left ≡ star_w → By j left step → CaseShown w denial second fails → FillProves step 1 fails half → CaseShown w p first holds
      → slice_get (holes_of half) 0 ≡ Some (conclusion holds)
  first_hole j left step fails half holds j_is left_is by shown fill other = rw ((half_known j left step fails half j_is left_is by shown fill).holes, other.concludes) refl

  pub cases_known : (j : ℕ) (left : Formula) (step fails half holds t : Tree) → j ≡ vars → left ≡ star_w → By j left step → CaseShown w denial second fails → FillProves step 1 fails half → CaseShown w p first holds → FillProves half 0 holds t
      → CasesShown w first second t
  cases_known j left step fails half holds t j_is left_is by shown fill other fill2 =
      let m : ℕ = 100 * length (work_parts w) + 101 in
      let half1 : Proves Every (meaning w) (says p ∷ meaning second ∷ []) (10 + m) d (width w) half = half_known j left step fails half j_is left_is by shown fill in
      let other1 : Proves Every (says p) (meaning first ∷ []) m d (width w) holds = weaker Every (says p) (meaning first ∷ []) m (room w (current [] first ∷ [])) (width w) m d (width w) holds (omega arith) (omega arith) (omega arith) other in
      let other2 : Proves Every (conclusion holds) (meaning first ∷ []) m d (width w) holds = subst (λ (e : Entail). Proves Every e (meaning first ∷ []) m d (width w) holds) (sym other.concludes) other1 in
      let all : Proves Every (meaning w) (meaning first ∷ meaning second ∷ []) (10 + m + m) d (width w) t =
      fill2 Every (meaning w) (says p ∷ meaning second ∷ []) (meaning first ∷ []) (10 + m) m d (width w) half1 other2
      (λ preds e hs. subst (EntailScoped preds) (sym other.concludes) (sep_scoped preds vars (Assert p) star_w (case_scoped w p first nothing case1 preds hs.0) e.0, e.1)) in
      weaker Every (meaning w) (meaning first ∷ meaning second ∷ []) (10 + m + m) d (width w) (200 * length (work_parts w) + 212) d (width w) t (omega arith) (omega arith) (omega arith) all

-- ---- the row

module _ (w : Work) (p : Pure) (name : Named) where
  abbrev both_goals : Outcome
  both_goals = gives_goals (with_fact name p w.goal) (with_fact name (pure_view.Not p) w.goal)

  pub decided : (s : ℕ) (denial : Pure) (first second : Work) (t : Tree) (r : Result (Parts Place) StepFault) → denial ≡ pure_view.Not p
      → first ≡ resting (with_fact name p w.goal) → second ≡ resting (with_fact name denial w.goal) → all_nodes (work_formulas w) ≤ s
      → CasesShown w first second t → Ends (current [] first ∷ current [] second ∷ []) t r → Answers s w (limited both_goals) r
  decided s denial first second t r denies is1 is2 le shown ends =
      let ps : List Place = current [] first ∷ current [] second ∷ [] in
      let n : ℕ = 200 * length (work_parts w) + 212 in
      let bound : n ≤ rules_within s = few s n (omega (arith, le, parts_nodes w)) in
      let acted : IsActed s w ps t = weaker Every (meaning w) (meanings ps) n (room w ps) (width w) (rules_within s) (room w ps) (width w) t bound (omega arith) (omega arith) shown in
      subst (λ (x : Pure). Answers s w (limited (gives_goals (with_fact name p w.goal) (with_fact name x w.goal))) r) denies
      (subst (λ (x : Work). Answers s w (limited (gives (current [] (resting (with_fact name p w.goal)) ∷ current [] x ∷ []))) r) is2
      (subst (λ (x : Work). Answers s w (limited (gives (current [] x ∷ current [] second ∷ []))) r) is1 (ends s w acted)))

  abbrev row : Bool → Pure → Outcome
  row b x = require b NameInUse name (gives_goals (with_fact name p w.goal) (with_fact name x w.goal))

  pub cases_free : (s : ℕ) (r : Result (Parts Place) StepFault) → w.held ≡ [] → fits w.goal name ≡ true → Answers s w (limited both_goals) r → Answers s w (limited (on_goal (cases p name) w)) r
  cases_free s r nothing free h =
      on_rest s w (cases p name) r nothing
      (subst (λ (b : Bool). Answers s w (limited (row b (nope p))) r) (sym free) (subst (λ (x : Pure). Answers s w (limited (row true x)) r) (view_not p) h))

  pub cases_used : (s : ℕ) (f : StepFault) → w.held ≡ [] → fits w.goal name ≡ false → Refuses NameInUse name f → Answers s w (limited (on_goal (cases p name) w)) (Err f)
  cases_used s f nothing used h =
      on_rest s w (cases p name) (Err f) nothing (subst (λ (b : Bool). Answers s w (limited (row b (nope p))) (Err f)) (sym used) (refuses s w NameInUse name f h))
