-- What writing answers.
use Rattle.std.proofs.Common.{◌≡◌, ℕ, zero, suc, ◌+◌, ◌*◌, ◌<◌, ◌≤◌, max, Bool, true, false, cond, ◌==◌, List, [], ◌∷◌, ◌++◌, length, map, insert, refl, sym, ◌∙◌, ap, ap₂, subst, arith, Option, Some, None, is_some, position, bytes_eq, slice_get}
use Rattle.std.specs.Prelude.{Result, Err}
use Rattle.std.specs.Bool.{then_some}
use Rattle.std.specs.List.{AllByRecursion}
use Rattle.std.proofs.lemmas.List.{append-nil}
use Rattle.std.proofs.lemmas.Bool.Decides.{nat_tests}
use Rattle.pm_logic.specs.declared.formula.Term.{Term}
use Rattle.pm_logic.specs.declared.formula.Formula.{Formula}
use Rattle.pm_logic.specs.declared.formula.Formula.TheVariants.{Pure as Assert, Pts, Call}
use Rattle.pm_logic.specs.declared.formula.Formula.TheViews as view
use Rattle.pm_logic.specs.declared.formula.TheConstants.{UNIT}
use Rattle.pm_logic.specs.Trees.{Sep, Wand, And, Or, Imp, All, Ex, Later, Pers, Upd}
use Rattle.pm_logic.specs.Scope.{Scoped}
use Rattle.pm_logic.specs.Size.{depth_of, term_nodes}
use Rattle.pm_logic.proofs.Views.{view_upd}
use Rattle.pm_rules.specs.declared.rules.Entail.{Entail}
use Rattle.pm_goal.specs.declared.goal.Hyp.{Hyp}
use Rattle.pm_goal.specs.declared.goal.Goal.{Goal}
use Rattle.pm_goal.specs.declared.work.Work.{Work}
use Rattle.pm_goal.specs.declared.refusal.Row.TheVariants.{NoSuchHypothesis, NotSpatial, NotFullPointsTo, ConclusionNotUpdate}
use Rattle.pm_goal.specs.declared.refusal.StepFault.{StepFault}
use Rattle.pm_goal.specs.declared.refusal.StepFault.TheVariants as fault
use Rattle.pm_goal.specs.Left.{star_onto, left_of_work}
use Rattle.pm_proof.specs.Trees.{Tree, entail, conclusion, side_depth}
use Rattle.pm_proof.specs.Known.{Proves, Every}
use Rattle.pm_proof.specs.declared.proof.Parts.{Parts}
use Rattle.pm_proof.proofs.Fills.{weaker}
use Rattle.pm_classes.proofs.Sizes.{depth_upd}
use Rattle.pm_star.specs.Stars.{star, parts, work_parts, part_at, without, in_front, room as star_room, Moves}
use Rattle.pm_star.specs.Chains.{ChainProves}
use Rattle.pm_star.proofs.Scoping.{front_scoped, depth_sep}
use Rattle.pm_star.proofs.Contexts.{work_star}
use Rattle.pm_star.proofs.Places.{in_goal_at}
use Rattle.pm_table.specs.declared.place.Place.{Place}
use Rattle.pm_table.specs.declared.place.Place.TheVariants.{Current as current}
use Rattle.pm_table.specs.Outcomes.{Outcome, one, require, require_some, require_entry, require_plain}
use Rattle.pm_table.specs.Limits.{limited, resting, work_formulas, all_nodes, greatest_depth}
use Rattle.pm_table.specs.Running.{rules_within}
use Rattle.pm_table.specs.Works.{Named, has_hyp, hyp_named}
use Rattle.pm_table.specs.Basic.{on_goal, gives_goal}
use Rattle.pm_table.specs.Heap.{full_location, put, write}
use Rattle.pm_table.specs.Modalities.{under_update}
use Rattle.pm_action.specs.Meanings.{meaning, height, room, width}
use Rattle.pm_action.specs.Acting.{Answers, Refuses, Ends, IsActed, plainly}
use Rattle.pm_action.specs.Naming.{HypsDiffer}
use Rattle.pm_action.proofs.Heights.{star_height, concl_height, parts_nodes}
use Rattle.pm_action.proofs.Hands.{star_is}
use Rattle.pm_action.proofs.Moves.{few}
use Rattle.pm_hand.specs.Changed.{less}
use Rattle.pm_hand.specs.Looking.{IsAt}
use Rattle.pm_hand.proofs.Handing.{inside}
use Rattle.pm_basic.proofs.Ending.{on_rest, rest_parts, refused_by, refused_plainly, required, not_required}
use Rattle.pm_intro.proofs.Mapped.{IsMapped, not_yet}
use Rattle.pm_heap.specs.Found.{IsSpatialAt, placed}
use Rattle.pm_heap.specs.Updates.{RunsTo, write_row}
use Rattle.pm_heap.proofs.Members.{parts_deep}
use Rattle.pm_heap.proofs.Carried.{chained, part_all, less_parts, less_count}
use Rattle.pm_heap.proofs.Updated.{part_low, rest_low}

-- ---- contexts

pub placed_not_yet : (name : Named) (f : Formula) (hs : List Hyp) (i : ℕ) (h g : Hyp) (out : List Hyp) → slice_get hs i ≡ Some h → g ≡ placed name f h → HypsDiffer hs → IsMapped (placed name f) hs i out → position (λ (x : Hyp). bytes_eq g.name x.name) out ≡ None
placed_not_yet name f hs i h g out at same apart m =
    subst (λ (y : Hyp). position (λ (x : Hyp). bytes_eq y.name x.name) out ≡ None) (sym same) (not_yet (λ (x : Hyp). x.name) (λ (x : Hyp). x.name) (placed name f) (λ x. refl) hs i h out at apart m)

-- ---- the star of the new work

pub put_more : (w rest new : Work) (name : Named) (place : ℕ) (f g : Formula) → w.held ≡ [] → IsSpatialAt w.goal name place f → rest ≡ less w name → new ≡ resting (put name g w.goal) → work_parts new ≡ insert (work_parts rest) place g
put_more w rest new name place f g nothing found is made =
    let new_is : work_parts new ≡ insert (without (parts w.goal) place) place g = ap work_parts made ∙ append-nil (parts (put name g w.goal)) ∙ found.puts g in
    let rest_is : work_parts rest ≡ without (parts w.goal) place = ap work_parts is ∙ less_parts w name place f found.at.at ∙ ap (λ fs. without fs place) (rest_parts w nothing) in
    new_is ∙ ap (λ fs. insert fs place g) (sym rest_is)

pub place_low : (w rest : Work) (name : Named) (place : ℕ) (f : Formula) → IsSpatialAt w.goal name place f → rest ≡ less w name → place ≤ length (work_parts rest)
place_low w rest name place f found is =
    subst (λ (x : Work). place ≤ length (work_parts x)) (sym is) (omega (arith, less_count w name place f found.at.at, inside w place found.at.at.within))

pub front_place : (w : Work) (name : Named) (place : ℕ) (f : Formula) → IsSpatialAt w.goal name place f → place < length (work_parts w)
front_place w name place f found = inside w place found.at.at.within

front_is : (w rest : Work) (name : Named) (place : ℕ) (f : Formula) → IsAt w.goal name place f → rest ≡ less w name → star (in_front (work_parts w) place) ≡ view.Sep f (left_of_work rest)
unfolding star_onto
front_is w rest name place f at is =
    ap₂ view.Sep (in_goal_at w place at.within ∙ at.is) (star_is rest (without (work_parts w) place) (ap work_parts is ∙ less_parts w name place f at))

pub front_meets : (w rest : Work) (name : Named) (place : ℕ) (f r : Formula) (x y : Tree) (hs : List Entail) (n d j k : ℕ) → IsAt w.goal name place f → rest ≡ less w name
    → Moves (length w.goal.vars) (length (work_parts w)) (left_of_work w) (star (in_front (work_parts w) place)) x
    → conclusion y ≡ entail k (view.Sep f (left_of_work rest)) r → (conclusion y).left ≡ (conclusion x).right
front_meets w rest name place f r x y hs n d j k at is m p = ap (λ (e : Entail). e.left) p ∙ sym (ap (λ (e : Entail). e.right) m.concludes ∙ front_is w rest name place f at is)

-- ---- the proof

pub write_acts : (s : ℕ) (w rest new : Work) (name : Named) (place : ℕ) (a b q : Formula) (front update run t : Tree)
    → all_nodes (work_formulas w) ≤ s → IsAt w.goal name place a → rest ≡ less w name → length new.goal.vars ≡ length rest.goal.vars
    → work_parts new ≡ insert (work_parts rest) place b → w.goal.concl ≡ view.Upd q
    → Moves (length w.goal.vars) (length (work_parts w)) (left_of_work w) (star (in_front (work_parts w) place)) front
    → Proves Every (entail (length w.goal.vars) a (view.Upd b)) [] 1 (side_depth (entail (length w.goal.vars) a (view.Upd b))) (length w.goal.vars) update
    → RunsTo rest a b q update new run → ChainProves front run t → IsActed s w (current [] new ∷ []) t
write_acts s w rest new name place a b q front update run t le at is vars more concl m u runs chain =
    let k = length w.goal.vars in
    let d = room w (current [] new ∷ []) in
    let j = width w in
    let n = 100 * (length (work_parts w) + 1) in
    let l = left_of_work rest in
    let mid = view.Sep a l in
    let same : length rest.goal.vars ≡ k = ap (λ (x : Work). length x.goal.vars) is in
    let fewer : suc (length (work_parts rest)) ≡ length (work_parts w) = subst (λ (x : Work). suc (length (work_parts x)) ≡ length (work_parts w)) (sym is) (less_count w name place a at) in
    let low_a : depth_of a ≤ suc (greatest_depth (work_formulas w)) =
    subst (λ f. depth_of f ≤ suc (greatest_depth (work_formulas w))) (in_goal_at w place at.within ∙ at.is) (part_all (λ f. depth_of f ≤ suc (greatest_depth (work_formulas w))) (work_parts w) place (inside w place at.within) (parts_deep w)) in
    let low_b : depth_of b ≤ suc (greatest_depth (work_formulas new)) = part_low rest new b place vars more in
    let low_l : depth_of l ≤ height new + 1 = rest_low rest new b place vars more in
    let low_q : suc (depth_of q) ≤ height w = omega (arith, concl_height w, ap depth_of concl, depth_upd q) in
    let front_at : star (in_front (work_parts w) place) ≡ mid = front_is w rest name place a at is in
    let m0 : Moves k (length (work_parts w)) (left_of_work w) mid front = subst (λ r. Moves k (length (work_parts w)) (left_of_work w) r front) front_at m in
    let m1 : Proves Every (entail k (left_of_work w) mid) [] n d j front =
    weaker Every (entail k (left_of_work w) mid) [] n (star_room (left_of_work w) mid) k n d j front (omega arith) (omega (arith, depth_sep a l, low_a, low_l, star_height w)) (omega arith) m0 in
    let e = entail k a (view.Upd b) in
    let u1 : Proves Every e [] 1 d j update = weaker Every e [] 1 (side_depth e) k 1 d j update (omega arith) (omega (arith, low_a, low_b, depth_upd b)) (omega arith) u in
    let u2 : Proves Every (conclusion update) [] 1 d j update = subst (λ z. Proves Every z [] 1 d j update) (sym u1.concludes) u1 in
    let r0 = runs.proves 1 d j (omega (arith, low_a, low_b, low_l, low_q)) (omega arith) (omega (arith, same)) u2 in
    let r1 : Proves Every (entail k mid (view.Upd q)) (meaning new ∷ []) (20 + 1 + (100 * (length (work_parts rest) + 1) + 1)) d j run =
    subst (λ i. Proves Every (entail i mid (view.Upd q)) (meaning new ∷ []) (20 + 1 + (100 * (length (work_parts rest) + 1) + 1)) d j run) same r0 in
    let total = n + (20 + 1 + (100 * (length (work_parts rest) + 1) + 1)) + 1 in
    let bound : total ≤ rules_within s = few s total (omega (arith, le, fewer, parts_nodes w)) in
    subst (λ c. Proves Every (entail k (left_of_work w) c) (meaning new ∷ []) (rules_within s) d j t) (sym concl)
    (chained k n (20 + 1 + (100 * (length (work_parts rest) + 1) + 1)) (rules_within s) d j (left_of_work w) mid (view.Upd q) (meaning new ∷ []) front run t m1 r1 chain
    (λ preds x y hs. subst (Scoped preds k) front_at (front_scoped preds k (work_parts w) place (subst (Scoped preds k) (sym (work_star w)) x))) bound)

-- ---- the row

pub not_update : (c : Formula) → ((q : Formula) → ¬ (c ≡ view.Upd q)) → is_some (under_update c) ≡ false
unfolding under_update
not_update (Upd q) never = absurd (never q (sym (view_upd q)))
not_update (Assert p) never = refl
not_update (Sep a b) never = refl
not_update (And a b) never = refl
not_update (Or a b) never = refl
not_update (Wand a b) never = refl
not_update (Imp a b) never = refl
not_update (All a) never = refl
not_update (Ex a) never = refl
not_update (Later a) never = refl
not_update (Pers a) never = refl
not_update (Pts l u v) never = refl
not_update (Call p args) never = refl

pub is_update : (c q : Formula) → c ≡ view.Upd q → is_some (under_update c) ≡ true
unfolding under_update
is_update c q e = ap (λ x. is_some (under_update x)) (e ∙ view_upd q)

pub plain_refused : (s : ℕ) (w : Work) (o : Outcome) (f : StepFault) → is_some (under_update w.goal.concl) ≡ false → f ≡ fault.Refused (plainly ConclusionNotUpdate) → Answers s w (limited (require_plain (is_some (under_update w.goal.concl)) ConclusionNotUpdate o)) (Err f)
plain_refused s w o f isnt e = subst (λ b. Answers s w (limited (require_plain b ConclusionNotUpdate o)) (Err f)) (sym isnt) (refused_plainly s w ConclusionNotUpdate f e)

pub plain_given : (s : ℕ) (w : Work) (o : Outcome) (r : Result (Parts Place) StepFault) → is_some (under_update w.goal.concl) ≡ true → Answers s w (limited o) r → Answers s w (limited (require_plain (is_some (under_update w.goal.concl)) ConclusionNotUpdate o)) r
plain_given s w o r holds h = subst (λ b. Answers s w (limited (require_plain b ConclusionNotUpdate o)) r) (sym holds) h

-- a points-to of all units, and of others

pub location_of : (f : Formula) (l v : Term) (u : ℕ) → f ≡ Pts l u v → (u == UNIT) ≡ true → full_location f ≡ Some l
unfolding full_location
location_of f l v u e whole = ap full_location e ∙ ap (λ b. then_some b l) whole

pub part_location : (f : Formula) (l v : Term) (u : ℕ) → f ≡ Pts l u v → (u == UNIT) ≡ false → full_location f ≡ None
unfolding full_location
part_location f l v u e whole = ap full_location e ∙ ap (λ b. then_some b l) whole

pub no_location : (f : Formula) → ((l : Term) (u : ℕ) (v : Term) → ¬ (f ≡ Pts l u v)) → full_location f ≡ None
unfolding full_location
no_location (Pts l u v) never = absurd (never l u v refl)
no_location (Upd q) never = refl
no_location (Assert p) never = refl
no_location (Sep a b) never = refl
no_location (And a b) never = refl
no_location (Or a b) never = refl
no_location (Wand a b) never = refl
no_location (Imp a b) never = refl
no_location (All a) never = refl
no_location (Ex a) never = refl
no_location (Later a) never = refl
no_location (Pers a) never = refl
no_location (Call p args) never = refl

pub full_at : (goal : Goal) (name : Named) (place : ℕ) (f : Formula) (l v : Term) (u : ℕ) → f ≡ Pts l u v → (u == UNIT) ≡ true → IsSpatialAt goal name place f → IsSpatialAt goal name place (Pts l UNIT v)
full_at goal name place f l v u e whole found =
    let units : u ≡ UNIT = grind (arith, nat_tests, whole) in
    subst (λ n. IsSpatialAt goal name place (Pts l n v)) units (subst (IsSpatialAt goal name place) e found)

module _ (s : ℕ) (w : Work) (name : Named) (t : Term) where
  abbrev after : Term → Outcome
  after l = require_plain (is_some (under_update w.goal.concl)) ConclusionNotUpdate (gives_goal (put name (Pts l UNIT t) w.goal))

  pub row_full : (f : Formula) (l : Term) (r : Result (Parts Place) StepFault) → full_location f ≡ Some l → Answers s w (limited (after l)) r → Answers s w (limited (write_row name f t w.goal)) r
  row_full f l r e h = subst (λ (o : Option Term). Answers s w (limited (require_entry o NotFullPointsTo after)) r) (sym e) h

  pub row_part : (f : Formula) (x : StepFault) → full_location f ≡ None → x ≡ fault.Refused (plainly NotFullPointsTo) → Answers s w (limited (write_row name f t w.goal)) (Err x)
  row_part f x e h = subst (λ (o : Option Term). Answers s w (limited (require_entry o NotFullPointsTo after)) (Err x)) (sym e) (refused_plainly s w NotFullPointsTo x h)

  abbrev spatial_row : Option Formula → Outcome
  spatial_row o = require_some o NotSpatial name (λ (f : Formula). write_row name f t w.goal)

  pub write_missing : (f : StepFault) → w.held ≡ [] → has_hyp w.goal name ≡ false → Refuses NoSuchHypothesis name f → Answers s w (limited (on_goal (write name t) w)) (Err f)
  write_missing f nothing e h = on_rest s w (write name t) (Err f) nothing (not_required s w (has_hyp w.goal name) NoSuchHypothesis name (spatial_row (hyp_named name w.goal.spats)) f e h)

  pub write_not_spatial : (f : StepFault) → w.held ≡ [] → has_hyp w.goal name ≡ true → hyp_named name w.goal.spats ≡ None → Refuses NotSpatial name f → Answers s w (limited (on_goal (write name t) w)) (Err f)
  write_not_spatial f nothing e none h =
      on_rest s w (write name t) (Err f) nothing
      (required s w (has_hyp w.goal name) NoSuchHypothesis name (spatial_row (hyp_named name w.goal.spats)) (Err f) e
      (subst (λ (o : Option Formula). Answers s w (limited (spatial_row o)) (Err f)) (sym none) (refused_by s w NotSpatial name f h)))

  pub write_given : (g : Formula) (place : ℕ) (r : Result (Parts Place) StepFault) → w.held ≡ [] → has_hyp w.goal name ≡ true → IsSpatialAt w.goal name place g → Answers s w (limited (write_row name g t w.goal)) r → Answers s w (limited (on_goal (write name t) w)) r
  write_given g place r nothing e found h =
      on_rest s w (write name t) r nothing
      (required s w (has_hyp w.goal name) NoSuchHypothesis name (spatial_row (hyp_named name w.goal.spats)) r e
      (subst (λ (o : Option Formula). Answers s w (limited (spatial_row o)) r) (sym found.at.named.spats) h))

-- ---- as the calls have it

pub rest_vars : (w rest : Work) (name : Named) → rest ≡ less w name → length rest.goal.vars ≡ length w.goal.vars
rest_vars w rest name is = ap (λ (x : Work). length x.goal.vars) is

pub new_vars : (w rest new : Work) (name : Named) (g : Formula) → rest ≡ less w name → new ≡ resting (put name g w.goal) → length new.goal.vars ≡ length rest.goal.vars
new_vars w rest new name g is made = ap (λ (x : Work). length x.goal.vars) made ∙ sym (rest_vars w rest name is)

pub new_concl : (w new : Work) (name : Named) (g q : Formula) → new ≡ resting (put name g w.goal) → w.goal.concl ≡ view.Upd q → new.goal.concl ≡ view.Upd q
new_concl w new name g q made concl = ap (λ (x : Work). x.goal.concl) made ∙ concl

pub update_says : (w rest : Work) (name : Named) (k : ℕ) (a b old part : Formula) (u : Tree) → rest ≡ less w name → k ≡ length w.goal.vars → old ≡ a → part ≡ b → conclusion u ≡ entail k a (view.Upd b) → conclusion u ≡ entail (length rest.goal.vars) old (view.Upd part)
update_says w rest name k a b old part u is vars old_is part_is says =
    says ∙ ap (λ n. entail n a (view.Upd b)) (vars ∙ sym (rest_vars w rest name is)) ∙ ap₂ (λ x y. entail (length rest.goal.vars) x (view.Upd y)) (sym old_is) (sym part_is)

module _ (w rest new : Work) (name : Named) (place : ℕ) (l v t : Term) (q : Formula) (nothing : w.held ≡ []) (found : IsSpatialAt w.goal name place (Pts l UNIT v)) (is : rest ≡ less w name)
    (made : new ≡ resting (put name (Pts l UNIT t) w.goal)) (concl : w.goal.concl ≡ view.Upd q) where
  abbrev a : Formula
  a = Pts l UNIT v

  abbrev b : Formula
  b = Pts l UNIT t

  pub write_meets : (old part : Formula) (front update run : Tree) → old ≡ Pts l UNIT v
      → Moves (length w.goal.vars) (length (work_parts w)) (left_of_work w) (star (in_front (work_parts w) place)) front
      → conclusion run ≡ entail (length rest.goal.vars) (view.Sep old (left_of_work rest)) (view.Upd q) → (conclusion run).left ≡ (conclusion front).right
  write_meets old part front update run old_is m says =
      ap (λ (e : Entail). e.left) says ∙ ap (λ x. view.Sep x (left_of_work rest)) old_is
      ∙ sym (ap (λ (e : Entail). e.right) m.concludes ∙ front_is w rest name place a found.at.at is)

  pub write_alike : (old : Formula) (front run : Tree)
      → Moves (length w.goal.vars) (length (work_parts w)) (left_of_work w) (star (in_front (work_parts w) place)) front
      → conclusion run ≡ entail (length rest.goal.vars) (view.Sep old (left_of_work rest)) (view.Upd q) → (conclusion run).vars ≡ (conclusion front).vars
  write_alike old front run m says = ap (λ (e : Entail). e.vars) says ∙ rest_vars w rest name is ∙ sym (ap (λ (e : Entail). e.vars) m.concludes)

  pub write_done : (k : ℕ) (old part : Formula) (front update run p : Tree) → old ≡ Pts l UNIT v → part ≡ Pts l UNIT t → k ≡ length w.goal.vars
      → Moves (length w.goal.vars) (length (work_parts w)) (left_of_work w) (star (in_front (work_parts w) place)) front
      → Proves Every (entail k (Pts l UNIT v) (view.Upd (Pts l UNIT t))) [] 1 (side_depth (entail k (Pts l UNIT v) (view.Upd (Pts l UNIT t)))) k update
      → RunsTo rest old part q update new run → ChainProves front run p → IsActed (all_nodes (work_formulas w) + term_nodes t) w (current [] new ∷ []) p
  write_done k old part front update run p old_is part_is vars m u runs chain =
      write_acts (all_nodes (work_formulas w) + term_nodes t) w rest new name place a b q front update run p (omega arith) found.at.at is (new_vars w rest new name b is made)
      (put_more w rest new name place a b nothing found is made) concl m
      (subst (λ j. Proves Every (entail j a (view.Upd b)) [] 1 (side_depth (entail j a (view.Upd b))) j update) vars u)
      (subst (λ y. RunsTo rest a y q update new run) part_is (subst (λ x. RunsTo rest x part q update new run) old_is runs)) chain

pub write_ends : (s : ℕ) (w new : Work) (name : Named) (g : Formula) (t : Tree) (r : Result (Parts Place) StepFault) → new ≡ resting (put name g w.goal) → IsActed s w (current [] new ∷ []) t → Ends (current [] new ∷ []) t r → Answers s w (limited (gives_goal (put name g w.goal))) r
write_ends s w new name g t r is acted ends = subst (λ (x : Work). Answers s w (limited (one x)) r) is (ends s w acted)
