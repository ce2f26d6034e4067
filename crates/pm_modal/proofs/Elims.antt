-- The elimination of an update.
use Rattle.std.proofs.Common.{◌≡◌, ℕ, zero, suc, ◌+◌, ◌*◌, ◌≤◌, max, List, [], ◌∷◌, ◌++◌, length, map, insert, refl, sym, ◌∙◌, ap, ap₂, subst, arith, Option, Some, None, slice_get}
use Rattle.std.specs.Prelude.{Result, Err, is_some}
use Rattle.std.proofs.lemmas.List.{map-append}
use Rattle.pm_logic.specs.declared.formula.Formula.{Formula}
use Rattle.pm_logic.specs.declared.formula.Formula.TheVariants.{Pure as Assert, Pts, Call}
use Rattle.pm_logic.specs.declared.formula.Formula.TheViews as view
use Rattle.pm_logic.specs.declared.formula.Preds.{Preds}
use Rattle.pm_logic.specs.Trees as tree
use Rattle.pm_logic.specs.Trees.{Sep, Wand, And, Or, Imp, All, Ex, Later, Pers, Upd}
use Rattle.pm_logic.specs.Scope.{Scoped, ScopedIn, CallsFit}
use Rattle.pm_logic.specs.Size.{depth_of}
use Rattle.pm_logic.proofs.Views.{view_upd}
use Rattle.pm_rules.specs.declared.rules.Entail.{Entail}
use Rattle.pm_goal.specs.declared.work.Kind.{Kind}
use Rattle.pm_goal.specs.declared.work.Kind.TheVariants.{Int, Spat}
use Rattle.pm_goal.specs.declared.work.Held.{Held}
use Rattle.pm_goal.specs.declared.work.Work.{Work}
use Rattle.pm_goal.specs.declared.refusal.Row.TheVariants.{NotUpdate, ConclusionNotUpdate}
use Rattle.pm_goal.specs.declared.refusal.StepFault.{StepFault}
use Rattle.pm_goal.specs.declared.refusal.StepFault.TheVariants as fault
use Rattle.pm_goal.specs.Left.{star_onto, of_kind, left_of_work}
use Rattle.pm_proof.specs.Trees.{Tree, Hole, entail, conclusion, holes_of}
use Rattle.pm_proof.specs.Valid.{EntailScoped}
use Rattle.pm_proof.specs.Known.{Proves, Every, ScopedWhere, FillProves}
use Rattle.pm_proof.specs.declared.proof.Parts.{Parts}
use Rattle.pm_proof.proofs.Fills.{weaker}
use Rattle.pm_schemes.specs.Sketches.{deepest}
use Rattle.pm_star.specs.Stars.{star, work_parts, without, in_front, room as star_room, Moves}
use Rattle.pm_star.specs.Levels.{left_side, right_side}
use Rattle.pm_star.specs.Chains.{ChainProves, across}
use Rattle.pm_star.proofs.Contexts.{work_star}
use Rattle.pm_star.proofs.Scoping.{sep_scoped, scoped_box, scoped_star, star_scoped, all_without, part_scoped, part_deep}
use Rattle.pm_star.proofs.Places.{gains_held}
use Rattle.pm_classes.proofs.Sizes.{depth_sep, depth_upd}
use Rattle.pm_table.specs.declared.place.Place.{Place}
use Rattle.pm_table.specs.declared.place.Place.TheVariants.{Current as current}
use Rattle.pm_table.specs.Outcomes.{Outcome, one, require_entry, require_plain}
use Rattle.pm_table.specs.Limits.{limited, formulas, all_nodes, greatest_depth, work_formulas, hypotheses}
use Rattle.pm_table.specs.Works.{holding, hold, work_of}
use Rattle.pm_table.specs.Modalities as table
use Rattle.pm_table.specs.Modalities.{under_update}
use Rattle.pm_action.specs.Meanings.{meaning, height, room, width}
use Rattle.pm_action.specs.Acting.{IsActed, Answers, IsLast, Ends, last_place, plainly}
use Rattle.pm_action.proofs.Hands.{with_last_is, part_last, last_within, star_is, without_last}
use Rattle.pm_action.proofs.Heights.{star_height, sides_height, concl_height, parts_nodes, parts_are}
use Rattle.pm_action.proofs.Moves.{few}
use Rattle.pm_action.proofs.Sums.{depth_append}
use Rattle.pm_hand.specs.Changed.{dropped, relast}
use Rattle.pm_hand.proofs.Relasts.{last_depth}
use Rattle.pm_modal.specs.Updates.{IsFront, IsTail, IsStep, IsEliminated}
use Rattle.pm_modal.proofs.Three.{says, second_hole, first_hole, all_filled}

-- ---- in front

front_star : (w : Work) (l : Held) → IsLast w l → star (in_front (work_parts w) (last_place w)) ≡ view.Sep (of_kind l.kind l.formula) (left_of_work (dropped w))
unfolding star_onto
front_star w l is = ap₂ view.Sep (part_last w l is) (star_is (dropped w) (without (work_parts w) (last_place w)) (without_last w l is))

pub front_moves : (w : Work) (l : Held) (place : ℕ) (p : Tree) → IsLast w l → place ≡ last_place w
    → Moves (length w.goal.vars) (length (work_parts w)) (left_of_work w) (star (in_front (work_parts w) place)) p → IsFront w l p
front_moves w l place p is at m =
    subst (λ r. Moves (length w.goal.vars) (length (work_parts w)) (left_of_work w) r p) (ap (λ n. star (in_front (work_parts w) n)) at ∙ front_star w l is) m

-- ---- one more in hand

hold_parts : (b : Work) (f : Formula) → work_parts (hold Spat f b) ≡ insert (work_parts b) (length (work_parts b)) f
hold_parts b f = gains_held b (hold Spat f b) (holding Spat f) refl refl

hold_star : (b : Work) (f : Formula) → star (insert (work_parts b) (length (work_parts b)) f) ≡ left_of_work (hold Spat f b)
hold_star b f = star_is (hold Spat f b) (insert (work_parts b) (length (work_parts b)) f) (hold_parts b f)

more_held : (hs : List Held) (h : Held) → length (hs ++ h ∷ []) ≡ suc (length hs)
more_held [] h = refl
more_held (g ∷ hs) h = ap suc (more_held hs h)

module _ (rest : Work) (b : Formula) where
  abbrev new : Work
  new = hold Spat b rest

  deep_split : greatest_depth (work_formulas new) ≡ max (greatest_depth (work_formulas rest)) (depth_of b)
  deep_split =
      let hs = map (λ (h : Held). h.formula) rest.held in
      let behind : greatest_depth (map (λ (h : Held). h.formula) (rest.held ++ holding Spat b ∷ [])) ≡ max (greatest_depth hs) (greatest_depth (b ∷ [])) = ap greatest_depth (map-append (λ (h : Held). h.formula) rest.held (holding Spat b ∷ [])) ∙ depth_append hs (b ∷ []) in
      omega (arith, behind, depth_append (formulas rest.goal) hs, depth_append (formulas rest.goal) (map (λ (h : Held). h.formula) (rest.held ++ holding Spat b ∷ [])))

  pub rest_height : height rest + 1 ≤ height new
  rest_height = omega (arith, deep_split, more_held rest.held (holding Spat b))

  pub new_deep : depth_of b ≤ height new
  new_deep = omega (arith, deep_split)

  -- what the composition asks
  pub tail_meets : (place : ℕ) (work : Work) (sunk wanted : Tree) → place ≡ hypotheses rest → work ≡ new → wanted ≡ Hole (meaning work)
      → Moves (length rest.goal.vars) (length (work_parts rest)) (view.Sep b (left_of_work rest)) (star (insert (work_parts rest) place b)) sunk → left_side wanted ≡ right_side sunk
  tail_meets place work sunk wanted at is wants m =
      ap left_side wants ∙ ap left_of_work is ∙ sym (hold_star rest b) ∙ ap (λ n. star (insert (work_parts rest) n b)) (parts_are rest ∙ sym at) ∙ sym (ap (λ (e : Entail). e.right) m.concludes)

  pub tail_known : (place : ℕ) (work : Work) (sunk wanted p : Tree) → place ≡ hypotheses rest → work ≡ new → wanted ≡ Hole (meaning work)
      → Moves (length rest.goal.vars) (length (work_parts rest)) (view.Sep b (left_of_work rest)) (star (insert (work_parts rest) place b)) sunk → ChainProves sunk wanted p → IsTail rest b p
  tail_known place work sunk wanted p at is wants m0 chain =
      let k = length rest.goal.vars in
      let l = view.Sep b (left_of_work rest) in
      let n = 100 * (length (work_parts rest) + 1) in
      let d = height new + 16 in
      let m : Moves k (length (work_parts rest)) l (left_of_work new) sunk = subst (λ r. Moves k (length (work_parts rest)) l r sunk) (ap (λ i. star (insert (work_parts rest) i b)) (at ∙ sym (parts_are rest)) ∙ hold_star rest b) m0 in
      let near : star_room l (left_of_work new) ≤ d = omega (arith, depth_sep b (left_of_work rest), star_height rest, star_height new, rest_height, new_deep) in
      let wants1 : wanted ≡ Hole (meaning new) = wants ∙ ap (λ x. Hole (meaning x)) is in
      let first = weaker Every (entail k l (left_of_work new)) [] n (star_room l (left_of_work new)) k n d k sunk (omega arith) near (omega arith) m in
      let hole : Proves Every (meaning new) (meaning new ∷ []) 0 d k (Hole (meaning new)) = record {
        concludes = refl;
        holes = refl;
        valid = λ preds among. tt;
        scoped = λ preds e hs. e;
        size = omega arith;
        shallow = omega (arith, sides_height new);
        narrow = omega arith;
      } in
      let hole1 : Proves Every (conclusion wanted) (meaning new ∷ []) 0 d k wanted = rw wants1 hole in
      let over : across sunk wanted ≡ entail k l rest.goal.concl = ap₂ (λ (e f : Entail). entail e.vars e.left f.right) first.concludes (ap conclusion wants1) in
      let scope : ScopedWhere (across sunk wanted) (meaning new ∷ []) (conclusion sunk) = λ preds e hs. subst (EntailScoped preds) (sym first.concludes) ((subst (EntailScoped preds) over e).0, hs.0.0) in
      let all = chain Every [] (meaning new ∷ []) n 0 d k (says (entail k l (left_of_work new)) [] n d k sunk first) hole1 scope in
      weaker Every (entail k l rest.goal.concl) (meaning new ∷ []) (n + 0 + 1) d k (100 * length (work_parts rest) + 101) d k p (omega arith) (omega arith) (omega arith) (subst (λ e. Proves Every e (meaning new ∷ []) (n + 0 + 1) d k p) over all)

-- ---- the proof

under : (preds : Preds) (k : ℕ) (a : Formula) → Scoped preds k (tree.Upd a) → Scoped preds k a
unfolding ScopedIn CallsFit
under preds k a s = record { indices = s.indices; calls = s.calls }

kind_scoped : (preds : Preds) (k : ℕ) (kind : Kind) (f : Formula) → Scoped preds k (of_kind kind f) → Scoped preds k f
kind_scoped preds k Spat f s = s
kind_scoped preds k Int f s = scoped_box preds k f s

dropped_count : (w : Work) (l : Held) → IsLast w l → length (work_parts (dropped w)) ≤ length (work_parts w)
dropped_count w l is = fewer (work_parts w) (last_place w) (without_last w l is)
  where
    shorter : (fs : List Formula) (i : ℕ) → length (without fs i) ≤ length fs
    shorter [] zero = omega arith
    shorter [] (suc i) = omega arith
    shorter (f ∷ fs) zero = omega arith
    shorter (f ∷ fs) (suc i) = omega (arith, shorter fs i)

    fewer : (fs : List Formula) (i : ℕ) → work_parts (dropped w) ≡ without fs i → length (work_parts (dropped w)) ≤ length fs
    fewer fs i e = omega (arith, ap length e, shorter fs i)

module _ (w : Work) (l : Held) (b c : Formula) (is : IsLast w l) (update : l.formula ≡ view.Upd b) (concl : w.goal.concl ≡ view.Upd c) where
  abbrev k : ℕ
  k = length w.goal.vars

  abbrev rest : Work
  rest = dropped w

  abbrev after : Work
  after = relast w Spat b

  abbrev a : Formula
  a = of_kind l.kind l.formula

  abbrev x : Formula
  x = left_of_work w

  abbrev r : Formula
  r = left_of_work rest

  abbrev whole : Entail
  whole = entail k x (view.Upd c)

  abbrev h0 : Entail
  h0 = entail k x (view.Sep a r)

  abbrev h1 : Entail
  h1 = entail k a (view.Upd b)

  abbrev h2 : Entail
  h2 = entail k (view.Sep b r) (view.Upd c)

  abbrev d : ℕ
  d = room w (current [] after ∷ [])

  part_low : depth_of a + 1 ≤ depth_of x
  part_low = omega (arith, ap depth_of (work_star w), ap depth_of (part_last w l is), part_deep (work_parts w) (last_place w) (last_within w l is))

  upd_low : suc (depth_of c) ≤ height w
  upd_low = omega (arith, concl_height w, ap depth_of concl, depth_upd c)

  step_known : (t : Tree) → IsStep k a x b r c t → Proves Every whole (h0 ∷ h1 ∷ h2 ∷ []) 13 d (width w) t
  step_known t p = weaker Every whole (h0 ∷ h1 ∷ h2 ∷ []) 13 (deepest (a ∷ x ∷ b ∷ r ∷ c ∷ []) [] + 2) k 13 d (width w) t (omega arith)
      (omega (arith, part_low, star_height w, new_deep rest b, star_height rest, rest_height rest b, upd_low)) (omega arith) p

  front_known : (t : Tree) → IsFront w l t → Proves Every h0 [] (100 * (length (work_parts w) + 1)) d (width w) t
  front_known t p = weaker Every h0 [] (100 * (length (work_parts w) + 1)) (star_room x (view.Sep a r)) k (100 * (length (work_parts w) + 1)) d (width w) t (omega arith)
      (omega (arith, depth_sep a r, part_low, star_height w, star_height rest, rest_height rest b)) (omega arith) p

  opened_known : (t : Tree) → Proves Every (entail k a l.formula) [] 1 (deepest (l.formula ∷ []) [] + 1) k t → Proves Every h1 [] 1 d (width w) t
  opened_known t p = weaker Every h1 [] 1 (deepest (l.formula ∷ []) [] + 1) k 1 d (width w) t (omega arith) (omega (arith, last_depth w l is)) (omega arith) (subst (λ f. Proves Every (entail k a f) [] 1 (deepest (l.formula ∷ []) [] + 1) k t) update p)

  abbrev m : ℕ
  m = 100 * length (work_parts w) + 101

  tail_stands : (t : Tree) → IsTail rest b t → Proves Every h2 (meaning after ∷ []) m d (width w) t
  tail_stands t p = subst (λ f. Proves Every (entail k (view.Sep b r) f) (meaning after ∷ []) m d (width w) t) concl
      (weaker Every (entail k (view.Sep b r) w.goal.concl) (meaning after ∷ []) (100 * length (work_parts rest) + 101) (height after + 16) k m d (width w) t (omega (arith, dropped_count w l is)) (omega arith) (omega arith) p)

  rest_scoped : (preds : Preds) → Scoped preds k x → Scoped preds k r
  rest_scoped preds s =
      subst (Scoped preds k) (star_is rest (without (work_parts w) (last_place w)) (without_last w l is))
      (star_scoped preds k (without (work_parts w) (last_place w)) (all_without (Scoped preds k) (work_parts w) (last_place w) (scoped_star preds k (work_parts w) (subst (Scoped preds k) (sym (work_star w)) s))))

  last_stays : (preds : Preds) → Scoped preds k x → Scoped preds k a
  last_stays preds s =
      subst (Scoped preds k) (part_last w l is) (part_scoped preds k (work_parts w) (last_place w) (scoped_star preds k (work_parts w) (subst (Scoped preds k) (sym (work_star w)) s)))

  update_scoped : (preds : Preds) → Scoped preds k x → Scoped preds k (view.Upd b)
  update_scoped preds s = subst (Scoped preds k) update (kind_scoped preds k l.kind l.formula (last_stays preds s))

  scope0 : ScopedWhere whole (meaning after ∷ []) h0
  scope0 preds e hs = (e.0, sep_scoped preds k a r (last_stays preds e.0) (rest_scoped preds e.0))

  scope1 : ScopedWhere whole (meaning after ∷ []) h1
  scope1 preds e hs = (last_stays preds e.0, update_scoped preds e.0)

  scope2 : ScopedWhere whole (meaning after ∷ []) h2
  scope2 preds e hs = (sep_scoped preds k b r (under preds k b (subst (Scoped preds k) (view_upd b) (update_scoped preds e.0))) (rest_scoped preds e.0), e.1)

  module _ (s t0 t1 t2 p1 p2 p3 : Tree) (step : IsStep k a x b r c s) (front : IsFront w l t0) (opened : Proves Every (entail k a l.formula) [] 1 (deepest (l.formula ∷ []) [] + 1) k t1) (tail : IsTail rest b t2) (fill : FillProves s 2 t2 p1) where
    abbrev n0 : ℕ
    n0 = 100 * (length (work_parts w) + 1)

    pub hole_second : slice_get (holes_of p1) 1 ≡ Some (conclusion t1)
    hole_second = second_hole whole h0 h1 h2 (meaning after ∷ []) 13 n0 1 m d (width w) s t0 t1 t2 p1 p2 p3 (step_known s step) (front_known t0 front) (opened_known t1 opened) (tail_stands t2 tail) scope0 scope1 scope2 fill

    module _ (more : FillProves p1 1 t1 p2) where
      pub hole_first : slice_get (holes_of p2) 0 ≡ Some (conclusion t0)
      hole_first = first_hole whole h0 h1 h2 (meaning after ∷ []) 13 n0 1 m d (width w) s t0 t1 t2 p1 p2 p3 (step_known s step) (front_known t0 front) (opened_known t1 opened) (tail_stands t2 tail) scope0 scope1 scope2 fill more

      pub eliminates : FillProves p2 0 t0 p3 → IsEliminated w b p3
      eliminates last =
          let all = all_filled whole h0 h1 h2 (meaning after ∷ []) 13 n0 1 m d (width w) s t0 t1 t2 p1 p2 p3 (step_known s step) (front_known t0 front) (opened_known t1 opened) (tail_stands t2 tail) scope0 scope1 scope2 fill more last in
          weaker Every (meaning w) (meaning after ∷ []) (13 + m + 1 + n0) d (width w) (200 * length (work_parts w) + 215) d (width w) p3 (omega arith) (omega arith) (omega arith)
          (subst (λ f. Proves Every (entail k x f) (meaning after ∷ []) (13 + m + 1 + n0) d (width w) p3) (sym concl) all)

-- ---- the action

update_is : (f b : Formula) → f ≡ view.Upd b → under_update f ≡ Some b
unfolding under_update
update_is f b is = ap under_update (is ∙ view_upd b)

no_update : (f : Formula) → ((b : Formula) → ¬ (f ≡ view.Upd b)) → under_update f ≡ None
unfolding under_update
no_update (Assert p) never = refl
no_update (Sep a b) never = refl
no_update (Wand a b) never = refl
no_update (And a b) never = refl
no_update (Or a b) never = refl
no_update (Imp a b) never = refl
no_update (All a) never = refl
no_update (Ex a) never = refl
no_update (Later a) never = refl
no_update (Pers a) never = refl
no_update (Upd a) never = absurd (never a (sym (view_upd a)))
no_update (Pts a u v) never = refl
no_update (Call q args) never = refl

abbrev outcome_of : Work → Option Formula → Option Formula → Outcome
outcome_of w o u = require_entry o NotUpdate (λ b. require_plain (is_some u) ConclusionNotUpdate (one (relast w Spat b)))

row : (w : Work) (l : Held) (o u : Option Formula) → IsLast w l → under_update l.formula ≡ o → under_update w.goal.concl ≡ u → table.elim_update w ≡ outcome_of w o u
row w l o u is at concl =
    with_last_is w (λ hand. require_entry (under_update hand.last.formula) NotUpdate (λ b. require_plain (is_some (under_update w.goal.concl)) ConclusionNotUpdate (one (hold Spat b (work_of w.goal hand.others))))) l is
    ∙ ap₂ (outcome_of w) at concl

pub eliminated : (w : Work) (l : Held) (b c : Formula) (rest new : Work) (t : Tree) (r : Result (Parts Place) StepFault) → IsLast w l → l.formula ≡ view.Upd b → w.goal.concl ≡ view.Upd c
    → rest ≡ dropped w → new ≡ hold Spat b rest → IsEliminated w b t → Ends (current [] new ∷ []) t r → Answers (all_nodes (work_formulas w)) w (limited (table.elim_update w)) r
eliminated w l b c rest new t r is update concl rest_is new_is p ends =
    let after = relast w Spat b in
    let s = all_nodes (work_formulas w) in
    let d = room w (current [] after ∷ []) in
    let n = 200 * length (work_parts w) + 215 in
    let acted : IsActed s w (current [] after ∷ []) t = weaker Every (meaning w) (meaning after ∷ []) n d (width w) (1000 * (suc s * suc s)) d (width w) t (few s n (omega (arith, parts_nodes w))) (omega arith) (omega arith) p in
    let made : new ≡ after = new_is ∙ ap (hold Spat b) rest_is in
    subst (λ o. Answers s w (limited o) r) (sym (row w l (Some b) (Some c) is (update_is l.formula b update) (update_is w.goal.concl c concl)))
    (subst (λ y. Ends (current [] y ∷ []) t r) made ends s w acted)

pub no_update_held : (w : Work) (l : Held) (f : StepFault) → IsLast w l → ((b : Formula) → ¬ (l.formula ≡ view.Upd b)) → f ≡ fault.Refused (plainly NotUpdate) → Answers (all_nodes (work_formulas w)) w (limited (table.elim_update w)) (Err f)
no_update_held w l f is never e =
    let s = all_nodes (work_formulas w) in
    subst (λ o. Answers s w (limited o) (Err f)) (sym (row w l None (under_update w.goal.concl) is (no_update l.formula never) refl)) (rw e refl)

pub no_update_wanted : (w : Work) (l : Held) (b : Formula) (f : StepFault) → IsLast w l → l.formula ≡ view.Upd b → ((c : Formula) → ¬ (w.goal.concl ≡ view.Upd c)) → f ≡ fault.Refused (plainly ConclusionNotUpdate) → Answers (all_nodes (work_formulas w)) w (limited (table.elim_update w)) (Err f)
no_update_wanted w l b f is update never e =
    let s = all_nodes (work_formulas w) in
    subst (λ o. Answers s w (limited o) (Err f)) (sym (row w l (Some b) None is (update_is l.formula b update) (no_update w.goal.concl never))) (rw e refl)
