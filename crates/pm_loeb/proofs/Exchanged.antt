-- A hypothesis or the conclusion becomes another formula, under whatever tables the proof of it is valid.
use Rattle.std.proofs.Common.{◌≡◌, ℕ, zero, suc, ◌+◌, ◌*◌, ◌<◌, ◌≤◌, List, [], ◌∷◌, length, set, refl, sym, ◌∙◌, ap, subst, arith, Some, slice_get}
use Rattle.std.specs.Prelude.{Result}
use Rattle.std.proofs.lemmas.List.{append-nil}
use Rattle.pm_logic.specs.declared.formula.Formula.{Formula}
use Rattle.pm_logic.specs.declared.formula.Formula.TheViews as view
use Rattle.pm_logic.specs.Scope.{Scoped}
use Rattle.pm_logic.specs.Size.{depth_of}
use Rattle.pm_goal.specs.declared.goal.Goal.{Goal}
use Rattle.pm_goal.specs.declared.work.Kind.{Kind}
use Rattle.pm_goal.specs.declared.work.Kind.TheVariants as kind
use Rattle.pm_goal.specs.declared.work.Work.{Work}
use Rattle.pm_goal.specs.declared.refusal.StepFault.{StepFault}
use Rattle.pm_goal.specs.Left.{of_kind, left_of_work}
use Rattle.pm_rules.specs.declared.rules.Entail.{Entail}
use Rattle.pm_proof.specs.Trees.{Tree, Hole, entail, conclusion, holes_of, side_depth, filled}
use Rattle.pm_proof.specs.Valid.{EntailScoped}
use Rattle.pm_proof.specs.Known.{Tables, Every, Proves, Extends, ScopedWhere, FillProves}
use Rattle.pm_proof.specs.declared.proof.Parts.{Parts}
use Rattle.pm_proof.proofs.Fills.{fills, weaker, extends_weaker, extends_proves}
use Rattle.pm_schemes.specs.Sketches.{deepest}
use Rattle.pm_classes.proofs.Sizes.{has_levels}
use Rattle.pm_star.specs.Stars.{star, parts, work_parts, part_at, room as star_room, MovesBy}
use Rattle.pm_star.specs.Levels.{left_side, right_side}
use Rattle.pm_star.specs.Chains.{ChainProves, across}
use Rattle.pm_star.proofs.Contexts.{work_star}
use Rattle.pm_star.proofs.Scoping.{scoped_box, part_deep, depth_box}
use Rattle.pm_table.specs.declared.place.Place.{Place}
use Rattle.pm_table.specs.declared.place.Place.TheVariants.{Current as current}
use Rattle.pm_table.specs.Limits.{resting}
use Rattle.pm_table.specs.Running.{rules_within}
use Rattle.pm_table.specs.Works.{Named}
use Rattle.pm_table.specs.Basic.{for}
use Rattle.pm_table.specs.Heap.{put}
use Rattle.pm_action.specs.Meanings.{meaning, height, room, width}
use Rattle.pm_action.specs.Acting.{IsActedOver, EndsOver}
use Rattle.pm_action.proofs.Heights.{star_height, sides_height, concl_height, parts_nodes}
use Rattle.pm_action.proofs.Hands.{star_is}
use Rattle.pm_action.proofs.Moves.{few}
use Rattle.pm_hand.proofs.Relasts.{part_of_star}
use Rattle.pm_loeb.specs.declared.putting.Spot.{Spot}
use Rattle.pm_loeb.specs.Spots.{IsThere, IsKinded, MovesOn, Puts, Concludes}
use Rattle.pm_loeb.proofs.Ending.{rested, rest_parts}

-- ---- of the kind

over : (on : Tables) (e : Entail) (hs : List Entail) (n d k : ℕ) (t : Tree) → Proves Every e hs n d k t → Proves on e hs n d k t
over on e hs n d k t p = record { concludes = p.concludes; holes = p.holes; valid = λ preds among. p.valid preds tt; scoped = p.scoped; size = p.size; shallow = p.shallow; narrow = p.narrow }

pub kind_spat : (by : Tree) → IsKinded kind.Spat by by
kind_spat by = record {
  concludes = refl;
  proves = λ on k f g given. weaker on (entail k f g) [] 1 (side_depth (entail k f g)) k 2 (side_depth (entail k f g) + 4) k by (omega arith) (omega arith) (omega arith) given;
}

abbrev Boxes : Entail → Tree → Type 0
Boxes e step = Proves Every (entail e.vars (view.Pers e.left) (view.Pers e.right)) (entail e.vars e.left e.right ∷ []) 1 (deepest (e.left ∷ e.right ∷ []) [] + 1) e.vars step

pub kind_hole : (by step : Tree) (e : Entail) → e ≡ conclusion by → Boxes e step → slice_get (holes_of step) 0 ≡ Some (conclusion by)
kind_hole by step e is known = ap (λ es. slice_get es 0) known.holes ∙ ap Some is

pub kind_int : (by step out : Tree) (e : Entail) → e ≡ conclusion by → Boxes e step → out ≡ filled step 0 by → FillProves step 0 by out → IsKinded kind.Int by out
kind_int by step out e is known at fill = record {
  concludes = ap conclusion at ∙ (fills step 0 by (kind_hole by step e is known)).concludes ∙ known.concludes ∙ ap (λ (x : Entail). entail x.vars (view.Pers x.left) (view.Pers x.right)) is;
  proves = λ on k f g given.
      let e_is : e ≡ entail k f g = is ∙ given.concludes in
      let D = side_depth (entail k f g) + 4 in
      let known1 : Boxes (entail k f g) step = subst (λ x. Boxes x step) e_is known in
      let known2 : Proves on (entail k (view.Pers f) (view.Pers g)) (entail k f g ∷ []) 1 D k step = over on (entail k (view.Pers f) (view.Pers g)) (entail k f g ∷ []) 1 D k step
      (weaker Every (entail k (view.Pers f) (view.Pers g)) (entail k f g ∷ []) 1 (deepest (f ∷ g ∷ []) [] + 1) k 1 D k step (omega arith) (omega (arith, has_levels f, has_levels g)) (omega arith) known1) in
      let given1 : Proves on (conclusion by) [] 1 D k by = subst (λ x. Proves on x [] 1 D k by) (sym given.concludes) (weaker on (entail k f g) [] 1 (side_depth (entail k f g)) k 1 D k by (omega arith) (omega arith) (omega arith) given) in
      let scope : ScopedWhere (entail k (view.Pers f) (view.Pers g)) [] (conclusion by) = λ preds x hs. subst (EntailScoped preds) (sym given.concludes) (scoped_box preds k f x.0, scoped_box preds k g x.1) in
      fill on (entail k (view.Pers f) (view.Pers g)) (entail k f g ∷ []) [] 1 1 D k known2 given1 scope;
}

kind_deep : (z : Kind) (f : Formula) → depth_of f ≤ depth_of (of_kind z f)
kind_deep kind.Spat f = omega arith
kind_deep kind.Int f = omega (arith, depth_box f)

-- ---- the new work

hole_proves : (on : Tables) (w : Work) → Proves on (meaning w) (meaning w ∷ []) 0 (height w + 16) (length w.goal.vars) (Hole (meaning w))
hole_proves on w = record {
  concludes = refl;
  holes = refl;
  valid = λ preds among. tt;
  scoped = λ preds e hs. e;
  size = omega arith;
  shallow = omega (arith, sides_height w);
  narrow = omega arith;
}

pub moves_on : (made : Work) (moved wants p : Tree) (r : Result (Parts Place) StepFault) → wants ≡ Hole (meaning made) → ChainProves moved wants p → EndsOver (current [] made ∷ []) p r → MovesOn made moved r
moves_on made moved wants p r is chain ends on s n w vars concl known fit =
    let k = length w.goal.vars in
    let d = room w (current [] made ∷ []) in
    let k1 = width w in
    let hole1 : Proves on (meaning made) (meaning made ∷ []) 0 d k1 (Hole (meaning made)) = weaker on (meaning made) (meaning made ∷ []) 0 (height made + 16) (length made.goal.vars) 0 d k1 (Hole (meaning made)) (omega arith) (omega arith) (omega (arith, vars)) (hole_proves on made) in
    let hole2 : Proves on (conclusion wants) (meaning made ∷ []) 0 d k1 wants = rw is hole1 in
    let first : Proves on (conclusion moved) [] n d k1 moved = subst (λ x. Proves on x [] n d k1 moved) (sym known.concludes) known in
    let all_over : across moved wants ≡ meaning w = ap (λ x. across moved x) is ∙ (ap (λ (e : Entail). entail e.vars e.left made.goal.concl) known.concludes ∙ ap (λ c. entail k (left_of_work w) c) concl) in
    let scope : ScopedWhere (across moved wants) (meaning made ∷ []) (conclusion moved) = λ preds e hs. let whole : EntailScoped preds (meaning w) = subst (EntailScoped preds) all_over e in let new_left : Scoped preds k (left_of_work made) = subst (λ j. Scoped preds j (left_of_work made)) vars hs.0.0 in subst (EntailScoped preds) (sym known.concludes) (whole.0, new_left) in
    let all : Proves on (across moved wants) (meaning made ∷ []) (n + 0 + 1) d k1 p = chain on [] (meaning made ∷ []) n 0 d k1 first hole2 scope in
    let acted : IsActedOver on k1 s w (current [] made ∷ []) p = weaker on (meaning w) (meaning made ∷ []) (n + 0 + 1) d k1 (rules_within s) d k1 p (omega (arith, fit)) (omega arith) (omega arith) (subst (λ e. Proves on e (meaning made ∷ []) (n + 0 + 1) d k1 p) all_over all) in
    ends on k1 s w acted

-- ---- a hypothesis

set_part : (fs : List Formula) (i : ℕ) (f : Formula) → i < length fs → part_at (set fs i f) i ≡ f
set_part [] i f lt = absurd (omega (arith, lt))
set_part (g ∷ fs) zero f lt = refl
set_part (g ∷ fs) (suc i) f lt = set_part fs i f (omega (arith, lt))

set_length : (fs : List Formula) (i : ℕ) (f : Formula) → length (set fs i f) ≡ length fs
set_length [] i f = refl
set_length (g ∷ fs) zero f = refl
set_length (g ∷ fs) (suc i) f = ap suc (set_length fs i f)

module _ (w : Work) (name : Named) (spot : Spot) (nothing : w.held ≡ []) (there : IsThere w.goal name spot) where
  abbrev k : ℕ
  k = length w.goal.vars

  pub spot_within : spot.place < length (work_parts w)
  spot_within = subst (λ (fs : List Formula). spot.place < length fs) (sym (rest_parts w nothing)) there.within

  part_is : part_at (work_parts w) spot.place ≡ of_kind spot.kind spot.formula
  part_is = ap (λ (fs : List Formula). part_at fs spot.place) (rest_parts w nothing) ∙ there.part

  pub spot_left : (by by1 : Tree) (g : Formula) → conclusion by ≡ entail k spot.formula g → IsKinded spot.kind by by1 → left_side by1 ≡ part_at (work_parts w) spot.place
  spot_left by by1 g says kinded = ap (λ (e : Entail). e.left) kinded.concludes ∙ ap (λ (e : Entail). of_kind spot.kind e.left) says ∙ sym part_is

  pub spot_vars : (by by1 : Tree) (g : Formula) → conclusion by ≡ entail k spot.formula g → IsKinded spot.kind by by1 → (conclusion by1).vars ≡ k
  spot_vars by by1 g says kinded = ap (λ (e : Entail). e.vars) kinded.concludes ∙ ap (λ (e : Entail). e.vars) says

  spot_right : (by by1 : Tree) (g : Formula) → conclusion by ≡ entail k spot.formula g → IsKinded spot.kind by by1 → right_side by1 ≡ of_kind spot.kind g
  spot_right by by1 g says kinded = ap (λ (e : Entail). e.right) kinded.concludes ∙ ap (λ (e : Entail). of_kind spot.kind e.right) says

  module _ (g : Formula) where
    abbrev new : Work
    new = resting (put name g w.goal)

    abbrev part : Formula
    part = of_kind spot.kind g

    new_parts : work_parts new ≡ set (work_parts w) spot.place part
    new_parts = append-nil (parts (put name g w.goal)) ∙ there.becomes g ∙ ap (λ (fs : List Formula). set fs spot.place part) (sym (rest_parts w nothing))

    new_star : star (set (work_parts w) spot.place part) ≡ left_of_work new
    new_star = star_is new (set (work_parts w) spot.place part) new_parts

    new_part : part_at (work_parts new) spot.place ≡ part
    new_part = ap (λ (fs : List Formula). part_at fs spot.place) new_parts ∙ set_part (work_parts w) spot.place part spot_within

    new_within : spot.place < length (work_parts new)
    new_within = let n : length (work_parts new) ≡ length (work_parts w) = ap length new_parts ∙ set_length (work_parts w) spot.place part in omega (arith, n, spot_within)

    old_deep : suc (depth_of (of_kind spot.kind spot.formula)) ≤ depth_of (left_of_work w)
    old_deep = subst (λ f. suc (depth_of (of_kind spot.kind spot.formula)) ≤ depth_of f) (work_star w) (subst (λ f. suc (depth_of f) ≤ depth_of (star (work_parts w))) part_is (part_deep (work_parts w) spot.place spot_within))

    new_deep : suc (depth_of part) ≤ depth_of (left_of_work new)
    new_deep = subst (λ f. suc (depth_of part) ≤ depth_of f) (work_star new) (subst (λ f. suc (depth_of f) ≤ depth_of (star (work_parts new))) new_part (part_deep (work_parts new) spot.place new_within))

    pub meets : (by by1 moved : Tree) (made : Work) → made ≡ new → conclusion by ≡ entail k spot.formula g → IsKinded spot.kind by by1
        → MovesBy by1 k (length (work_parts w)) (left_of_work w) (star (set (work_parts w) spot.place (right_side by1))) moved → right_side moved ≡ left_of_work made
    meets by by1 moved made is says kinded m =
        ap (λ (e : Entail). e.right) m.concludes ∙ ap (λ f. star (set (work_parts w) spot.place f)) (spot_right by by1 g says kinded) ∙ new_star ∙ ap left_of_work (sym is)

    pub puts : (by by1 moved : Tree) (made : Work) (r : Result (Parts Place) StepFault) → made ≡ new → conclusion by ≡ entail k spot.formula g → IsKinded spot.kind by by1
        → MovesBy by1 k (length (work_parts w)) (left_of_work w) (star (set (work_parts w) spot.place (right_side by1))) moved → MovesOn made moved r
        → Puts w name spot.formula g by r
    puts by by1 moved made r is says kinded m on_ on s le given =
        let c = 100 * (length (work_parts w) + 1) in
        let d = room w (current [] new ∷ []) in
        let e = entail k (left_of_work w) (left_of_work new) in
        let near : star_room (left_of_work w) (left_of_work new) ≤ d = omega (arith, star_height w, star_height new) in
        let by2 : Proves on (entail k (of_kind spot.kind spot.formula) part) [] 2 (side_depth (entail k spot.formula g) + 4) k by1 = kinded.proves on k spot.formula g given in
        let low : side_depth (entail k spot.formula g) + 4 ≤ d = omega (arith, old_deep, new_deep, kind_deep spot.kind spot.formula, kind_deep spot.kind g, star_height w, star_height new) in
        let by3 : Proves on (conclusion by1) [] 2 d (width w) by1 = subst (λ x. Proves on x [] 2 d (width w) by1) (sym by2.concludes) (weaker on (entail k (of_kind spot.kind spot.formula) part) [] 2 (side_depth (entail k spot.formula g) + 4) k 2 d (width w) by1 (omega arith) low (omega arith) by2) in
        let m1 : MovesBy by1 k (length (work_parts w)) (left_of_work w) (left_of_work new) moved = subst (λ f. MovesBy by1 k (length (work_parts w)) (left_of_work w) f moved) (ap (λ f. star (set (work_parts w) spot.place f)) (spot_right by by1 g says kinded) ∙ new_star) m in
        let t1 : Extends by1 e c d (width w) moved = extends_weaker by1 moved e c (star_room (left_of_work w) (left_of_work new)) k c d (width w) (omega arith) near (omega arith) m1 in
        let scope : ScopedWhere e [] (conclusion by1) = λ preds x hs. subst (EntailScoped preds) (sym by2.concludes)
        (subst (Scoped preds k) part_is (part_of_star preds k w spot.place x.0), subst (Scoped preds k) new_part (part_of_star preds k new spot.place x.1)) in
        let all : Proves on e [] (2 + c) d (width w) moved = extends_proves on by1 moved (conclusion by1) e [] 2 c d (width w) by3 t1 scope in
        let on1 : MovesOn new moved r = subst (λ x. MovesOn x moved r) is on_ in
        on1 on s (2 + c) w refl refl all (few s (suc (2 + c)) (omega (arith, le, parts_nodes w)))

-- ---- the conclusion

concluded_rest : (g : Goal) (f : Formula) (by wants p : Tree) (r : Result (Parts Place) StepFault)
    → wants ≡ Hole (meaning (resting (for f g))) → ChainProves wants by p → EndsOver (current [] (resting (for f g)) ∷ []) p r → Concludes (resting g) f by r
concluded_rest g f by wants p r is chain ends on s given =
    let w : Work = resting g in
    let new : Work = resting (for f g) in
    let k : ℕ = length g.vars in
    let d : ℕ = room w (current [] new ∷ []) in
    let k1 : ℕ = width w in
    let hole1 : Proves on (meaning new) (meaning new ∷ []) 0 d k1 (Hole (meaning new)) = weaker on (meaning new) (meaning new ∷ []) 0 (height new + 16) k 0 d k1 (Hole (meaning new)) (omega arith) (omega arith) (omega arith) (hole_proves on new) in
    let hole2 : Proves on (conclusion wants) (meaning new ∷ []) 0 d k1 wants = rw is hole1 in
    let step1 : Proves on (entail k f g.concl) [] 1 d k1 by = weaker on (entail k f g.concl) [] 1 (side_depth (entail k f g.concl)) k 1 d k1 by (omega arith) (omega (arith, concl_height w, concl_height new)) (omega arith) given in
    let step2 : Proves on (conclusion by) [] 1 d k1 by = subst (λ (e : Entail). Proves on e [] 1 d k1 by) (sym given.concludes) step1 in
    let all_over : across wants by ≡ meaning w = rw is (ap (λ (e : Entail). entail k (left_of_work new) e.right) given.concludes) in
    let scope : ScopedWhere (across wants by) (meaning new ∷ []) (conclusion wants) = λ preds e hs. rw is hs.0 in
    let all : Proves on (across wants by) (meaning new ∷ []) (0 + 1 + 1) d k1 p = chain on (meaning new ∷ []) [] 0 1 d k1 hole2 step2 scope in
    let bound : 0 + 1 + 1 ≤ rules_within s = few s (0 + 1 + 1) (omega arith) in
    let acted : IsActedOver on k1 s w (current [] new ∷ []) p = weaker on (meaning w) (meaning new ∷ []) (0 + 1 + 1) d k1 (rules_within s) d k1 p bound (omega arith) (omega arith) (subst (λ (e : Entail). Proves on e (meaning new ∷ []) (0 + 1 + 1) d k1 p) all_over all) in
    ends on k1 s w acted

pub concluded : (w made : Work) (f : Formula) (by wants p : Tree) (r : Result (Parts Place) StepFault) → w.held ≡ [] → made ≡ resting (for f w.goal)
    → wants ≡ Hole (meaning made) → ChainProves wants by p → EndsOver (current [] made ∷ []) p r → Concludes w f by r
concluded w made f by wants p r nothing is wants_is chain ends =
    subst (λ (x : Work). Concludes x f by r) (sym (rested w nothing))
    (concluded_rest w.goal f by wants p r (wants_is ∙ ap (λ (x : Work). Hole (meaning x)) is) chain (subst (λ (x : Work). EndsOver (current [] x ∷ []) p r) is ends))
