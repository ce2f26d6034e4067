-- From two hypotheses in hand to what they are together.
use Rattle.std.proofs.Common.{◌≡◌, ℕ, zero, suc, ◌+◌, ◌*◌, ◌<◌, ◌≤◌, ◌^◌, max, Bool, false, cond, not, bytes_eq, List, [], ◌∷◌, ◌++◌, length, insert, refl, sym, ◌∙◌, ap, ap₂, subst, arith, Option, Some}
use Rattle.std.specs.Prelude.{Result}
use Rattle.std.specs.List.{AllByRecursion}
use Rattle.pm_logic.specs.declared.formula.Pure.TheVariants as pure
use Rattle.pm_logic.specs.declared.formula.Formula.{Formula}
use Rattle.pm_logic.specs.declared.formula.Formula.TheVariants.{Pure as Fact}
use Rattle.pm_logic.specs.declared.formula.Formula.TheViews as view
use Rattle.pm_logic.specs.declared.formula.Preds.{Preds}
use Rattle.pm_logic.specs.Scope.{Scoped}
use Rattle.pm_logic.proofs.Scopes.{false_scoped}
use Rattle.pm_logic.specs.Size.{depth_of, nodes_of}
use Rattle.pm_logic.proofs.Sizes.{depth_pure, depth_false}
use Rattle.pm_rules.specs.declared.rules.Entail.{Entail}
use Rattle.pm_goal.specs.declared.work.Kind.TheVariants as kind
use Rattle.pm_goal.specs.declared.work.Work.{Work}
use Rattle.pm_goal.specs.declared.refusal.StepFault.{StepFault}
use Rattle.pm_goal.specs.Left.{star_onto, left_of_work}
use Rattle.pm_proof.specs.Trees.{Tree, entail, conclusion}
use Rattle.pm_proof.specs.Known.{Proves, Extends, Every, ScopedWhere}
use Rattle.pm_proof.specs.declared.proof.Parts.{Parts}
use Rattle.pm_proof.proofs.Fills.{weaker, extends_weaker, extends_proves}
use Rattle.pm_schemes.specs.Sketches.{deepest}
use Rattle.pm_star.specs.Stars.{star, work_parts, part_at, without, in_front, room as star_room, Moves, MovesBy}
use Rattle.pm_star.specs.Levels.{right_side}
use Rattle.pm_logic.specs.Scope.{ScopedIn}
use Rattle.pm_classes.specs.Entries.{IsHanded as IsFormulaHanded}
use Rattle.pm_table.specs.Outcomes.{gives, closed, one}
use Rattle.pm_table.specs.Destructs.{is_falsehood}
use Rattle.pm_table.specs.Stepping.{NamesDiffer}
use Rattle.pm_table.proofs.Counting.{differ_still, fewer_names, same, fewer_facts, fewer_hyps}
use Rattle.pm_hand.specs.Looking.{IsAt}
use Rattle.pm_star.specs.Chains.{ChainProves, joined}
use Rattle.pm_star.proofs.Contexts.{work_star}
use Rattle.pm_star.proofs.Scoping.{sep_scoped, fact_scoped, depth_sep, all_insert}
use Rattle.pm_classes.proofs.Sizes.{has_levels}
use Rattle.pm_classes.specs.Entries.{CombinesTo}
use Rattle.pm_table.specs.declared.place.Place.{Place}
use Rattle.pm_table.specs.declared.place.Place.TheVariants.{Current as current}
use Rattle.pm_table.specs.Limits.{limited, work_formulas, all_nodes, greatest_depth, hypotheses}
use Rattle.pm_table.specs.Works.{Named, hold, hyp_named, without_named}
use Rattle.pm_table.specs.Running.{rules_within}
use Rattle.pm_action.specs.Meanings.{meaning, height, room, width}
use Rattle.pm_action.specs.Acting.{Answers, IsActed, IsHanded, MovesTo}
use Rattle.pm_action.proofs.Heights.{star_height, concl_depth, concl_height, parts_are, parts_nodes}
use Rattle.pm_action.proofs.Hands.{star_is}
use Rattle.pm_action.proofs.Moves.{few}
use Rattle.pm_hand.specs.Changed.{less}
use Rattle.pm_hand.proofs.Known.{inserted}
use Rattle.pm_heap.specs.declared.combining.Two.{Two}
use Rattle.pm_heap.specs.Taken.{taken, without_both, TakesBoth, Becomes, IsAbsurd}
use Rattle.pm_heap.specs.Combined.{AreTaken, Together, combining}
use Rattle.pm_heap.proofs.Members.{member, member_deep, member_nodes, parts_deep}
use Rattle.pm_heap.proofs.Carried.{chained, length_inserted, hold_parts, all_of_star, star_of_all, less_all, less_count, star_low, two_count, two_low, two_all, takes_both}

-- ---- lists with two at their end

joined_ends : (fs : List Formula) (f g c : Formula) → joined (insert (insert fs (length fs) f) (suc (length fs)) g) (length fs) c ≡ insert fs (length fs) c
joined_ends [] f g c = refl
joined_ends (x ∷ fs) f g c = ap (λ l. x ∷ l) (joined_ends fs f g c)

part_ends : (fs : List Formula) (f g : Formula) → part_at (insert (insert fs (length fs) f) (suc (length fs)) g) (length fs) ≡ f
part_ends [] f g = refl
part_ends (x ∷ fs) f g = part_ends fs f g

next_ends : (fs : List Formula) (f g : Formula) → part_at (insert (insert fs (length fs) f) (suc (length fs)) g) (suc (length fs)) ≡ g
next_ends [] f g = refl
next_ends (x ∷ fs) f g = next_ends fs f g

front_end : (fs : List Formula) (f : Formula) → in_front (insert fs (length fs) f) (length fs) ≡ f ∷ fs
front_end [] f = refl
front_end (x ∷ fs) f =
    let rest : without (insert fs (length fs) f) (length fs) ≡ fs = ap tail (front_end fs f) in
    let part : part_at (insert fs (length fs) f) (length fs) ≡ f = ap (λ l. part_at l 0) (front_end fs f) in
    ap₂ (λ y l. y ∷ x ∷ l) part rest
  where
    tail : List Formula → List Formula
    tail [] = []
    tail (y ∷ ys) = ys

pub others_inserted : (P : Formula → Type 0) (fs : List Formula) (n : ℕ) (f : Formula) → AllByRecursion P (insert fs n f) → AllByRecursion P fs
others_inserted P fs zero f a = a.1
others_inserted P [] (suc n) f a = tt
others_inserted P (g ∷ fs) (suc n) f a = (a.0, others_inserted P fs n f a.1)

-- ---- one more in hand, and two

pub held_end : (preds : Preds) (k : ℕ) (b : Work) (f : Formula) → Scoped preds k (left_of_work (hold kind.Spat f b)) → Scoped preds k f
held_end preds k b f s =
    inserted (Scoped preds k) (work_parts b) (length (work_parts b)) f
    (subst (AllByRecursion (Scoped preds k)) (hold_parts b f) (all_of_star preds k (hold kind.Spat f b) s))

held_others : (preds : Preds) (k : ℕ) (b : Work) (f : Formula) → Scoped preds k (left_of_work (hold kind.Spat f b)) → Scoped preds k (left_of_work b)
held_others preds k b f s =
    star_of_all preds k b
    (others_inserted (Scoped preds k) (work_parts b) (length (work_parts b)) f
    (subst (AllByRecursion (Scoped preds k)) (hold_parts b f) (all_of_star preds k (hold kind.Spat f b) s)))

pub hold_count : (b : Work) (f : Formula) → length (work_parts (hold kind.Spat f b)) ≡ suc (length (work_parts b))
hold_count b f = ap length (hold_parts b f) ∙ length_inserted (work_parts b) (length (work_parts b)) f

module _ (b : Work) (f g : Formula) where
  abbrev two_held : Work
  two_held = hold kind.Spat g (hold kind.Spat f b)

  twice_parts : work_parts (hold kind.Spat g (hold kind.Spat f b)) ≡ insert (insert (work_parts b) (length (work_parts b)) f) (suc (length (work_parts b))) g
  twice_parts =
      hold_parts (hold kind.Spat f b) g ∙ ap (λ fs. insert fs (length fs) g) (hold_parts b f)
      ∙ ap (λ n. insert (insert (work_parts b) (length (work_parts b)) f) n g) (length_inserted (work_parts b) (length (work_parts b)) f)

  pub twice_count : length (work_parts (hold kind.Spat g (hold kind.Spat f b))) ≡ suc (suc (length (work_parts b)))
  twice_count = hold_count (hold kind.Spat f b) g ∙ ap suc (hold_count b f)

  module _ (both : Work) (place : ℕ) (is : both ≡ hold kind.Spat g (hold kind.Spat f b)) (here : place ≡ hypotheses b) where
    at_end : place ≡ length (work_parts b)
    at_end = here ∙ sym (parts_are b)

    pub merge_place : place + 1 < length (work_parts both)
    merge_place = subst (λ (x : Work). place + 1 < length (work_parts x)) (sym is) (omega (arith, at_end, twice_count))

    pub merge_proof : (by : Tree) → conclusion by ≡ entail (length b.goal.vars) (view.Sep f g) (right_side by)
        → conclusion by ≡ entail (length both.goal.vars) (view.Sep (part_at (work_parts both) place) (part_at (work_parts both) (place + 1))) (right_side by)
    merge_proof by says =
        let fs = work_parts b in
        let ps = insert (insert fs (length fs) f) (suc (length fs)) g in
        let next : place + 1 ≡ suc (length fs) = omega (arith, at_end) in
        let first : part_at (work_parts (hold kind.Spat g (hold kind.Spat f b))) place ≡ f = ap₂ part_at twice_parts at_end ∙ part_ends fs f g in
        let second : part_at (work_parts (hold kind.Spat g (hold kind.Spat f b))) (place + 1) ≡ g = ap₂ part_at twice_parts next ∙ next_ends fs f g in
        subst (λ (x : Work). conclusion by ≡ entail (length x.goal.vars) (view.Sep (part_at (work_parts x) place) (part_at (work_parts x) (place + 1))) (right_side by)) (sym is)
        (says ∙ ap₂ (λ x y. entail (length b.goal.vars) (view.Sep x y) (right_side by)) (sym first) (sym second))

    pub merge_known : (by t : Tree) → MovesBy by (length both.goal.vars) (length (work_parts both)) (left_of_work both) (star (joined (work_parts both) place (right_side by))) t → Together b f g by t
    merge_known by t m =
        let fs = work_parts b in
        let c = right_side by in
        let k = length b.goal.vars in
        let two = hold kind.Spat g (hold kind.Spat f b) in
        let m1 : MovesBy by k (length (work_parts two)) (left_of_work two) (star (joined (work_parts two) place c)) t =
        subst (λ (x : Work). MovesBy by (length x.goal.vars) (length (work_parts x)) (left_of_work x) (star (joined (work_parts x) place c)) t) is m in
        let end : star (joined (work_parts two) place c) ≡ left_of_work (hold kind.Spat c b) =
        ap₂ (λ ps n. star (joined ps n c)) twice_parts at_end ∙ ap star (joined_ends fs f g c) ∙ star_is (hold kind.Spat c b) (insert fs (length fs) c) (hold_parts b c) in
        subst (λ n. MovesBy by k n (left_of_work two) (left_of_work (hold kind.Spat c b)) t) twice_count
        (subst (λ r. MovesBy by k (length (work_parts two)) (left_of_work two) r t) end m1)

-- ---- from the star to the star with what both are together

module _ (w : Work) (a b : Named) (p1 p2 : ℕ) (f g : Formula) where
  abbrev rest : Work
  rest = without_both w a b

  core : (c : Formula) (by x y t : Tree) (is : AreTaken w a b (record { first = record { place = p1; formula = f }; second = record { place = p2; formula = g }; middle = taken w a f; rest = without_both w a b }))
      → Proves Every (entail (length w.goal.vars) (view.Sep f g) c) [] (200 * (nodes_of f + nodes_of g)) (max (depth_of f) (depth_of g) + 8) (length w.goal.vars + max (depth_of f) (depth_of g)) by
      → TakesBoth w (hold kind.Spat g (hold kind.Spat f rest)) x → Together rest f g by y → ChainProves x y t → Becomes w (hold kind.Spat c rest) t
  core c by x y t is entry m1 m2 chain =
      let k = length w.goal.vars in
      let two = hold kind.Spat g (hold kind.Spat f rest) in
      let new = hold kind.Spat c rest in
      let S = all_nodes (work_formulas w) in
      let N = length (work_parts w) in
      let D = max (height w + 12) (depth_of (left_of_work new) + 8) in
      let Q = width w in
      let deep_f : depth_of f ≤ greatest_depth (work_formulas w) = member_deep w a f is.has_first in
      let deep_g : depth_of g ≤ greatest_depth (work_formulas w) = member_deep w b g is.has_second in
      let few_f : nodes_of f ≤ S = member_nodes w a f is.has_first in
      let few_g : nodes_of g ≤ S = member_nodes w b g is.has_second in
      let c_is : right_side by ≡ c = ap (λ (e : Entail). e.right) entry.concludes in
      let count : suc (suc (length (work_parts rest))) ≡ N = sym (twice_count rest f g) ∙ two_count w a b p1 p2 f g is.first is.second in
      let low : depth_of (left_of_work two) ≤ height w + 1 = two_low w a b p1 p2 f g is.first is.second in
      let e0 = entail k (view.Sep f g) c in
      let e1 = entail k (left_of_work two) (left_of_work new) in
      let m = 100 * (N + 1) in
      let by1 : Proves Every e0 [] (400 * S) D Q by =
      weaker Every e0 [] (200 * (nodes_of f + nodes_of g)) (max (depth_of f) (depth_of g) + 8) (k + max (depth_of f) (depth_of g)) (400 * S) D Q by (omega (arith, few_f, few_g)) (omega (arith, deep_f, deep_g)) (omega (arith, deep_f, deep_g)) entry in
      let y0 : MovesBy by k (suc (suc (length (work_parts rest)))) (left_of_work two) (left_of_work new) y =
      subst (λ r. MovesBy by k (suc (suc (length (work_parts rest)))) (left_of_work two) (left_of_work (hold kind.Spat r rest)) y) c_is m2 in
      let y1 : Extends by e1 m D Q y =
      extends_weaker by y e1 (100 * (suc (suc (length (work_parts rest))) + 1)) (star_room (left_of_work two) (left_of_work new)) k m D Q (omega (arith, count)) (omega (arith, low)) (omega arith) y0 in
      let scope : ScopedWhere e1 [] e0 = λ preds e hs. (sep_scoped preds k f g (held_end preds k rest f (held_others preds k (hold kind.Spat f rest) g e.0)) (held_end preds k (hold kind.Spat f rest) g e.0), held_end preds k rest c e.1) in
      let y2 : Proves Every e1 [] (400 * S + m) D Q y = extends_proves Every by y e0 e1 [] (400 * S) m D Q by1 y1 scope in
      let x1 : Proves Every (entail k (left_of_work w) (left_of_work two)) [] (200 * N + 201) D Q x =
      weaker Every (entail k (left_of_work w) (left_of_work two)) [] (200 * N + 201) (height w + 12) k (200 * N + 201) D Q x (omega arith) (omega arith) (omega arith) m1 in
      chained k (200 * N + 201) (400 * S + m) (300 * N + 400 * S + 302) D Q (left_of_work w) (left_of_work two) (left_of_work new) [] x y t x1 y2 chain
      (λ preds s r hs. star_of_all preds k two (two_all w a b p1 p2 f g is.first is.second (Scoped preds k) (all_of_star preds k w s))) (omega arith)

-- as the calls have it
same_rest : (w : Work) (a b : Named) (t : Two) → AreTaken w a b t → AreTaken w a b (record { first = t.first; second = t.second; middle = taken w a t.first.formula; rest = without_both w a b })
same_rest w a b t is = record { has_first = is.has_first; has_second = is.has_second; first = is.first; middle = refl; second = is.second; rest = refl }

pub becomes : (w : Work) (a b : Named) (t : Two) (c : Formula) (by x y p : Tree) → AreTaken w a b t → CombinesTo (length w.goal.vars) t.first.formula t.second.formula c (record { formula = c; proof = by })
    → TakesBoth w (hold kind.Spat t.second.formula (hold kind.Spat t.first.formula t.rest)) x → Together t.rest t.first.formula t.second.formula by y → ChainProves x y p → Becomes w (hold kind.Spat c t.rest) p
becomes w a b t c by x y p is entry m1 m2 chain =
    let f = t.first.formula in
    let g = t.second.formula in
    subst (λ (r : Work). Becomes w (hold kind.Spat c r) p) (sym is.rest)
    (core w a b t.first.place t.second.place f g c by x y p (same_rest w a b t is) entry.proof
    (subst (λ (r : Work). TakesBoth w (hold kind.Spat g (hold kind.Spat f r)) x) is.rest m1)
    (subst (λ (r : Work). Together r f g by y) is.rest m2) chain)

-- the end where something is held
pub becomes_answers : (w goal_new new : Work) (t : Tree) (r : Result (Parts Place) StepFault) → new ≡ goal_new → Becomes w goal_new t → MovesTo w new t r → Answers (all_nodes (work_formulas w)) w (limited (gives (current [] goal_new ∷ []))) r
becomes_answers w goal_new new t r is b to =
    let s = all_nodes (work_formulas w) in
    let n = 300 * length (work_parts w) + 400 * s + 302 in
    let d = room w (current [] goal_new ∷ []) in
    let e = entail (length w.goal.vars) (left_of_work w) (left_of_work goal_new) in
    let b1 : Proves Every e [] n d (width w) t = weaker Every e [] n (max (height w + 12) (depth_of (left_of_work goal_new) + 8)) (width w) n d (width w) t (omega arith) (omega (arith, star_height goal_new)) (omega arith) b in
    subst (λ x. MovesTo w x t r) is to s n (few s (suc n) (omega (arith, parts_nodes w))) (subst (λ e. Proves Every e [] n d (width w) t) (sym b1.concludes) b1)

-- ---- falsehood

false_deep : depth_of (Fact pure.False) ≡ 2
false_deep = omega (arith, depth_pure pure.False, depth_false)

absurd_front : (b : Work) (c : Formula) (n : ℕ) → n ≡ hypotheses b → star (in_front (work_parts (hold kind.Spat c b)) n) ≡ view.Sep c (left_of_work b)
unfolding star_onto
absurd_front b c n here = ap₂ (λ fs i. star (in_front fs i)) (hold_parts b c) (here ∙ sym (parts_are b)) ∙ ap star (front_end (work_parts b) c) ∙ ap (view.Sep c) (work_star b)

module _ (b new : Work) (c : Formula) (n : ℕ) (is : new ≡ hold kind.Spat (Fact pure.False) b) (here : n ≡ hypotheses b) where
  pub front_place : n < length (work_parts new)
  front_place = subst (λ (x : Work). n < length (work_parts x)) (sym is) (omega (arith, here, parts_are b, hold_count b (Fact pure.False)))

  pub front_known : (t : Tree) → Moves (length new.goal.vars) (length (work_parts new)) (left_of_work new) (star (in_front (work_parts new) n)) t
      → Moves (length b.goal.vars) (suc (length (work_parts b))) (left_of_work (hold kind.Spat (Fact pure.False) b)) (view.Sep (Fact pure.False) (left_of_work b)) t
  front_known t m =
      let h = hold kind.Spat (Fact pure.False) b in
      let m1 : Moves (length b.goal.vars) (length (work_parts h)) (left_of_work h) (star (in_front (work_parts h) n)) t =
      subst (λ (x : Work). Moves (length x.goal.vars) (length (work_parts x)) (left_of_work x) (star (in_front (work_parts x) n)) t) is m in
      subst (λ i. Moves (length b.goal.vars) i (left_of_work h) (view.Sep (Fact pure.False) (left_of_work b)) t) (hold_count b (Fact pure.False))
      (subst (λ r. Moves (length b.goal.vars) (length (work_parts h)) (left_of_work h) r t) (absurd_front b (Fact pure.False) n here) m1)

  pub end_known : (v : ℕ) (st : Formula) (t : Tree) → v ≡ length b.goal.vars → st ≡ left_of_work b
      → Proves Every (entail v (view.Sep (Fact pure.False) st) c) [] 3 (deepest (st ∷ c ∷ []) [] + 3) v t
      → Proves Every (entail (length b.goal.vars) (view.Sep (Fact pure.False) (left_of_work b)) c) [] 3 (deepest (left_of_work b ∷ c ∷ []) [] + 3) (length b.goal.vars) t
  end_known v st t vars star_of p =
      subst (λ x. Proves Every (entail (length b.goal.vars) (view.Sep (Fact pure.False) x) c) [] 3 (deepest (x ∷ c ∷ []) [] + 3) (length b.goal.vars) t) star_of
      (subst (λ j. Proves Every (entail j (view.Sep (Fact pure.False) st) c) [] 3 (deepest (st ∷ c ∷ []) [] + 3) j t) vars p)

  pub absurd_known : (x y t : Tree)
      → Moves (length b.goal.vars) (suc (length (work_parts b))) (left_of_work (hold kind.Spat (Fact pure.False) b)) (view.Sep (Fact pure.False) (left_of_work b)) x
      → Proves Every (entail (length b.goal.vars) (view.Sep (Fact pure.False) (left_of_work b)) c) [] 3 (deepest (left_of_work b ∷ c ∷ []) [] + 3) (length b.goal.vars) y
      → ChainProves x y t → IsAbsurd b c t
  absurd_known x y t m p chain =
      let k = length b.goal.vars in
      let h = hold kind.Spat (Fact pure.False) b in
      let l = left_of_work b in
      let mid = view.Sep (Fact pure.False) l in
      let d = max (max (depth_of (left_of_work h)) (depth_of l)) (depth_of c) + 12 in
      let n = 100 * (suc (length (work_parts b)) + 1) in
      let two : depth_of (Fact pure.False) ≡ 2 = false_deep in
      let m1 : Proves Every (entail k (left_of_work h) mid) [] n d k x = weaker Every (entail k (left_of_work h) mid) [] n (star_room (left_of_work h) mid) k n d k x (omega arith) (omega (arith, depth_sep (Fact pure.False) l, two)) (omega arith) m in
      let p1 : Proves Every (entail k mid c) [] 3 d k y = weaker Every (entail k mid c) [] 3 (deepest (l ∷ c ∷ []) [] + 3) k 3 d k y (omega arith) (omega arith) (omega arith) p in
      chained k n 3 (100 * length (work_parts b) + 204) d k (left_of_work h) mid c [] x y t m1 p1 chain
      (λ preds s r hs. sep_scoped preds k (Fact pure.False) l (held_end preds k b (Fact pure.False) s) (held_others preds k b (Fact pure.False) s)) (omega arith)

-- the end where both are falsehood
closes_rest : (w : Work) (a b : Named) (p1 p2 : ℕ) (f g : Formula) (x y t : Tree) → AreTaken w a b (record { first = record { place = p1; formula = f }; second = record { place = p2; formula = g }; middle = taken w a f; rest = without_both w a b })
    → Becomes w (hold kind.Spat (Fact pure.False) (without_both w a b)) x → IsAbsurd (without_both w a b) w.goal.concl y → ChainProves x y t → IsActed (all_nodes (work_formulas w)) w [] t
closes_rest w a b p1 p2 f g x y t is bx ay chain =
    let k = length w.goal.vars in
    let s = all_nodes (work_formulas w) in
    let rest = without_both w a b in
    let h = hold kind.Spat (Fact pure.False) rest in
    let G = suc (greatest_depth (work_formulas w)) in
    let P : Formula → Type 0 = λ x. depth_of x ≤ G in
    let c1 : suc (length (work_parts (less w a))) ≡ length (work_parts w) = less_count w a p1 f is.first in
    let c2 : suc (length (work_parts rest)) ≡ length (work_parts (less w a)) = less_count (less w a) b p2 g is.second in
    let parts : AllByRecursion P (work_parts rest) = less_all (less w a) b p2 g is.second P (less_all w a p1 f is.first P (parts_deep w)) in
    let two : depth_of (Fact pure.False) ≤ G = omega (arith, false_deep, concl_depth w, has_levels w.goal.concl) in
    let more : AllByRecursion P (work_parts h) = subst (AllByRecursion P) (sym (hold_parts rest (Fact pure.False))) (all_insert P (work_parts rest) (length (work_parts rest)) (Fact pure.False) parts two) in
    let low_rest : depth_of (left_of_work rest) ≤ height w + 1 = star_low w rest parts (omega (arith, c1, c2)) in
    let low : depth_of (left_of_work h) ≤ height w + 1 = star_low w h more (omega (arith, c1, c2, hold_count rest (Fact pure.False))) in
    let d = room w [] in
    let q = width w in
    let n = 300 * length (work_parts w) + 400 * s + 302 in
    let m = 100 * length (work_parts rest) + 204 in
    let e1 = entail k (left_of_work w) (left_of_work h) in
    let e2 = entail k (left_of_work h) w.goal.concl in
    let x1 : Proves Every e1 [] n d q x = weaker Every e1 [] n (max (height w + 12) (depth_of (left_of_work h) + 8)) q n d q x (omega arith) (omega (arith, low)) (omega arith) bx in
    let y1 : Proves Every e2 [] m d q y = weaker Every e2 [] m (max (max (depth_of (left_of_work h)) (depth_of (left_of_work rest))) (depth_of w.goal.concl) + 12) k m d q y (omega arith) (omega (arith, low, low_rest, concl_height w)) (omega arith) ay in
    let bound : n + m + 1 ≤ rules_within s = few s (n + m + 1) (omega (arith, c1, c2, parts_nodes w)) in
    chained k n m (rules_within s) d q (left_of_work w) (left_of_work h) w.goal.concl [] x y t x1 y1 chain
    (λ preds s1 r hs. star_of_all preds k h
    (subst (AllByRecursion (Scoped preds k)) (sym (hold_parts rest (Fact pure.False)))
    (all_insert (Scoped preds k) (work_parts rest) (length (work_parts rest)) (Fact pure.False)
    (less_all (less w a) b p2 g is.second (Scoped preds k) (less_all w a p1 f is.first (Scoped preds k) (all_of_star preds k w s1)))
    (fact_scoped preds k pure.False (false_scoped k)))))
    bound

pub closes_two : (w : Work) (a b : Named) (t : Two) (new : Work) (x y p : Tree) → AreTaken w a b t → new ≡ hold kind.Spat (Fact pure.False) t.rest
    → Becomes w new x → IsAbsurd t.rest w.goal.concl y → ChainProves x y p → IsActed (all_nodes (work_formulas w)) w [] p
closes_two w a b t new x y p is new_is bx ay chain =
    closes_rest w a b t.first.place t.second.place t.first.formula t.second.formula x y p (same_rest w a b t is)
    (subst (λ (z : Work). Becomes w z x) (new_is ∙ ap (hold kind.Spat (Fact pure.False)) is.rest) bx)
    (subst (λ (z : Work). IsAbsurd z w.goal.concl y) is.rest ay) chain

-- ---- as the calls ask

pub rest_few : (w : Work) (a b : Named) (t : Two) → AreTaken w a b t → hypotheses w < 2 ^ 32 → hypotheses t.rest < 2 ^ 32
rest_few w a b t is lt =
    subst (λ (x : Work). hypotheses x < 2 ^ 32) (sym is.rest)
    (omega (arith, lt, less_count w a t.first.place t.first.formula is.first, less_count (less w a) b t.second.place t.second.formula is.second, parts_are w, parts_are (without_both w a b)))

pub carried_both : (w : Work) (a b : Named) (t : Two) (one more p : Tree) → AreTaken w a b t
    → Moves (length w.goal.vars) (length (work_parts w)) (left_of_work w) (left_of_work (taken w a t.first.formula)) one
    → Moves (length t.middle.goal.vars) (length (work_parts t.middle)) (left_of_work t.middle) (left_of_work (taken t.middle b t.second.formula)) more
    → ChainProves one more p → TakesBoth w (hold kind.Spat t.second.formula (hold kind.Spat t.first.formula t.rest)) p
carried_both w a b t one more p is m1 m2 chain =
    subst (λ (r : Work). TakesBoth w (hold kind.Spat t.second.formula (hold kind.Spat t.first.formula r)) p) (sym is.rest)
    (takes_both w a b t.first.place t.second.place t.first.formula t.second.formula is.first is.second one more p m1
    (subst (λ (x : Work). Moves (length x.goal.vars) (length (work_parts x)) (left_of_work x) (left_of_work (taken x b t.second.formula)) more) is.middle m2) chain)

pub held_answers : (w : Work) (a b : Named) (t : Two) (c : Formula) (new : Work) (moved : Tree) (r : Result (Parts Place) StepFault) → AreTaken w a b t → is_falsehood c ≡ false → new ≡ hold kind.Spat c t.rest
    → Becomes w (hold kind.Spat c t.rest) moved → MovesTo w new moved r → Answers (all_nodes (work_formulas w)) w (limited (combining w a b c)) r
held_answers w a b t c new moved r is not_false new_is m to =
    subst (λ o. Answers (all_nodes (work_formulas w)) w (limited o) r)
    (ap (λ (x : Work). one (hold kind.Spat c x)) is.rest ∙ ap (λ x. cond x closed (one (hold kind.Spat c (without_both w a b)))) (sym not_false))
    (becomes_answers w (hold kind.Spat c t.rest) new moved r new_is m to)

pub less_small : (w one : Work) (a : Named) (place : ℕ) (f : Formula) → IsAt w.goal a place f → one ≡ less w a → hypotheses w < 2 ^ 32 → length one.goal.pures + length one.goal.ints + length one.goal.spats < 2 ^ 32
less_small w one a place f at is lt =
    subst (λ (x : Work). length x.goal.pures + length x.goal.ints + length x.goal.spats < 2 ^ 32) (sym is)
    (omega (arith, lt, less_count w a place f at, parts_are w, parts_are (less w a)))

pub less_apart : (w one : Work) (a : Named) → one ≡ less w a → NamesDiffer w.goal → NamesDiffer one.goal
less_apart w one a is h =
    let g = w.goal in
    subst (λ (x : Work). NamesDiffer x.goal) (sym is)
    (differ_still (without_named a g) g (fewer_names (without_named a g) g (same g.vars) (fewer_facts (λ f. not (bytes_eq a f.name)) g.pures) (fewer_hyps (λ f. not (bytes_eq a f.name)) g.ints) (fewer_hyps (λ f. not (bytes_eq a f.name)) g.spats)) h)

pub formula_handed : (w : Work) (name : Named) (f : Formula) (v : ℕ) → v ≡ length w.goal.vars → hyp_named name w.goal.spats ≡ Some f → IsHanded w → IsFormulaHanded v f
formula_handed w name f v vars e h =
    subst (λ k. IsFormulaHanded k f) (sym vars)
    (record { scoped = member (ScopedIn (length w.goal.vars)) w h.scoped name f e; within = omega (arith, h.shallow, member_deep w name f e) })
