-- What comes into hand, and the stars on the way.
use Rattle.std.proofs.Common.{◌≡◌, ℕ, zero, suc, ◌+◌, ◌-◌, ◌*◌, ◌<◌, ◌≤◌, List, [], ◌∷◌, ◌++◌, length, length-append, map, insert, set, refl, sym, ◌∙◌, ap, ap₂, subst, arith}
use Rattle.std.specs.Prelude.{Result}
use Rattle.std.specs.List.{AllByRecursion}
use Rattle.std.proofs.lemmas.List.{map-append}
use Rattle.pm_logic.specs.declared.formula.Pure.{Pure}
use Rattle.pm_logic.specs.declared.formula.Formula.{Formula}
use Rattle.pm_logic.specs.declared.formula.Formula.TheVariants.{Pure as Assert}
use Rattle.pm_logic.specs.declared.formula.Formula.TheViews as view
use Rattle.pm_logic.specs.declared.formula.Preds.{Preds}
use Rattle.pm_logic.specs.Size.{depth_of}
use Rattle.pm_logic.specs.Scope.{Scoped}
use Rattle.pm_logic.proofs.Sizes.{depth_pure}
use Rattle.pm_rules.specs.declared.rules.Entail.{Entail}
use Rattle.pm_goal.specs.declared.work.Kind.{Kind}
use Rattle.pm_goal.specs.declared.work.Kind.TheVariants as kind
use Rattle.pm_goal.specs.declared.work.Held.{Held}
use Rattle.pm_goal.specs.declared.work.Work.{Work}
use Rattle.pm_goal.specs.declared.refusal.StepFault.{StepFault}
use Rattle.pm_goal.specs.Left.{star_onto, of_kind, hyps, left_of_work}
use Rattle.pm_proof.specs.Trees.{Tree, entail, conclusion}
use Rattle.pm_proof.specs.Known.{Proves, Extends, Every, ScopedWhere}
use Rattle.pm_proof.specs.declared.proof.Parts.{Parts}
use Rattle.pm_proof.proofs.Fills.{weaker, extends_weaker, extends_proves}
use Rattle.pm_schemes.specs.Sketches.{deepest}
use Rattle.pm_star.specs.Stars.{star, parts, shared, work_parts, part_at, without, duplicated, room as star_room, Moves, MovesBy}
use Rattle.pm_star.specs.Levels.{left_side, right_side}
use Rattle.pm_star.specs.Chains.{ChainProves, across, moved}
use Rattle.pm_star.proofs.Contexts.{work_star}
use Rattle.pm_star.proofs.Scoping.{star_scoped, scoped_star, all_insert, scoped_box, duplicated_scoped, depth_sep, part_deep}
use Rattle.pm_star.proofs.Places.{gains_held, loses_in_goal, in_goal_at}
use Rattle.pm_table.specs.declared.place.Place.{Place}
use Rattle.pm_table.specs.declared.place.Place.TheVariants.{Current as current}
use Rattle.pm_table.specs.Limits.{formulas, all_nodes, greatest_depth, work_formulas, hypotheses}
use Rattle.pm_table.specs.Works.{Named, hold, holding}
use Rattle.pm_action.specs.Meanings.{height, room, width}
use Rattle.pm_action.specs.Acting.{MovesTo}
use Rattle.pm_action.proofs.Sums.{depth_append}
use Rattle.pm_action.proofs.Heights.{star_height, parts_nodes, parts_are}
use Rattle.pm_action.proofs.Hands.{star_is}
use Rattle.pm_action.proofs.Moves.{few}
use Rattle.pm_hand.specs.Changed.{less, Brings, GivesOne}
use Rattle.pm_hand.specs.Looking.{IsAt}
use Rattle.pm_hand.proofs.Known.{inserted}

-- ---- lists

set_inserted : (fs : List Formula) (f g : Formula) → insert fs (length fs) g ≡ set (insert fs (length fs) f) (length fs) g
set_inserted [] f g = refl
set_inserted (x ∷ fs) f g = ap (λ l. x ∷ l) (set_inserted fs f g)

part_inserted : (fs : List Formula) (f : Formula) → part_at (insert fs (length fs) f) (length fs) ≡ f
part_inserted [] f = refl
part_inserted (x ∷ fs) f = part_inserted fs f

length_inserted : (fs : List Formula) (n : ℕ) (f : Formula) → length (insert fs n f) ≡ suc (length fs)
length_inserted fs zero f = refl
length_inserted [] (suc n) f = refl
length_inserted (x ∷ fs) (suc n) f = ap suc (length_inserted fs n f)

length_without : (fs : List Formula) (i : ℕ) → i < length fs → suc (length (without fs i)) ≡ length fs
length_without [] i lt = absurd (omega (arith, lt))
length_without (f ∷ fs) zero lt = refl
length_without (f ∷ fs) (suc i) lt = ap suc (length_without fs i (omega (arith, lt)))

others_inserted : (P : Formula → Type 0) (fs : List Formula) (n : ℕ) (f : Formula) → AllByRecursion P (insert fs n f) → AllByRecursion P fs
others_inserted P fs zero f a = a.1
others_inserted P [] (suc n) f a = tt
others_inserted P (g ∷ fs) (suc n) f a = (a.0, others_inserted P fs n f a.1)

-- ---- one more in hand

hold_parts : (b : Work) (k : Kind) (f : Formula) → work_parts (hold k f b) ≡ insert (work_parts b) (length (work_parts b)) (of_kind k f)
hold_parts b k f = gains_held b (hold k f b) (holding k f) refl refl

hold_star : (b : Work) (k : Kind) (f : Formula) → star (insert (work_parts b) (length (work_parts b)) (of_kind k f)) ≡ left_of_work (hold k f b)
hold_star b k f = star_is (hold k f b) (insert (work_parts b) (length (work_parts b)) (of_kind k f)) (hold_parts b k f)

hold_count : (b : Work) (k : Kind) (f : Formula) → length (work_parts (hold k f b)) ≡ suc (length (work_parts b))
hold_count b k f = ap length (hold_parts b k f) ∙ length_inserted (work_parts b) (length (work_parts b)) (of_kind k f)

-- the kind isn't counted
same_formulas : (b : Work) (j k : Kind) (f : Formula) → work_formulas (hold j f b) ≡ work_formulas (hold k f b)
same_formulas b j k f =
    ap (λ fs. formulas b.goal ++ fs) (map-append (λ (h : Held). h.formula) b.held (holding j f ∷ []) ∙ sym (map-append (λ (h : Held). h.formula) b.held (holding k f ∷ [])))

same_height : (b : Work) (j k : Kind) (f : Formula) → height (hold j f b) ≡ height (hold k f b)
same_height b j k f =
    let deep : greatest_depth (work_formulas (hold j f b)) ≡ greatest_depth (work_formulas (hold k f b)) = ap greatest_depth (same_formulas b j k f) in
    omega (arith, deep, parts_are (hold j f b), parts_are (hold k f b), hold_count b j f, hold_count b k f)

held_deep : (hs : List Held) (h : Held) → depth_of h.formula ≤ greatest_depth (map (λ (g : Held). g.formula) (hs ++ h ∷ []))
held_deep [] h = omega arith
held_deep (g ∷ hs) h = omega (arith, held_deep hs h)

hold_deep : (b : Work) (k : Kind) (f : Formula) → depth_of f ≤ greatest_depth (work_formulas (hold k f b))
hold_deep b k f = omega (arith, held_deep b.held (holding k f), depth_append (formulas b.goal) (map (λ (g : Held). g.formula) (b.held ++ holding k f ∷ [])))

kinds_scoped : (preds : Preds) (k : ℕ) (b : Work) (f : Formula) → Scoped preds k (left_of_work (hold kind.Int f b)) → Scoped preds k (left_of_work (hold kind.Spat f b))
kinds_scoped preds k b f s =
    let n = length (work_parts b) in
    let all : AllByRecursion (Scoped preds k) (insert (work_parts b) n (view.Pers f)) = scoped_star preds k (insert (work_parts b) n (view.Pers f)) (subst (Scoped preds k) (sym (hold_star b kind.Int f)) s) in
    subst (Scoped preds k) (hold_star b kind.Spat f)
    (star_scoped preds k (insert (work_parts b) n f) (all_insert (Scoped preds k) (work_parts b) n f (others_inserted (Scoped preds k) (work_parts b) n (view.Pers f) all) (scoped_box preds k f (inserted (Scoped preds k) (work_parts b) n (view.Pers f) all))))

-- ---- a fact in hand, boxed

abbrev fact_says : ℕ → Pure → Entail
fact_says k p = entail k (Assert p) (view.Pers (Assert p))

-- what the call of the exchange asks
pub boxed_left : (b middle : Work) (p : Pure) (place : ℕ) (by : Tree) (n d k : ℕ) → middle ≡ hold kind.Spat (Assert p) b → place ≡ hypotheses b
    → Proves Every (fact_says k p) [] n d k by → left_side by ≡ part_at (work_parts middle) place
boxed_left b middle p place by n d k m_is at proved =
    let here : place ≡ length (work_parts b) = at ∙ sym (parts_are b) in
    ap (λ (e : Entail). e.left) proved.concludes
    ∙ sym (ap₂ (λ (x : Work) n. part_at (work_parts x) n) m_is here ∙ ap (λ fs. part_at fs (length (work_parts b))) (hold_parts b kind.Spat (Assert p)) ∙ part_inserted (work_parts b) (Assert p))

pub boxed_known : (b middle : Work) (p : Pure) (place : ℕ) (by t : Tree) → middle ≡ hold kind.Spat (Assert p) b → place ≡ hypotheses b
    → Proves Every (fact_says (length b.goal.vars) p) [] 1 (deepest [] (p ∷ []) + 2) (length b.goal.vars) by
    → MovesBy by (length middle.goal.vars) (length (work_parts middle)) (left_of_work middle) (star (set (work_parts middle) place (right_side by))) t
    → Proves Every (entail (length b.goal.vars) (left_of_work (hold kind.Spat (Assert p) b)) (left_of_work (hold kind.Int (Assert p) b))) [] (100 * length (work_parts b) + 201) (height (hold kind.Int (Assert p) b) + 16) (length b.goal.vars) t
boxed_known b middle p place by t m_is at proved m =
    let k = length b.goal.vars in
    let f = Assert p in
    let mid = hold kind.Spat f b in
    let new = hold kind.Int f b in
    let N = length (work_parts b) in
    let d = height new + 16 in
    let here : place ≡ N = at ∙ sym (parts_are b) in
    let right : right_side by ≡ view.Pers f = ap (λ (e : Entail). e.right) proved.concludes in
    let end : star (set (work_parts mid) place (right_side by)) ≡ left_of_work new =
    ap₂ (λ n r. star (set (work_parts mid) n r)) here right ∙ ap (λ fs. star (set fs N (view.Pers f))) (hold_parts b kind.Spat f) ∙ ap star (sym (set_inserted (work_parts b) f (view.Pers f))) ∙ hold_star b kind.Int f in
    let m1 : MovesBy by k (length (work_parts mid)) (left_of_work mid) (left_of_work new) t =
    subst (λ r. MovesBy by k (length (work_parts mid)) (left_of_work mid) r t) end
    (subst (λ x. MovesBy by (length x.goal.vars) (length (work_parts x)) (left_of_work x) (star (set (work_parts x) place (right_side by))) t) m_is m) in
    let near : star_room (left_of_work mid) (left_of_work new) ≤ d = omega (arith, star_height mid, star_height new, same_height b kind.Spat kind.Int f) in
    let by1 : Proves Every (fact_says k p) [] 1 d k by = weaker Every (fact_says k p) [] 1 (deepest [] (p ∷ []) + 2) k 1 d k by (omega arith) (omega (arith, depth_pure p, hold_deep b kind.Int f)) (omega arith) proved in
    let c = 100 * N + 200 in
    let t1 : Extends by (entail k (left_of_work mid) (left_of_work new)) c d k t = extends_weaker by t (entail k (left_of_work mid) (left_of_work new)) (100 * (length (work_parts mid) + 1)) (star_room (left_of_work mid) (left_of_work new)) k c d k (omega (arith, hold_count b kind.Spat f)) near (omega arith) m1 in
    let scope : ScopedWhere (entail k (left_of_work mid) (left_of_work new)) [] (fact_says k p) =
    λ preds e hs. (
      inserted (Scoped preds k) (work_parts b) N f (scoped_star preds k (insert (work_parts b) N f) (subst (Scoped preds k) (sym (hold_star b kind.Spat f)) e.0)),
      inserted (Scoped preds k) (work_parts b) N (view.Pers f) (scoped_star preds k (insert (work_parts b) N (view.Pers f)) (subst (Scoped preds k) (sym (hold_star b kind.Int f)) e.1)),
    ) in
    weaker Every (entail k (left_of_work mid) (left_of_work new)) [] (1 + c) d k (100 * N + 201) d k t (omega arith) (omega arith) (omega arith)
    (extends_proves Every by t (fact_says k p) (entail k (left_of_work mid) (left_of_work new)) [] 1 c d k by1 t1 scope)

-- ---- the part of a name at the end

less_parts : (w : Work) (name : Named) (place : ℕ) (part : Formula) → IsAt w.goal name place part → work_parts (less w name) ≡ without (work_parts w) place
less_parts w name place part at = loses_in_goal w (less w name) place at.within at.rest refl

pub inside : (w : Work) (place : ℕ) → place < length (parts w.goal) → place < length (work_parts w)
inside w place lt = omega (arith, lt, length-append (parts w.goal) (map (λ (h : Held). of_kind h.kind h.formula) w.held))

taken_star : (w : Work) (name : Named) (place to : ℕ) (k : Kind) (f : Formula) → IsAt w.goal name place (of_kind k f) → to ≡ hypotheses w - 1 → star (moved (work_parts w) place to) ≡ left_of_work (hold k f (less w name))
taken_star w name place to k f at to_is =
    let fewer : length (work_parts (less w name)) ≡ to =
    let a : length (work_parts (less w name)) ≡ length (without (work_parts w) place) = ap length (less_parts w name place (of_kind k f) at) in
    omega (arith, a, to_is, parts_are w, length_without (work_parts w) place (inside w place at.within)) in
    ap₂ (λ n x. star (insert (without (work_parts w) place) n x)) (sym fewer) (in_goal_at w place at.within ∙ at.is)
    ∙ ap (λ fs. star (insert fs (length (work_parts (less w name))) (of_kind k f))) (sym (less_parts w name place (of_kind k f) at))
    ∙ hold_star (less w name) k f

pub carried_moves : (w : Work) (name : Named) (place to : ℕ) (k : Kind) (f : Formula) (t : Tree) → IsAt w.goal name place (of_kind k f) → to ≡ hypotheses w - 1
    → Moves (length w.goal.vars) (length (work_parts w)) (left_of_work w) (star (moved (work_parts w) place to)) t
    → Moves (length w.goal.vars) (length (work_parts w)) (left_of_work w) (left_of_work (hold k f (less w name))) t
carried_moves w name place to k f t at to_is m = subst (λ r. Moves (length w.goal.vars) (length (work_parts w)) (left_of_work w) r t) (taken_star w name place to k f at to_is) m

pub less_few : (w rest : Work) (name : Named) (place n : ℕ) (part : Formula) → IsAt w.goal name place part → rest ≡ less w name → hypotheses w < n → hypotheses rest < n
less_few w rest name place n part at is lt =
    let fewer : length (work_parts (less w name)) ≡ length (without (work_parts w) place) = ap length (less_parts w name place part at) in
    subst (λ x. hypotheses x < n) (sym is)
    (omega (arith, lt, fewer, parts_are w, parts_are (less w name), length_without (work_parts w) place (inside w place at.within)))

-- ---- one proof after another

pub brings_chain : (w mid new : Work) (a b t : Tree) (n m c : ℕ) → length mid.goal.vars ≡ length w.goal.vars → height mid ≡ height new
    → Proves Every (entail (length w.goal.vars) (left_of_work w) (left_of_work mid)) [] n (room w (current [] mid ∷ [])) (width w) a
    → Proves Every (entail (length mid.goal.vars) (left_of_work mid) (left_of_work new)) [] m (height new + 16) (length mid.goal.vars) b
    → ((preds : Preds) → Scoped preds (length w.goal.vars) (left_of_work new) → Scoped preds (length w.goal.vars) (left_of_work mid))
    → ChainProves a b t → n + m + 1 ≤ c → Brings w new c t
brings_chain w mid new a b t n m c vars deep p q scoped chain le =
    let k = length w.goal.vars in
    let x = left_of_work w in
    let y = left_of_work mid in
    let z = left_of_work new in
    let D = room w (current [] new ∷ []) in
    let over : across a b ≡ entail k x z = ap₂ (λ (e g : Entail). entail e.vars e.left g.right) p.concludes q.concludes in
    let p1 : Proves Every (conclusion a) [] n D (width w) a = subst (λ e. Proves Every e [] n D (width w) a) (sym p.concludes) (weaker Every (entail k x y) [] n (room w (current [] mid ∷ [])) (width w) n D (width w) a (omega arith) (omega (arith, deep)) (omega arith) p) in
    let q1 : Proves Every (conclusion b) [] m D (width w) b = subst (λ e. Proves Every e [] m D (width w) b) (sym q.concludes) (weaker Every (entail (length mid.goal.vars) y z) [] m (height new + 16) (length mid.goal.vars) m D (width w) b (omega arith) (omega arith) (omega (arith, vars)) q) in
    let scope : ScopedWhere (across a b) [] (conclusion a) = subst (λ e. ScopedWhere e [] (conclusion a)) (sym over) (subst (λ e. ScopedWhere (entail k x z) [] e) (sym p.concludes) (λ preds e hs. (e.0, scoped preds e.1))) in
    let all : Proves Every (across a b) [] (n + m + 1) D (width w) t = chain Every [] [] n m D (width w) p1 q1 scope in
    weaker Every (entail k x z) [] (n + m + 1) D (width w) c D (width w) t le (omega arith) (omega arith) (subst (λ e. Proves Every e [] (n + m + 1) D (width w) t) over all)

pub brings_gives : (w new made : Work) (n : ℕ) (t : Tree) (r : Result (Parts Place) StepFault) → made ≡ new → n ≤ 300 * length (work_parts w) + 403 → Brings w new n t → MovesTo w made t r → GivesOne w new r
brings_gives w new made n t r is le b to =
    let s = all_nodes (work_formulas w) in
    subst (λ x. MovesTo w x t r) is to s n (few s (suc n) (omega (arith, le, parts_nodes w)))
    (subst (λ e. Proves Every e [] n (room w (current [] new ∷ [])) (width w) t) (sym b.concludes) b)

-- a move as a proof within the bounds
pub moves_bring : (w new : Work) (t : Tree) → Moves (length w.goal.vars) (length (work_parts w)) (left_of_work w) (left_of_work new) t → Brings w new (100 * length (work_parts w) + 100) t
moves_bring w new t m =
    let k = length w.goal.vars in
    let N = length (work_parts w) in
    weaker Every (entail k (left_of_work w) (left_of_work new)) [] (100 * (N + 1)) (star_room (left_of_work w) (left_of_work new)) k (100 * N + 100) (room w (current [] new ∷ [])) (width w) t (omega arith) (omega (arith, star_height w, star_height new)) (omega arith) m

-- ---- a fact taken

pub fact_taken : (w : Work) (name : Named) (p : Pure) (place : ℕ) (a b t : Tree) → IsAt w.goal name place (Assert p)
    → Moves (length w.goal.vars) (length (work_parts w)) (left_of_work w) (left_of_work (hold kind.Spat (Assert p) (less w name))) a
    → Proves Every (entail (length w.goal.vars) (left_of_work (hold kind.Spat (Assert p) (less w name))) (left_of_work (hold kind.Int (Assert p) (less w name)))) [] (100 * length (work_parts (less w name)) + 201) (height (hold kind.Int (Assert p) (less w name)) + 16) (length w.goal.vars) b
    → ChainProves a b t → Brings w (hold kind.Int (Assert p) (less w name)) (200 * length (work_parts w) + 302) t
fact_taken w name p place a b t at m q chain =
    let mid = hold kind.Spat (Assert p) (less w name) in
    let new = hold kind.Int (Assert p) (less w name) in
    let fewer : length (work_parts (less w name)) ≡ length (without (work_parts w) place) = ap length (less_parts w name place (Assert p) at) in
    brings_chain w mid new a b t (100 * length (work_parts w) + 100) (100 * length (work_parts (less w name)) + 201) (200 * length (work_parts w) + 302) refl (same_height (less w name) kind.Spat kind.Int (Assert p))
    (moves_bring w mid a m) q (λ preds s. kinds_scoped preds (length w.goal.vars) (less w name) (Assert p) s) chain
    (omega (arith, fewer, length_without (work_parts w) place (inside w place at.within)))

-- ---- a part once more

star_double : (fs : List Formula) (i : ℕ) → star (duplicated fs i) ≡ view.Sep (part_at fs i) (star fs)
unfolding star_onto
star_double fs i = refl

-- the two proofs meet
pub double_meets : (w : Work) (place : ℕ) (part : Formula) (a b : Tree) (r : Formula) → place < length (parts w.goal) → part_at (parts w.goal) place ≡ part
    → Moves (length w.goal.vars) (length (work_parts w)) (left_of_work w) (star (duplicated (work_parts w) place)) a
    → Moves (length w.goal.vars) (length (work_parts w)) (view.Sep part (left_of_work w)) r b → left_side b ≡ right_side a
double_meets w place part a b r lt is m n =
    ap (λ (e : Entail). e.left) n.concludes
    ∙ sym (ap (λ (e : Entail). e.right) m.concludes ∙ star_double (work_parts w) place ∙ ap₂ (λ x y. view.Sep x y) (in_goal_at w place lt ∙ is) (work_star w))

pub before_within : (w : Work) (place : ℕ) → place < length (shared w.goal) → place < length (parts w.goal)
before_within w place lt = omega (arith, lt, length-append (shared w.goal) (hyps w.goal.spats))

pub doubles : (w : Work) (place to : ℕ) (k : Kind) (f once : Formula) (a b t : Tree) → once ≡ of_kind k f → place < length (parts w.goal) → part_at (parts w.goal) place ≡ of_kind k f → to ≡ hypotheses w
    → Moves (length w.goal.vars) (length (work_parts w)) (left_of_work w) (star (duplicated (work_parts w) place)) a
    → Moves (length w.goal.vars) (length (work_parts w)) (view.Sep once (left_of_work w)) (star (insert (work_parts w) to once)) b
    → ChainProves a b t → Brings w (hold k f w) (200 * length (work_parts w) + 201) t
doubles w place to kd f once a b t once_is lt is to_is m1 m3 chain =
    let k = length w.goal.vars in
    let N = length (work_parts w) in
    let m2 : Moves k N (view.Sep (of_kind kd f) (left_of_work w)) (star (insert (work_parts w) to (of_kind kd f))) b = subst (λ g. Moves k N (view.Sep g (left_of_work w)) (star (insert (work_parts w) to g)) b) once_is m3 in
    let x = left_of_work w in
    let part = of_kind kd f in
    let y = view.Sep part x in
    let new = hold kd f w in
    let z = left_of_work new in
    let D = room w (current [] new ∷ []) in
    let c = 100 * (N + 1) in
    let double : star (duplicated (work_parts w) place) ≡ y = star_double (work_parts w) place ∙ ap₂ (λ u v. view.Sep u v) (in_goal_at w place lt ∙ is) (work_star w) in
    let end : star (insert (work_parts w) to part) ≡ z = ap (λ n. star (insert (work_parts w) n part)) (to_is ∙ sym (parts_are w)) ∙ hold_star w kd f in
    let n1 : Moves k N x y a = subst (λ r. Moves k N x r a) double m1 in
    let n2 : Moves k N y z b = subst (λ r. Moves k N y r b) end m2 in
    let deep : suc (depth_of part) ≤ depth_of x = subst (λ g. suc (depth_of part) ≤ depth_of g) (work_star w) (subst (λ g. suc (depth_of g) ≤ depth_of (star (work_parts w))) (in_goal_at w place lt ∙ is) (part_deep (work_parts w) place (inside w place lt))) in
    let p1 : Proves Every (conclusion a) [] c D (width w) a = subst (λ e. Proves Every e [] c D (width w) a) (sym n1.concludes) (weaker Every (entail k x y) [] c (star_room x y) k c D (width w) a (omega arith) (omega (arith, deep, depth_sep part x, star_height w)) (omega arith) n1) in
    let p2 : Proves Every (conclusion b) [] c D (width w) b = subst (λ e. Proves Every e [] c D (width w) b) (sym n2.concludes) (weaker Every (entail k y z) [] c (star_room y z) k c D (width w) b (omega arith) (omega (arith, deep, depth_sep part x, star_height w, star_height new)) (omega arith) n2) in
    let over : across a b ≡ entail k x z = ap₂ (λ (e g : Entail). entail e.vars e.left g.right) n1.concludes n2.concludes in
    let scope : ScopedWhere (across a b) [] (conclusion a) = subst (λ e. ScopedWhere e [] (conclusion a)) (sym over) (subst (λ e. ScopedWhere (entail k x z) [] e) (sym n1.concludes)
    (λ preds e hs. (e.0, subst (Scoped preds k) double (duplicated_scoped preds k (work_parts w) place (subst (Scoped preds k) (sym (work_star w)) e.0))))) in
    let all : Proves Every (across a b) [] (c + c + 1) D (width w) t = chain Every [] [] c c D (width w) p1 p2 scope in
    weaker Every (entail k x z) [] (c + c + 1) D (width w) (200 * N + 201) D (width w) t (omega arith) (omega arith) (omega arith) (subst (λ e. Proves Every e [] (c + c + 1) D (width w) t) over all)

pub fact_lent : (w : Work) (p : Pure) (a b t : Tree)
    → Brings w (hold kind.Spat (Assert p) w) (200 * length (work_parts w) + 201) a
    → Proves Every (entail (length w.goal.vars) (left_of_work (hold kind.Spat (Assert p) w)) (left_of_work (hold kind.Int (Assert p) w))) [] (100 * length (work_parts w) + 201) (height (hold kind.Int (Assert p) w) + 16) (length w.goal.vars) b
    → ChainProves a b t → Brings w (hold kind.Int (Assert p) w) (300 * length (work_parts w) + 403) t
fact_lent w p a b t m q chain =
    brings_chain w (hold kind.Spat (Assert p) w) (hold kind.Int (Assert p) w) a b t (200 * length (work_parts w) + 201) (100 * length (work_parts w) + 201) (300 * length (work_parts w) + 403) refl (same_height w kind.Spat kind.Int (Assert p))
    m q (λ preds s. kinds_scoped preds (length w.goal.vars) w (Assert p) s) chain (omega arith)
