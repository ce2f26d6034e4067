-- What is last in hand, beside the star of the goal.
use Rattle.std.proofs.Common.{◌≡◌, ℕ, zero, suc, ◌+◌, ◌*◌, ◌-◌, ◌<◌, ◌≤◌, max, List, [], ◌∷◌, ◌++◌, map, length, length-append, refl, sym, ◌∙◌, ap, ap₂, subst, arith}
use Rattle.std.specs.Prelude.{remove}
use Rattle.std.specs.List.{AllByRecursion}
use Rattle.std.proofs.lemmas.List.{length-map, nil_from_length}
use Rattle.pm_logic.specs.declared.formula.Formula.{Formula}
use Rattle.pm_logic.specs.declared.formula.Formula.TheViews as view
use Rattle.pm_logic.specs.declared.formula.Preds.{Preds}
use Rattle.pm_logic.specs.Scope.{Scoped}
use Rattle.pm_logic.specs.Size.{depth_of}
use Rattle.pm_goal.specs.declared.goal.Goal.{Goal}
use Rattle.pm_goal.specs.declared.work.Held.{Held}
use Rattle.pm_goal.specs.declared.work.Work.{Work}
use Rattle.pm_goal.specs.Left.{star_onto, of_kind, held_parts, left_of, left_of_work}
use Rattle.pm_rules.specs.declared.rules.Entail.{Entail}
use Rattle.pm_proof.specs.Trees.{Tree, entail, conclusion}
use Rattle.pm_proof.specs.Known.{Proves, Every, ScopedWhere}
use Rattle.pm_proof.proofs.Fills.{weaker}
use Rattle.pm_star.specs.Stars.{star, parts, work_parts, part_at, without, in_front, room as star_room, Moves}
use Rattle.pm_star.specs.Chains.{ChainProves, across}
use Rattle.pm_star.proofs.Contexts.{work_star}
use Rattle.pm_star.proofs.Places.{loses_held}
use Rattle.pm_star.proofs.Scoping.{depth_sep, front_scoped, part_deep, scoped_star, star_scoped, all_without}
use Rattle.pm_table.specs.Limits.{resting, formulas, work_formulas, greatest_depth, hypotheses}
use Rattle.pm_table.specs.Works.{work_of}
use Rattle.pm_action.specs.Meanings.{height}
use Rattle.pm_action.specs.Acting.{IsLast, all_but_last, last_place}
use Rattle.pm_action.proofs.Sums.{depth_append}
use Rattle.pm_action.proofs.Heights.{star_height}
use Rattle.pm_action.proofs.Hands.{held_is, without_last, part_last, last_within, star_is}
use Rattle.pm_hand.proofs.Known.{relast_last}
use Rattle.pm_hand.proofs.Relasts.{some_last}
use Rattle.pm_apply.specs.Reaching.{one_fewer, IsBeside}

-- ---- products

pub times_grow : (m a b : ℕ) → a ≤ b → m * a ≤ m * b
times_grow zero a b le = omega arith
times_grow (suc m) a b le = omega (arith, times_grow m a b le, le, next m a, next m b)
  where
    next : (x y : ℕ) → suc x * y ≡ y + x * y
    next x y = omega arith

pub one_more_time : (m a : ℕ) → suc m * a ≡ a + m * a
one_more_time m a = omega arith

-- ---- the goal's star

-- no deeper than the work
pub goal_deep : (w : Work) → depth_of (left_of w.goal) ≤ height w + 1
unfolding star_onto
goal_deep w =
    let g = w.goal in
    let low : depth_of (left_of_work (resting g)) ≤ height (resting g) + 1 = star_height (resting g) in
    omega (arith, low, depth_append (formulas g) [], depth_append (formulas g) (map (λ (h : Held). h.formula) w.held))

goal_alone : (goal : Goal) → left_of_work (work_of goal []) ≡ left_of goal
unfolding star_onto
goal_alone goal = refl

-- ---- one in hand

less_deep : (fs : List Formula) (i : ℕ) → depth_of (star (without fs i)) ≤ depth_of (star fs)
unfolding star_onto
less_deep [] zero = omega arith
less_deep [] (suc i) = omega arith
less_deep (f ∷ fs) zero = omega (arith, depth_sep f (star fs))
less_deep (f ∷ fs) (suc i) = omega (arith, less_deep fs i, depth_sep f (star fs), depth_sep f (star (without fs i)))

star_front : (fs : List Formula) (i : ℕ) → star (in_front fs i) ≡ view.Sep (part_at fs i) (star (without fs i))
unfolding star_onto
star_front fs i = refl

none_other : (w : Work) (l : Held) → IsLast w l → length w.held ≡ 1 → all_but_last w.held ≡ []
none_other w l is one = nil_from_length (all_but_last w.held) (let n = ap length (held_is w l is) in let m = length-append (all_but_last w.held) (l ∷ []) in omega (arith, n, m, one))

pub front_beside : (w : Work) (l : Held) (place : ℕ) (t : Tree) → IsLast w l → length w.held ≡ 1 → place ≡ last_place w
    → Moves (length w.goal.vars) (length (work_parts w)) (left_of_work w) (star (in_front (work_parts w) place)) t → IsBeside w (of_kind l.kind l.formula) t
front_beside w l place t is one at m0 =
    let k = length w.goal.vars in
    let fs = work_parts w in
    let i = last_place w in
    let x = left_of_work w in
    let y = left_of w.goal in
    let part = of_kind l.kind l.formula in
    let whole : star fs ≡ x = work_star w in
    let rest_is : star (without fs i) ≡ y = star_is (work_of w.goal (all_but_last w.held)) (without fs i) (without_last w l is) ∙ ap (λ hs. left_of_work (work_of w.goal hs)) (none_other w l is one) ∙ goal_alone w.goal in
    let front : star (in_front fs i) ≡ view.Sep part y = star_front fs i ∙ ap₂ (λ a b. view.Sep a b) (part_last w l is) rest_is in
    let m : Moves k (length fs) x (view.Sep part y) t = subst (λ r. Moves k (length fs) x r t) front (subst (λ n. Moves k (length fs) x (star (in_front fs n)) t) at m0) in
    let deep : suc (depth_of part) ≤ depth_of x = subst (λ g. suc (depth_of part) ≤ depth_of g) whole (subst (λ g. suc (depth_of g) ≤ depth_of (star fs)) (part_last w l is) (part_deep fs i (last_within w l is))) in
    record {
      proves = weaker Every (entail k x (view.Sep part y)) [] (100 * (length fs + 1)) (star_room x (view.Sep part y)) k (length w.held * (100 * length fs + 101)) (height w + 10) k t (subst (λ n. 100 * (length fs + 1) ≤ n * (100 * length fs + 101)) (sym one) (omega arith)) (omega (arith, star_height w, deep, goal_deep w, depth_sep part y)) (omega arith) m;
      scoped = λ preds s. subst (Scoped preds k) front (front_scoped preds k fs i (subst (Scoped preds k) (sym whole) s));
      part_depth = omega (arith, star_height w, deep);
      left_depth = goal_deep w;
    }

-- ---- one more in hand

remove_second : (xs : List Held) (m l : Held) → remove ((xs ++ m ∷ []) ++ l ∷ []) (length xs) ≡ xs ++ l ∷ []
remove_second [] m l = refl
remove_second (x ∷ xs) m l = ap (λ hs. x ∷ hs) (remove_second xs m l)

fewer_deep : (xs : List Held) (m l : Held) → greatest_depth (map (λ (h : Held). h.formula) (xs ++ l ∷ [])) ≤ greatest_depth (map (λ (h : Held). h.formula) ((xs ++ m ∷ []) ++ l ∷ []))
fewer_deep [] m l = omega arith
fewer_deep (x ∷ xs) m l = omega (arith, fewer_deep xs m l)

module _ (w : Work) (l : Held) (is : IsLast w l) (several : 1 < length w.held) where
  abbrev before : List Held
  before = all_but_last w.held

  before_length : length w.held ≡ length before + 1
  before_length = ap length (held_is w l is) ∙ length-append before (l ∷ [])

  second : (m : Held) × IsLast (work_of w.goal before) m
  second = some_last (work_of w.goal before) (omega (arith, several, before_length))

  abbrev fewer : List Held
  fewer = all_but_last before

  before_is : before ≡ fewer ++ second.0 ∷ []
  before_is = held_is (work_of w.goal before) second.0 second.1

  all_are : w.held ≡ (fewer ++ second.0 ∷ []) ++ l ∷ []
  all_are = held_is w l is ∙ ap (λ hs. hs ++ l ∷ []) before_is

  fewer_length : length before ≡ length fewer + 1
  fewer_length = ap length before_is ∙ length-append fewer (second.0 ∷ [])

  abbrev rest : Work
  rest = one_fewer w l

  rest_length : suc (length rest.held) ≡ length w.held
  rest_length = omega (arith, before_length, fewer_length, length-append fewer (l ∷ []))

  pub rest_fewer : length (rest.held) < length w.held
  rest_fewer = omega (arith, rest_length)

  pub rest_hypotheses : hypotheses rest ≤ hypotheses w
  rest_hypotheses = omega (arith, rest_length)

  pub rest_last : IsLast rest l
  rest_last = relast_last (work_of w.goal before) l.kind l.formula

  rest_parts : work_parts rest ≡ without (work_parts w) (length (parts w.goal) + length fewer)
  rest_parts = loses_held w rest (length fewer) refl (sym (ap (λ hs. remove hs (length fewer)) all_are ∙ remove_second fewer second.0 l))

  count : (v : Work) → length (work_parts v) ≡ length (parts v.goal) + length v.held
  count v = omega (arith, length-append (parts v.goal) (held_parts v.held), length-map v.held (λ (h : Held). of_kind h.kind h.formula))

  pub place_is : (place n : ℕ) → place ≡ last_place w → n ≡ place - 1 → n ≡ length (parts w.goal) + length fewer
  place_is place n at less = omega (arith, at, less, fewer_length)

  pub second_within : (place n : ℕ) → place ≡ last_place w → n ≡ place - 1 → n < length (work_parts w)
  second_within place n at less = omega (arith, place_is place n at less, count w, before_length, fewer_length)

  pub place_some : (place : ℕ) → place ≡ last_place w → 1 ≤ place
  place_some place at = omega (arith, at, fewer_length)

  rest_height : height rest ≤ height w
  rest_height =
      let deep = subst (λ hs. greatest_depth (map (λ (h : Held). h.formula) rest.held) ≤ greatest_depth (map (λ (h : Held). h.formula) hs)) (sym all_are) (fewer_deep fewer second.0 l) in
      omega (arith, deep, rest_length, depth_append (formulas w.goal) (map (λ (h : Held). h.formula) rest.held), depth_append (formulas w.goal) (map (λ (h : Held). h.formula) w.held))

  lost_star : star (without (work_parts w) (length (parts w.goal) + length fewer)) ≡ left_of_work rest
  lost_star = star_is rest (without (work_parts w) (length (parts w.goal) + length fewer)) rest_parts

  pub lost_moves : (place n : ℕ) (lost : Tree) → place ≡ last_place w → n ≡ place - 1
      → Moves (length w.goal.vars) (length (work_parts w)) (left_of_work w) (star (without (work_parts w) n)) lost → Moves (length w.goal.vars) (length (work_parts w)) (left_of_work w) (left_of_work rest) lost
  lost_moves place n lost at less m = subst (λ r. Moves (length w.goal.vars) (length (work_parts w)) (left_of_work w) r lost) (ap (λ i. star (without (work_parts w) i)) (place_is place n at less) ∙ lost_star) m

  pub more_beside : (part : Formula) (lost beside t : Tree) → IsBeside rest part beside → Moves (length w.goal.vars) (length (work_parts w)) (left_of_work w) (left_of_work rest) lost → ChainProves lost beside t → IsBeside w part t
  more_beside part lost beside t b m chain =
      let k = length w.goal.vars in
      let x = left_of_work w in
      let mid = left_of_work rest in
      let y = view.Sep part (left_of w.goal) in
      let n = 100 * (length (work_parts w) + 1) in
      let b_rules = length rest.held * (100 * length (work_parts rest) + 101) in
      let d = height w + 10 in
      let fewer_parts : length (work_parts rest) ≤ length (work_parts w) = omega (arith, count rest, count w, rest_length) in
      let grown : b_rules ≤ length rest.held * (100 * length (work_parts w) + 101) = times_grow (length rest.held) (100 * length (work_parts rest) + 101) (100 * length (work_parts w) + 101) (omega (arith, fewer_parts)) in
      let total : n + b_rules + 1 ≤ length w.held * (100 * length (work_parts w) + 101) =
      subst (λ h. n + b_rules + 1 ≤ h * (100 * length (work_parts w) + 101)) rest_length (omega (arith, grown, one_more_time (length rest.held) (100 * length (work_parts w) + 101))) in
      let part_low : depth_of part ≤ height w = omega (arith, b.part_depth, rest_height) in
      let m1 : Proves Every (conclusion lost) [] n d k lost = subst (λ e. Proves Every e [] n d k lost) (sym m.concludes) (weaker Every (entail k x mid) [] n (star_room x mid) k n d k lost (omega arith) (omega (arith, star_height w, star_height rest, rest_height)) (omega arith) m) in
      let b1 : Proves Every (conclusion beside) [] b_rules d k beside = subst (λ e. Proves Every e [] b_rules d k beside) (sym b.proves.concludes) (weaker Every (entail k mid y) [] b_rules (height rest + 10) k b_rules d k beside (omega arith) (omega (arith, rest_height)) (omega arith) b.proves) in
      let over : across lost beside ≡ entail k x y = ap₂ (λ (e f : Entail). entail e.vars e.left f.right) m.concludes b.proves.concludes in
      let whole : star (work_parts w) ≡ x = work_star w in
      let mid_scoped : (preds : Preds) → Scoped preds k x → Scoped preds k mid = λ preds s.
      subst (Scoped preds k) lost_star (star_scoped preds k (without (work_parts w) (length (parts w.goal) + length fewer)) (all_without (Scoped preds k) (work_parts w) (length (parts w.goal) + length fewer) (scoped_star preds k (work_parts w) (subst (Scoped preds k) (sym whole) s)))) in
      let scope : ScopedWhere (across lost beside) [] (conclusion lost) =
      subst (λ e. ScopedWhere e [] (conclusion lost)) (sym over) (subst (λ e. ScopedWhere (entail k x y) [] e) (sym m.concludes) (λ preds es gs. (es.0, mid_scoped preds es.0))) in
      let all : Proves Every (across lost beside) [] (n + b_rules + 1) d k t = chain Every [] [] n b_rules d k m1 b1 scope in
      record {
        proves = weaker Every (entail k x y) [] (n + b_rules + 1) d k (length w.held * (100 * length (work_parts w) + 101)) d k t total (omega arith) (omega arith) (subst (λ e. Proves Every e [] (n + b_rules + 1) d k t) over all);
        scoped = λ preds s. b.scoped preds (mid_scoped preds s);
        part_depth = part_low;
        left_depth = goal_deep w;
      }

pub some_held : (w : Work) (l : Held) → IsLast w l → 1 ≤ length w.held
some_held w l is = omega (arith, ap length (held_is w l is), length-append (all_but_last w.held) (l ∷ []))

-- ---- of the work that was made

module _ (w made : Work) (l : Held) (is : IsLast w l) (several : 1 < length w.held) (made_is : made ≡ one_fewer w l) where
  pub made_fewer : length made.held < length w.held
  made_fewer = subst (λ (x : Work). length x.held < length w.held) (sym made_is) (rest_fewer w l is several)

  pub made_hypotheses : hypotheses made ≤ hypotheses w
  made_hypotheses = subst (λ (x : Work). hypotheses x ≤ hypotheses w) (sym made_is) (rest_hypotheses w l is several)

  pub made_vars : length made.goal.vars ≡ length w.goal.vars
  made_vars = ap (λ (x : Work). length x.goal.vars) made_is

  pub made_last : IsLast made l
  made_last = subst (λ x. IsLast x l) (sym made_is) (rest_last w l is several)

  pub made_meets : (part : Formula) (place n : ℕ) (lost beside : Tree) → place ≡ last_place w → n ≡ place - 1
      → Moves (length w.goal.vars) (length (work_parts w)) (left_of_work w) (star (without (work_parts w) n)) lost → IsBeside made part beside
      → (conclusion beside).left ≡ (conclusion lost).right
  made_meets part place n lost beside at less m b =
      let moved = lost_moves w l is several place n lost at less m in
      ap (λ (e : Entail). e.left) b.proves.concludes ∙ ap left_of_work made_is ∙ sym (ap (λ (e : Entail). e.right) moved.concludes)

  pub made_beside : (part : Formula) (place n : ℕ) (lost beside t : Tree) → place ≡ last_place w → n ≡ place - 1
      → Moves (length w.goal.vars) (length (work_parts w)) (left_of_work w) (star (without (work_parts w) n)) lost → IsBeside made part beside → ChainProves lost beside t → IsBeside w part t
  made_beside part place n lost beside t at less m b chain =
      more_beside w l is several part lost beside t (subst (λ x. IsBeside x part beside) made_is b) (lost_moves w l is several place n lost at less m) chain
