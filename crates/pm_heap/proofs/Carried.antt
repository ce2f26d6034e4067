-- The works on the way, in which hypotheses are in hand one after another, and one proof after another.
use Rattle.std.proofs.Common.{◌≡◌, ℕ, zero, suc, ◌+◌, ◌*◌, ◌<◌, ◌≤◌, ◌^◌, List, [], ◌∷◌, ◌++◌, length, insert, refl, sym, ◌∙◌, ap, ap₂, subst, arith}
use Rattle.std.specs.List.{AllByRecursion}
use Rattle.pm_logic.specs.declared.formula.Formula.{Formula}
use Rattle.pm_logic.specs.declared.formula.Formula.TheViews as view
use Rattle.pm_logic.specs.declared.formula.Preds.{Preds}
use Rattle.pm_logic.specs.Scope.{Scoped}
use Rattle.pm_logic.specs.Size.{depth_of}
use Rattle.pm_classes.proofs.Sizes.{has_levels}
use Rattle.pm_rules.specs.declared.rules.Entail.{Entail}
use Rattle.pm_goal.specs.declared.work.Kind.TheVariants as kind
use Rattle.pm_goal.specs.declared.work.Work.{Work}
use Rattle.pm_goal.specs.Left.{left_of_work}
use Rattle.pm_proof.specs.Trees.{Tree, entail, conclusion}
use Rattle.pm_proof.specs.Valid.{EntailScoped}
use Rattle.pm_proof.specs.Known.{Proves, Every, ScopedWhere}
use Rattle.pm_proof.proofs.Fills.{weaker}
use Rattle.pm_star.specs.Stars.{star, parts, work_parts, part_at, without, room as star_room, Moves}
use Rattle.pm_star.specs.Chains.{ChainProves, across}
use Rattle.pm_star.proofs.Contexts.{work_star}
use Rattle.pm_star.proofs.Scoping.{star_scoped, scoped_star, all_insert, all_without, star_within}
use Rattle.pm_star.proofs.Places.{gains_held, loses_in_goal, in_goal_at}
use Rattle.pm_table.specs.Limits.{work_formulas, greatest_depth, hypotheses}
use Rattle.pm_table.specs.Works.{Named, hold, holding}
use Rattle.pm_action.specs.Meanings.{height}
use Rattle.pm_action.proofs.Heights.{star_height, concl_depth, parts_are}
use Rattle.pm_hand.specs.Changed.{less}
use Rattle.pm_hand.specs.Looking.{IsAt}
use Rattle.pm_hand.proofs.Handing.{inside}
use Rattle.pm_heap.specs.Taken.{taken, TakesBoth}
use Rattle.pm_heap.proofs.Members.{parts_deep}

-- ---- one proof after another

pub chained : (k n m c d q : ℕ) (x y z : Formula) (hs : List Entail) (a b t : Tree)
    → Proves Every (entail k x y) [] n d q a → Proves Every (entail k y z) hs m d q b → ChainProves a b t
    → ((preds : Preds) → Scoped preds k x → Scoped preds k z → AllByRecursion (EntailScoped preds) hs → Scoped preds k y)
    → n + m + 1 ≤ c → Proves Every (entail k x z) hs c d q t
chained k n m c d q x y z hs a b t p r chain scoped le =
    let over : across a b ≡ entail k x z = ap₂ (λ (e g : Entail). entail e.vars e.left g.right) p.concludes r.concludes in
    let p1 : Proves Every (conclusion a) [] n d q a = subst (λ e. Proves Every e [] n d q a) (sym p.concludes) p in
    let r1 : Proves Every (conclusion b) hs m d q b = subst (λ e. Proves Every e hs m d q b) (sym r.concludes) r in
    let scope : ScopedWhere (across a b) hs (conclusion a) =
    subst (λ e. ScopedWhere e hs (conclusion a)) (sym over) (subst (λ e. ScopedWhere (entail k x z) hs e) (sym p.concludes) (λ preds e gs. (e.0, scoped preds e.0 e.1 gs))) in
    let all : Proves Every (across a b) hs (n + m + 1) d q t = chain Every [] hs n m d q p1 r1 scope in
    weaker Every (entail k x z) hs (n + m + 1) d q c d q t le (omega arith) (omega arith) (subst (λ e. Proves Every e hs (n + m + 1) d q t) over all)

-- what the call that puts one after another asks
pub meets : (k : ℕ) (x y z : Formula) (a b : Tree) → conclusion a ≡ entail k x y → conclusion b ≡ entail k y z → (conclusion b).left ≡ (conclusion a).right
meets k x y z a b p r = ap (λ (e : Entail). e.left) r ∙ sym (ap (λ (e : Entail). e.right) p)

pub alike : (k : ℕ) (x y z : Formula) (a b : Tree) → conclusion a ≡ entail k x y → conclusion b ≡ entail k y z → (conclusion b).vars ≡ (conclusion a).vars
alike k x y z a b p r = ap (λ (e : Entail). e.vars) r ∙ sym (ap (λ (e : Entail). e.vars) p)

-- ---- lists

pub part_all : (P : Formula → Type 0) (fs : List Formula) (i : ℕ) → i < length fs → AllByRecursion P fs → P (part_at fs i)
part_all P [] i lt a = absurd (omega (arith, lt))
part_all P (f ∷ fs) zero lt a = a.0
part_all P (f ∷ fs) (suc i) lt a = part_all P fs i (omega (arith, lt)) a.1

pub length_inserted : (fs : List Formula) (n : ℕ) (f : Formula) → length (insert fs n f) ≡ suc (length fs)
length_inserted fs zero f = refl
length_inserted [] (suc n) f = refl
length_inserted (x ∷ fs) (suc n) f = ap suc (length_inserted fs n f)

length_without : (fs : List Formula) (i : ℕ) → i < length fs → suc (length (without fs i)) ≡ length fs
length_without [] i lt = absurd (omega (arith, lt))
length_without (f ∷ fs) zero lt = refl
length_without (f ∷ fs) (suc i) lt = ap suc (length_without fs i (omega (arith, lt)))

-- ---- a hypothesis in hand

pub hold_parts : (b : Work) (f : Formula) → work_parts (hold kind.Spat f b) ≡ insert (work_parts b) (length (work_parts b)) f
hold_parts b f = gains_held b (hold kind.Spat f b) (holding kind.Spat f) refl refl

module _ (w : Work) (name : Named) (place : ℕ) (f : Formula) (at : IsAt w.goal name place f) where
  pub less_parts : work_parts (less w name) ≡ without (work_parts w) place
  less_parts = loses_in_goal w (less w name) place at.within at.rest refl

  pub less_count : suc (length (work_parts (less w name))) ≡ length (work_parts w)
  less_count = let e = ap length less_parts in omega (arith, e, length_without (work_parts w) place (inside w place at.within))

  pub less_all : (P : Formula → Type 0) → AllByRecursion P (work_parts w) → AllByRecursion P (work_parts (less w name))
  less_all P all = subst (AllByRecursion P) (sym less_parts) (all_without P (work_parts w) place all)

  taken_parts : work_parts (taken w name f) ≡ insert (without (work_parts w) place) (length (without (work_parts w) place)) f
  taken_parts = hold_parts (less w name) f ∙ ap (λ fs. insert fs (length fs) f) less_parts

  pub taken_count : length (work_parts (taken w name f)) ≡ length (work_parts w)
  taken_count =
      let e = ap length taken_parts in
      omega (arith, e, length_inserted (without (work_parts w) place) (length (without (work_parts w) place)) f, length_without (work_parts w) place (inside w place at.within))

  -- what holds of all parts holds still
  pub taken_all : (P : Formula → Type 0) → AllByRecursion P (work_parts w) → AllByRecursion P (work_parts (taken w name f))
  taken_all P all =
      let fs = work_parts w in
      subst (AllByRecursion P) (sym taken_parts)
      (all_insert P (without fs place) (length (without fs place)) f (all_without P fs place all)
      (subst P (in_goal_at w place at.within ∙ at.is) (part_all P fs place (inside w place at.within) all)))

  pub taken_few : (n : ℕ) → hypotheses w < n → hypotheses (taken w name f) < n
  taken_few n lt = omega (arith, lt, taken_count, parts_are w, parts_are (taken w name f))

-- the star of a work of no more parts that are no deeper
pub star_low : (w v : Work) → AllByRecursion (λ f. depth_of f ≤ suc (greatest_depth (work_formulas w))) (work_parts v) → length (work_parts v) ≤ length (work_parts w) → depth_of (left_of_work v) ≤ height w + 1
star_low w v all count =
    let d = suc (greatest_depth (work_formulas w)) in
    let low : 2 ≤ d = omega (arith, concl_depth w, has_levels w.goal.concl) in
    let whole : depth_of (star (work_parts v)) ≤ d + length (work_parts v) = star_within d (work_parts v) low all in
    let here : depth_of (left_of_work v) ≤ d + length (work_parts v) = subst (λ f. depth_of f ≤ d + length (work_parts v)) (work_star v) whole in
    omega (arith, here, count, parts_are w)

pub all_of_star : (preds : Preds) (k : ℕ) (w : Work) → Scoped preds k (left_of_work w) → AllByRecursion (Scoped preds k) (work_parts w)
all_of_star preds k w s = scoped_star preds k (work_parts w) (subst (Scoped preds k) (sym (work_star w)) s)

pub star_of_all : (preds : Preds) (k : ℕ) (w : Work) → AllByRecursion (Scoped preds k) (work_parts w) → Scoped preds k (left_of_work w)
star_of_all preds k w a = subst (Scoped preds k) (work_star w) (star_scoped preds k (work_parts w) a)

-- ---- both in hand

module _ (w : Work) (a b : Named) (p1 p2 : ℕ) (f g : Formula) (first : IsAt w.goal a p1 f) (second : IsAt (taken w a f).goal b p2 g) where
  abbrev pub one : Work
  one = taken w a f

  abbrev pub two : Work
  two = taken (taken w a f) b g

  pub two_count : length (work_parts two) ≡ length (work_parts w)
  two_count = taken_count one b p2 g second ∙ taken_count w a p1 f first

  pub two_all : (P : Formula → Type 0) → AllByRecursion P (work_parts w) → AllByRecursion P (work_parts two)
  two_all P all = taken_all one b p2 g second P (taken_all w a p1 f first P all)

  one_low : depth_of (left_of_work one) ≤ height w + 1
  one_low = star_low w one (taken_all w a p1 f first (λ x. depth_of x ≤ suc (greatest_depth (work_formulas w))) (parts_deep w)) (omega (arith, taken_count w a p1 f first))

  pub two_low : depth_of (left_of_work two) ≤ height w + 1
  two_low = star_low w two (two_all (λ x. depth_of x ≤ suc (greatest_depth (work_formulas w))) (parts_deep w)) (omega (arith, two_count))

  pub takes_both : (x y t : Tree)
      → Moves (length w.goal.vars) (length (work_parts w)) (left_of_work w) (left_of_work one) x
      → Moves (length w.goal.vars) (length (work_parts one)) (left_of_work one) (left_of_work two) y
      → ChainProves x y t → TakesBoth w two t
  takes_both x y t m1 m2 chain =
      let k = length w.goal.vars in
      let n = 100 * (length (work_parts w) + 1) in
      let d = height w + 12 in
      let q1 : Proves Every (entail k (left_of_work w) (left_of_work one)) [] n d k x =
      weaker Every (entail k (left_of_work w) (left_of_work one)) [] n (star_room (left_of_work w) (left_of_work one)) k n d k x (omega arith) (omega (arith, star_height w, one_low)) (omega arith) m1 in
      let q2 : Proves Every (entail k (left_of_work one) (left_of_work two)) [] n d k y =
      weaker Every (entail k (left_of_work one) (left_of_work two)) [] (100 * (length (work_parts one) + 1)) (star_room (left_of_work one) (left_of_work two)) k n d k y (omega (arith, taken_count w a p1 f first)) (omega (arith, one_low, two_low)) (omega arith) m2 in
      chained k n n (200 * length (work_parts w) + 201) d k (left_of_work w) (left_of_work one) (left_of_work two) [] x y t q1 q2 chain
      (λ preds s r hs. star_of_all preds k one (taken_all w a p1 f first (Scoped preds k) (all_of_star preds k w s))) (omega arith)
