-- What making a fact of the last in hand answers.
use Rattle.std.proofs.Common.{◌≡◌, ℕ, zero, suc, ◌+◌, ◌*◌, ◌<◌, ◌≤◌, max, true, false, List, [], ◌∷◌, ◌++◌, length, length-append, map, insert, set, inl, inr, refl, sym, ◌∙◌, ap, ap₂, subst, arith, Option, Some, None}
use Rattle.std.specs.Prelude.{Result, Err}
use Rattle.std.specs.List.{AllByRecursion}
use Rattle.pm_logic.specs.declared.formula.Pure.{Pure}
use Rattle.pm_logic.specs.declared.formula.Formula.{Formula}
use Rattle.pm_logic.specs.declared.formula.Formula.TheVariants.{Pure as Assert}
use Rattle.pm_logic.specs.declared.formula.Formula.TheViews as view
use Rattle.pm_logic.specs.Size.{depth_of, nodes_of}
use Rattle.pm_logic.specs.Scope.{Scoped}
use Rattle.pm_logic.proofs.Sizes.{nodes_modal}
use Rattle.pm_rules.specs.declared.rules.Entail.{Entail}
use Rattle.pm_goal.specs.declared.goal.Fact.{Fact}
use Rattle.pm_goal.specs.declared.work.Kind.{Kind}
use Rattle.pm_goal.specs.declared.work.Kind.TheVariants.{Int, Spat}
use Rattle.pm_goal.specs.declared.work.Held.{Held}
use Rattle.pm_goal.specs.declared.work.Work.{Work}
use Rattle.pm_goal.specs.declared.refusal.Row.TheVariants.{NotPure, NameInUse}
use Rattle.pm_goal.specs.declared.refusal.StepFault.{StepFault}
use Rattle.pm_goal.specs.declared.refusal.StepFault.TheVariants as fault
use Rattle.pm_goal.specs.Left.{of_kind, facts, hyps, left_of_work}
use Rattle.pm_proof.specs.Trees.{Tree, entail, conclusion}
use Rattle.pm_proof.specs.Valid.{EntailScoped}
use Rattle.pm_proof.specs.Known.{Proves, Extends, Every, ScopedWhere}
use Rattle.pm_proof.specs.declared.proof.Parts.{Parts}
use Rattle.pm_proof.proofs.Fills.{weaker, extends_weaker, extends_proves}
use Rattle.pm_star.specs.Stars.{star, work_parts, part_at, room as star_room, Moves, MovesBy}
use Rattle.pm_star.specs.Chains.{Follows, ChainProves, across, moved}
use Rattle.pm_star.proofs.Contexts.{work_star}
use Rattle.pm_star.proofs.Scoping.{star_scoped, scoped_star, depth_box}
use Rattle.pm_star.proofs.Places.{gains_fact}
use Rattle.pm_classes.specs.declared.entry.OnePure.{OnePure}
use Rattle.pm_classes.specs.Classes.{into_pure}
use Rattle.pm_classes.proofs.Table.{of_pers}
use Rattle.pm_classes.specs.Entries.{IntoPureAnswer, PureAnswers, into_pure_says}
use Rattle.pm_table.specs.declared.place.Place.{Place}
use Rattle.pm_table.specs.declared.place.Place.TheVariants.{Current as current}
use Rattle.pm_table.specs.Outcomes.{one, require, require_entry}
use Rattle.pm_table.specs.Limits.{limited, formulas, all_nodes, greatest_depth, work_formulas, hypotheses}
use Rattle.pm_table.specs.Works.{Named, fits, fact, with_fact, holding, work_of}
use Rattle.pm_table.specs.Destructs as table
use Rattle.pm_action.specs.Meanings.{height, room, width}
use Rattle.pm_action.specs.Acting.{Answers, Refuses, IsLast, MovesTo, all_but_last, last_place, plainly}
use Rattle.pm_action.proofs.Sums.{depth_append}
use Rattle.pm_action.proofs.Filtered.{hand_is}
use Rattle.pm_action.proofs.Heights.{star_height, parts_nodes, parts_are}
use Rattle.pm_action.proofs.Hands.{with_last_is, held_is, without_last, part_last, last_within, star_is}
use Rattle.pm_action.proofs.Moves.{few}
use Rattle.pm_hand.specs.Changed.{relast, known, last_says, GivesOne, BecomesOne, LeadsBy}
use Rattle.pm_hand.proofs.Answered.{refuses}
use Rattle.pm_hand.proofs.Lasts.{goal_count}
use Rattle.pm_hand.proofs.Relasts.{all_but_end, relast_parts, says_scoped, last_depth, last_nodes}

-- ---- the fact goes to the others

pub relast_last : (w : Work) (k : Kind) (f : Formula) → IsLast (relast w k f) (holding k f)
relast_last w k f =
    hand_is (relast w k f).held (all_but_last w.held) (holding k f) refl
    ∙ ap (λ os. Some (record { others = os; last = holding k f })) (sym (all_but_end (all_but_last w.held) (holding k f)))

known_parts : (w : Work) (name : Named) (p : Pure) → work_parts (known w name p) ≡ moved (work_parts (relast w Spat (Assert p))) (last_place (relast w Spat (Assert p))) (length w.goal.pures)
known_parts w name p =
    let middle = relast w Spat (Assert p) in
    let is = relast_last w Spat (Assert p) in
    gains_fact (work_of w.goal (all_but_last w.held)) (known w name p) (fact name p) refl refl refl refl
    ∙ ap₂ (λ hs f. insert (work_parts (work_of w.goal hs)) (length w.goal.pures) f) (sym (all_but_end (all_but_last w.held) (holding Spat (Assert p)))) (sym (part_last middle (holding Spat (Assert p)) is))
    ∙ ap (λ fs. insert fs (length w.goal.pures) (part_at (work_parts middle) (last_place middle))) (without_last middle (holding Spat (Assert p)) is)

held_count : (w : Work) (l : Held) → IsLast w l → length w.held ≡ length (all_but_last w.held) + 1
held_count w l is = ap length (held_is w l is) ∙ length-append (all_but_last w.held) (l ∷ [])

relast_count : (w : Work) (l : Held) (k : Kind) (f : Formula) → IsLast w l → hypotheses (relast w k f) ≡ hypotheses w
relast_count w l k f is = omega (arith, held_count w l is, length-append (all_but_last w.held) (holding k f ∷ []))

known_count : (w : Work) (l : Held) (name : Named) (p : Pure) → IsLast w l → hypotheses (known w name p) ≡ hypotheses w
known_count w l name p is = omega (arith, held_count w l is, length-append w.goal.pures (fact name p ∷ []))

pub known_moves : (w middle : Work) (l : Held) (name : Named) (p : Pure) (from place : ℕ) (t : Tree) → IsLast w l → middle ≡ relast w Spat (Assert p) → from ≡ last_place middle → place ≡ length w.goal.pures
    → Moves (length middle.goal.vars) (length (work_parts middle)) (left_of_work middle) (star (moved (work_parts middle) from place)) t
    → Moves (length w.goal.vars) (length (work_parts w)) (left_of_work (relast w Spat (Assert p))) (left_of_work (known w name p)) t
known_moves w middle l name p from place t is m_is from_is place_is m =
    let mid = relast w Spat (Assert p) in
    let n : length (work_parts mid) ≡ length (work_parts w) = parts_are mid ∙ relast_count w l Spat (Assert p) is ∙ sym (parts_are w) in
    let from_at : from ≡ last_place mid = from_is ∙ ap last_place m_is in
    subst (λ r. Moves (length w.goal.vars) (length (work_parts w)) (left_of_work mid) r t)
    (ap₂ (λ i j. star (moved (work_parts mid) i j)) from_at place_is ∙ star_is (known w name p) (moved (work_parts mid) (last_place mid) (length w.goal.pures)) (known_parts w name p))
    (subst (λ c. Moves (length w.goal.vars) c (left_of_work mid) (star (moved (work_parts mid) from place)) t) n
    (subst (λ x. Moves (length x.goal.vars) (length (work_parts x)) (left_of_work x) (star (moved (work_parts x) from place)) t) m_is m))

-- the places of the call are in the star
pub known_within : (w middle : Work) (p : Pure) (from place : ℕ) → middle ≡ relast w Spat (Assert p) → from ≡ last_place middle → place ≡ length w.goal.pures → (from < length (work_parts middle)) × (place < length (work_parts middle))
known_within w middle p from place m_is from_is place_is =
    let mid = relast w Spat (Assert p) in
    let lt : last_place mid < length (work_parts mid) = last_within mid (holding Spat (Assert p)) (relast_last w Spat (Assert p)) in
    subst (λ x. (last_place x ≡ from) → (from < length (work_parts x)) × (place < length (work_parts x))) (sym m_is) (λ e. (omega (arith, e, lt), omega (arith, place_is, lt, goal_count w.goal))) (sym from_is)

-- ---- how deep it is on the way

behind_deep : (hs : List Held) (l : Held) → greatest_depth (map (λ (h : Held). h.formula) (hs ++ l ∷ [])) ≡ max (greatest_depth (map (λ (h : Held). h.formula) hs)) (depth_of l.formula)
behind_deep [] l = omega arith
behind_deep (h ∷ hs) l = omega (arith, behind_deep hs l)

fact_deep : (fs : List Fact) (f : Fact) (rest : List Formula) → depth_of (Assert f.pure) ≤ greatest_depth (facts (fs ++ f ∷ []) ++ rest)
fact_deep [] f rest = omega arith
fact_deep (g ∷ fs) f rest = omega (arith, fact_deep fs f rest)

known_deep : (w : Work) (name : Named) (p : Pure) → depth_of (Assert p) ≤ greatest_depth (work_formulas (known w name p))
known_deep w name p =
    let g = with_fact name p w.goal in
    omega (arith, fact_deep w.goal.pures (fact name p) (hyps g.ints ++ (hyps g.spats ++ (g.concl ∷ []))), depth_append (formulas g) (map (λ (h : Held). h.formula) (all_but_last w.held)))

middle_height : (w : Work) (l : Held) (name : Named) (p : Pure) → IsLast w l → height (relast w Spat (Assert p)) ≤ max (height w) (height (known w name p))
middle_height w l name p is =
    let mid = relast w Spat (Assert p) in
    let all_w : greatest_depth (work_formulas w) ≡ max (greatest_depth (formulas w.goal)) (greatest_depth (map (λ (h : Held). h.formula) w.held)) = depth_append (formulas w.goal) (map (λ (h : Held). h.formula) w.held) in
    let all_mid : greatest_depth (work_formulas mid) ≡ max (greatest_depth (formulas w.goal)) (greatest_depth (map (λ (h : Held). h.formula) mid.held)) = depth_append (formulas w.goal) (map (λ (h : Held). h.formula) mid.held) in
    let held_w : greatest_depth (map (λ (h : Held). h.formula) w.held) ≡ max (greatest_depth (map (λ (h : Held). h.formula) (all_but_last w.held))) (depth_of l.formula) = ap (λ hs. greatest_depth (map (λ (h : Held). h.formula) hs)) (held_is w l is) ∙ behind_deep (all_but_last w.held) l in
    omega (arith, all_w, all_mid, held_w, behind_deep (all_but_last w.held) (holding Spat (Assert p)), known_deep w name p, relast_count w l Spat (Assert p) is, known_count w l name p is)

-- ---- where it is scoped

all_set : (P : Formula → Type 0) (fs : List Formula) (i : ℕ) (f : Formula) → AllByRecursion P fs → P f → AllByRecursion P (set fs i f)
all_set P [] i f a p = tt
all_set P (g ∷ fs) zero f a p = (p, a.1)
all_set P (g ∷ fs) (suc i) f a p = (a.0, all_set P fs i f a.1 p)

pub inserted : (P : Formula → Type 0) (fs : List Formula) (i : ℕ) (f : Formula) → AllByRecursion P (insert fs i f) → P f
inserted P fs zero f a = a.0
inserted P [] (suc i) f a = a.0
inserted P (g ∷ fs) (suc i) f a = inserted P fs i f a.1

middle_scoped : (w : Work) (l : Held) (name : Named) (p : Pure) → IsLast w l → ScopedWhere (entail (length w.goal.vars) (left_of_work w) (left_of_work (known w name p))) [] (entail (length w.goal.vars) (left_of_work w) (left_of_work (relast w Spat (Assert p))))
middle_scoped w l name p is preds e hs =
    let k = length w.goal.vars in
    let new = known w name p in
    let old_parts : AllByRecursion (Scoped preds k) (work_parts w) = scoped_star preds k (work_parts w) (subst (Scoped preds k) (sym (work_star w)) e.0) in
    let new_parts : AllByRecursion (Scoped preds k) (work_parts new) = scoped_star preds k (work_parts new) (subst (Scoped preds k) (sym (work_star new)) e.1) in
    let here : Scoped preds k (Assert p) = inserted (Scoped preds k) (work_parts (work_of w.goal (all_but_last w.held))) (length w.goal.pures) (Assert p) (subst (AllByRecursion (Scoped preds k)) (gains_fact (work_of w.goal (all_but_last w.held)) new (fact name p) refl refl refl refl) new_parts) in
    (e.0, subst (Scoped preds k) (star_is (relast w Spat (Assert p)) (set (work_parts w) (last_place w) (Assert p)) (relast_parts w l is Spat (Assert p))) (star_scoped preds k (set (work_parts w) (last_place w) (Assert p)) (all_set (Scoped preds k) (work_parts w) (last_place w) (Assert p) old_parts here)))

-- ---- both moves

pub leads : (w : Work) (l : Held) (name : Named) (p : Pure) (by a b t : Tree) → IsLast w l → conclusion by ≡ last_says w l Spat (Assert p)
    → MovesBy by (length w.goal.vars) (length (work_parts w)) (left_of_work w) (left_of_work (relast w Spat (Assert p))) a
    → Moves (length w.goal.vars) (length (work_parts w)) (left_of_work (relast w Spat (Assert p))) (left_of_work (known w name p)) b
    → Follows a b t → ChainProves a b t → LeadsBy w (known w name p) by t
leads w l name p by a b t is says m1 m2 follows chain =
    let k = length w.goal.vars in
    let x = left_of_work w in
    let y = left_of_work (relast w Spat (Assert p)) in
    let z = left_of_work (known w name p) in
    let N = length (work_parts w) in
    let D = room w (current [] (known w name p) ∷ []) in
    let c = 100 * (N + 1) in
    let over : across a b ≡ entail k x z = ap₂ (λ (e g : Entail). entail e.vars e.left g.right) m1.concludes m2.concludes in
    let mid_height : height (relast w Spat (Assert p)) ≤ max (height w) (height (known w name p)) = middle_height w l name p is in
    let near1 : star_room x y ≤ D = omega (arith, mid_height, star_height w, star_height (relast w Spat (Assert p))) in
    let near2 : star_room y z ≤ D = omega (arith, mid_height, star_height (known w name p), star_height (relast w Spat (Assert p))) in
    let b1 : Proves Every (conclusion b) [] c D (width w) b = subst (λ e. Proves Every e [] c D (width w) b) (sym m2.concludes) (weaker Every (entail k y z) [] c (star_room y z) k c D (width w) b (omega arith) near2 (omega arith) m2) in
    let a1 : Extends by (entail k x y) c D (width w) a = extends_weaker by a (entail k x y) c (star_room x y) k c D (width w) (omega arith) near1 (omega arith) m1 in
    record {
      concludes = follows.concludes ∙ over;
      proves = λ n d proved deep.
          let by1 : Proves Every (conclusion by) [] n D (width w) by = weaker Every (conclusion by) [] n d (width w) n D (width w) by (omega arith) deep (omega arith) proved in
          let first : Proves Every (entail k x y) [] (n + c) D (width w) a = extends_proves Every by a (conclusion by) (entail k x y) [] n c D (width w) by1 a1 (λ preds e hs. subst (EntailScoped preds) (sym says) (says_scoped w l is Spat (Assert p) preds e hs)) in
          let first1 : Proves Every (conclusion a) [] (n + c) D (width w) a = subst (λ e. Proves Every e [] (n + c) D (width w) a) (sym m1.concludes) first in
          let scope : ScopedWhere (across a b) [] (conclusion a) = subst (λ e. ScopedWhere e [] (conclusion a)) (sym over) (subst (λ e. ScopedWhere (entail k x z) [] e) (sym m1.concludes) (middle_scoped w l name p is)) in
          let all : Proves Every (across a b) [] (n + c + c + 1) D (width w) t = chain Every [] [] (n + c) c D (width w) first1 b1 scope in
          subst (λ e. Proves Every e [] (n + 200 * N + 201) D (width w) t) (sym follows.concludes) (weaker Every (across a b) [] (n + c + c + 1) D (width w) (n + 200 * N + 201) D (width w) t (omega arith) (omega arith) (omega arith) all);
    }

pub known_becomes : (w new : Work) (name : Named) (p : Pure) (by t : Tree) (r : Result (Parts Place) StepFault) → new ≡ known w name p → LeadsBy w (known w name p) by t → MovesTo w new t r → BecomesOne w (known w name p) by r
known_becomes w new name p by t r new_is m to n d proved fit deep =
    let s = all_nodes (work_formulas w) in
    let c = n + 200 * length (work_parts w) + 201 in
    subst (λ x. MovesTo w x t r) new_is to s c (few s (suc c) (omega (arith, fit, parts_nodes w))) (m.proves n d proved deep)

-- ---- what it answers

pure_row : (w : Work) (l : Held) (name : Named) → IsLast w l → table.to_pure name w ≡ require_entry (into_pure l.formula) NotPure (λ p. require (fits w.goal name) NameInUse name (one (known w name p)))
pure_row w l name is = with_last_is w (λ hand. require_entry (into_pure hand.last.formula) NotPure (λ p. require (fits w.goal name) NameInUse name (one (work_of (with_fact name p w.goal) hand.others)))) l is

-- the box is passed
under_box : (k : Kind) (f : Formula) → into_pure (of_kind k f) ≡ into_pure f
under_box Int f = of_pers f
under_box Spat f = refl

abbrev Entry : Work → Held → Option Pure → Option OnePure → Type 0
Entry w l o r = PureAnswers (into_pure_says (length w.goal.vars) (of_kind l.kind l.formula)) (length w.goal.vars) (of_kind l.kind l.formula) o r

entry_is : (w : Work) (l : Held) (r : Option OnePure) → IntoPureAnswer (length w.goal.vars) (of_kind l.kind l.formula) r → Entry w l (into_pure l.formula) r
entry_is w l r a = subst (λ o. Entry w l o r) (under_box l.kind l.formula) a

pub entry_says : (w : Work) (l : Held) (x : OnePure) → IntoPureAnswer (length w.goal.vars) (of_kind l.kind l.formula) (Some x) → conclusion x.proof ≡ last_says w l Spat (Assert x.pure)
entry_says w l x a = by (into_pure l.formula) (entry_is w l (Some x) a)
  where
    by : (o : Option Pure) → Entry w l o (Some x) → conclusion x.proof ≡ last_says w l Spat (Assert x.pure)
    by None a = absurd a
    by (Some p) a = a.proof.concludes ∙ ap (λ q. entail (length w.goal.vars) (of_kind l.kind l.formula) (Assert q)) (sym a.pure)

pub not_pure : (w : Work) (l : Held) (name : Named) (f : StepFault) → IsLast w l → IntoPureAnswer (length w.goal.vars) (of_kind l.kind l.formula) None → f ≡ fault.Refused (plainly NotPure) → Answers (all_nodes (work_formulas w)) w (limited (table.to_pure name w)) (Err f)
not_pure w l name f is a e =
    subst (λ o. Answers (all_nodes (work_formulas w)) w (limited o) (Err f)) (sym (pure_row w l name is)) (by (into_pure l.formula) (entry_is w l None a))
  where
    by : (o : Option Pure) → Entry w l o None → Answers (all_nodes (work_formulas w)) w (limited (require_entry o NotPure (λ p. require (fits w.goal name) NameInUse name (one (known w name p))))) (Err f)
    by None a = rw e refl
    by (Some p) a = absurd a

pub name_taken : (w : Work) (l : Held) (name : Named) (x : OnePure) (f : StepFault) → IsLast w l → IntoPureAnswer (length w.goal.vars) (of_kind l.kind l.formula) (Some x) → fits w.goal name ≡ false → Refuses NameInUse name f → Answers (all_nodes (work_formulas w)) w (limited (table.to_pure name w)) (Err f)
name_taken w l name x f is a taken e =
    subst (λ o. Answers (all_nodes (work_formulas w)) w (limited o) (Err f)) (sym (pure_row w l name is)) (by (into_pure l.formula) (entry_is w l (Some x) a))
  where
    by : (o : Option Pure) → Entry w l o (Some x) → Answers (all_nodes (work_formulas w)) w (limited (require_entry o NotPure (λ p. require (fits w.goal name) NameInUse name (one (known w name p))))) (Err f)
    by None a = absurd a
    by (Some p) a = subst (λ b. Answers (all_nodes (work_formulas w)) w (limited (require b NameInUse name (one (known w name p)))) (Err f)) (sym taken) (refuses (all_nodes (work_formulas w)) w NameInUse name f e)

part_nodes : (w : Work) (l : Held) → IsLast w l → nodes_of (of_kind l.kind l.formula) ≤ suc (all_nodes (work_formulas w))
part_nodes w l is = by l.kind
  where
    by : (k : Kind) → nodes_of (of_kind k l.formula) ≤ suc (all_nodes (work_formulas w))
    by Int = omega (arith, nodes_modal (view.Pers l.formula) l.formula (inr (inl refl)), last_nodes w l is)
    by Spat = omega (arith, last_nodes w l is)

part_depth : (w : Work) (l : Held) → IsLast w l → depth_of (of_kind l.kind l.formula) ≤ suc (greatest_depth (work_formulas w))
part_depth w l is = by l.kind
  where
    by : (k : Kind) → depth_of (of_kind k l.formula) ≤ suc (greatest_depth (work_formulas w))
    by Int = omega (arith, depth_box l.formula, last_depth w l is)
    by Spat = omega (arith, last_depth w l is)

pub pure_given : (w : Work) (l : Held) (name : Named) (x : OnePure) (r : Result (Parts Place) StepFault) → IsLast w l → IntoPureAnswer (length w.goal.vars) (of_kind l.kind l.formula) (Some x) → fits w.goal name ≡ true → BecomesOne w (known w name x.pure) x.proof r → Answers (all_nodes (work_formulas w)) w (limited (table.to_pure name w)) r
pure_given w l name x r is a free b =
    subst (λ o. Answers (all_nodes (work_formulas w)) w (limited o) r) (sym (pure_row w l name is)) (by (into_pure l.formula) (entry_is w l (Some x) a))
  where
    by : (o : Option Pure) → Entry w l o (Some x) → Answers (all_nodes (work_formulas w)) w (limited (require_entry o NotPure (λ p. require (fits w.goal name) NameInUse name (one (known w name p))))) r
    by None a = absurd a
    by (Some p) a =
        let part = of_kind l.kind l.formula in
        let e = into_pure_says (length w.goal.vars) part p in
        let n = 200 * nodes_of part in
        let d = depth_of part + 8 in
        let proved = weaker Every e [] n d (length w.goal.vars + depth_of part) n d (width w) x.proof (omega arith) (omega arith) (omega (arith, part_depth w l is)) a.proof in
        subst (λ y. Answers (all_nodes (work_formulas w)) w (limited (require y NameInUse name (one (known w name p)))) r) (sym free)
        (subst (λ q. GivesOne w (known w name q) r) a.pure
        (b n d (subst (λ c. Proves Every c [] n d (width w) x.proof) (sym a.proof.concludes) proved) (omega (arith, part_nodes w l is)) (omega (arith, part_depth w l is))))
