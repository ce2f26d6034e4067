-- Works whose last in hand is gone, or is another formula.
use Rattle.std.proofs.Common.{◌≡◌, ℕ, zero, suc, ◌+◌, ◌-◌, ◌<◌, ◌≤◌, List, [], ◌∷◌, ◌++◌, length, length-append, map, take, set, refl, sym, ◌∙◌, ap, ap₂, subst, arith, Option, Some, None, slice_get, le_refl}
use Rattle.std.specs.Prelude.{Result}
use Rattle.std.specs.List.{AllByRecursion}
use Rattle.std.proofs.lemmas.List.{append-nil}
use Rattle.pm_logic.specs.declared.formula.Formula.{Formula}
use Rattle.pm_logic.specs.declared.formula.Preds.{Preds}
use Rattle.pm_logic.specs.Scope.{Scoped, ScopedIn}
use Rattle.pm_logic.specs.Size.{depth_of, nodes_of}
use Rattle.pm_goal.specs.declared.work.Kind.{Kind}
use Rattle.pm_goal.specs.declared.work.Held.{Held}
use Rattle.pm_goal.specs.declared.work.Work.{Work}
use Rattle.pm_goal.specs.declared.refusal.StepFault.{StepFault}
use Rattle.pm_rules.specs.declared.rules.Entail.{Entail}
use Rattle.pm_goal.specs.Left.{of_kind, held_parts, left_of_work}
use Rattle.pm_proof.specs.Trees.{Tree, entail, conclusion}
use Rattle.pm_proof.specs.Valid.{EntailScoped}
use Rattle.pm_proof.specs.Known.{ScopedWhere}
use Rattle.pm_proof.specs.declared.proof.Parts.{Parts}
use Rattle.pm_star.specs.Stars.{star, parts, work_parts, part_at, without, Moves, MovesBy}
use Rattle.pm_star.specs.Levels.{left_side, right_side}
use Rattle.pm_star.proofs.Contexts.{work_star}
use Rattle.pm_star.proofs.Scoping.{scoped_star, part_scoped}
use Rattle.pm_star.proofs.Places.{held_at}
use Rattle.pm_table.specs.declared.place.Place.{Place}
use Rattle.pm_table.specs.Outcomes.{one}
use Rattle.pm_table.specs.Limits.{limited, formulas, all_nodes, greatest_depth, work_formulas}
use Rattle.pm_table.specs.Works.{Hand, behind, hand_or, hand_of, holding, work_of}
use Rattle.pm_table.specs.Destructs as table
use Rattle.pm_action.specs.Acting.{Answers, IsLast, MovesTo, all_but_last, last_place}
use Rattle.pm_action.proofs.Sums.{nodes_append, depth_append}
use Rattle.pm_action.proofs.Filtered.{in_hand}
use Rattle.pm_action.proofs.Hands.{with_last_is, held_is, without_last, part_last, star_is}
use Rattle.pm_action.proofs.Moves.{moves_by_answer}
use Rattle.pm_hand.specs.Changed.{dropped, relast, last_says, Becomes, BecomesOne}
use Rattle.pm_hand.proofs.Names.{moved_gives}

-- ---- something is last in hand

pick : (h : Held) (o : Option Hand) → (hand : Hand) × (hand_or h o ≡ Some hand)
pick h None = (record { others = []; last = h }, refl)
pick h (Some x) = (behind h x, refl)

front : (hs : List Held) (l : Held) → take (length hs) (hs ++ l ∷ []) ≡ hs
front [] l = refl
front (h ∷ hs) l = ap (λ xs. h ∷ xs) (front hs l)

pub all_but_end : (hs : List Held) (l : Held) → all_but_last (hs ++ l ∷ []) ≡ hs
all_but_end hs l =
    let n : length (hs ++ l ∷ []) - 1 ≡ length hs = omega (arith, length-append hs (l ∷ [])) in
    ap (λ i. take i (hs ++ l ∷ [])) n ∙ front hs l

pub some_last : (w : Work) → 0 < length w.held → (l : Held) × IsLast w l
some_last w some = by w.held some
  where
    by : (hs : List Held) → 0 < length hs → (l : Held) × (hand_of hs ≡ Some (record { others = all_but_last hs; last = l }))
    by [] lt = absurd (omega (arith, lt))
    by (h ∷ hs) lt =
        let found = pick h (hand_of hs) in
        let others_is : all_but_last (h ∷ hs) ≡ found.0.others = ap all_but_last (in_hand (h ∷ hs) found.0 found.1) ∙ all_but_end found.0.others found.0.last in
        (found.0.last, found.1 ∙ ap (λ os. Some (record { others = os; last = found.0.last })) (sym others_is))

-- ---- it is dropped

pub dropped_moves : (w : Work) (place : ℕ) (p : Tree) → 0 < length w.held → place ≡ last_place w
    → Moves (length w.goal.vars) (length (work_parts w)) (left_of_work w) (star (without (work_parts w) place)) p
    → Moves (length w.goal.vars) (length (work_parts w)) (left_of_work w) (left_of_work (dropped w)) p
dropped_moves w place p some at m =
    let l = some_last w some in
    subst (λ r. Moves (length w.goal.vars) (length (work_parts w)) (left_of_work w) r p) (ap (λ n. star (without (work_parts w) n)) at ∙ star_is (dropped w) (without (work_parts w) (last_place w)) (without_last w l.0 l.1)) m

pub drop_answers : (w new : Work) (t : Tree) (r : Result (Parts Place) StepFault) → 0 < length w.held → new ≡ dropped w
    → Moves (length w.goal.vars) (length (work_parts w)) (left_of_work w) (left_of_work (dropped w)) t → MovesTo w new t r
    → Answers (all_nodes (work_formulas w)) w (limited (table.drop_held w)) r
drop_answers w new t r some is m to =
    let l = some_last w some in
    subst (λ o. Answers (all_nodes (work_formulas w)) w (limited o) r)
    (ap (λ hs. one (work_of w.goal hs)) (sym (append-nil (all_but_last w.held))) ∙ sym (with_last_is w (λ hand. one (work_of w.goal (hand.others ++ []))) l.0 l.1))
    (moved_gives w (dropped w) new t r is m to)

-- ---- it is another formula

set_behind : (fs gs : List Formula) (i n : ℕ) (x : Formula) → n ≡ length fs + i → fs ++ set gs i x ≡ set (fs ++ gs) n x
set_behind [] gs i n x e = let same : i ≡ n = omega (arith, e) in ap (λ j. set gs j x) same
set_behind (f ∷ fs) gs i zero x e = absurd (omega (arith, e))
set_behind (f ∷ fs) gs i (suc n) x e = ap (λ l. f ∷ l) (set_behind fs gs i n x (omega (arith, e)))

set_end : (hs : List Held) (l h : Held) → held_parts (hs ++ h ∷ []) ≡ set (held_parts (hs ++ l ∷ [])) (length hs) (of_kind h.kind h.formula)
set_end [] l h = refl
set_end (g ∷ hs) l h = ap (λ fs. of_kind g.kind g.formula ∷ fs) (set_end hs l h)

get_end : (hs : List Held) (l : Held) → slice_get (hs ++ l ∷ []) (length hs) ≡ Some l
get_end [] l = refl
get_end (h ∷ hs) l = get_end hs l

module _ (w : Work) (l : Held) (is : IsLast w l) (k : Kind) (f : Formula) where
  pub relast_parts : work_parts (relast w k f) ≡ set (work_parts w) (last_place w) (of_kind k f)
  relast_parts =
      ap (λ fs. parts w.goal ++ fs) (set_end (all_but_last w.held) l (holding k f) ∙ ap (λ hs. set (held_parts hs) (length (all_but_last w.held)) (of_kind k f)) (sym (held_is w l is)))
      ∙ set_behind (parts w.goal) (held_parts w.held) (length (all_but_last w.held)) (last_place w) (of_kind k f) refl

  pub relast_part : part_at (work_parts (relast w k f)) (last_place w) ≡ of_kind k f
  relast_part = held_at (relast w k f) (length (all_but_last w.held)) (holding k f) (get_end (all_but_last w.held) (holding k f))

  pub relast_star : star (set (work_parts w) (last_place w) (of_kind k f)) ≡ left_of_work (relast w k f)
  relast_star = star_is (relast w k f) (set (work_parts w) (last_place w) (of_kind k f)) relast_parts

  -- what the call of the exchange asks
  pub exchange_left : (by : Tree) (place : ℕ) → place ≡ last_place w → conclusion by ≡ last_says w l k f → left_side by ≡ part_at (work_parts w) place
  exchange_left by place at says = ap (λ (e : Entail). e.left) says ∙ sym (ap (part_at (work_parts w)) at ∙ part_last w l is)

  pub exchange_moves : (by p : Tree) (place : ℕ) → place ≡ last_place w → conclusion by ≡ last_says w l k f
      → MovesBy by (length w.goal.vars) (length (work_parts w)) (left_of_work w) (star (set (work_parts w) place (right_side by))) p
      → MovesBy by (length w.goal.vars) (length (work_parts w)) (left_of_work w) (left_of_work (relast w k f)) p
  exchange_moves by p place at says m =
      subst (λ r. MovesBy by (length w.goal.vars) (length (work_parts w)) (left_of_work w) r p)
      (ap₂ (λ n x. star (set (work_parts w) n x)) at (ap (λ (e : Entail). e.right) says) ∙ relast_star) m

-- a part of a star that is scoped
pub part_of_star : (preds : Preds) (k : ℕ) (w : Work) (i : ℕ) → Scoped preds k (left_of_work w) → Scoped preds k (part_at (work_parts w) i)
part_of_star preds k w i s = part_scoped preds k (work_parts w) i (scoped_star preds k (work_parts w) (subst (Scoped preds k) (sym (work_star w)) s))

-- what is said of the last in hand is scoped where both stars are
pub says_scoped : (w : Work) (l : Held) (is : IsLast w l) (k : Kind) (f : Formula) → ScopedWhere (entail (length w.goal.vars) (left_of_work w) (left_of_work (relast w k f))) [] (last_says w l k f)
says_scoped w l is k f preds e hs = (
  subst (Scoped preds (length w.goal.vars)) (part_last w l is) (part_of_star preds (length w.goal.vars) w (last_place w) e.0),
  subst (Scoped preds (length w.goal.vars)) (relast_part w l is k f) (part_of_star preds (length w.goal.vars) (relast w k f) (last_place w) e.1),
)

pub becomes : (w : Work) (l : Held) (k : Kind) (f : Formula) (new : Work) (by t : Tree) (r : Result (Parts Place) StepFault)
    → IsLast w l → conclusion by ≡ last_says w l k f → new ≡ relast w k f
    → MovesBy by (length w.goal.vars) (length (work_parts w)) (left_of_work w) (left_of_work (relast w k f)) t → MovesTo w new t r → Becomes w (relast w k f) by r
becomes w l k f new by t r is says new_is m to s n d le known fit deep =
    moves_by_answer s n d w (relast w k f) by t r le m known fit deep
    (λ preds e hs. subst (EntailScoped preds) (sym says) (says_scoped w l is k f preds e hs))
    (subst (λ x. MovesTo w x t r) new_is to)

-- on the nodes of the old work
pub alone : (w new : Work) (by : Tree) (r : Result (Parts Place) StepFault) → Becomes w new by r → BecomesOne w new by r
alone w new by r b n d known fit deep = b (all_nodes (work_formulas w)) n d (le_refl (all_nodes (work_formulas w))) known fit deep

-- ---- how large it is

behind_depth : (hs : List Held) (l : Held) → depth_of l.formula ≤ greatest_depth (map (λ (h : Held). h.formula) (hs ++ l ∷ []))
behind_depth [] l = omega arith
behind_depth (h ∷ hs) l = omega (arith, behind_depth hs l)

behind_nodes : (hs : List Held) (l : Held) → nodes_of l.formula ≤ all_nodes (map (λ (h : Held). h.formula) (hs ++ l ∷ []))
behind_nodes [] l = omega arith
behind_nodes (h ∷ hs) l = omega (arith, behind_nodes hs l)

behind_scoped : (k : ℕ) (fs : List Formula) (hs : List Held) (l : Held) → AllByRecursion (ScopedIn k) (fs ++ map (λ (h : Held). h.formula) (hs ++ l ∷ [])) → ScopedIn k l.formula
behind_scoped k [] [] l a = a.0
behind_scoped k [] (h ∷ hs) l a = behind_scoped k [] hs l a.1
behind_scoped k (f ∷ fs) hs l a = behind_scoped k fs hs l a.1

pub last_depth : (w : Work) (l : Held) → IsLast w l → depth_of l.formula ≤ greatest_depth (work_formulas w)
last_depth w l is =
    let h : depth_of l.formula ≤ greatest_depth (map (λ (h : Held). h.formula) w.held) = subst (λ hs. depth_of l.formula ≤ greatest_depth (map (λ (h : Held). h.formula) hs)) (sym (held_is w l is)) (behind_depth (all_but_last w.held) l) in
    omega (arith, h, depth_append (formulas w.goal) (map (λ (h : Held). h.formula) w.held))

pub last_nodes : (w : Work) (l : Held) → IsLast w l → nodes_of l.formula ≤ all_nodes (work_formulas w)
last_nodes w l is =
    let h : nodes_of l.formula ≤ all_nodes (map (λ (h : Held). h.formula) w.held) = subst (λ hs. nodes_of l.formula ≤ all_nodes (map (λ (h : Held). h.formula) hs)) (sym (held_is w l is)) (behind_nodes (all_but_last w.held) l) in
    omega (arith, h, nodes_append (formulas w.goal) (map (λ (h : Held). h.formula) w.held))

pub last_scoped : (w : Work) (l : Held) → IsLast w l → AllByRecursion (ScopedIn (length w.goal.vars)) (work_formulas w) → ScopedIn (length w.goal.vars) l.formula
last_scoped w l is a = behind_scoped (length w.goal.vars) (formulas w.goal) (all_but_last w.held) l (subst (λ hs. AllByRecursion (ScopedIn (length w.goal.vars)) (formulas w.goal ++ map (λ (h : Held). h.formula) hs)) (held_is w l is) a)
