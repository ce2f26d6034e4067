-- What framing answers at its end.
use Rattle.std.proofs.Common.{◌≡◌, ℕ, ◌+◌, ◌*◌, ◌≤◌, max, Bool, true, false, cond, [], ◌∷◌, length, refl, sym, ◌∙◌, ap, ap₂, subst, arith, Some, slice_get}
use Rattle.std.specs.Prelude.{Result}
use Rattle.pm_logic.specs.declared.formula.Formula.{Formula}
use Rattle.pm_logic.specs.declared.formula.Formula.TheVariants.{Pure as Assert}
use Rattle.pm_logic.specs.declared.formula.Pure.TheVariants as pure
use Rattle.pm_logic.specs.Size.{depth_of, nodes_of}
use Rattle.pm_goal.specs.declared.work.Work.{Work}
use Rattle.pm_goal.specs.declared.refusal.StepFault.{StepFault}
use Rattle.pm_goal.specs.Left.{left_of_work}
use Rattle.pm_rules.specs.declared.rules.Entail.{Entail}
use Rattle.pm_proof.specs.Trees.{Tree, entail, conclusion, holes_of, splice}
use Rattle.pm_proof.specs.Known.{Proves, Every, ScopedWhere, FillProves}
use Rattle.pm_proof.specs.declared.proof.Parts.{Parts}
use Rattle.pm_proof.proofs.Fills.{weaker}
use Rattle.pm_schemes.specs.Sketches.{deepest}
use Rattle.pm_star.specs.Stars.{work_parts}
use Rattle.pm_star.proofs.Scoping.{scoped_sep, truth_scoped, depth_truth}
use Rattle.pm_classes.proofs.Sizes.{has_levels}
use Rattle.pm_table.specs.declared.place.Place.{Place}
use Rattle.pm_table.specs.declared.place.Place.TheVariants.{Current as current}
use Rattle.pm_table.specs.Basic.{is_truth}
use Rattle.pm_table.specs.Framing.{truth}
use Rattle.pm_table.specs.Outcomes.{closed, one}
use Rattle.pm_table.specs.Limits.{limited, all_nodes, work_formulas}
use Rattle.pm_table.specs.Running.{rules_within}
use Rattle.pm_table.specs.Works.{with_concl, work_of}
use Rattle.pm_table.specs.Terms.{concluding}
use Rattle.pm_action.specs.Meanings.{meaning, height, room, width}
use Rattle.pm_action.specs.Acting.{Answers, Ends, IsActed}
use Rattle.pm_action.proofs.Heights.{concl_height, parts_nodes}
use Rattle.pm_action.proofs.Moves.{few}
use Rattle.pm_framing.specs.Parting.{IsApart, IsLess, Opens}
use Rattle.pm_framing.proofs.Handed.{concl_nodes}

-- ---- closed

abbrev Always : ℕ → Formula → Tree → Type 0
Always k l t = Proves Every (entail k l truth) [] 1 (deepest (l ∷ []) [] + 2) k t

pub close_hole : (w : Work) (l : Formula) (k : ℕ) (opened by : Tree) → k ≡ length w.goal.vars → Opens w l truth opened → Always k l by → slice_get (holes_of opened) 0 ≡ Some (conclusion by)
close_hole w l k opened by vars p q = ap (λ hs. slice_get hs 0) p.holes ∙ ap Some (ap (λ n. entail n l truth) (sym vars) ∙ sym q.concludes)

pub closes : (w : Work) (l : Formula) (k1 : ℕ) (opened by t : Tree) (r : Result (Parts Place) StepFault) → IsLess w l → k1 ≡ length w.goal.vars → Opens w l truth opened → Always k1 l by → FillProves opened 0 by t → Ends [] t r
    → Answers (all_nodes (work_formulas w)) w (limited closed) r
closes w l k1 opened by t r less vars p q0 fills ends =
    let k = length w.goal.vars in
    let s = all_nodes (work_formulas w) in
    let q : Always k l by = subst (λ n. Always n l by) vars q0 in
    let h = entail k l truth in
    let n = 100 * length (work_parts w) + 200 * nodes_of w.goal.concl + 104 in
    let d = room w [] in
    let v = width w in
    let p1 : Proves Every (meaning w) (h ∷ []) n d v opened = weaker Every (meaning w) (h ∷ []) n (max (height w) (depth_of (Assert pure.True)) + 10) v n d v opened (omega arith) (omega (arith, depth_truth, concl_height w, has_levels w.goal.concl)) (omega arith) p in
    let q1 : Proves Every (conclusion by) [] 1 d v by = subst (λ e. Proves Every e [] 1 d v by) (sym q.concludes) (weaker Every h [] 1 (deepest (l ∷ []) [] + 2) k 1 d v by (omega arith) (omega (arith, less.depth)) (omega arith) q) in
    let scope : ScopedWhere (meaning w) (splice (h ∷ []) 0 []) (conclusion by) = subst (λ e. ScopedWhere (meaning w) (splice (h ∷ []) 0 []) e) (sym q.concludes) (λ preds es gs. (less.scoped preds es.0, truth_scoped preds k)) in
    let all : Proves Every (meaning w) [] (n + 1) d v t = fills Every (meaning w) (h ∷ []) [] n 1 d v p1 q1 scope in
    ends s w (weaker Every (meaning w) [] (n + 1) d v (rules_within s) d v t (few s (n + 1) (omega (arith, parts_nodes w, concl_nodes w))) (omega arith) (omega arith) all)

-- what is left beside the part
pub less_of : (w : Work) (part l left : Formula) (t : Tree) → left ≡ l → IsApart w part l t → IsLess w left
less_of w part l left t is a = rw is (record { scoped = λ preds s. (scoped_sep preds (length w.goal.vars) part l (a.scoped preds s)).1; depth = a.left_depth })

-- ---- going on

pub goes_on : (w rest new : Work) (c : Formula) (t : Tree) (r : Result (Parts Place) StepFault) → length rest.goal.vars ≡ length w.goal.vars → new ≡ work_of (with_concl c rest.goal) rest.held → Opens w (left_of_work rest) c t → Ends (current [] new ∷ []) t r
    → Answers (all_nodes (work_formulas w)) w (limited (one (work_of (with_concl c rest.goal) rest.held))) r
goes_on w rest new1 c t r vars is p ends1 =
    let new = work_of (with_concl c rest.goal) rest.held in
    let ps = current [] new ∷ [] in
    let s = all_nodes (work_formulas w) in
    let n = 100 * length (work_parts w) + 200 * nodes_of w.goal.concl + 104 in
    let ends : Ends ps t r = subst (λ x. Ends (current [] x ∷ []) t r) is ends1 in
    let p1 : Proves Every (meaning w) (meaning new ∷ []) n (max (height w) (depth_of c) + 10) (width w) t = subst (λ k. Proves Every (meaning w) (entail k (left_of_work rest) c ∷ []) n (max (height w) (depth_of c) + 10) (width w) t) (sym vars) p in
    ends s w (weaker Every (meaning w) (meaning new ∷ []) n (max (height w) (depth_of c) + 10) (width w) (rules_within s) (room w ps) (width w) t (few s n (omega (arith, parts_nodes w, concl_nodes w))) (omega (arith, concl_height new)) (omega arith) p1)

-- ---- the row

truth_is : (f : Formula) → is_truth f ≡ true → f ≡ truth
truth_is (Assert pure.True) e = refl
truth_is _ e = absurd cc

pub opens_truth : (w : Work) (left c : Formula) (t : Tree) (b : Bool) → b ≡ is_truth c → b ≡ true → Opens w left c t → Opens w left truth t
opens_truth w left c t b test holds p = subst (λ x. Opens w left x t) (truth_is c (sym test ∙ holds)) p

pub concludes_closed : (s : ℕ) (w rest : Work) (c : Formula) (b : Bool) (r : Result (Parts Place) StepFault) → b ≡ is_truth c → b ≡ true → Answers s w (limited closed) r → Answers s w (limited (concluding c rest)) r
concludes_closed s w rest c b r test holds a = subst (λ x. Answers s w (limited (cond x closed (one (work_of (with_concl c rest.goal) rest.held)))) r) (sym (sym test ∙ holds)) a

pub concludes_open : (s : ℕ) (w rest : Work) (c : Formula) (b : Bool) (r : Result (Parts Place) StepFault) → b ≡ is_truth c → b ≡ false → Answers s w (limited (one (work_of (with_concl c rest.goal) rest.held))) r → Answers s w (limited (concluding c rest)) r
concludes_open s w rest c b r test fails a = subst (λ x. Answers s w (limited (cond x closed (one (work_of (with_concl c rest.goal) rest.held)))) r) (sym (sym test ∙ fails)) a
