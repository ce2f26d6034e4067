-- Formulas of a work that is handed in: their nodes, depths and scopes, and that they can be framed.
use Rattle.std.proofs.Common.{◌≡◌, ℕ, ◌+◌, ◌≤◌, ◌<◌, List, [], ◌∷◌, ◌++◌, length, map, arith}
use Rattle.std.specs.List.{AllByRecursion}
use Rattle.pm_logic.specs.declared.formula.Formula.{Formula}
use Rattle.pm_logic.specs.Scope.{ScopedIn}
use Rattle.pm_logic.specs.Size.{nodes_of, depth_of}
use Rattle.pm_goal.specs.declared.work.Held.{Held}
use Rattle.pm_goal.specs.declared.work.Work.{Work}
use Rattle.pm_goal.specs.Left.{facts, hyps}
use Rattle.pm_table.specs.Limits.{formulas, work_formulas, all_nodes, greatest_depth}
use Rattle.pm_action.specs.Acting.{IsHanded, IsLast}
use Rattle.pm_action.proofs.Sums.{nodes_append}
use Rattle.pm_action.proofs.Heights.{concl_depth}
use Rattle.pm_hand.proofs.Relasts.{last_depth, last_scoped}
use Rattle.pm_frame.specs.Frames.{AreHanded}

pub all_parts : {A : Type 0} (P : A → Type 0) (xs ys : List A) → AllByRecursion P (xs ++ ys) → AllByRecursion P xs × AllByRecursion P ys
all_parts P [] ys a = (tt, a)
all_parts P (x ∷ xs) ys a = let r = all_parts P xs ys a.1 in ((a.0, r.0), r.1)

pub of_goal : (P : Formula → Type 0) (w : Work) → AllByRecursion P (work_formulas w) → AllByRecursion P (formulas w.goal)
of_goal P w a = (all_parts P (formulas w.goal) (map (λ (h : Held). h.formula) w.held) a).0

pub concl_all : (P : Formula → Type 0) (w : Work) → AllByRecursion P (work_formulas w) → P w.goal.concl
concl_all P w a =
    let g = w.goal in
    let c = (all_parts P (facts g.pures) (hyps g.ints ++ (hyps g.spats ++ (g.concl ∷ []))) (of_goal P w a)).1 in
    let d = (all_parts P (hyps g.ints) (hyps g.spats ++ (g.concl ∷ [])) c).1 in
    (all_parts P (hyps g.spats) (g.concl ∷ []) d).1.0

pub concl_nodes : (w : Work) → nodes_of w.goal.concl ≤ all_nodes (work_formulas w)
concl_nodes w =
    let g = w.goal in
    let c : nodes_of g.concl ≤ all_nodes (g.concl ∷ []) = omega arith in
    omega (
      arith,
      c,
      nodes_append (formulas g) (map (λ (h : Held). h.formula) w.held),
      nodes_append (facts g.pures) (hyps g.ints ++ (hyps g.spats ++ (g.concl ∷ []))),
      nodes_append (hyps g.ints) (hyps g.spats ++ (g.concl ∷ [])),
      nodes_append (hyps g.spats) (g.concl ∷ []),
    )

-- a formula of the work, and its conclusion
pub handed : (k : ℕ) (w : Work) (f : Formula) → k ≡ length w.goal.vars → IsHanded w → ScopedIn (length w.goal.vars) f → depth_of f ≤ greatest_depth (work_formulas w) → AreHanded k f w.goal.concl
handed k w f vars h scoped low = record {
  hypothesis = rw vars scoped;
  conclusion = rw vars (concl_all (ScopedIn (length w.goal.vars)) w h.scoped);
  within = omega (arith, vars, low, h.shallow, concl_depth w);
}

pub last_handed : (k : ℕ) (w : Work) (l : Held) → k ≡ length w.goal.vars → IsHanded w → IsLast w l → AreHanded k l.formula w.goal.concl
last_handed k w l vars h is = handed k w l.formula vars h (last_scoped w l is h.scoped) (last_depth w l is)
