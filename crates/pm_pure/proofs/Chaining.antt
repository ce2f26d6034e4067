-- Ends of actions, and proofs one after another.
use Rattle.std.proofs.Common.{◌≡◌, ℕ, ◌+◌, List, [], ◌∷◌, ◌++◌, length, refl, sym, ◌∙◌, ap, ap₂, subst, arith}
use Rattle.std.specs.Prelude.{Result, Err}
use Rattle.std.specs.List.{AllByRecursion}
use Rattle.std.proofs.lemmas.List.{append-nil}
use Rattle.pm_logic.specs.declared.formula.Formula.{Formula}
use Rattle.pm_logic.specs.declared.formula.Preds.{Preds}
use Rattle.pm_logic.specs.Scope.{Scoped}
use Rattle.pm_goal.specs.declared.goal.Goal.{Goal}
use Rattle.pm_goal.specs.declared.work.Held.{Held}
use Rattle.pm_goal.specs.declared.work.Work.{Work}
use Rattle.pm_goal.specs.declared.refusal.Row.{Row}
use Rattle.pm_goal.specs.declared.refusal.StepFault.{StepFault}
use Rattle.pm_goal.specs.declared.refusal.StepFault.TheVariants as fault
use Rattle.pm_goal.specs.Left.{held_parts}
use Rattle.pm_rules.specs.declared.rules.Entail.{Entail}
use Rattle.pm_proof.specs.Trees.{Tree, Hole, entail, conclusion}
use Rattle.pm_proof.specs.Valid.{EntailScoped}
use Rattle.pm_proof.specs.Known.{Proves, Every, ScopedWhere}
use Rattle.pm_proof.specs.declared.proof.Parts.{Parts}
use Rattle.pm_star.specs.Stars.{parts, work_parts}
use Rattle.pm_star.specs.Chains.{ChainProves, across}
use Rattle.pm_table.specs.declared.place.Place.{Place}
use Rattle.pm_table.specs.Outcomes.{Outcome, one, refused}
use Rattle.pm_table.specs.Limits.{limited, resting}
use Rattle.pm_table.specs.Works.{where_none, work_of}
use Rattle.pm_table.specs.Basic.{on_goal}
use Rattle.pm_action.specs.Meanings.{meaning, height}
use Rattle.pm_action.specs.Acting.{Answers, plainly}
use Rattle.pm_action.proofs.Heights.{sides_height}

pub refused_plainly : (s : ℕ) (w : Work) (row : Row) (f : StepFault) → f ≡ fault.Refused (plainly row) → Answers s w (refused (plainly row)) (Err f)
refused_plainly s w row f e = subst (λ (x : StepFault). Answers s w (refused (plainly row)) (Err x)) (sym e) refl

-- an action on the goal
pub on_rest : (s : ℕ) (w : Work) (act : Goal → Outcome) (r : Result (Parts Place) StepFault) → w.held ≡ [] → Answers s w (limited (act w.goal)) r → Answers s w (limited (on_goal act w)) r
on_rest s w act r nothing h = subst (λ (hs : List Held). Answers s w (limited (where_none hs (act w.goal) (one w))) r) (sym nothing) h

pub rested : (w : Work) → w.held ≡ [] → w ≡ resting w.goal
rested w nothing = ap (λ (hs : List Held). work_of w.goal hs) nothing

pub rest_parts : (w : Work) → w.held ≡ [] → work_parts w ≡ parts w.goal
rest_parts w nothing = ap (λ (hs : List Held). parts w.goal ++ held_parts hs) nothing ∙ append-nil (parts w.goal)

-- the hole of what a work means proves it
pub hole_proves : (w : Work) → Proves Every (meaning w) (meaning w ∷ []) 0 (height w + 16) (length w.goal.vars) (Hole (meaning w))
hole_proves w = record {
  concludes = refl;
  holes = refl;
  valid = λ preds among. tt;
  scoped = λ preds e hs. e;
  size = omega arith;
  shallow = omega (arith, sides_height w);
  narrow = omega arith;
}

-- from l to x, and from there to r
pub chained : (k n m d q : ℕ) (l x r : Formula) (hs gs : List Entail) (a b t : Tree) → Proves Every (entail k l x) hs n d q a → Proves Every (entail k x r) gs m d q b
    → ((preds : Preds) → EntailScoped preds (entail k l r) → AllByRecursion (EntailScoped preds) (hs ++ gs) → Scoped preds k x)
    → ChainProves a b t → Proves Every (entail k l r) (hs ++ gs) (n + m + 1) d q t
chained k n m d q l x r hs gs a b t p1 p2 meets chain =
    let over : across a b ≡ entail k l r = ap₂ (λ (e g : Entail). entail e.vars e.left g.right) p1.concludes p2.concludes in
    let first : Proves Every (conclusion a) hs n d q a = subst (λ (e : Entail). Proves Every e hs n d q a) (sym p1.concludes) p1 in
    let second : Proves Every (conclusion b) gs m d q b = subst (λ (e : Entail). Proves Every e gs m d q b) (sym p2.concludes) p2 in
    let scope : ScopedWhere (across a b) (hs ++ gs) (conclusion a) = λ preds e all.
    let whole : EntailScoped preds (entail k l r) = subst (EntailScoped preds) over e in
    subst (EntailScoped preds) (sym p1.concludes) (whole.0, meets preds whole all) in
    subst (λ (e : Entail). Proves Every e (hs ++ gs) (n + m + 1) d q t) over (chain Every hs gs n m d q first second scope)
