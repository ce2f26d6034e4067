-- Ends of actions on goals with nothing in hand.
use Rattle.std.proofs.Common.{◌≡◌, ℕ, ◌+◌, ◌*◌, ◌≤◌, max, Bool, true, false, List, [], ◌∷◌, ◌++◌, length, refl, sym, ◌∙◌, ap, subst, arith, Option, Some, None, option_map}
use Rattle.std.specs.Prelude.{Result, Err}
use Rattle.std.specs.List.{AllByRecursion}
use Rattle.std.proofs.lemmas.List.{append-nil}
use Rattle.pm_logic.specs.declared.formula.Formula.{Formula}
use Rattle.pm_logic.specs.declared.formula.Preds.{Preds}
use Rattle.pm_logic.specs.Scope.{Scoped}
use Rattle.pm_logic.specs.Size.{depth_of}
use Rattle.pm_goal.specs.declared.goal.Goal.{Goal}
use Rattle.pm_goal.specs.declared.work.Held.{Held}
use Rattle.pm_goal.specs.declared.work.Work.{Work}
use Rattle.pm_goal.specs.declared.refusal.Row.{Row}
use Rattle.pm_goal.specs.declared.refusal.StepFault.{StepFault}
use Rattle.pm_goal.specs.declared.refusal.StepFault.TheVariants as fault
use Rattle.pm_goal.specs.Refusals.{refusal}
use Rattle.pm_goal.specs.Left.{left_of_work, held_parts}
use Rattle.pm_rules.specs.declared.rules.Entail.{Entail}
use Rattle.pm_proof.specs.Trees.{Tree, Hole, entail, conclusion}
use Rattle.pm_proof.specs.Valid.{EntailScoped}
use Rattle.pm_proof.specs.Known.{Proves, Every, ScopedWhere}
use Rattle.pm_proof.specs.declared.proof.Parts.{Parts}
use Rattle.pm_proof.proofs.Fills.{weaker}
use Rattle.pm_classes.specs.declared.entry.One.{One}
use Rattle.pm_star.specs.Stars.{parts, work_parts, room as star_room, Moves}
use Rattle.pm_star.specs.Chains.{ChainProves, across}
use Rattle.pm_table.specs.declared.place.Place.{Place}
use Rattle.pm_table.specs.declared.place.Place.TheVariants.{Current as current}
use Rattle.pm_table.specs.Outcomes.{Outcome, gives, refused, one, require, require_entry}
use Rattle.pm_table.specs.Limits.{limited, resting, work_formulas, all_nodes}
use Rattle.pm_table.specs.Running.{rules_within}
use Rattle.pm_table.specs.Works.{Named, where_none, work_of}
use Rattle.pm_table.specs.Basic.{for, on_goal, gives_goal}
use Rattle.pm_action.specs.Meanings.{meaning, meanings, height, room, width}
use Rattle.pm_action.specs.Acting.{IsActed, Answers, Refuses, Ends, plainly}
use Rattle.pm_action.proofs.Heights.{concl_height, sides_height, star_height, parts_nodes}
use Rattle.pm_action.proofs.Moves.{few}
use Rattle.pm_basic.specs.Enough.{Suffices, Enough}

-- ---- errors

pub no_memory : (s : ℕ) (w : Work) (o : Outcome) (f : StepFault) → f ≡ fault.Memory → Answers s w o (Err f)
no_memory s w o f e = subst (λ (x : StepFault). Answers s w o (Err x)) (sym e) (by o)
  where
    by : (o : Outcome) → Answers s w o (Err fault.Memory)
    by (gives ps) = tt
    by (refused r) = tt

pub refused_by : (s : ℕ) (w : Work) (row : Row) (name : Named) (f : StepFault) → Refuses row name f → Answers s w (refused (refusal row name)) (Err f)
refused_by s w row name (fault.Refused x) h = h
refused_by s w row name fault.Memory h = tt

pub refused_plainly : (s : ℕ) (w : Work) (row : Row) (f : StepFault) → f ≡ fault.Refused (plainly row) → Answers s w (refused (plainly row)) (Err f)
refused_plainly s w row f e = subst (λ (x : StepFault). Answers s w (refused (plainly row)) (Err x)) (sym e) refl

-- the first condition fails
pub not_required : (s : ℕ) (w : Work) (b : Bool) (row : Row) (name : Named) (follows : Outcome) (f : StepFault) → b ≡ false → Refuses row name f → Answers s w (limited (require b row name follows)) (Err f)
not_required s w b row name follows f e h = subst (λ (x : Bool). Answers s w (limited (require x row name follows)) (Err f)) (sym e) (refused_by s w row name f h)

pub required : (s : ℕ) (w : Work) (b : Bool) (row : Row) (name : Named) (follows : Outcome) (r : Result (Parts Place) StepFault) → b ≡ true → Answers s w (limited follows) r → Answers s w (limited (require b row name follows)) r
required s w b row name follows r e h = subst (λ (x : Bool). Answers s w (limited (require x row name follows)) r) (sym e) h

-- an action on the goal
pub on_rest : (s : ℕ) (w : Work) (act : Goal → Outcome) (r : Result (Parts Place) StepFault) → w.held ≡ [] → Answers s w (limited (act w.goal)) r → Answers s w (limited (on_goal act w)) r
on_rest s w act r nothing h = subst (λ (hs : List Held). Answers s w (limited (where_none hs (act w.goal) (one w))) r) (sym nothing) h

pub rested : (w : Work) → w.held ≡ [] → w ≡ resting w.goal
rested w nothing = ap (λ (hs : List Held). work_of w.goal hs) nothing

pub rest_parts : (w : Work) → w.held ≡ [] → work_parts w ≡ parts w.goal
rest_parts w nothing = ap (λ (hs : List Held). parts w.goal ++ held_parts hs) nothing ∙ append-nil (parts w.goal)

-- ---- the conclusion alone changes

-- the hole of what a work means proves it
hole_proves : (w : Work) → Proves Every (meaning w) (meaning w ∷ []) 0 (height w + 16) (length w.goal.vars) (Hole (meaning w))
hole_proves w = record {
  concludes = refl;
  holes = refl;
  valid = λ preds among. tt;
  scoped = λ preds e hs. e;
  size = omega arith;
  shallow = omega (arith, sides_height w);
  narrow = omega arith;
}

concluded_rest : (s : ℕ) (g : Goal) (f : Formula) (step wanted p : Tree) (r : Result (Parts Place) StepFault)
    → Suffices (length g.vars) g.concl f step → wanted ≡ Hole (meaning (resting (for f g))) → ChainProves wanted step p → Ends (current [] (resting (for f g)) ∷ []) p r
    → Answers s (resting g) (limited (gives_goal (for f g))) r
concluded_rest s g f step wanted p r enough wants chain ends =
    let w : Work = resting g in
    let new : Work = resting (for f g) in
    let k : ℕ = length g.vars in
    let d : ℕ = room w (current [] new ∷ []) in
    let k1 : ℕ = width w in
    let hole1 : Proves Every (meaning new) (meaning new ∷ []) 0 d k1 (Hole (meaning new)) = weaker Every (meaning new) (meaning new ∷ []) 0 (height new + 16) k 0 d k1 (Hole (meaning new)) (omega arith) (omega arith) (omega arith) (hole_proves new) in
    let hole2 : Proves Every (conclusion wanted) (meaning new ∷ []) 0 d k1 wanted = rw wants hole1 in
    let step1 : Proves Every (entail k f g.concl) [] 10 d k1 step = weaker Every (entail k f g.concl) [] 10 (max (depth_of f) (depth_of g.concl) + 8) k 10 d k1 step (omega arith) (omega (arith, concl_height w, concl_height new)) (omega arith) enough in
    let step2 : Proves Every (conclusion step) [] 10 d k1 step = subst (λ (e : Entail). Proves Every e [] 10 d k1 step) (sym enough.concludes) step1 in
    let over : across wanted step ≡ meaning w = rw wants (ap (λ (e : Entail). entail k (left_of_work new) e.right) enough.concludes) in
    let scope : ScopedWhere (across wanted step) (meaning new ∷ []) (conclusion wanted) = λ preds e hs. rw wants hs.0 in
    let all : Proves Every (across wanted step) (meaning new ∷ []) (0 + 10 + 1) d k1 p = chain Every (meaning new ∷ []) [] 0 10 d k1 hole2 step2 scope in
    let bound : 0 + 10 + 1 ≤ rules_within s = few s (0 + 10 + 1) (omega arith) in
    let acted : IsActed s w (current [] new ∷ []) p = weaker Every (meaning w) (meaning new ∷ []) (0 + 10 + 1) d k1 (rules_within s) d k1 p bound (omega arith) (omega arith) (subst (λ (e : Entail). Proves Every e (meaning new ∷ []) (0 + 10 + 1) d k1 p) over all) in
    ends s w acted

pub concluded : (s : ℕ) (w new : Work) (f : Formula) (step wanted p : Tree) (r : Result (Parts Place) StepFault)
    → w.held ≡ [] → new ≡ resting (for f w.goal) → Suffices (length w.goal.vars) w.goal.concl f step → wanted ≡ Hole (meaning new) → ChainProves wanted step p → Ends (current [] new ∷ []) p r
    → Answers s w (limited (gives_goal (for f w.goal))) r
concluded s w new f step wanted p r nothing is enough wants chain ends =
    subst (λ (x : Work). Answers s x (limited (gives_goal (for f w.goal))) r) (sym (rested w nothing))
    (concluded_rest s w.goal f step wanted p r enough (wants ∙ ap (λ (x : Work). Hole (meaning x)) is) chain (subst (λ (x : Work). Ends (current [] x ∷ []) p r) is ends))

-- ---- entries

module _ {A : Type 0} (s : ℕ) (w : Work) (row : Row) (pick : A → Formula) where
  abbrev outcome : Option A → Outcome
  outcome o = require_entry o row (λ a. gives_goal (for (pick a) w.goal))

  pub entry_given : (o : Option A) (e : One) (r : Result (Parts Place) StepFault) → Enough (length w.goal.vars) w.goal.concl (option_map pick o) (Some e)
      → ((m : ℕ) → Answers m w (limited (gives_goal (for e.formula w.goal))) r) → Answers s w (limited (outcome o)) r
  entry_given None e r enough h = absurd enough
  entry_given (Some a) e r enough h = subst (λ (f : Formula). Answers s w (limited (gives_goal (for f w.goal))) r) enough.formula (h s)

  pub entry_suffices : (o : Option A) (e : One) → Enough (length w.goal.vars) w.goal.concl (option_map pick o) (Some e) → Suffices (length w.goal.vars) w.goal.concl e.formula e.proof
  entry_suffices None e enough = absurd enough
  entry_suffices (Some a) e enough = subst (λ (f : Formula). Suffices (length w.goal.vars) w.goal.concl f e.proof) (sym enough.formula) enough.proof

  pub entry_missing : (o : Option A) (f : StepFault) → Enough (length w.goal.vars) w.goal.concl (option_map pick o) None → f ≡ fault.Refused (plainly row) → Answers s w (limited (outcome o)) (Err f)
  entry_missing None f enough e = refused_plainly s w row f e
  entry_missing (Some a) f enough e = absurd enough

-- ---- a move of the star, and a step from what it moved to

pub record IsStep (w : Work) (ps : List Place) (m : Formula) (moved step : Tree) : Type 0 where
  pub moves : Moves (length w.goal.vars) (length (work_parts w)) (left_of_work w) m moved
  pub steps : Proves Every (entail (length w.goal.vars) m w.goal.concl) (meanings ps) 10 (room w ps) (width w) step
  pub near : depth_of m + 8 ≤ room w ps
  pub scoped : (preds : Preds) → AllByRecursion (EntailScoped preds) (meanings ps) → Scoped preds (length w.goal.vars) m

pub stepped : (s : ℕ) (w : Work) (ps : List Place) (m : Formula) (moved step p : Tree) → all_nodes (work_formulas w) ≤ s → IsStep w ps m moved step → ChainProves moved step p → IsActed s w ps p
stepped s w ps m moved step p le is chain =
    let k : ℕ = length w.goal.vars in
    let n : ℕ = 100 * (length (work_parts w) + 1) in
    let d : ℕ = room w ps in
    let k1 : ℕ = width w in
    let l : Formula = left_of_work w in
    let near : star_room l m ≤ d = omega (arith, star_height w, is.near) in
    let first : Proves Every (entail k l m) [] n d k1 moved = weaker Every (entail k l m) [] n (star_room l m) k n d k1 moved (omega arith) near (omega arith) is.moves in
    let first1 : Proves Every (conclusion moved) [] n d k1 moved = subst (λ (e : Entail). Proves Every e [] n d k1 moved) (sym first.concludes) first in
    let second : Proves Every (conclusion step) (meanings ps) 10 d k1 step = subst (λ (e : Entail). Proves Every e (meanings ps) 10 d k1 step) (sym is.steps.concludes) is.steps in
    let over : across moved step ≡ meaning w = ap (λ (e : Entail). entail e.vars e.left (conclusion step).right) first.concludes ∙ ap (λ (e : Entail). entail k l e.right) is.steps.concludes in
    let scope : ScopedWhere (across moved step) (meanings ps) (conclusion moved) = λ preds e hs.
    subst (EntailScoped preds) (sym first.concludes) ((subst (EntailScoped preds) over e).0, is.scoped preds hs) in
    let all : Proves Every (across moved step) (meanings ps) (n + 10 + 1) d k1 p = chain Every [] (meanings ps) n 10 d k1 first1 second scope in
    let bound : n + 10 + 1 ≤ rules_within s = few s (n + 10 + 1) (omega (arith, le, parts_nodes w)) in
    weaker Every (meaning w) (meanings ps) (n + 10 + 1) d k1 (rules_within s) d k1 p bound (omega arith) (omega arith) (subst (λ (e : Entail). Proves Every e (meanings ps) (n + 10 + 1) d k1 p) over all)
