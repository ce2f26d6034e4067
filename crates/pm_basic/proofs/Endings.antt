-- The ends of what follows from one new conclusion.
use Rattle.std.proofs.Common.{◌≡◌, ℕ, Bool, List, [], ◌∷◌, ◌++◌, ◌+◌, ◌<◌, length, map, sym, subst, arith, Option, Some, None, option_map}
use Rattle.std.specs.Prelude.{Result, Err}
use Rattle.std.specs.List.{AllByRecursion}
use Rattle.pm_logic.specs.declared.formula.Term.{Term}
use Rattle.pm_logic.specs.declared.formula.Pure.TheVariants.{False}
use Rattle.pm_logic.specs.declared.formula.Formula.{Formula}
use Rattle.pm_logic.specs.declared.formula.Formula.TheVariants.{Pure as Assert}
use Rattle.pm_logic.specs.declared.formula.TheConstants.{BOUND}
use Rattle.pm_logic.specs.Scope.{ScopedIn}
use Rattle.pm_logic.specs.Size.{depth_of, term_nodes}
use Rattle.pm_logic.specs.Substitution.{opened_of}
use Rattle.pm_goal.specs.declared.goal.Goal.{Goal}
use Rattle.pm_goal.specs.declared.work.Held.{Held}
use Rattle.pm_goal.specs.declared.work.Work.{Work}
use Rattle.pm_goal.specs.Left.{facts, hyps}
use Rattle.pm_goal.specs.declared.refusal.Row.TheVariants.{ConclusionNotDisjunction, ConclusionNotExistential}
use Rattle.pm_goal.specs.declared.refusal.StepFault.{StepFault}
use Rattle.pm_goal.specs.declared.refusal.StepFault.TheVariants as fault
use Rattle.pm_proof.specs.Trees.{Tree, entail}
use Rattle.pm_proof.specs.Known.{Proves, Every}
use Rattle.pm_proof.specs.Valid.{TermFits}
use Rattle.pm_proof.specs.declared.proof.Parts.{Parts}
use Rattle.pm_schemes.specs.Sketches.{deepest}
use Rattle.pm_classes.specs.declared.entry.One.{One}
use Rattle.pm_table.specs.declared.place.Place.{Place}
use Rattle.pm_table.specs.Limits.{limited, formulas, work_formulas, all_nodes}
use Rattle.pm_table.specs.Basic.{for, on_goal, gives_goal, exfalso, side, exists, or_parts, body_of_ex}
use Rattle.pm_action.specs.Acting.{Answers, IsHanded, plainly}
use Rattle.pm_action.proofs.Heights.{concl_depth}
use Rattle.pm_basic.specs.Enough.{Suffices, Enough, picked}
use Rattle.pm_basic.proofs.Ending.{on_rest, entry_given, entry_suffices, entry_missing}
use Rattle.pm_basic.proofs.Choices.{falsity_suffices}

-- ---- the conclusion of a work that is handed in

all_left : {A : Type 0} (P : A → Type 0) (xs ys : List A) → AllByRecursion P (xs ++ ys) → AllByRecursion P xs
all_left P [] ys h = tt
all_left P (x ∷ xs) ys h = (h.0, all_left P xs ys h.1)

all_right : {A : Type 0} (P : A → Type 0) (xs ys : List A) → AllByRecursion P (xs ++ ys) → AllByRecursion P ys
all_right P [] ys h = h
all_right P (x ∷ xs) ys h = all_right P xs ys h.1

goal_scoped : (P : Formula → Type 0) (g : Goal) → AllByRecursion P (formulas g) → P g.concl
goal_scoped P g h =
    (all_right P (hyps g.spats) (g.concl ∷ [])
    (all_right P (hyps g.ints) (hyps g.spats ++ (g.concl ∷ []))
    (all_right P (facts g.pures) (hyps g.ints ++ (hyps g.spats ++ (g.concl ∷ []))) h))).0

module _ (k : ℕ) (w : Work) (vars : k ≡ length w.goal.vars) where
  pub concl_scoped : IsHanded w → ScopedIn k w.goal.concl
  concl_scoped h =
      subst (λ (j : ℕ). ScopedIn j w.goal.concl) (sym vars)
      (goal_scoped (ScopedIn (length w.goal.vars)) w.goal (all_left (ScopedIn (length w.goal.vars)) (formulas w.goal) (map (λ (h : Held). h.formula) w.held) h.scoped))

  pub concl_small : IsHanded w → k + depth_of w.goal.concl < BOUND
  concl_small h = omega (arith, vars, h.shallow, concl_depth w)

  pub term_fits : (t : Term) → TermFits (length w.goal.vars) t → TermFits k t
  term_fits t h = subst (λ (j : ℕ). TermFits j t) (sym vars) h

-- ---- ends

module _ (k : ℕ) (w : Work) where
  pub exfalso_suffices : (t : Tree) → k ≡ length w.goal.vars → Proves Every (entail k (Assert False) w.goal.concl) [] 1 (deepest (w.goal.concl ∷ []) [] + 2) k t → Suffices (length w.goal.vars) w.goal.concl (Assert False) t
  exfalso_suffices t vars p = subst (λ (j : ℕ). Suffices j w.goal.concl (Assert False) t) vars (falsity_suffices k w.goal.concl t p)

pub exfalso_done : (w : Work) (r : Result (Parts Place) StepFault) → w.held ≡ [] → ((s : ℕ) → Answers s w (limited (gives_goal (for (Assert False) w.goal))) r) → Answers (all_nodes (work_formulas w)) w (limited (on_goal exfalso w)) r
exfalso_done w r nothing h = on_rest (all_nodes (work_formulas w)) w exfalso r nothing (h (all_nodes (work_formulas w)))

module _ (k : ℕ) (w : Work) (left : Bool) (o : Option One) where
  abbrev parted : ℕ → Option One → Type 0
  parted j q = Enough j w.goal.concl (option_map (picked left) (or_parts w.goal.concl)) q

  pub side_suffices : (e : One) → k ≡ length w.goal.vars → o ≡ Some e → parted k o → Suffices (length w.goal.vars) w.goal.concl e.formula e.proof
  side_suffices e vars is h =
      entry_suffices 0 w ConclusionNotDisjunction (picked left) (or_parts w.goal.concl) e
      (subst (λ (j : ℕ). parted j (Some e)) vars (subst (λ (q : Option One). parted k q) is h))

  pub side_done : (e : One) (r : Result (Parts Place) StepFault) → w.held ≡ [] → k ≡ length w.goal.vars → o ≡ Some e → parted k o
      → ((s : ℕ) → Answers s w (limited (gives_goal (for e.formula w.goal))) r) → Answers (all_nodes (work_formulas w)) w (limited (on_goal (side left) w)) r
  side_done e r nothing vars is h ends =
      let s : ℕ = all_nodes (work_formulas w) in
      on_rest s w (side left) r nothing
      (entry_given s w ConclusionNotDisjunction (picked left) (or_parts w.goal.concl) e r
      (subst (λ (j : ℕ). parted j (Some e)) vars (subst (λ (q : Option One). parted k q) is h)) ends)

  pub side_refused : (f : StepFault) → w.held ≡ [] → k ≡ length w.goal.vars → o ≡ None → parted k o → f ≡ fault.Refused (plainly ConclusionNotDisjunction) → Answers (all_nodes (work_formulas w)) w (limited (on_goal (side left) w)) (Err f)
  side_refused f nothing vars is h e =
      let s : ℕ = all_nodes (work_formulas w) in
      on_rest s w (side left) (Err f) nothing
      (entry_missing s w ConclusionNotDisjunction (picked left) (or_parts w.goal.concl) f
      (subst (λ (j : ℕ). parted j None) vars (subst (λ (q : Option One). parted k q) is h)) e)

module _ (k : ℕ) (w : Work) (t : Term) (o : Option One) where
  abbrev opened : ℕ → Option One → Type 0
  opened j q = Enough j w.goal.concl (option_map (λ b. opened_of b t) (body_of_ex w.goal.concl)) q

  pub exists_suffices : (e : One) → k ≡ length w.goal.vars → o ≡ Some e → opened k o → Suffices (length w.goal.vars) w.goal.concl e.formula e.proof
  exists_suffices e vars is h =
      entry_suffices 0 w ConclusionNotExistential (λ (b : Formula). opened_of b t) (body_of_ex w.goal.concl) e
      (subst (λ (j : ℕ). opened j (Some e)) vars (subst (λ (q : Option One). opened k q) is h))

  pub exists_done : (e : One) (r : Result (Parts Place) StepFault) → w.held ≡ [] → k ≡ length w.goal.vars → o ≡ Some e → opened k o
      → ((s : ℕ) → Answers s w (limited (gives_goal (for e.formula w.goal))) r) → Answers (all_nodes (work_formulas w) + term_nodes t) w (limited (on_goal (exists t) w)) r
  exists_done e r nothing vars is h ends =
      let s : ℕ = all_nodes (work_formulas w) + term_nodes t in
      on_rest s w (exists t) r nothing
      (entry_given s w ConclusionNotExistential (λ (b : Formula). opened_of b t) (body_of_ex w.goal.concl) e r
      (subst (λ (j : ℕ). opened j (Some e)) vars (subst (λ (q : Option One). opened k q) is h)) ends)

  pub exists_refused : (f : StepFault) → w.held ≡ [] → k ≡ length w.goal.vars → o ≡ None → opened k o → f ≡ fault.Refused (plainly ConclusionNotExistential) → Answers (all_nodes (work_formulas w) + term_nodes t) w (limited (on_goal (exists t) w)) (Err f)
  exists_refused f nothing vars is h e =
      let s : ℕ = all_nodes (work_formulas w) + term_nodes t in
      on_rest s w (exists t) (Err f) nothing
      (entry_missing s w ConclusionNotExistential (λ (b : Formula). opened_of b t) (body_of_ex w.goal.concl) f
      (subst (λ (j : ℕ). opened j None) vars (subst (λ (q : Option One). opened k q) is h)) e)
