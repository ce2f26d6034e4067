-- The works that actions on what is in hand give, and what is known of proofs that lead to them.
use Rattle.std.specs.Prelude.{◌≡◌, ℕ, ◌+◌, ◌*◌, ◌≤◌, max, suc, [], ◌∷◌, ◌++◌, length, Result}
use Rattle.pm_logic.specs.declared.formula.Pure.{Pure}
use Rattle.pm_logic.specs.declared.formula.Formula.{Formula}
use Rattle.pm_logic.specs.declared.formula.Formula.TheViews as view
use Rattle.pm_logic.specs.declared.formula.Term.{Term}
use Rattle.pm_logic.specs.declared.formula.Preds.{Preds}
use Rattle.pm_logic.specs.Scope.{Scoped}
use Rattle.pm_logic.specs.Substitution.{opened_of}
use Rattle.pm_logic.specs.Size.{depth_of}
use Rattle.pm_goal.specs.declared.goal.Goal.{Goal}
use Rattle.pm_goal.specs.declared.work.Kind.{Kind}
use Rattle.pm_goal.specs.declared.work.Kind.TheVariants.{Int, Spat}
use Rattle.pm_goal.specs.declared.work.Held.{Held}
use Rattle.pm_goal.specs.declared.work.Work.{Work}
use Rattle.pm_goal.specs.declared.refusal.Row.TheVariants.{NotPersistent, NotUniversal}
use Rattle.pm_goal.specs.declared.refusal.StepFault.{StepFault}
use Rattle.pm_goal.specs.Left.{of_kind, left_of_work}
use Rattle.pm_rules.specs.declared.rules.Entail.{Entail}
use Rattle.pm_proof.specs.Trees.{Tree, entail, conclusion}
use Rattle.pm_proof.specs.Known.{Proves, Extends, Every}
use Rattle.pm_proof.specs.declared.proof.Parts.{Parts}
use Rattle.pm_table.specs.declared.place.Place.{Place}
use Rattle.pm_table.specs.declared.place.Place.TheVariants.{Current as current}
use Rattle.pm_schemes.specs.Sketches.{deepest}
use Rattle.pm_star.specs.Stars.{work_parts}
use Rattle.pm_classes.specs.Classes.{into_persistent, into_forall}
use Rattle.pm_table.specs.Outcomes.{Outcome, gives, one, require_entry}
use Rattle.pm_table.specs.Limits.{limited, all_nodes, work_formulas}
use Rattle.pm_table.specs.Works.{Named, with_hyp, with_fact, without_named, holding, work_of}
use Rattle.pm_action.specs.Meanings.{height, room, width}
use Rattle.pm_action.specs.Acting.{Answers, all_but_last}

-- where a new hypothesis of the kind stands in the star of the goal
abbrev pub end_of : Kind → Goal → ℕ
end_of Int goal = length goal.pures + length goal.ints
end_of Spat goal = length goal.pures + length goal.ints + length goal.spats

-- what is last in hand has the name
abbrev pub named : Work → Held → Named → Work
named w l name = work_of (with_hyp l.kind name l.formula w.goal) (all_but_last w.held)

-- what is last in hand is gone
abbrev pub dropped : Work → Work
dropped w = work_of w.goal (all_but_last w.held)

-- it is this formula of the kind
abbrev pub relast : Work → Kind → Formula → Work
relast w k f = work_of w.goal (all_but_last w.held ++ (holding k f ∷ []))

-- it is a fact of the name
abbrev pub known : Work → Named → Pure → Work
known w name p = work_of (with_fact name p w.goal) (all_but_last w.held)

-- without the hypothesis or fact of the name
abbrev pub less : Work → Named → Work
less w name = work_of (without_named name w.goal) w.held

-- the one new work, of an action on nodes of the old one alone
abbrev pub GivesOne : Work → Work → Result (Parts Place) StepFault → Type 0
GivesOne w new r = Answers (all_nodes (work_formulas w)) w (limited (gives (current [] new ∷ []))) r

-- the same from a proof that is put in, within these bounds, of an action on so many nodes
abbrev pub Becomes : Work → Work → Tree → Result (Parts Place) StepFault → Type 0
Becomes w new by r = (s n d : ℕ) → all_nodes (work_formulas w) ≤ s → Proves Every (conclusion by) [] n d (width w) by → n ≤ 800 * suc s → d ≤ room w (current [] new ∷ []) → Answers s w (limited (gives (current [] new ∷ []))) r

-- on nodes of the old work alone
abbrev pub BecomesOne : Work → Work → Tree → Result (Parts Place) StepFault → Type 0
BecomesOne w new by r = (n d : ℕ) → Proves Every (conclusion by) [] n d (width w) by → n ≤ 800 * suc (all_nodes (work_formulas w)) → d ≤ room w (current [] new ∷ []) → GivesOne w new r

-- what the last in hand says, before and after
abbrev pub last_says : Work → Held → Kind → Formula → Entail
last_says w l k f = entail (length w.goal.vars) (of_kind l.kind l.formula) (of_kind k f)

-- from a proof of x ⊢ a ∗ y: x ⊢ a
abbrev pub IsFirst : Tree → Tree → Type 0
IsFirst by t = (k : ℕ) (x a y : Formula) → conclusion by ≡ entail k x (view.Sep a y) → Extends by (entail k x a) 2 (max (depth_of x) (max (depth_of a) (depth_of y)) + 8) k t

-- from the star to one of its parts
abbrev pub FromStar : Work → Formula → Tree → Type 0
FromStar w f t = Proves Every (entail (length w.goal.vars) (left_of_work w) f) [] (100 * length (work_parts w) + 102) (height w + 12) (length w.goal.vars) t

-- a spatial one that is persistent, under the box
abbrev pub boxing : Work → Held → Outcome
boxing w l = require_entry (into_persistent l.formula) NotPersistent (λ g. one (relast w Int g))

-- a universal, opened with the term
abbrev pub opening : Work → Held → Term → Outcome
opening w l t = require_entry (into_forall l.formula) NotUniversal (λ b. one (relast w l.kind (opened_of b t)))

-- from what is in hand to the body b of the universal, opened with the term, by a proof of the universal that is put in; what is
-- scoped of the universal is shown where it is known
pub record IsOpened (k : ℕ) (kind : Kind) (f b : Formula) (t : Term) (by p : Tree) : Type 0 where
  pub concludes : conclusion p ≡ entail k (of_kind kind f) (of_kind kind (opened_of b t))
  pub proves : (n d q : ℕ) → Proves Every (conclusion by) [] n d q by → ((preds : Preds) → Scoped preds k f → Scoped preds k (view.All b)) → k ≤ q → deepest (f ∷ view.All b ∷ opened_of b t ∷ []) [] + 1 ≤ d → Proves Every (conclusion p) [] (n + 3) d q p

-- from the star to that of the new work, around a proof that is put in, which isn't deeper than the two works allow
pub record LeadsBy (w new : Work) (by t : Tree) : Type 0 where
  pub concludes : conclusion t ≡ entail (length w.goal.vars) (left_of_work w) (left_of_work new)
  pub proves : (n d : ℕ) → Proves Every (conclusion by) [] n d (width w) by → d ≤ room w (current [] new ∷ []) → Proves Every (conclusion t) [] (n + 200 * length (work_parts w) + 201) (room w (current [] new ∷ [])) (width w) t

-- from the star to that of the new work, within the bounds of an action
abbrev pub Brings : Work → Work → ℕ → Tree → Type 0
Brings w new n t = Proves Every (entail (length w.goal.vars) (left_of_work w) (left_of_work new)) [] n (room w (current [] new ∷ [])) (width w) t
