-- What the action owes that takes a lemma in hand: its proof has one hole more, for what the lemma says.
use Rattle.std.specs.Prelude.{◌≡◌, ℕ, suc, ◌+◌, ◌*◌, ◌≤◌, max, length, List, [], ◌∷◌, ◌++◌, Option, Some, None, Result, Ok, Err}
use Rattle.std.specs.List.{AllByRecursion}
use Rattle.pm_logic.specs.declared.formula.Formula.{Formula}
use Rattle.pm_logic.specs.declared.formula.Formula.TheVariants.{Pure as Assert}
use Rattle.pm_logic.specs.declared.formula.Formula.TheViews as view
use Rattle.pm_logic.specs.declared.formula.Pure.TheVariants.{True}
use Rattle.pm_logic.specs.Scope.{ScopedIn}
use Rattle.pm_logic.specs.Size.{depth_of}
use Rattle.pm_goal.specs.declared.work.Work.{Work}
use Rattle.pm_goal.specs.declared.work.Kind.TheVariants as kind
use Rattle.pm_goal.specs.Left.{left_of_work}
use Rattle.pm_goal.specs.declared.work.Lemma.{Lemma}
use Rattle.pm_goal.specs.declared.work.Lemmas.{Lemmas}
use Rattle.pm_goal.specs.declared.refusal.StepFault.{StepFault}
use Rattle.pm_goal.specs.declared.refusal.StepFault.TheVariants as fault
use Rattle.pm_rules.specs.declared.rules.Entail.{Entail}
use Rattle.pm_proof.specs.Trees.{Tree, entail}
use Rattle.pm_proof.specs.Known.{Proves, Every}
use Rattle.pm_proof.specs.declared.proof.Parts.{Parts}
use Rattle.pm_star.specs.Stars.{work_parts}
use Rattle.pm_table.specs.declared.place.Place.{Place}
use Rattle.pm_table.specs.declared.place.Place.TheVariants.{Current as current}
use Rattle.pm_table.specs.Outcomes.{Outcome, gives, refused, one}
use Rattle.pm_table.specs.Limits.{work_formulas, all_nodes, limited}
use Rattle.pm_table.specs.Running.{rules_within}
use Rattle.pm_table.specs.Terms.{lemma_named}
use Rattle.pm_table.specs.Works.{Named, hold}
use Rattle.pm_table.specs.Directives.{lemma_nodes}
use Rattle.pm_action.specs.Meanings.{meaning, meanings, height, room, width}
use Rattle.pm_action.specs.declared.limits.TheConstants.{MOST}

-- what lemmas are that can be cited: each is closed, and not too deep
pub record IsCitable (l : Lemma) : Type 0 where
  pub closed : ScopedIn 0 l.formula
  pub shallow : suc (depth_of l.formula) ≤ MOST

pub record AreCitable (lemmas : Lemmas) : Type 0 where
  pub each : AllByRecursion IsCitable lemmas.list

-- what a lemma of the formula says: it holds of nothing, in no variables
abbrev pub says : Formula → Entail
says f = entail 0 (Assert True) f

-- a proof of what the work means from what the places mean, and behind them from what the lemma says
abbrev pub IsCited : ℕ → Work → List Place → Formula → Tree → Type 0
IsCited s w ps f t = Proves Every (meaning w) (meanings ps ++ says f ∷ []) (rules_within s) (room w ps) (width w) t

-- the same of the lemma that was found: where none was, there is no proof
abbrev pub IsCitedOf : ℕ → Work → List Place → Option Formula → Tree → Type 0
IsCitedOf s w ps (Some f) t = IsCited s w ps f t
IsCitedOf s w ps None t = ⊥

-- what is answered where this is the lemma's formula, and this the outcome: want of memory, or the first row that refuses it, or
-- the places with a proof
abbrev pub AnswersCiting : ℕ → Work → Option Formula → Outcome → Result (Parts Place) StepFault → Type 0
AnswersCiting s w f (gives ps) (Ok parts) = (parts.goals ≡ ps) × IsCitedOf s w ps f parts.proof
AnswersCiting s w f (gives ps) (Err (fault.Refused x)) = ⊥
AnswersCiting s w f (gives ps) (Err fault.Memory) = Unit {0}
AnswersCiting s w f (refused r) (Ok parts) = ⊥
AnswersCiting s w f (refused r) (Err (fault.Refused x)) = x ≡ r
AnswersCiting s w f (refused r) (Err fault.Memory) = Unit {0}

-- the nodes of the work, and of the lemma that is found
abbrev pub cited_nodes : Work → Option Formula → ℕ
cited_nodes w f = all_nodes (work_formulas w) + lemma_nodes f

-- ---- on the way

-- from the work with the formula in hand: its box beside the star of the old one entails the conclusion
abbrev pub IsFromNew : Work → Formula → Tree → Type 0
IsFromNew w f t = Proves Every (entail (length w.goal.vars) (view.Sep (view.Pers f) (left_of_work w)) w.goal.concl) (meaning (hold kind.Int f w) ∷ []) (100 * length (work_parts w) + 101) (max (height w) (height (hold kind.Int f w)) + 12) (length w.goal.vars) t

abbrev pub IsCiting : Work → Formula → Tree → Type 0
IsCiting w f t = Proves Every (meaning w) (meaning (hold kind.Int f w) ∷ says f ∷ []) (100 * length (work_parts w) + 122) (max (height w) (height (hold kind.Int f w)) + 12) (width w) t

-- the new work, where it is within the limits
abbrev pub EndsCiting : Work → Tree → Result (Parts Place) StepFault → Type 0
EndsCiting new t r = (s : ℕ) (w : Work) (f : Formula) → IsCited s w (current [] new ∷ []) f t → AnswersCiting s w (Some f) (limited (one new)) r
