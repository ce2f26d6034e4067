-- What an action owes by the outcomes of its tests.
use Rattle.std.proofs.Common.{◌≡◌, ℕ, Bool, true, false, ◌||◌, List, [], refl, sym, subst, ◌∙◌}
use Rattle.std.specs.Prelude.{Result, Err}
use Rattle.pm_goal.specs.declared.goal.Goal.{Goal}
use Rattle.pm_goal.specs.declared.work.Work.{Work}
use Rattle.pm_goal.specs.declared.work.Held.{Held}
use Rattle.pm_goal.specs.declared.refusal.Row.{Row}
use Rattle.pm_goal.specs.declared.refusal.StepFault.{StepFault}
use Rattle.pm_goal.specs.declared.refusal.StepFault.TheVariants as fault
use Rattle.pm_goal.specs.Refusals.{refusal}
use Rattle.pm_goal.specs.declared.refusal.Row.TheVariants.{NoSuchHypothesis, NotTheConclusion, NoAssumption}
use Rattle.pm_proof.specs.Trees.{Tree}
use Rattle.pm_proof.specs.declared.proof.Parts.{Parts}
use Rattle.pm_table.specs.declared.place.Place.{Place}
use Rattle.pm_table.specs.Outcomes.{Outcome, gives, refused, require, require_plain, closed, one}
use Rattle.pm_table.specs.Limits.{limited}
use Rattle.pm_table.specs.Works.{Named, has_hyp_or_fact, where_none}
use Rattle.pm_table.specs.Basic.{on_goal, exact, is_exact, assumption, is_hypothesis, is_fact}
use Rattle.pm_action.specs.Acting.{IsActed, Answers, Refuses, Ends, plainly}

pub memory : (s : ℕ) (w : Work) (o : Outcome) → Answers s w o (Err fault.Memory)
memory s w (gives ps) = tt
memory s w (refused r) = tt

refuses : (s : ℕ) (w : Work) (row : Row) (name : Named) (f : StepFault) → Refuses row name f → Answers s w (refused (refusal row name)) (Err f)
refuses s w row name (fault.Refused x) r = r
refuses s w row name fault.Memory r = tt

-- a test with a name
pub not_named : (s : ℕ) (w : Work) (test : Bool) (row : Row) (name : Named) (follows : Outcome) (f : StepFault) → test ≡ false → Refuses row name f → Answers s w (limited (require test row name follows)) (Err f)
not_named s w test row name follows f e r = subst (λ b. Answers s w (limited (require b row name follows)) (Err f)) (sym e) (refuses s w row name f r)

pub named : (s : ℕ) (w : Work) (test : Bool) (row : Row) (name : Named) (follows : Outcome) (r : Result (Parts Place) StepFault) → test ≡ true → Answers s w (limited follows) r → Answers s w (limited (require test row name follows)) r
named s w test row name follows r e a = subst (λ b. Answers s w (limited (require b row name follows)) r) (sym e) a

-- and one without
pub not_plain : (s : ℕ) (w : Work) (test : Bool) (row : Row) (follows : Outcome) (f : StepFault) → test ≡ false → f ≡ fault.Refused (plainly row) → Answers s w (limited (require_plain test row follows)) (Err f)
not_plain s w test row follows f e is = subst (λ b. Answers s w (limited (require_plain b row follows)) (Err f)) (sym e) (rw is refl)

pub plain : (s : ℕ) (w : Work) (test : Bool) (row : Row) (follows : Outcome) (r : Result (Parts Place) StepFault) → test ≡ true → Answers s w (limited follows) r → Answers s w (limited (require_plain test row follows)) r
plain s w test row follows r e a = subst (λ b. Answers s w (limited (require_plain b row follows)) r) (sym e) a

-- with nothing in hand
pub on_rest : (s : ℕ) (w : Work) (act : Goal → Outcome) (r : Result (Parts Place) StepFault) → w.held ≡ [] → Answers s w (limited (act w.goal)) r → Answers s w (limited (on_goal act w)) r
on_rest s w act r nothing h = subst (λ (hs : List Held). Answers s w (limited (where_none hs (act w.goal) (one w))) r) (sym nothing) h

-- ---- exact

pub not_there : (s : ℕ) (w : Work) (h : Named) (b : Bool) (f : StepFault) → w.held ≡ [] → b ≡ has_hyp_or_fact w.goal h → b ≡ false → Refuses NoSuchHypothesis h f → Answers s w (limited (on_goal (exact h) w)) (Err f)
not_there s w h b f nothing is e r = on_rest s w (exact h) (Err f) nothing (not_named s w (has_hyp_or_fact w.goal h) NoSuchHypothesis h (require_plain (is_exact h w.goal) NotTheConclusion closed) f (sym is ∙ e) r)

pub not_exact : (s : ℕ) (w : Work) (h : Named) (b : Bool) (f : StepFault) → w.held ≡ [] → b ≡ has_hyp_or_fact w.goal h → b ≡ true → is_exact h w.goal ≡ false → f ≡ fault.Refused (plainly NotTheConclusion) → Answers s w (limited (on_goal (exact h) w)) (Err f)
not_exact s w h b f nothing is e t r = on_rest s w (exact h) (Err f) nothing (named s w (has_hyp_or_fact w.goal h) NoSuchHypothesis h (require_plain (is_exact h w.goal) NotTheConclusion closed) (Err f) (sym is ∙ e) (not_plain s w (is_exact h w.goal) NotTheConclusion closed f t r))

pub exactly : (s : ℕ) (w : Work) (h : Named) (b : Bool) (r : Result (Parts Place) StepFault) → w.held ≡ [] → b ≡ has_hyp_or_fact w.goal h → b ≡ true → is_exact h w.goal ≡ true → Answers s w (gives []) r → Answers s w (limited (on_goal (exact h) w)) r
exactly s w h b r nothing is e t a = on_rest s w (exact h) r nothing (named s w (has_hyp_or_fact w.goal h) NoSuchHypothesis h (require_plain (is_exact h w.goal) NotTheConclusion closed) r (sym is ∙ e) (plain s w (is_exact h w.goal) NotTheConclusion closed r t a))

-- ---- assumption

pub not_assumed : (s : ℕ) (w : Work) (f : StepFault) → w.held ≡ [] → is_hypothesis w.goal || is_fact w.goal ≡ false → f ≡ fault.Refused (plainly NoAssumption) → Answers s w (limited (on_goal assumption w)) (Err f)
not_assumed s w f nothing t r = on_rest s w assumption (Err f) nothing (not_plain s w (is_hypothesis w.goal || is_fact w.goal) NoAssumption closed f t r)

pub assumed : (s : ℕ) (w : Work) (r : Result (Parts Place) StepFault) → w.held ≡ [] → is_hypothesis w.goal || is_fact w.goal ≡ true → Answers s w (gives []) r → Answers s w (limited (on_goal assumption w)) r
assumed s w r nothing t a = on_rest s w assumption r nothing (plain s w (is_hypothesis w.goal || is_fact w.goal) NoAssumption closed r t a)

pub closes : (s : ℕ) (w : Work) (t : Tree) (r : Result (Parts Place) StepFault) → IsActed s w [] t → Ends [] t r → Answers s w (gives []) r
closes s w t r acted ends = ends s w acted
