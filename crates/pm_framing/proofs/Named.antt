-- What framing by a name answers.
use Rattle.std.proofs.Common.{◌≡◌, ℕ, length, refl, sym, ◌∙◌, ap, subst, Option, Some, None}
use Rattle.std.specs.Prelude.{Result, Err, option_map}
use Rattle.pm_logic.specs.declared.formula.Formula.{Formula}
use Rattle.pm_goal.specs.declared.work.Held.{Held}
use Rattle.pm_goal.specs.declared.work.Work.{Work}
use Rattle.pm_goal.specs.declared.refusal.Row.TheVariants.{NoSuchHypothesis, NothingFramed}
use Rattle.pm_goal.specs.declared.refusal.StepFault.{StepFault}
use Rattle.pm_proof.specs.declared.proof.Parts.{Parts}
use Rattle.pm_table.specs.declared.place.Place.{Place}
use Rattle.pm_table.specs.Framing.{frame}
use Rattle.pm_table.specs.Outcomes.{Outcome, require_some}
use Rattle.pm_table.specs.Limits.{limited, all_nodes, work_formulas}
use Rattle.pm_table.specs.Works.{Named}
use Rattle.pm_table.specs.Terms as table
use Rattle.pm_action.specs.Acting.{Answers, Refuses, StaysAs}
use Rattle.pm_hand.proofs.Answered.{refuses}
use Rattle.pm_frame.specs.declared.framed.Framed.{Framed}
use Rattle.pm_frame.specs.Frames.{FrameAnswer}
use Rattle.pm_framing.specs.declared.sources.Source.{Source}
use Rattle.pm_framing.specs.Sources.{formula_of, IsSource, spent}
use Rattle.pm_framing.proofs.Lasting.{is_framed, not_framed}

-- both rows, as what follows from the rest
abbrev row : Named → Work → (Option Formula → Outcome) → Option Held → Outcome
row name w follows o = require_some o NoSuchHypothesis name (λ held. follows (frame held.formula w.goal.concl))

abbrev named_follows : Named → Work → Option Formula → Outcome
named_follows name w o = require_some o NothingFramed name (λ rest. table.concluding rest (spent w name))

abbrev member_follows : Named → Work → Option Formula → Outcome
member_follows name w o = table.passing name w o

-- what is held has the formula
row_held : (name : Named) (w : Work) (follows : Option Formula → Outcome) (f : Formula) (o : Option Held) → option_map (λ (h : Held). h.formula) o ≡ Some f → row name w follows o ≡ follows (frame f w.goal.concl)
row_held name w follows f None e = absurd cc
row_held name w follows f (Some h) e = let same : h.formula ≡ f = cc in ap (λ x. follows (frame x w.goal.concl)) same

row_is : (name : Named) (w : Work) (follows : Option Formula → Outcome) (s : Source) (o : Option Formula) → IsSource w.goal name s → frame s.formula w.goal.concl ≡ o → row name w follows (table.held_as name w.goal) ≡ follows o
row_is name w follows s o is e = row_held name w follows s.formula (table.held_as name w.goal) is.names ∙ ap follows e

module _ (w : Work) (name : Named) where
  abbrev nodes : ℕ
  nodes = all_nodes (work_formulas w)

  pub none_named : (f : StepFault) → table.held_as name w.goal ≡ None → Refuses NoSuchHypothesis name f → Answers nodes w (limited (table.frame_named name w)) (Err f)
  none_named f e r = subst (λ o. Answers nodes w (limited (row name w (named_follows name w) o)) (Err f)) (sym e) (refuses nodes w NoSuchHypothesis name f r)

  pub none_member : (f : StepFault) → table.held_as name w.goal ≡ None → Refuses NoSuchHypothesis name f → Answers nodes w (limited (table.frame_member name w)) (Err f)
  none_member f e r = subst (λ o. Answers nodes w (limited (row name w (member_follows name w) o)) (Err f)) (sym e) (refuses nodes w NoSuchHypothesis name f r)

  module _ (s : Source) (is : IsSource w.goal name s) (k : ℕ) where
    pub named_framed : (f : Framed) (r : Result (Parts Place) StepFault) → FrameAnswer k s.formula w.goal.concl (Some f) → Answers nodes w (limited (table.concluding f.rest (spent w name))) r → Answers nodes w (limited (table.frame_named name w)) r
    named_framed f r a g = subst (λ o. Answers nodes w (limited o) r) (sym (row_is name w (named_follows name w) s (Some f.rest) is (is_framed k s.formula w.goal.concl f a).row)) g

    pub member_framed : (f : Framed) (r : Result (Parts Place) StepFault) → FrameAnswer k s.formula w.goal.concl (Some f) → Answers nodes w (limited (table.concluding f.rest (spent w name))) r → Answers nodes w (limited (table.frame_member name w)) r
    member_framed f r a g = subst (λ o. Answers nodes w (limited o) r) (sym (row_is name w (member_follows name w) s (Some f.rest) is (is_framed k s.formula w.goal.concl f a).row)) g

    pub named_refused : (f : StepFault) → FrameAnswer k s.formula w.goal.concl None → Refuses NothingFramed name f → Answers nodes w (limited (table.frame_named name w)) (Err f)
    named_refused f a r = subst (λ o. Answers nodes w (limited o) (Err f)) (sym (row_is name w (named_follows name w) s None is (not_framed k s.formula w.goal.concl a))) (refuses nodes w NothingFramed name f r)

    pub member_passed : (r : Result (Parts Place) StepFault) → FrameAnswer k s.formula w.goal.concl None → StaysAs w w r → Answers nodes w (limited (table.frame_member name w)) r
    member_passed r a stays = subst (λ o. Answers nodes w (limited o) r) (sym (row_is name w (member_follows name w) s None is (not_framed k s.formula w.goal.concl a))) (stays nodes)
