-- What unfolding and folding answer.
use Rattle.std.proofs.Common.{◌≡◌, ℕ, ◌+◌, ◌↔◌, Bool, true, false, length, sym, ◌∙◌, ap, subst, arith, Option, Some, None}
use Rattle.std.specs.Prelude.{Result, Err, IsTrue}
use Rattle.std.proofs.lemmas.Bool.Decides.{same_from_decides}
use Rattle.pm_logic.specs.declared.formula.Formula.{Formula}
use Rattle.pm_logic.specs.declared.formula.Preds.{Preds}
use Rattle.pm_logic.specs.Size.{nodes_of}
use Rattle.pm_goal.specs.declared.work.Work.{Work}
use Rattle.pm_goal.specs.declared.refusal.Row.TheVariants.{NoSuchHypothesis, NotPredicateCall, NotPredicateBody}
use Rattle.pm_goal.specs.declared.refusal.StepFault.{StepFault}
use Rattle.pm_goal.specs.declared.refusal.StepFault.TheVariants as fault
use Rattle.pm_proof.specs.Trees.{entail, conclusion}
use Rattle.pm_proof.specs.Known.{From}
use Rattle.pm_proof.specs.declared.proof.Parts.{Parts}
use Rattle.pm_classes.specs.declared.entry.One.{One}
use Rattle.pm_table.specs.declared.place.Place.{Place}
use Rattle.pm_table.specs.Outcomes.{Outcome, require_plain, require_some, require_entry}
use Rattle.pm_table.specs.Limits.{limited, work_formulas, all_nodes}
use Rattle.pm_table.specs.Works.{Named, hyp_named}
use Rattle.pm_table.specs.Basic.{for, gives_goal}
use Rattle.pm_table.specs.Heap.{put}
use Rattle.pm_table.specs.Equality.{formula_eq}
use Rattle.pm_table.specs.Loeb.{body_of_call, formula_named, unfold_call, fold_call}
use Rattle.pm_table.proofs.Equals.{formula_eq_decides}
use Rattle.pm_table.proofs.Scoping.{OneIn, one_of_two, hyp_named_in}
use Rattle.pm_action.specs.Meanings.{width}
use Rattle.pm_action.specs.Acting.{AnswersOver, Refuses, plainly}
use Rattle.pm_loeb.specs.declared.putting.Spot.{Spot}
use Rattle.pm_loeb.specs.Calls.{IsUnfoldable, IsFoldable, IsUnfolded, IsFolded}
use Rattle.pm_loeb.specs.Spots.{IsThere, Puts, Concludes}
use Rattle.pm_loeb.proofs.Ending.{refused_by, refused_plainly}

module _ (preds : Preds) (w : Work) where
  abbrev k : ℕ
  k = length w.goal.vars

  abbrev Gives : ℕ → Outcome → Result (Parts Place) StepFault → Type 0
  Gives s o r = AnswersOver (From preds) (width w) s w (limited o) r

  abbrev s : ℕ
  s = all_nodes (work_formulas w)

  -- ---- the conclusion

  pub concl_foldable : (v : ℕ) → v ≡ k → IsUnfoldable preds w → IsFoldable preds v w.goal.concl
  concl_foldable v e h = subst (λ n. IsFoldable preds n w.goal.concl) (sym e) (record { scoped = h.work.goal.concl; bodies = h.bodies })

  pub concl_says : (v : ℕ) (x : One) → v ≡ k → IsFolded preds v w.goal.concl (Some x) → conclusion x.proof ≡ entail k x.formula w.goal.concl
  concl_says v x e f = f.1.concludes ∙ ap (λ n. entail n x.formula w.goal.concl) e

  pub concl_done : (v : ℕ) (x : One) (r : Result (Parts Place) StepFault) → v ≡ k → IsFolded preds v w.goal.concl (Some x) → Concludes w x.formula x.proof r → Gives s (unfold_call preds None w.goal) r
  concl_done v x r e f c =
      let f1 : IsFolded preds k w.goal.concl (Some x) = subst (λ n. IsFolded preds n w.goal.concl (Some x)) e f in
      subst (λ o. Gives s (require_entry o NotPredicateCall (λ b. gives_goal (for b w.goal))) r) (sym f1.0) (c (From preds) s f1.1)

  pub concl_missing : (v : ℕ) (f : StepFault) → IsFolded preds v w.goal.concl None → f ≡ fault.Refused (plainly NotPredicateCall) → Gives s (unfold_call preds None w.goal) (Err f)
  concl_missing v f none e = subst (λ o. Gives s (require_entry o NotPredicateCall (λ b. gives_goal (for b w.goal))) (Err f)) (sym none) (refused_plainly (From preds) (width w) s w NotPredicateCall f e)

  -- ---- a hypothesis

  module _ (name : Named) where
    abbrev at_name : Option Formula → Outcome
    at_name o = require_some o NoSuchHypothesis name (λ f. require_entry (body_of_call preds f) NotPredicateCall (λ b. gives_goal (put name b w.goal)))

    abbrev at_body : Option Formula → Outcome
    at_body o = require_entry o NotPredicateCall (λ b. gives_goal (put name b w.goal))

    pub no_spot : (f : StepFault) → formula_named name w.goal ≡ None → Refuses NoSuchHypothesis name f → Gives s (unfold_call preds (Some name) w.goal) (Err f)
    no_spot f none h = subst (λ o. Gives s (at_name o) (Err f)) (sym none) (refused_by (From preds) (width w) s w NoSuchHypothesis name f h)

    module _ (spot : Spot) (there : IsThere w.goal name spot) where
      pub spot_foldable : (v : ℕ) → v ≡ k → IsUnfoldable preds w → IsFoldable preds v spot.formula
      spot_foldable v e h =
          let found : OneIn preds k (formula_named name w.goal) = one_of_two preds k (hyp_named name w.goal.ints) (hyp_named name w.goal.spats) (hyp_named_in preds k name w.goal.ints h.work.goal.ints) (hyp_named_in preds k name w.goal.spats h.work.goal.spats) in
          subst (λ n. IsFoldable preds n spot.formula) (sym e) (record { scoped = subst (OneIn preds k) there.named found; bodies = h.bodies })

      pub spot_says : (v : ℕ) (x : One) → v ≡ k → IsUnfolded preds v spot.formula (Some x) → conclusion x.proof ≡ entail k spot.formula x.formula
      spot_says v x e f = f.1.concludes ∙ ap (λ n. entail n spot.formula x.formula) e

      pub spot_done : (v : ℕ) (x : One) (r : Result (Parts Place) StepFault) → v ≡ k → IsUnfolded preds v spot.formula (Some x) → Puts w name spot.formula x.formula x.proof r → Gives s (unfold_call preds (Some name) w.goal) r
      spot_done v x r e f c =
          let f1 : IsUnfolded preds k spot.formula (Some x) = subst (λ n. IsUnfolded preds n spot.formula (Some x)) e f in
          subst (λ o. Gives s (at_name o) r) (sym there.named) (subst (λ o. Gives s (at_body o) r) (sym f1.0) (c (From preds) s (omega arith) f1.1))

      pub spot_no_call : (v : ℕ) (f : StepFault) → IsUnfolded preds v spot.formula None → f ≡ fault.Refused (plainly NotPredicateCall) → Gives s (unfold_call preds (Some name) w.goal) (Err f)
      spot_no_call v f none e = subst (λ o. Gives s (at_name o) (Err f)) (sym there.named) (subst (λ o. Gives s (at_body o) (Err f)) (sym none) (refused_plainly (From preds) (width w) s w NotPredicateCall f e))

  -- ---- folding

  module _ (call : Formula) (name : Named) where
    abbrev z : ℕ
    z = s + nodes_of call

    abbrev same_body : Formula → Formula → Outcome
    same_body b g = require_plain (formula_eq g b) NotPredicateBody (gives_goal (put name call w.goal))

    abbrev named_body : Formula → Option Formula → Outcome
    named_body b o = require_some o NoSuchHypothesis name (λ g. same_body b g)

    abbrev called_body : Option Formula → Outcome
    called_body o = require_entry o NotPredicateCall (λ b. named_body b (formula_named name w.goal))

    pub fold_foldable : (v : ℕ) → v ≡ k → IsFoldable preds k call → IsFoldable preds v call
    fold_foldable v e h = subst (λ n. IsFoldable preds n call) (sym e) h

    pub fold_no_call : (v : ℕ) (f : StepFault) → IsFolded preds v call None → f ≡ fault.Refused (plainly NotPredicateCall) → Gives z (fold_call preds call name w.goal) (Err f)
    fold_no_call v f none e = subst (λ o. Gives z (called_body o) (Err f)) (sym none) (refused_plainly (From preds) (width w) z w NotPredicateCall f e)

    module _ (v : ℕ) (x : One) (e : v ≡ k) (f : IsFolded preds v call (Some x)) where
      f1 : IsFolded preds k call (Some x)
      f1 = subst (λ n. IsFolded preds n call (Some x)) e f

      with_body : (r : Result (Parts Place) StepFault) → Gives z (named_body x.formula (formula_named name w.goal)) r → Gives z (fold_call preds call name w.goal) r
      with_body r h = subst (λ o. Gives z (called_body o) r) (sym f1.0) h

      pub fold_no_spot : (g : StepFault) → formula_named name w.goal ≡ None → Refuses NoSuchHypothesis name g → Gives z (fold_call preds call name w.goal) (Err g)
      fold_no_spot g none h = with_body (Err g) (subst (λ o. Gives z (named_body x.formula o) (Err g)) (sym none) (refused_by (From preds) (width w) z w NoSuchHypothesis name g h))

      module _ (spot : Spot) (there : IsThere w.goal name spot) (b : Bool) (tells : IsTrue b ↔ (spot.formula ≡ x.formula)) where
        with_spot : (r : Result (Parts Place) StepFault) → Gives z (same_body x.formula spot.formula) r → Gives z (fold_call preds call name w.goal) r
        with_spot r h = with_body r (subst (λ o. Gives z (named_body x.formula o) r) (sym there.named) h)

        other : b ≡ false → formula_eq spot.formula x.formula ≡ false
        other differs = sym (same_from_decides b (formula_eq spot.formula x.formula) tells (formula_eq_decides spot.formula x.formula)) ∙ differs

        equal : b ≡ true → spot.formula ≡ x.formula
        equal same = tells.0 same

        pub fold_other : (g : StepFault) → b ≡ false → g ≡ fault.Refused (plainly NotPredicateBody) → Gives z (fold_call preds call name w.goal) (Err g)
        fold_other g differs h = with_spot (Err g) (subst (λ (c : Bool). Gives z (require_plain c NotPredicateBody (gives_goal (put name call w.goal))) (Err g)) (sym (other differs)) (refused_plainly (From preds) (width w) z w NotPredicateBody g h))

        pub fold_says : b ≡ true → conclusion x.proof ≡ entail k spot.formula call
        fold_says yes_ = f1.1.concludes ∙ ap (λ g. entail k g call) (sym (equal yes_))

        pub fold_done : (r : Result (Parts Place) StepFault) → b ≡ true → Puts w name spot.formula call x.proof r → Gives z (fold_call preds call name w.goal) r
        fold_done r yes_ c =
            let c1 : Puts w name x.formula call x.proof r = subst (λ g. Puts w name g call x.proof r) (equal yes_) c in
            let same : formula_eq spot.formula x.formula ≡ true = (formula_eq_decides spot.formula x.formula).1 (equal yes_) in
            with_spot r (subst (λ (d : Bool). Gives z (require_plain d NotPredicateBody (gives_goal (put name call w.goal))) r) (sym same) (c1 (From preds) z (omega arith) f1.1))
