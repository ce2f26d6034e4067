-- The checker's faults: what they name, and the lines for them.
use Rattle.std.proofs.Common.{◌≡◌, ℕ, ◌-◌, List, sym, ap, subst, subst₂, arith, Option, Some, inl, inr, Result, Ok, Err}
use Rattle.std.specs.Prelude.{slice_get}
use Rattle.pm_rules.specs.declared.rules.Rule.{Rule}
use Rattle.pm_rules.specs.declared.rules.Rule.TheVariants.{Refl, Trans, Inst, True, False, AndL, AndR, AndI, OrL, OrR, OrE, ImpI, ImpE, AllI, AllE, ExI, ExE, SepMono, SepComm, SepAssocR, SepAssocL, SepUnit, SepWeaken, WandI, WandE, LaterMono, LaterIntro, Loeb, LaterSep, SepLater, LaterAnd, LaterOr, LaterAll, LaterEx, PersMono, PersElim, PersIdem, PersDup, PersPure, PersAnd, PersOr, PersAll, PersEx, PersLater, LaterPers, UpdMono, UpdIntro, UpdTrans, UpdFrame, UpdPure, PureAnd, AndPure, PureOr, OrPure, Not, Em, Linear, Rewrite, PtsSplit, PtsJoin, PtsAgree, PtsOver, PtsWrite, PtsNew, Fold, Unfold, Timeless}
use Rattle.pm_rules.specs.Rules.{rule_number}
use Rattle.pm_dtext.specs.declared.fault.Fault.{Fault}
use Rattle.pm_dtext.specs.declared.fault.Fault.TheVariants as reading
use Rattle.pm_dtext.specs.Texts.{printed_names}
use Rattle.pm_check.specs.declared.checked.Checked.{Checked}
use Rattle.pm_check.specs.declared.fault.CheckFault.{CheckFault}
use Rattle.pm_check.specs.declared.fault.Failed.{Failed}
use Rattle.pm_check.specs.declared.fault.CheckFault.TheVariants as fault
use Rattle.pm_check.specs.Lines.{failed_rule}
use Rattle.pm_check.specs.Offence.{FirstOffence, placed}
use Rattle.pm_check.specs.Answers.{IfTold, IsTooLong, Judges, WasJudged, IsChecked}
use Rattle.pm_top.specs.declared.command.Command.TheVariants.{Check}
use Rattle.pm_top.specs.declared.status.Status.{Status}
use Rattle.pm_top.specs.declared.status.Status.TheVariants as status
use Rattle.pm_top.specs.Printed.{accepted_text, AreShallow}
use Rattle.pm_top.proofs.Shallow.{derived_shallow}
use Rattle.pm_top.specs.Answers.{text_or_none, rule_text, offence_line, offence_status, Checks.accepts, Checks.refuses, Defines}
use Rattle.pm_top.specs.Leaves.{IsAnswer}
use Rattle.pm_top.specs.Offences.{IsNamed, NamesRule, IsTold}

pub named : (rule : ℕ) (name : List ℕ) → slice_get printed_names (rule - 1) ≡ Some name → name ≡ rule_text rule
named rule name e = sym (ap text_or_none e)

rule_named : (rule : Rule) → IsNamed (rule_number rule)
rule_named Refl = record { some = omega arith; within = omega arith }
rule_named Trans = record { some = omega arith; within = omega arith }
rule_named (Inst sigma) = record { some = omega arith; within = omega arith }
rule_named True = record { some = omega arith; within = omega arith }
rule_named False = record { some = omega arith; within = omega arith }
rule_named AndL = record { some = omega arith; within = omega arith }
rule_named AndR = record { some = omega arith; within = omega arith }
rule_named AndI = record { some = omega arith; within = omega arith }
rule_named OrL = record { some = omega arith; within = omega arith }
rule_named OrR = record { some = omega arith; within = omega arith }
rule_named OrE = record { some = omega arith; within = omega arith }
rule_named ImpI = record { some = omega arith; within = omega arith }
rule_named ImpE = record { some = omega arith; within = omega arith }
rule_named AllI = record { some = omega arith; within = omega arith }
rule_named (AllE t) = record { some = omega arith; within = omega arith }
rule_named (ExI t) = record { some = omega arith; within = omega arith }
rule_named ExE = record { some = omega arith; within = omega arith }
rule_named SepMono = record { some = omega arith; within = omega arith }
rule_named SepComm = record { some = omega arith; within = omega arith }
rule_named SepAssocR = record { some = omega arith; within = omega arith }
rule_named SepAssocL = record { some = omega arith; within = omega arith }
rule_named SepUnit = record { some = omega arith; within = omega arith }
rule_named SepWeaken = record { some = omega arith; within = omega arith }
rule_named WandI = record { some = omega arith; within = omega arith }
rule_named WandE = record { some = omega arith; within = omega arith }
rule_named LaterMono = record { some = omega arith; within = omega arith }
rule_named LaterIntro = record { some = omega arith; within = omega arith }
rule_named Loeb = record { some = omega arith; within = omega arith }
rule_named LaterSep = record { some = omega arith; within = omega arith }
rule_named SepLater = record { some = omega arith; within = omega arith }
rule_named LaterAnd = record { some = omega arith; within = omega arith }
rule_named LaterOr = record { some = omega arith; within = omega arith }
rule_named LaterAll = record { some = omega arith; within = omega arith }
rule_named LaterEx = record { some = omega arith; within = omega arith }
rule_named PersMono = record { some = omega arith; within = omega arith }
rule_named PersElim = record { some = omega arith; within = omega arith }
rule_named PersIdem = record { some = omega arith; within = omega arith }
rule_named PersDup = record { some = omega arith; within = omega arith }
rule_named PersPure = record { some = omega arith; within = omega arith }
rule_named PersAnd = record { some = omega arith; within = omega arith }
rule_named PersOr = record { some = omega arith; within = omega arith }
rule_named PersAll = record { some = omega arith; within = omega arith }
rule_named PersEx = record { some = omega arith; within = omega arith }
rule_named PersLater = record { some = omega arith; within = omega arith }
rule_named LaterPers = record { some = omega arith; within = omega arith }
rule_named UpdMono = record { some = omega arith; within = omega arith }
rule_named UpdIntro = record { some = omega arith; within = omega arith }
rule_named UpdTrans = record { some = omega arith; within = omega arith }
rule_named UpdFrame = record { some = omega arith; within = omega arith }
rule_named UpdPure = record { some = omega arith; within = omega arith }
rule_named PureAnd = record { some = omega arith; within = omega arith }
rule_named AndPure = record { some = omega arith; within = omega arith }
rule_named PureOr = record { some = omega arith; within = omega arith }
rule_named OrPure = record { some = omega arith; within = omega arith }
rule_named Not = record { some = omega arith; within = omega arith }
rule_named Em = record { some = omega arith; within = omega arith }
rule_named (Linear c d) = record { some = omega arith; within = omega arith }
rule_named (Rewrite b) = record { some = omega arith; within = omega arith }
rule_named PtsSplit = record { some = omega arith; within = omega arith }
rule_named PtsJoin = record { some = omega arith; within = omega arith }
rule_named PtsAgree = record { some = omega arith; within = omega arith }
rule_named PtsOver = record { some = omega arith; within = omega arith }
rule_named PtsWrite = record { some = omega arith; within = omega arith }
rule_named PtsNew = record { some = omega arith; within = omega arith }
rule_named Fold = record { some = omega arith; within = omega arith }
rule_named Unfold = record { some = omega arith; within = omega arith }
rule_named Timeless = record { some = omega arith; within = omega arith }

placed_is : (bytes : List ℕ) (n : ℕ) (f : Fault) → NamesRule (placed bytes n f)
unfolding NamesRule
placed_is bytes n (reading.Syntax left) = tt
placed_is bytes n (reading.NoLine cited) = tt
placed_is bytes n (reading.Deep left) = tt

names_rule : (bytes : List ℕ) (f : CheckFault) → FirstOffence bytes f → NamesRule f
unfolding NamesRule
names_rule bytes _ (FirstOffence.header f e) = placed_is bytes 0 f
names_rule bytes _ (FirstOffence.arities rest f is e) = placed_is bytes 0 f
names_rule bytes _ (FirstOffence.predicate table preds arity rest f is begins has e) = placed_is bytes 0 f
names_rule bytes _ (FirstOffence.unguarded table preds q rest is begins fits not) = tt
names_rule bytes _ (FirstOffence.line preds ls rest f begins some e) = placed_is bytes _ f
names_rule bytes _ (FirstOffence.step preds ls rule first second e rest unmet begins fits fails) = subst IsNamed (sym fails.rule_is) (rule_named rule)
names_rule bytes _ (FirstOffence.qed preds ls name cited rest condition begins fits fails) = record { some = omega arith; within = omega arith }

-- what was judged names a rule
judged_names : (bytes : List ℕ) (n : ℕ) (failed : Failed) → Judges bytes (Err (fault.Refused n failed)) → NamesRule (fault.Refused n failed)
judged_names bytes n failed (inl e) = absurd cc
judged_names bytes n failed (inr o) = names_rule bytes (fault.Refused n failed) o

pub checked_names : (input : Option (List ℕ)) (r : Result Checked CheckFault) (f : CheckFault) → r ≡ Err f → IsChecked input r → NamesRule f
unfolding NamesRule
checked_names input r (fault.Syntax at) e c = tt
checked_names input r (fault.Refused n failed) e c = let w : WasJudged input (Err (fault.Refused n failed)) = subst (IsChecked input) e c in judged_names w.bytes n failed w.judges
checked_names input r (fault.NoLine n cited) e c = tt
checked_names input r (fault.Unguarded p) e c = tt
checked_names input r (fault.Deep at) e c = tt
checked_names input r fault.Long e c = tt
checked_names input r fault.Read e c = tt
checked_names input r fault.Memory e c = tt

pub names_is : (f : CheckFault) (n : ℕ) (failed : Failed) → f ≡ fault.Refused n failed → NamesRule f → IsNamed (failed_rule failed)
unfolding NamesRule
names_is f n failed e h = subst NamesRule e h

-- ---- what is told

pub told_answers : (f : CheckFault) (s : Status) → IsTold f → s ≡ offence_status f → IsAnswer s
unfolding IsTold offence_status
told_answers (fault.Syntax at) s told e = subst IsAnswer (sym e) tt
told_answers (fault.Refused n failed) s told e = subst IsAnswer (sym e) tt
told_answers (fault.NoLine n cited) s told e = subst IsAnswer (sym e) tt
told_answers (fault.Unguarded p) s told e = subst IsAnswer (sym e) tt
told_answers (fault.Deep at) s told e = subst IsAnswer (sym e) tt
told_answers fault.Long s told e = subst IsAnswer (sym e) tt
told_answers fault.Read s told e = absurd told
told_answers fault.Memory s told e = absurd told

pub told_not_done : (f : CheckFault) (s : Status) → IsTold f → s ≡ offence_status f → s ≡ status.Done → ⊥
unfolding IsTold offence_status
told_not_done (fault.Syntax at) s told e d = cc
told_not_done (fault.Refused n failed) s told e d = cc
told_not_done (fault.NoLine n cited) s told e d = cc
told_not_done (fault.Unguarded p) s told e d = cc
told_not_done (fault.Deep at) s told e d = cc
told_not_done fault.Long s told e d = cc
told_not_done fault.Read s told e d = told
told_not_done fault.Memory s told e d = told

defines_judged : (input : Option (List ℕ)) (f : CheckFault) → WasJudged input (Err f) → ¬ (f ≡ fault.Memory) → Defines (Some Check) input (offence_status f) (offence_line f)
defines_judged input f w some = elim w.judges [
  | inl none ↦ absurd (some none)
  | inr o ↦ Defines.answer Check input w.bytes (offence_status f) (offence_line f) w.told w.short (refuses f o)
]

defines_long : (input : Option (List ℕ)) → IfTold input IsTooLong → Defines (Some Check) input (offence_status fault.Long) (offence_line fault.Long)
unfolding offence_status offence_line
defines_long input h = Defines.too_long Check input h

defines_fault : (input : Option (List ℕ)) (f : CheckFault) → IsChecked input (Err f) → IsTold f → Defines (Some Check) input (offence_status f) (offence_line f)
unfolding IsTold
defines_fault input (fault.Syntax at) c told = defines_judged input (fault.Syntax at) c (λ e. cc)
defines_fault input (fault.Refused n failed) c told = defines_judged input (fault.Refused n failed) c (λ e. cc)
defines_fault input (fault.NoLine n cited) c told = defines_judged input (fault.NoLine n cited) c (λ e. cc)
defines_fault input (fault.Unguarded p) c told = defines_judged input (fault.Unguarded p) c (λ e. cc)
defines_fault input (fault.Deep at) c told = defines_judged input (fault.Deep at) c (λ e. cc)
defines_fault input fault.Long c told = defines_long input c
defines_fault input fault.Read c told = absurd told
defines_fault input fault.Memory c told = absurd told

pub defines_told : (input : Option (List ℕ)) (r : Result Checked CheckFault) (f : CheckFault) (s : Status) (text : List ℕ) → r ≡ Err f → IsChecked input r → IsTold f → s ≡ offence_status f → text ≡ offence_line f → Defines (Some Check) input s text
defines_told input r f s text e c told es et = subst₂ (λ x y. Defines (Some Check) input x y) (sym es) (sym et) (defines_fault input f (subst (IsChecked input) e c) told)

pub defines_accepted : (input : Option (List ℕ)) (r : Result Checked CheckFault) (c : Checked) (text : List ℕ) → r ≡ Ok c → IsChecked input r → text ≡ accepted_text c.preds c.statements → Defines (Some Check) input status.Done text
defines_accepted input r c text e h et =
    let w : WasJudged input (Ok c) = subst (IsChecked input) e h in
    subst (λ (t : List ℕ). Defines (Some Check) input status.Done t) (sym et) (Defines.answer Check input w.bytes status.Done (accepted_text c.preds c.statements) w.told w.short (accepts c.preds c.statements w.judges))

pub accepted_shallow : (input : Option (List ℕ)) (r : Result Checked CheckFault) (c : Checked) → r ≡ Ok c → IsChecked input r → AreShallow c.preds c.statements
accepted_shallow input r c e h =
    let w : WasJudged input (Ok c) = subst (IsChecked input) e h in
    derived_shallow w.bytes c.preds c.statements w.judges
