use Rattle.std.proofs.Common.{◌≡◌, sym, ap, ◌∙◌, subst}
use Rattle.std.specs.Prelude.{IfOk, Ok, Err}
use Rattle.pm_script.specs.declared.sentence.Sentence.TheVariants as sentence
use Rattle.pm_run.specs.Keeping.{Closes, DirectsIf, DoesSentence, IsDoing, IsHanded}
use Rattle.pm_run.proofs.Doings.{on_ok, does_proof, does_qed, does_directive, does_nothing, not_built, states_either}
use Rattle.pm_run.proofs.running.Running.other_sentence.Goals as goal

pub any_directive-requires-clause-handed : goal.any_directive-requires-clause-handed
any_directive-requires-clause-handed c = subst (IsHanded c.args.self.now) c.in-Directive.is c.requires.handed

pub returns-in-Proof : goal.returns-in-Proof
returns-in-Proof c = λ nothing. λ s k sayable.
    subst (λ x. IsDoing s x c.args.self.now c.begin.new.self c.begin.result) (sym c.in-Proof.is) (does_proof s c.args.self.now c.begin.new.self c.begin.result (c.begin.ensures s k))

pub returns-in-Qed : goal.returns-in-Qed
returns-in-Qed c = λ nothing.
    subst (λ x. IfOk c.qed.result (DoesSentence c.args.self.now x c.qed.new.self)) (sym c.in-Qed.is)
    (on_ok (Closes c.args.self.now c.qed.new.self) (DoesSentence c.args.self.now sentence.Qed c.qed.new.self) c.qed.result
    (λ d h. λ s k sayable. does_qed s c.args.self.now c.qed.new.self d (h s k)) c.qed.ensures)

pub returns-in-Directive : goal.returns-in-Directive
returns-in-Directive c = λ nothing.
    subst (λ x. IfOk c.any_directive.result (DoesSentence c.args.self.now x c.any_directive.new.self)) (sym c.in-Directive.is)
    (on_ok (DirectsIf c.args.self.now c.in-Directive.directive c.any_directive.new.self) (DoesSentence c.args.self.now (sentence.Directive c.in-Directive.directive) c.any_directive.new.self) c.any_directive.result
    (λ d h. λ s k sayable. does_directive s c.in-Directive.directive c.args.self.now c.any_directive.new.self d (h s k)) c.any_directive.ensures)

pub returns-in-Abort : goal.returns-in-Abort
returns-in-Abort c = λ nothing. λ s k sayable. does_nothing s c.args.sentence.now c.args.self.now (not_built s c.args.sentence.now c.in-Abort.is)

pub returns-in-Predicate : goal.returns-in-Predicate
returns-in-Predicate c = λ nothing. absurd (states_either c.args.sentence.now c.in-Predicate.is nothing)
