use Rattle.std.proofs.Common.{◌≡◌, sym, subst, rules}
use Rattle.std.specs.Prelude.{IfOk, Ok, Err}
use Rattle.pm_script.specs.declared.sentence.Sentence.TheVariants as sentence
use Rattle.pm_script.specs.declared.sentence.Stated.TheVariants as stated
use Rattle.pm_script.specs.Stating.{stated_of}
use Rattle.pm_run.specs.Keeping.{IsHanded, AddsPredicate, Opens, StatesNothing, DoesSentence}
use Rattle.pm_run.proofs.Doings.{on_ok, does_predicate, does_lemma, is_predicate, is_lemma, is_other}
use Rattle.pm_run.proofs.running.Running.sentence.Goals as goal

pub returns-in-Ok-Predicate : goal.returns-in-Ok-Predicate
returns-in-Ok-Predicate c =
    let name = c.in-Ok-Predicate.name in
    let params = c.in-Ok-Predicate.params in
    let body = c.in-Ok-Predicate.body in
    let e : stated_of c.args.sentence ≡ Ok (stated.Predicate name params body) = search rules in
    subst (λ x. IfOk c.predicate.result (DoesSentence c.args.self.now x c.predicate.new.self)) (sym (is_predicate c.args.sentence name params body e))
    (on_ok (AddsPredicate c.args.self.now name c.len.result body c.predicate.new.self) (DoesSentence c.args.self.now (sentence.Predicate name params body) c.predicate.new.self) c.predicate.result
    (λ d h. λ s k sayable. does_predicate s name params body c.args.self.now c.predicate.new.self d (h s params c.len.ensures k sayable)) c.predicate.ensures)

pub returns-in-Ok-Lemma : goal.returns-in-Ok-Lemma
returns-in-Ok-Lemma c =
    let name = c.in-Ok-Lemma.name in
    let statement = c.in-Ok-Lemma.statement in
    let e : stated_of c.args.sentence ≡ Ok (stated.Lemma name statement) = search rules in
    subst (λ x. IfOk c.lemma.result (DoesSentence c.args.self.now x c.lemma.new.self)) (sym (is_lemma c.args.sentence name statement e))
    (on_ok (Opens c.args.self.now name statement c.lemma.new.self) (DoesSentence c.args.self.now (sentence.Lemma name statement) c.lemma.new.self) c.lemma.result
    (λ d h. λ s k sayable. does_lemma s name statement c.args.self.now c.lemma.new.self d (h s k sayable)) c.lemma.ensures)

pub other_sentence-requires-clause-handed : goal.other_sentence-requires-clause-handed
other_sentence-requires-clause-handed c =
    let e : stated_of c.args.sentence ≡ Err c.in-Err.other = search rules in
    subst (IsHanded c.args.self.now) (is_other c.args.sentence c.in-Err.other e) c.requires.handed

pub returns-in-Err : goal.returns-in-Err
returns-in-Err c =
    let e : stated_of c.args.sentence ≡ Err c.in-Err.other = search rules in
    let same : c.args.sentence ≡ c.in-Err.other = is_other c.args.sentence c.in-Err.other e in
    let nothing : StatesNothing c.in-Err.other = subst (λ x. stated_of x ≡ Err c.in-Err.other) same e in
    subst (λ x. IfOk c.other_sentence.result (DoesSentence c.args.self.now x c.other_sentence.new.self)) (sym same) (c.other_sentence.ensures nothing)
