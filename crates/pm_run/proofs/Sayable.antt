-- What is read can be said where it is read.
use Rattle.std.proofs.Common.{◌≡◌, ℕ, List}
use Rattle.std.specs.Prelude.{Ok}
use Rattle.pm_terms.specs.Scope.{Names}
use Rattle.pm_script.specs.declared.sentence.Sentence.{Sentence}
use Rattle.pm_script.specs.declared.sentence.Sentence.TheVariants as sentence
use Rattle.pm_script.specs.SentenceReading.{read_sentence}
use Rattle.pm_script_grammar.proofs.Fitted.{sentences_fit}
use Rattle.pm_run.specs.Runs.{State}
use Rattle.pm_run.specs.Keeping.{IsSayable}

pub sayable : (s : State) (base : ℕ) (names : Names) (text : List ℕ) (x : Sentence) → read_sentence base s.preds names text ≡ Ok x → IsSayable s x
sayable s base names text (sentence.Predicate name params body) e = let h = sentences_fit.predicates base s.preds names text name params body e in (h.named, h.in_range, h.levels)
sayable s base names text (sentence.Lemma name f) e = let h = sentences_fit.lemmas base s.preds names text name f e in (h.named, h.in_range, h.levels)
sayable s base names text sentence.Proof e = tt
sayable s base names text sentence.Qed e = tt
sayable s base names text sentence.Abort e = tt
sayable s base names text sentence.Restart e = tt
sayable s base names text sentence.Show e = tt
sayable s base names text (sentence.Undo n) e = tt
sayable s base names text sentence.Enter e = tt
sayable s base names text sentence.Leave e = tt
sayable s base names text (sentence.Directive d) e = tt
