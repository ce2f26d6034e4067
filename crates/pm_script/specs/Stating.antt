-- What a sentence states.
use Rattle.std.specs.Prelude.{Result, Ok, Err}
use Rattle.pm_script.specs.declared.sentence.Sentence.{Sentence}
use Rattle.pm_script.specs.declared.sentence.Sentence.TheVariants as sentence
use Rattle.pm_script.specs.declared.sentence.Stated.{Stated}
use Rattle.pm_script.specs.declared.sentence.Stated.TheVariants as stated

-- a predicate or a lemma, and any other sentence as it is
unfoldable pub stated_of : Sentence → Result Stated Sentence
stated_of (sentence.Predicate name params body) = Ok (stated.Predicate name params body)
stated_of (sentence.Lemma name statement) = Ok (stated.Lemma name statement)
stated_of other = Err other
