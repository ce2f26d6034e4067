use lib.Utf8.{encode}
use Rattle.pm_script.specs.Words.{sentence_form_of, sentence_words}
use Rattle.pm_script.proofs.words.sentence_form_of.Goals as goal

pub returns : goal.returns
unfolding sentence_form_of sentence_words encode
returns c = c.lookup.ensures
