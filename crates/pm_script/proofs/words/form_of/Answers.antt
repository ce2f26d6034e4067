use lib.Utf8.{encode}
use Rattle.pm_script.specs.Words.{form_of, directive_words}
use Rattle.pm_script.proofs.words.form_of.Goals as goal

pub returns : goal.returns
unfolding form_of directive_words encode
returns c = c.lookup.ensures
