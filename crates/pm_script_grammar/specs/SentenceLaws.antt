-- What holds of the reading of sentences.
use Rattle.std.specs.Prelude.{◌≡◌, ◌⊎◌, ℕ, List, Ok}
use Rattle.pm_logic.specs.declared.formula.Pred.{Pred}
use Rattle.pm_tokens.specs.Tokens.{Place}
use Rattle.pm_terms.specs.Scope.{Names}
use Rattle.pm_grammar.specs.ReadingLaws.{tokens_at, IsDeep}
use Rattle.pm_script.specs.declared.sentence.Sentence.{Sentence}
use Rattle.pm_script.specs.SentenceReading.{sentence_of}
use Rattle.pm_script_grammar.specs.SentenceGrammar.{IsSentence}

-- what is read is written by the grammar
abbrev pub SentencesAreSound : Type 0
SentencesAreSound = (preds : List Pred) (names : Names) (end stop : ℕ) (ts : List Place) (x : Sentence) → sentence_of preds names end stop ts ≡ Ok x → IsSentence preds names (tokens_at ts) x

-- what the grammar writes is read, wherever its tokens stand, or it is too deep
abbrev pub SentencesAreComplete : Type 0
SentencesAreComplete = (preds : List Pred) (names : Names) (end : ℕ) (ts : List Place) (x : Sentence) → IsSentence preds names (tokens_at ts) x → (sentence_of preds names end end ts ≡ Ok x) ⊎ IsDeep (sentence_of preds names end end ts)
