-- Words that are found in the table of directives, and are none of the other sentences' words.
use Rattle.std.proofs.Common.{◌≡◌, ℕ, List, Some, None}
use Rattle.pm_script.specs.declared.words.Form.{Form}
use Rattle.pm_script.specs.Words.{sentence_form_of, form_of}

pub record Known (w : List ℕ) (f : Form) : Type 0 where
  pub found : form_of w ≡ Some f
  pub other : sentence_form_of w ≡ None

-- by looking the word up in both tables, which is a computation
pub known : (w : List ℕ) (f : Form) → form_of w ≡ Some f → sentence_form_of w ≡ None → Known w f
known w f found other = record { found = found; other = other }
