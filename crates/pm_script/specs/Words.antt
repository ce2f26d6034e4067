-- The words that sentences begin with.
use Rattle.std.specs.Prelude.{ℕ, List, [], ◌∷◌, codes, Option}
use lib.Utf8.{encodes}
use Prim.Native.String.{String}
use Rattle.pm_tokens.specs.Words.{lookup}
use Rattle.pm_script.specs.declared.words.Form.{Form}
use Rattle.pm_script.specs.declared.words.Form.TheVariants as form
use Rattle.pm_script.specs.declared.words.PlainForm.TheVariants as plain_form
use Rattle.pm_script.specs.declared.words.SentenceForm.{SentenceForm}
use Rattle.pm_script.specs.declared.words.SentenceForm.TheVariants as sentence

abbrev pub bytes : String → List ℕ
bytes word = encodes (codes word)

unfoldable pub sentence_words : List (List ℕ × SentenceForm)
sentence_words =
    (bytes "Predicate", sentence.Predicate) ∷
    (bytes "Lemma", sentence.Lemma) ∷
    (bytes "Proof", sentence.Proof) ∷
    (bytes "Qed", sentence.Qed) ∷
    (bytes "Abort", sentence.Abort) ∷
    (bytes "Restart", sentence.Restart) ∷
    (bytes "Show", sentence.Show) ∷
    (bytes "Undo", sentence.Undo) ∷
    []

unfoldable pub directive_words : List (List ℕ × Form)
directive_words =
    (bytes "iIntros", form.Plain plain_form.Intros) ∷
    (bytes "iDestruct", form.Destruct) ∷
    (bytes "iPoseProof", form.PoseProof) ∷
    (bytes "iMod", form.Mod) ∷
    (bytes "iSpecialize", form.Specialize) ∷
    (bytes "iApply", form.Apply) ∷
    (bytes "iAssert", form.Assert) ∷
    (bytes "iSplit", form.Plain plain_form.Split) ∷
    (bytes "iSplitL", form.Plain plain_form.SplitL) ∷
    (bytes "iSplitR", form.Plain plain_form.SplitR) ∷
    (bytes "iLeft", form.Plain plain_form.Left) ∷
    (bytes "iRight", form.Plain plain_form.Right) ∷
    (bytes "iAssumption", form.Plain plain_form.Assumption) ∷
    (bytes "iExFalso", form.Plain plain_form.ExFalso) ∷
    (bytes "done", form.Plain plain_form.Done) ∷
    (bytes "iExists", form.Exists) ∷
    (bytes "iExact", form.Plain plain_form.Exact) ∷
    (bytes "iClear", form.Plain plain_form.Clear) ∷
    (bytes "iRename", form.Plain plain_form.Rename) ∷
    (bytes "iRevert", form.Plain plain_form.Revert) ∷
    (bytes "iFrame", form.Plain plain_form.Frame) ∷
    (bytes "iModIntro", form.Plain plain_form.ModIntro) ∷
    (bytes "iNext", form.Plain plain_form.Next) ∷
    (bytes "iLöb", form.Plain plain_form.Loeb) ∷
    (bytes "iLoeb", form.Plain plain_form.Loeb) ∷
    (bytes "iUnfold", form.Plain plain_form.Unfold) ∷
    (bytes "iFold", form.Fold) ∷
    (bytes "iCombine", form.Plain plain_form.Combine) ∷
    (bytes "iWrite", form.Write) ∷
    (bytes "iAlloc", form.Alloc) ∷
    (bytes "iPureIntro", form.Plain plain_form.PureIntro) ∷
    (bytes "iRewrite", form.Plain plain_form.Rewrite) ∷
    (bytes "iCases", form.Cases) ∷
    (bytes "linear", form.Plain plain_form.Linear) ∷
    []

unfoldable pub sentence_form_of : List ℕ → Option SentenceForm
sentence_form_of w = lookup sentence_words w

unfoldable pub form_of : List ℕ → Option Form
form_of w = lookup directive_words w
