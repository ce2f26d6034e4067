-- What comes after a rule's arguments.
use Rattle.std.proofs.Common.{◌≡◌, ℕ, List, [], ◌∷◌, ◌++◌, length, refl, sym, ◌∙◌, ap, append_assoc, append-nil}
use Rattle.std.specs.Prelude.{ℤ}
use Rattle.std.specs.Fmt.{decimal}
use Rattle.pm_rules.specs.declared.rules.Rule.{Rule}
use Rattle.pm_rules.specs.declared.rules.Rule.TheVariants.{Refl, Trans, Inst, True, False, AndL, AndR, AndI, OrL, OrR, OrE, ImpI, ImpE, AllI, AllE, ExI, ExE, SepMono, SepComm, SepAssocR, SepAssocL, SepUnit, SepWeaken, WandI, WandE, LaterMono, LaterIntro, Loeb, LaterSep, SepLater, LaterAnd, LaterOr, LaterAll, LaterEx, PersMono, PersElim, PersIdem, PersDup, PersPure, PersAnd, PersOr, PersAll, PersEx, PersLater, LaterPers, UpdMono, UpdIntro, UpdTrans, UpdFrame, UpdPure, PureAnd, AndPure, PureOr, OrPure, Not, Em, Linear, Rewrite, PtsSplit, PtsJoin, PtsAgree, PtsOver, PtsWrite, PtsNew, Fold, Unfold, Timeless}
use Rattle.pm_dtext.specs.Spelling.{term_text, formula_text, literal_text, items_text, list_text, args_text}
use Rattle.pm_write.proofs.Spelled.{term_before, formula_before, items_before}

pub list_before : {A : Type 0} (text : A → List ℕ → List ℕ) → ((x : A) (r : List ℕ) → text x r ≡ text x [] ++ r) → (xs : List A) (t rest : List ℕ) → list_text text xs (t ++ rest) ≡ list_text text xs t ++ rest
list_before text each xs t rest =
    ap (λ r. decimal (length xs) ++ r) (items_before text each xs (t ++ rest) ∙ sym (append_assoc (items_text text xs []) t rest) ∙ ap (λ r. r ++ rest) (sym (items_before text each xs t)))
    ∙ sym (append_assoc (decimal (length xs)) (items_text text xs t) rest)

pub literal_before : (z : ℤ) (r : List ℕ) → literal_text z r ≡ literal_text z [] ++ r
literal_before z r = simp (append_assoc, append-nil)

pub args_before : (rule : Rule) (t rest : List ℕ) → args_text rule (t ++ rest) ≡ args_text rule t ++ rest
unfolding args_text
args_before Refl t rest = refl
args_before Trans t rest = refl
args_before (Inst sigma) t rest = ap (λ r. 32 ∷ r) (list_before term_text term_before sigma t rest)
args_before True t rest = refl
args_before False t rest = refl
args_before AndL t rest = refl
args_before AndR t rest = refl
args_before AndI t rest = refl
args_before OrL t rest = refl
args_before OrR t rest = refl
args_before OrE t rest = refl
args_before ImpI t rest = refl
args_before ImpE t rest = refl
args_before AllI t rest = refl
args_before (AllE x) t rest = ap (λ r. 32 ∷ r) (term_before x (t ++ rest) ∙ sym (append_assoc (term_text x []) t rest) ∙ ap (λ r. r ++ rest) (sym (term_before x t)))
args_before (ExI x) t rest = ap (λ r. 32 ∷ r) (term_before x (t ++ rest) ∙ sym (append_assoc (term_text x []) t rest) ∙ ap (λ r. r ++ rest) (sym (term_before x t)))
args_before ExE t rest = refl
args_before SepMono t rest = refl
args_before SepComm t rest = refl
args_before SepAssocR t rest = refl
args_before SepAssocL t rest = refl
args_before SepUnit t rest = refl
args_before SepWeaken t rest = refl
args_before WandI t rest = refl
args_before WandE t rest = refl
args_before LaterMono t rest = refl
args_before LaterIntro t rest = refl
args_before Loeb t rest = refl
args_before LaterSep t rest = refl
args_before SepLater t rest = refl
args_before LaterAnd t rest = refl
args_before LaterOr t rest = refl
args_before LaterAll t rest = refl
args_before LaterEx t rest = refl
args_before PersMono t rest = refl
args_before PersElim t rest = refl
args_before PersIdem t rest = refl
args_before PersDup t rest = refl
args_before PersPure t rest = refl
args_before PersAnd t rest = refl
args_before PersOr t rest = refl
args_before PersAll t rest = refl
args_before PersEx t rest = refl
args_before PersLater t rest = refl
args_before LaterPers t rest = refl
args_before UpdMono t rest = refl
args_before UpdIntro t rest = refl
args_before UpdTrans t rest = refl
args_before UpdFrame t rest = refl
args_before UpdPure t rest = refl
args_before PureAnd t rest = refl
args_before AndPure t rest = refl
args_before PureOr t rest = refl
args_before OrPure t rest = refl
args_before Not t rest = refl
args_before Em t rest = refl
args_before (Linear c d) t rest =
    ap (λ r. 32 ∷ r) (ap (λ r. list_text literal_text c (32 ∷ r)) (list_before literal_text literal_before d t rest) ∙ list_before literal_text literal_before c (32 ∷ list_text literal_text d t) rest)
args_before (Rewrite b) t rest = ap (λ r. 32 ∷ r) (formula_before b (t ++ rest) ∙ sym (append_assoc (formula_text b []) t rest) ∙ ap (λ r. r ++ rest) (sym (formula_before b t)))
args_before PtsSplit t rest = refl
args_before PtsJoin t rest = refl
args_before PtsAgree t rest = refl
args_before PtsOver t rest = refl
args_before PtsWrite t rest = refl
args_before PtsNew t rest = refl
args_before Fold t rest = refl
args_before Unfold t rest = refl
args_before Timeless t rest = refl
