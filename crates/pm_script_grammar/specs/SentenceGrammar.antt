-- The grammar of sentences: the tokens that one is written with, one constructor a row of the table.
use Rattle.std.specs.Prelude.{◌≡◌, ℕ, ◌<◌, ◌^◌, Bool, true, false, List, [], ◌∷◌, ◌++◌, length, map, slice_get, Option, Some, None}
use Rattle.pm_logic.specs.declared.formula.Term.{Term}
use Rattle.pm_logic.specs.declared.formula.Pure.{Pure}
use Rattle.pm_logic.specs.declared.formula.Formula.{Formula}
use Rattle.pm_logic.specs.declared.formula.Formula.TheViews as formula
use Rattle.pm_logic.specs.declared.formula.Pred.{Pred}
use Rattle.pm_tokens.specs.declared.symbol.Symbol.TheVariants as s
use Rattle.pm_tokens.specs.Tokens.{Token, name, number, symbol}
use Rattle.pm_text.specs.declared.level.Level.TheVariants.{Wands}
use Rattle.pm_terms.specs.declared.level.PureLevel.TheVariants.{Ors}
use Rattle.pm_terms.specs.Scope.{Names, Callables, callables, callables_in}
use Rattle.pm_grammar.specs.TermGrammar.{IsTerm, operand}
use Rattle.pm_grammar.specs.PureGrammar.{IsPure}
use Rattle.pm_grammar.specs.FormulaGrammar.{AreTerms, End, IsFormula}
use Rattle.pm_patterns.specs.declared.pattern.Sel.{Sel}
use Rattle.pm_patterns.specs.declared.pattern.Spat.{Spat}
use Rattle.pm_patterns.specs.declared.pattern.Spat.TheVariants as spat
use Rattle.pm_patterns.specs.declared.pattern.Pat.{Pat}
use Rattle.pm_patterns.specs.declared.pattern.Pat.TheVariants as pat
use Rattle.pm_patterns.specs.declared.pattern.Head.{Head}
use Rattle.pm_patterns.specs.declared.pattern.Head.TheVariants.{Hyp, Lemma as Proved}
use Rattle.pm_patterns.specs.declared.pattern.ProofTerm.{ProofTerm}
use Rattle.pm_patterns.specs.declared.pattern.Cert.{Cert}
use Rattle.pm_script.specs.declared.directive.Directive.{Directive}
use Rattle.pm_script.specs.declared.directive.Directive.TheVariants as d
use Rattle.pm_script.specs.declared.sentence.Sentence.{Sentence}
use Rattle.pm_script.specs.declared.sentence.Sentence.TheVariants as sentence
use Rattle.pm_patterns.specs.declared.extent.Extent.TheVariants.{One as one}
use Rattle.pm_script_grammar.specs.PatternGrammar.{in_quotes, in_parentheses, names_as, AreAll, HasOne, sels_as, IsPattern, AreIntros, IsBoundPattern, spat_as, spats_as, IsCert}
use Rattle.pm_script.specs.Words.{bytes}

-- names with commas between
abbrev pub params_as : Names → List Token
params_as [] = []
params_as (x ∷ []) = name x ∷ []
params_as (x ∷ y ∷ xs) = name x ∷ symbol s.Comma ∷ params_as (y ∷ xs)

-- one name in quotes
abbrev pub quoted : List ℕ → List Token
quoted x = in_quotes (name x ∷ [])

-- a selection for each name of a list that isn't empty, and tokens for none
abbrev pub if_some : {A : Type 0} → (A → List Token) → Option A → List Token
if_some f None = []
if_some f (Some x) = f x

abbrev pub HasOneIfSome : {A : Type 0} → Option (List A) → Type 0
HasOneIfSome None = Unit {0}
HasOneIfSome (Some xs) = HasOne xs

abbrev pub quoted_names : Names → List Token
quoted_names xs = in_quotes (names_as xs)

abbrev pub quoted_sels : List Sel → List Token
quoted_sels ss = in_quotes (sels_as ss)

-- a minus behind `iRewrite`
abbrev pub minus_if : Bool → List Token
minus_if true = symbol s.Minus ∷ []
minus_if false = []

abbrev pub marker_if : Bool → List Token
marker_if true = symbol s.Intuitionistic ∷ []
marker_if false = []

abbrev pub variables : Names → List Pat
variables xs = map pat.PureName xs

module _ (preds : Callables) (names : Names) where
  -- ---- proof terms

  pub data IsHead : List Token → Head → Type 0 where
    hypothesis : (x : List ℕ) → IsHead (quoted x) (Hyp x)
    proved : (x : List ℕ) → IsHead (name x ∷ []) (Proved x)

  abbrev pub IsOperand : List Token → Term → Type 0
  IsOperand xs t = IsTerm names operand xs t

  -- operands, one behind another
  abbrev pub AreOperands : List Token → List Term → Type 0
  AreOperands xs ts = AreAll IsOperand xs ts × HasOne ts

  pub data AreGiven : List Token → List Term → Type 0 where
    nothing : AreGiven [] []
    given : {xs : List Token} {ts : List Term} → AreOperands xs ts → AreGiven (symbol s.Terms ∷ xs) ts

  pub data AreWith : List Token → List Spat → Type 0 where
    nothing_with : AreWith [] []
    with_some : (p : Spat) (ps : List Spat) → AreWith (name (bytes "with") ∷ in_quotes (spats_as (p ∷ ps))) (p ∷ ps)

  pub data IsProofTerm : List Token → ProofTerm → Type 0 where
    bare : {xs : List Token} {h : Head} → IsHead xs h → IsProofTerm xs (record { head = h; terms = []; spats = [] })
    in_group : {xs ys zs : List Token} {h : Head} {ts : List Term} {ps : List Spat} → IsHead xs h → AreGiven ys ts → AreWith zs ps → IsProofTerm (in_parentheses (xs ++ (ys ++ zs))) (record { head = h; terms = ts; spats = ps })

  abbrev pub IsHyp : Head → Type 0
  IsHyp (Hyp x) = Unit {0}
  IsHyp (Proved x) = ⊥

  -- ---- directives, behind their first word

  pub data IsDirective : List ℕ → List Token → Directive → Type 0 where
    intros_names : (x : List ℕ) (xs : Names) → IsDirective (bytes "iIntros") (in_parentheses (names_as (x ∷ xs))) (d.Intros (variables (x ∷ xs)))
    intros_both : (x : List ℕ) (xs : Names) {ts : List Token} {ps : List Pat} → AreIntros ts ps → IsDirective (bytes "iIntros") (in_parentheses (names_as (x ∷ xs)) ++ in_quotes ts) (d.Intros (variables (x ∷ xs) ++ ps))
    intros : {ts : List Token} {ps : List Pat} → AreIntros ts ps → IsDirective (bytes "iIntros") (in_quotes ts) (d.Intros ps)
    destruct : {xs ys : List Token} {t : ProofTerm} {p : Pat} → IsProofTerm xs t → IsBoundPattern ys p → IsDirective (bytes "iDestruct") (xs ++ name (bytes "as") ∷ ys) (d.Destruct t p)
    pose_proof : {xs ys : List Token} {t : ProofTerm} {p : Pat} → IsProofTerm xs t → IsPattern one ys p → IsDirective (bytes "iPoseProof") (xs ++ name (bytes "as") ∷ in_quotes ys) (d.PoseProof t p)
    eliminate : {xs ys : List Token} {t : ProofTerm} {p : Pat} → IsProofTerm xs t → IsPattern one ys p → IsDirective (bytes "iMod") (xs ++ name (bytes "as") ∷ in_quotes ys) (d.Mod t p)
    specialize : {xs : List Token} {t : ProofTerm} → IsProofTerm xs t → IsHyp t.head → IsDirective (bytes "iSpecialize") xs (d.Specialize t)
    apply : {xs : List Token} {t : ProofTerm} → IsProofTerm xs t → IsDirective (bytes "iApply") xs (d.Apply t)
    -- its specialisation pattern is in brackets
    assert : {e : End} (b : Bool) (how : Spat) (bracketed : (x : List ℕ) → ¬ (how ≡ spat.Name x)) {xs ys : List Token} {f : Formula} {p : Pat} → IsFormula preds names Wands e xs f → IsPattern one ys p → IsDirective (bytes "iAssert") (in_parentheses xs ++ (marker_if b ++ name (bytes "with") ∷ (in_quotes (spat_as how) ++ name (bytes "as") ∷ in_quotes ys))) (d.Assert f how p)
    split : IsDirective (bytes "iSplit") [] d.Split
    split_left : (xs : Option Names) → HasOneIfSome xs → IsDirective (bytes "iSplitL") (if_some quoted_names xs) (d.SplitL xs)
    split_right : (xs : Option Names) → HasOneIfSome xs → IsDirective (bytes "iSplitR") (if_some quoted_names xs) (d.SplitR xs)
    left : IsDirective (bytes "iLeft") [] d.Left
    right : IsDirective (bytes "iRight") [] d.Right
    assumption_of : IsDirective (bytes "iAssumption") [] d.Assumption
    ex_falso : IsDirective (bytes "iExFalso") [] d.ExFalso
    done : IsDirective (bytes "done") [] d.Done
    exists : {xs : List Token} {ts : List Term} → AreTerms names xs ts → IsDirective (bytes "iExists") xs (d.Exists ts)
    exact : (x : List ℕ) → IsDirective (bytes "iExact") (quoted x) (d.Exact x)
    clear : (ss : List Sel) → HasOne ss → IsDirective (bytes "iClear") (quoted_sels ss) (d.Clear ss)
    rename : (x y : List ℕ) → IsDirective (bytes "iRename") (quoted x ++ name (bytes "into") ∷ quoted y) (d.Rename x y)
    revert_names : (xs : Names) → HasOne xs → IsDirective (bytes "iRevert") (in_parentheses (names_as xs)) (d.Revert xs [])
    revert_sels : (ss : List Sel) → HasOne ss → IsDirective (bytes "iRevert") (quoted_sels ss) (d.Revert [] ss)
    revert_both : (xs : Names) (ss : List Sel) → HasOne xs → HasOne ss → IsDirective (bytes "iRevert") (in_parentheses (names_as xs) ++ quoted_sels ss) (d.Revert xs ss)
    frame : (ss : Option (List Sel)) → HasOneIfSome ss → IsDirective (bytes "iFrame") (if_some quoted_sels ss) (d.Frame ss)
    mod_intro : IsDirective (bytes "iModIntro") [] d.ModIntro
    next_step : IsDirective (bytes "iNext") [] d.Next
    loeb : (x : List ℕ) → IsDirective (bytes "iLöb") (name (bytes "as") ∷ quoted x) (d.Loeb x)
    loeb_ascii : (x : List ℕ) → IsDirective (bytes "iLoeb") (name (bytes "as") ∷ quoted x) (d.Loeb x)
    unfold_call : (x : Option (List ℕ)) → IsDirective (bytes "iUnfold") (if_some quoted x) (d.Unfold x)
    fold : {e : End} {xs : List Token} {f : Formula} (x : List ℕ) → IsFormula preds names Wands e xs f → IsDirective (bytes "iFold") (in_parentheses xs ++ name (bytes "in") ∷ quoted x) (d.Fold f x)
    combine : (x y : List ℕ) {ts : List Token} {p : Pat} → IsPattern one ts p → IsDirective (bytes "iCombine") (in_quotes (name x ∷ name y ∷ []) ++ name (bytes "as") ∷ in_quotes ts) (d.Combine x y p)
    write : (x : List ℕ) {ts : List Token} {t : Term} → IsTerm names operand ts t → IsDirective (bytes "iWrite") (quoted x ++ ts) (d.Write x t)
    alloc : (x : List ℕ) {xs ys : List Token} {t : Term} {p : Pat} → IsTerm names operand xs t → IsPattern one ys p → IsDirective (bytes "iAlloc") (xs ++ name (bytes "as") ∷ (in_parentheses (name x ∷ []) ++ in_quotes ys)) (d.Alloc t x p)
    pure_intro : IsDirective (bytes "iPureIntro") [] d.PureIntro
    rewrite : (back : Bool) (x : List ℕ) → IsDirective (bytes "iRewrite") (minus_if back ++ quoted x) (d.Rewrite back x None)
    rewrite_in : (back : Bool) (x y : List ℕ) → IsDirective (bytes "iRewrite") (minus_if back ++ (quoted x ++ name (bytes "in") ∷ quoted y)) (d.Rewrite back x (Some y))
    cases : (x : List ℕ) {ts : List Token} {p : Pure} → IsPure names Ors ts p → IsDirective (bytes "iCases") (in_parentheses ts ++ name (bytes "as") ∷ quoted x) (d.Cases p x)
    linear : IsDirective (bytes "linear") [] d.Linear
    linear_with : {xs : List Token} {c : Cert} → IsCert true xs c → IsDirective (bytes "linear") (name (bytes "with") ∷ in_quotes xs) (d.LinearWith (c ∷ []))
    linear_with_two : {xs ys : List Token} {c e : Cert} → IsCert true xs c → IsCert true ys e → IsDirective (bytes "linear") (name (bytes "with") ∷ (in_quotes xs ++ in_quotes ys)) (d.LinearWith (c ∷ e ∷ []))

-- ---- sentences

-- the names differ
abbrev pub Differ : Names → Type 0
Differ [] = Unit {0}
Differ (x ∷ xs) = ((i : ℕ) → ¬ (slice_get xs i ≡ Some x)) × Differ xs

pub data IsSentence (preds : List Pred) (names : Names) : List Token → Sentence → Type 0 where
  predicate : {e : End} (p : List ℕ) (xs : Names) {ts : List Token} {f : Formula} → Differ xs → IsFormula (callables_in p (length xs) preds) xs Wands e ts f → IsSentence preds names (name (bytes "Predicate") ∷ name p ∷ (in_parentheses (params_as xs) ++ symbol s.Defines ∷ ts)) (sentence.Predicate p xs f)
  lemma : {e : End} (n : List ℕ) {ts : List Token} {f : Formula} → IsFormula (callables 0 preds) [] Wands e ts f → IsSentence preds names (name (bytes "Lemma") ∷ name n ∷ symbol s.Colon ∷ ts) (sentence.Lemma n f)
  entailment : {e h : End} (n : List ℕ) {xs ys : List Token} {f g : Formula} → IsFormula (callables 0 preds) [] Wands e xs f → IsFormula (callables 0 preds) [] Wands h ys g → IsSentence preds names (name (bytes "Lemma") ∷ name n ∷ symbol s.Colon ∷ (xs ++ symbol s.Entails ∷ ys)) (sentence.Lemma n (formula.Wand f g))
  proof : IsSentence preds names (name (bytes "Proof") ∷ []) sentence.Proof
  qed : IsSentence preds names (name (bytes "Qed") ∷ []) sentence.Qed
  abort : IsSentence preds names (name (bytes "Abort") ∷ []) sentence.Abort
  restart : IsSentence preds names (name (bytes "Restart") ∷ []) sentence.Restart
  show : IsSentence preds names (name (bytes "Show") ∷ []) sentence.Show
  undo : IsSentence preds names (name (bytes "Undo") ∷ []) (sentence.Undo 1)
  undo_steps : {n : ℕ} → n < 2 ^ 63 → IsSentence preds names (name (bytes "Undo") ∷ number n ∷ []) (sentence.Undo n)
  enter : IsSentence preds names (symbol s.OpenBrace ∷ []) sentence.Enter
  leave : IsSentence preds names (symbol s.CloseBrace ∷ []) sentence.Leave
  directive : {w : List ℕ} {ts : List Token} {x : Directive} → IsDirective (callables 0 preds) names w ts x → IsSentence preds names (name w ∷ ts) (sentence.Directive x)
