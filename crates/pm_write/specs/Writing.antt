-- What is being written, and which proofs can be.
use Rattle.std.specs.Prelude.{◌≡◌, ℕ, ◌<◌, ◌^◌, List, [], ◌∷◌, ◌++◌, slice_get, length, map, MatchOption, Option, Some, None}
use Rattle.std.specs.List.{AllByRecursion}
use Rattle.pm_logic.specs.declared.formula.Preds.{Preds}
use Rattle.pm_rules.specs.declared.rules.Rule.{Rule}
use Rattle.pm_logic.specs.Integers.{TermIsI64, TermsAreI64, FormulaIsI64}
use Rattle.pm_rules.specs.declared.rules.Rule.TheVariants.{Inst, AllE, ExI, Rewrite}
use Rattle.pm_rules.specs.declared.rules.Entail.{Entail}
use Rattle.pm_rules.specs.Rules.{RuleOk}
use Rattle.pm_proof.specs.Trees.{Tree, conclusion, rule_of}
use Rattle.pm_proof.specs.Parts.{premises_of}
use Rattle.pm_proof.specs.Valid.{RuleFits}
use Rattle.pm_dtext.specs.declared.line.Line.{Line}
use Rattle.pm_dtext.specs.declared.line.Line.TheVariants.{Qed}
use Rattle.pm_check.specs.Fronts.{EachBehind}
use Rattle.pm_check.specs.Lines.{steps, names, proof_line, statements_behind}
use Rattle.pm_check.specs.Derivation.{lines_text, IsNext}
use Rattle.pm_write.specs.declared.written.Written.{Written}
use Rattle.pm_write.specs.declared.written.Earlier.{Earlier}

-- ---- the lines that stand

-- the text is that of these lines, so many of which are proof lines
pub record Keeps (w : Written) (lines : List Line) : Type 0 where
  pub text_is : w.text ≡ lines_text 1 lines []
  pub count_is : w.count ≡ length (steps lines)

-- and each line follows from those before it
pub record Holds (preds : Preds) (w : Written) (lines : List Line) : Type 0 where
  pub keeps : Keeps w lines
  pub few : length (steps lines) < 2 ^ 64
  pub each : EachBehind (IsNext preds) lines

-- one line more, a proof line of this number
pub record Adds (old new : Written) (number : ℕ) (l : Line) : Type 0 where
  pub number_is : number ≡ new.count
  pub small : number < 2 ^ 64
  pub behind : (lines : List Line) → Keeps old lines → Keeps new (lines ++ l ∷ [])

-- one line more, a statement
pub record Closes (old new : Written) (name : List ℕ) (number : ℕ) : Type 0 where
  pub count_is : new.count ≡ old.count
  pub behind : (lines : List Line) → Keeps old lines → Keeps new (lines ++ Qed name number ∷ [])

-- ---- proof lines that were added

-- behind these lines stand more proof lines
pub record Grows (preds : Preds) (base : List Line) (w : Written) : Type 0 where
  pub lines : List Line
  pub holds : Holds preds w lines
  pub names_are : names lines ≡ names base
  pub states : statements_behind [] lines ≡ statements_behind [] base
  pub kept : (n : ℕ) (e : Entail) → proof_line (steps base) n ≡ Some e → proof_line (steps lines) n ≡ Some e

-- and e is the proof line of this number
pub record Reaches (preds : Preds) (base : List Line) (w : Written) (number : ℕ) (e : Entail) : Type 0 where
  pub grows : Grows preds base w
  pub there : proof_line (steps grows.lines) number ≡ Some e

-- the conclusions of trees are the proof lines of these numbers
abbrev pub Stand : List Line → List Tree → List ℕ → Type 0
Stand lines [] [] = Unit {0}
Stand lines [] (n ∷ ns) = ⊥
Stand lines (t ∷ ts) [] = ⊥
Stand lines (t ∷ ts) (n ∷ ns) = (proof_line (steps lines) n ≡ Some (conclusion t)) × Stand lines ts ns

-- lines that may be recalled: where a place has one, it is the proof line of its number
abbrev pub AreRecalled : List Line → List (Option Earlier) → Type 0
AreRecalled lines places = AllByRecursion (λ o. MatchOption o (Unit {0}) (λ k. proof_line (steps lines) k.number ≡ Some k.entail.now)) places

-- one of them says e, and has this number
pub record IsRecalled (places : List (Option Earlier)) (e : Entail) (number : ℕ) : Type 0 where
  pub place : ℕ
  pub item : Earlier
  pub there : slice_get places place ≡ Some (Some item)
  pub entail_is : item.entail.now ≡ e
  pub number_is : item.number ≡ number

-- e is the proof line of this number, and what may be recalled still stands
pub record Recalls (preds : Preds) (base : List Line) (w : Written) (number : ℕ) (e : Entail) (places : List (Option Earlier)) : Type 0 where
  pub grows : Grows preds base w
  pub there : proof_line (steps grows.lines) number ≡ Some e
  pub recalled : AreRecalled grows.lines places

pub record Places (preds : Preds) (base : List Line) (w : Written) (ts : List Tree) (numbers : List ℕ) (places : List (Option Earlier)) : Type 0 where
  pub grows : Grows preds base w
  pub stand : Stand grows.lines ts numbers
  pub recalled : AreRecalled grows.lines places

-- citations of premises, the first one first
abbrev pub Cites : List Line → List Tree → Option ℕ → Option ℕ → Type 0
Cites lines [] None None = Unit {0}
Cites lines (a ∷ []) (Some n) None = proof_line (steps lines) n ≡ Some (conclusion a)
Cites lines (a ∷ b ∷ []) (Some n) (Some m) = (proof_line (steps lines) n ≡ Some (conclusion a)) × (proof_line (steps lines) m ≡ Some (conclusion b))
Cites lines ts first second = ⊥

-- ---- holes

-- each of the earlier conclusions is the proof line of its number
abbrev pub AreThere : List Line → List Earlier → Type 0
AreThere lines earlier = AllByRecursion (λ k. proof_line (steps lines) k.number ≡ Some k.entail.now) earlier

-- one of them is e, and has this number
pub record IsConcluded (earlier : List Earlier) (e : Entail) (number : ℕ) : Type 0 where
  pub place : ℕ
  pub item : Earlier
  pub there : slice_get earlier place ≡ Some item
  pub entail_is : item.entail.now ≡ e
  pub number_is : item.number ≡ number

-- ---- what is asked of a part of a proof

-- its rule, where it has one, leads from its premises to its conclusion, and fits a line
abbrev pub IsSound : Preds → Tree → Type 0
IsSound preds t = MatchOption (rule_of t) (Unit {0}) (λ r. RuleOk preds r (map conclusion (premises_of t)) (conclusion t) × RuleFits preds r (conclusion t))

-- the integers in what a rule takes besides have 64 bits
unfoldable pub RuleIsI64 : Rule → Type 0
RuleIsI64 (Inst sigma) = TermsAreI64 sigma
RuleIsI64 (AllE t) = TermIsI64 t
RuleIsI64 (ExI t) = TermIsI64 t
RuleIsI64 (Rewrite b) = FormulaIsI64 b
RuleIsI64 _ = Unit {0}

pub record EntailIsI64 (e : Entail) : Type 0 where
  pub left : FormulaIsI64 e.left
  pub right : FormulaIsI64 e.right
