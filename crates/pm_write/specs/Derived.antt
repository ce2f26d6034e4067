-- Which lists of proofs can be written down, and what their derivation states.
use Rattle.std.specs.Prelude.{◌≡◌, ◌⊎◌, ℕ, List, [], ◌∷◌, map, IsTrue, false}
use Rattle.std.specs.List.{AllByRecursion}
use Rattle.pm_logic.specs.declared.formula.Formula.TheVariants.{Pure as Fact}
use Rattle.pm_logic.specs.declared.formula.Pure.TheVariants.{True}
use Rattle.pm_logic.specs.declared.formula.Preds.{Preds}
use Rattle.pm_rules.specs.declared.rules.Entail.{Entail}
use Rattle.pm_names.specs.Names.{is_name}
use Rattle.pm_proof.specs.Trees.{conclusion, holes_of}
use Rattle.pm_proof.specs.Valid.{Valid, Fits}
use Rattle.pm_dtext.specs.declared.line.Line.{Line}
use Rattle.pm_check.specs.declared.checked.Statement.{Statement}
use Rattle.pm_check.specs.Fronts.{EachBehind}
use Rattle.pm_check.specs.Lines.{names, is_used, statements_behind}
use Rattle.pm_write.specs.declared.written.Written.{Written}
use Rattle.pm_write.specs.declared.writing.Named.{Named}
use Rattle.pm_write.specs.Writing.{Holds}

-- what a proof says: the right side of its conclusion, under its name
abbrev pub statement_of : Named → Statement
statement_of x = record { name = x.name; formula = (conclusion x.proof).right }

abbrev pub names_of : List Named → List (List ℕ)
names_of xs = map (λ x. x.name) xs

abbrev pub conclusions : List Named → List Entail
conclusions xs = map (λ x. conclusion x.proof) xs

-- e is among them
abbrev pub IsOneOf : List Entail → Entail → Type 0
IsOneOf [] e = ⊥
IsOneOf (x ∷ xs) e = (x ≡ e) ⊎ IsOneOf xs e

-- the proof can be written behind these: it has a name that none of them has, leads from truth, with no variables, is valid,
-- fits lines, and each of its holes is the conclusion of one of them
pub record IsWritable (preds : Preds) (before : List Named) (x : Named) : Type 0 where
  pub named : IsTrue (is_name x.name)
  pub new : is_used (names_of before) x.name ≡ false
  pub closed : (conclusion x.proof).vars ≡ 0
  pub left : (conclusion x.proof).left ≡ Fact True
  pub valid : Valid preds x.proof
  pub fits : Fits preds x.proof
  pub holes : AllByRecursion (IsOneOf (conclusions before)) (holes_of x.proof)

abbrev pub AreWritable : Preds → List Named → Type 0
AreWritable preds xs = EachBehind (IsWritable preds) xs

-- ---- what is written of them

-- the text is that of lines that state what these proofs say, in order, and each line follows from those before it
pub record States (preds : Preds) (w : Written) (xs : List Named) : Type 0 where
  pub lines : List Line
  pub holds : Holds preds w lines
  pub names_are : names lines ≡ names_of xs
  pub states : statements_behind [] lines ≡ map statement_of xs
