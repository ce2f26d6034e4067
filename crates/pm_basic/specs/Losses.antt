-- Goals that lose a variable.
use Rattle.std.specs.Prelude.{◌≡◌, ℕ, false, [], ◌∷◌, length, Some}
use Rattle.pm_logic.specs.declared.formula.Formula.{Formula}
use Rattle.pm_logic.specs.declared.formula.Formula.TheViews as view
use Rattle.pm_logic.specs.Substitution.{in_formula}
use Rattle.pm_goal.specs.declared.work.Work.{Work}
use Rattle.pm_goal.specs.Left.{left_of_work}
use Rattle.pm_proof.specs.Trees.{Tree, entail}
use Rattle.pm_proof.specs.Known.{Proves, Every}
use Rattle.pm_table.specs.declared.place.Place.TheVariants.{Current as current}
use Rattle.pm_table.specs.Limits.{resting}
use Rattle.pm_table.specs.Works.{Named, index_named}
use Rattle.pm_table.specs.Basic.{mentions, without_var}
use Rattle.pm_action.specs.Meanings.{meaning, room, width}
use Rattle.pm_basic.specs.Replacements.{bound}

-- the new work is without the variable of this index, which no hypothesis or fact mentions
pub record Loses (i : ℕ) (w new : Work) : Type 0 where
  pub nothing : w.held ≡ []
  pub name : Named
  pub index : index_named name w.goal.vars ≡ Some i
  pub loose : mentions i w.goal ≡ false
  pub new_is : new ≡ resting (without_var name i w.goal)

-- the conclusion for all values of the variable
abbrev pub for_all : ℕ → Formula → Formula
for_all i c = view.All (in_formula (bound i) c)

-- from what the new work means, which is the hole: the old star entails the conclusion for all values
abbrev pub IsRegained : ℕ → Work → Work → Tree → Type 0
IsRegained i w new t = Proves Every (entail (length w.goal.vars) (left_of_work w) (for_all i w.goal.concl)) (meaning new ∷ []) 1 (room w (current [] new ∷ [])) (width w) t

-- the conclusion for all values entails the conclusion
abbrev pub IsSpecial : ℕ → Work → Work → Tree → Type 0
IsSpecial i w new t = Proves Every (entail (length w.goal.vars) (for_all i w.goal.concl) w.goal.concl) [] 1 (room w (current [] new ∷ [])) (width w) t
