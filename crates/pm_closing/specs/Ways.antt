-- Parts of a star by which a goal is closed.
use Rattle.std.specs.Prelude.{◌≡◌, ℕ, ◌+◌, ◌*◌, ◌<◌, max, Bool, true, false, Option, Some, None, [], length}
use Rattle.pm_logic.specs.declared.formula.Pure.TheVariants.{False}
use Rattle.pm_logic.specs.declared.formula.Formula.{Formula}
use Rattle.pm_logic.specs.declared.formula.Formula.TheVariants.{Pure as Assert}
use Rattle.pm_logic.specs.declared.formula.Formula.TheViews as view
use Rattle.pm_logic.specs.Size.{depth_of}
use Rattle.pm_goal.specs.declared.goal.Goal.{Goal}
use Rattle.pm_goal.specs.declared.work.Work.{Work}
use Rattle.pm_goal.specs.Left.{left_of_work}
use Rattle.pm_proof.specs.Trees.{Tree, entail, conclusion}
use Rattle.pm_proof.specs.Known.{Proves, Extends, Every}
use Rattle.pm_star.specs.Stars.{parts, work_parts, part_at}
use Rattle.pm_action.specs.Meanings.{room, width}
use Rattle.pm_closing.specs.declared.way.Way.{Way}
use Rattle.pm_closing.specs.declared.way.Way.TheVariants.{Same, Boxed, Falsehood, BoxedFalsehood}
use Rattle.pm_closing.specs.declared.way.Found.{Found}

-- nothing where the test fails, and something of which P holds where it doesn't
abbrev pub Tells : {A : Type 0} → Bool → (A → Type 0) → Option A → Type 0
Tells test P None = test ≡ false
Tells test P (Some x) = (test ≡ true) × P x

-- the formula stands at the place
pub record IsPart (goal : Goal) (f : Formula) (n : ℕ) : Type 0 where
  pub within : n < length (parts goal)
  pub is : part_at (parts goal) n ≡ f

-- the part by which the conclusion is given in the way
abbrev pub part_for : Way → Formula → Formula
part_for Same c = c
part_for Boxed c = view.Pers c
part_for Falsehood c = Assert False
part_for BoxedFalsehood c = view.Pers (Assert False)

abbrev pub IsFound : Goal → Found → Type 0
IsFound goal found = IsPart goal (part_for found.way goal.concl) found.place

-- a proof that the star of the work entails the part at the place
abbrev pub GivesPart : Work → ℕ → Tree → Type 0
GivesPart w n t = Proves Every (entail (length w.goal.vars) (left_of_work w) (part_at (work_parts w) n)) [] (100 * (length (work_parts w) + 1) + 2) (room w []) (width w) t

-- from the part by which it is given in the way: the conclusion
abbrev pub GivesConclusion : ℕ → Way → Formula → Tree → Type 0
GivesConclusion k way c t = Proves Every (entail k (part_for way c) c) [] 3 (depth_of c + 5) k t

-- from a proof of x ⊢ a ∗ y: x ⊢ a
abbrev pub IsFirst : Tree → Tree → Type 0
IsFirst by t = (k : ℕ) (x a y : Formula) → conclusion by ≡ entail k x (view.Sep a y) → Extends by (entail k x a) 2 (max (depth_of x) (max (depth_of a) (depth_of y)) + 8) k t
