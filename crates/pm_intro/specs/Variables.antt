-- Works with a variable more.
use Rattle.std.specs.Prelude.{◌+◌, ◌*◌, max, [], ◌∷◌, ◌++◌, length}
use Rattle.std.specs.List.{AllByRecursion}
use Rattle.pm_logic.specs.declared.formula.Formula.{Formula}
use Rattle.pm_logic.specs.declared.formula.Formula.TheVariants.{Pure as Assert}
use Rattle.pm_logic.specs.declared.formula.Formula.TheViews as view
use Rattle.pm_logic.specs.Bounds.{IsBounded}
use Rattle.pm_logic.specs.Substitution.{shift_of}
use Rattle.pm_goal.specs.declared.work.Kind.{Kind}
use Rattle.pm_goal.specs.declared.work.Work.{Work}
use Rattle.pm_goal.specs.Left.{left_of_work}
use Rattle.pm_proof.specs.Trees.{Tree, entail}
use Rattle.pm_proof.specs.Known.{Proves, Every}
use Rattle.pm_table.specs.Stepping.{NamesDiffer}
use Rattle.pm_table.specs.Limits.{all_nodes, work_formulas}
use Rattle.pm_table.specs.Works.{Named, with_var, each_held, work_of, holding}
use Rattle.pm_action.specs.Acting.{all_but_last}
use Rattle.pm_action.specs.Meanings.{meaning, height, width}
use Rattle.pm_intro.specs.Hands.{rest}

-- what a work is whose formulas can all be shifted
pub record IsLiftable (w : Work) : Type 0 where
  pub pures : AllByRecursion (λ f. IsBounded (Assert f.pure)) w.goal.pures
  pub ints : AllByRecursion (λ h. IsBounded h.formula) w.goal.ints
  pub spats : AllByRecursion (λ h. IsBounded h.formula) w.goal.spats
  pub held : AllByRecursion (λ h. IsBounded h.formula) w.held
  pub apart : NamesDiffer w.goal

-- the newest variable, in whose presence every other index is one higher; the conclusion is another
abbrev pub lifted : Named → Formula → Work → Work
lifted x c w = work_of (with_var x c w.goal) (each_held shift_of w.held)

-- the body is held, too
abbrev pub opened : Work → Kind → Named → Formula → Work
opened w z x b = work_of (with_var x (shift_of w.goal.concl) w.goal) (each_held shift_of (all_but_last w.held) ++ (holding z b ∷ []))

-- in one variable more, from what the new work means: the part entails the wand, shifted, from what is left of the star to the
-- conclusion
abbrev pub IsUnder : Work → Formula → Work → Tree → Type 0
IsUnder w b new t = Proves Every (entail (length w.goal.vars + 1) b (shift_of (view.Wand (left_of_work (rest w)) w.goal.concl))) (meaning new ∷ []) (100 * all_nodes (work_formulas w) + 2) (max (height w) (height new) + 16) (length w.goal.vars + 1) t

-- from what the new work means: the conclusion, by the existential of the part beside what is left of the star
abbrev pub IsOpened : Work → Formula → Work → Tree → Type 0
IsOpened w b new t = Proves Every (entail (length w.goal.vars) (view.Sep (view.Ex b) (left_of_work (rest w))) w.goal.concl) (meaning new ∷ []) (100 * all_nodes (work_formulas w) + 4) (max (height w) (height new) + 16) (width w) t
