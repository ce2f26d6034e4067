-- Works in which spatial hypotheses are in hand, and what is known of proofs that lead to them.
use Rattle.std.specs.Prelude.{ℕ, ◌+◌, ◌*◌, max, [], ◌∷◌, length}
use Rattle.pm_logic.specs.declared.formula.Pure.TheVariants as pure
use Rattle.pm_logic.specs.declared.formula.Formula.TheVariants.{Pure as Fact}
use Rattle.pm_logic.specs.Size.{depth_of}
use Rattle.pm_logic.specs.declared.formula.Formula.{Formula}
use Rattle.pm_goal.specs.declared.work.Work.{Work}
use Rattle.pm_goal.specs.declared.work.Kind.TheVariants as kind
use Rattle.pm_goal.specs.Left.{left_of_work}
use Rattle.pm_proof.specs.Trees.{Tree, entail}
use Rattle.pm_proof.specs.Known.{Proves, Every}
use Rattle.pm_star.specs.Stars.{work_parts}
use Rattle.pm_hand.specs.Changed.{less}
use Rattle.pm_table.specs.Limits.{all_nodes, work_formulas}
use Rattle.pm_table.specs.Works.{Named, hold}
use Rattle.pm_action.specs.Meanings.{height, width}

-- the hypothesis of the name is in hand
abbrev pub taken : Work → Named → Formula → Work
taken w name f = hold kind.Spat f (less w name)

-- without both
abbrev pub without_both : Work → Named → Named → Work
without_both w a b = less (less w a) b

-- from the star to that of the work with both in hand
abbrev pub TakesBoth : Work → Work → Tree → Type 0
TakesBoth w new t = Proves Every (entail (length w.goal.vars) (left_of_work w) (left_of_work new)) [] (200 * length (work_parts w) + 201) (height w + 12) (length w.goal.vars) t

-- from the star to that of the new work, within the bounds of an action
abbrev pub Becomes : Work → Work → Tree → Type 0
Becomes w new t = Proves Every (entail (length w.goal.vars) (left_of_work w) (left_of_work new)) [] (300 * length (work_parts w) + 400 * all_nodes (work_formulas w) + 302) (max (height w + 12) (depth_of (left_of_work new) + 8)) (width w) t

-- from the star with falsehood in hand to a conclusion
abbrev pub IsAbsurd : Work → Formula → Tree → Type 0
IsAbsurd rest c t =
    Proves Every (entail (length rest.goal.vars) (left_of_work (hold kind.Spat (Fact pure.False) rest)) c) [] (100 * length (work_parts rest) + 204)
    (max (max (depth_of (left_of_work (hold kind.Spat (Fact pure.False) rest))) (depth_of (left_of_work rest))) (depth_of c) + 12) (length rest.goal.vars) t
