-- Facts that contradict each other, and terms that are equal to themselves.
use Rattle.std.specs.Prelude.{◌≡◌, ℕ, ◌+◌, Some, option_map, slice_get, List, [], ◌∷◌, length}
use Rattle.pm_logic.specs.declared.formula.Term.{Term}
use Rattle.pm_logic.specs.declared.formula.Term.TheVariants.{Var}
use Rattle.pm_logic.specs.declared.formula.Pure.{Pure}
use Rattle.pm_logic.specs.declared.formula.Pure.TheVariants.{True, Eq}
use Rattle.pm_logic.specs.declared.formula.Formula.TheVariants.{Pure as Assert}
use Rattle.pm_logic.specs.Trees.{nope}
use Rattle.pm_goal.specs.declared.goal.Fact.{Fact}
use Rattle.pm_goal.specs.declared.work.Work.{Work}
use Rattle.pm_goal.specs.Left.{left_of_work}
use Rattle.pm_rules.specs.declared.rules.Entail.{Entail}
use Rattle.pm_proof.specs.Trees.{Tree, entail}
use Rattle.pm_proof.specs.Known.{Proves, Every, ScopedWhere}
use Rattle.pm_action.specs.Meanings.{room, width}

-- ---- a fact and its negation

-- they stand at these places
pub record AreOpposite (facts : List Fact) (places : ℕ × ℕ) : Type 0 where
  pub fact : Pure
  pub holds : option_map (λ (f : Fact). f.pure) (slice_get facts places.0) ≡ Some fact
  pub fails : option_map (λ (f : Fact). f.pure) (slice_get facts places.1) ≡ Some (nope fact)

-- proofs of what both holes want, put there
abbrev pub FillsTwo : Tree → Tree → Tree → Tree → Type 0
FillsTwo step a b t = (e f g : Entail) (n m l d k : ℕ) → Proves Every e (f ∷ g ∷ []) n d k step → Proves Every f [] m d k a → Proves Every g [] l d k b → ScopedWhere e [] f → ScopedWhere e [] g → Proves Every e [] (n + m + l) d k t

-- ---- what is equal to itself

abbrev pub GivesTruth : Work → Tree → Type 0
GivesTruth w t = Proves Every (entail (length w.goal.vars) (left_of_work w) (Assert True)) [] 1 (room w []) (width w) t

-- a variable, where it is the only one
abbrev pub one_variable : Entail
one_variable = entail 1 (Assert True) (Assert (Eq (Var 0) (Var 0)))

-- a term
abbrev pub itself : ℕ → Term → Entail
itself k t = entail k (Assert True) (Assert (Eq t t))
