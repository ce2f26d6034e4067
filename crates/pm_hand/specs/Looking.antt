-- What a name names in a goal, and where that stands in the star.
use Rattle.std.specs.Prelude.{◌≡◌, ℕ, ◌<◌, length, Option, Some, None}
use Rattle.pm_logic.specs.declared.formula.Pure.{Pure}
use Rattle.pm_logic.specs.declared.formula.Formula.{Formula}
use Rattle.pm_logic.specs.declared.formula.Formula.TheVariants.{Pure as Assert}
use Rattle.pm_goal.specs.declared.goal.Goal.{Goal}
use Rattle.pm_goal.specs.declared.work.Kind.{Kind}
use Rattle.pm_goal.specs.declared.work.Kind.TheVariants as kind
use Rattle.pm_goal.specs.Left.{of_kind}
use Rattle.pm_star.specs.Stars.{parts, shared, part_at, without}
use Rattle.pm_table.specs.Works.{Named, hyp_named, fact_named, without_named}
use Rattle.pm_hand.specs.declared.looking.Lookup.{Lookup}
use Rattle.pm_hand.specs.declared.looking.Lookup.TheVariants.{Hyp, Fact}

-- what each context has under the name
pub record IsNamed (goal : Goal) (name : Named) (spat int : Option Formula) (pure : Option Pure) : Type 0 where
  pub spats : hyp_named name goal.spats ≡ spat
  pub ints : hyp_named name goal.ints ≡ int
  pub pures : fact_named name goal.pures ≡ pure

-- what the name names is this part of the star, without which the others are left
pub record IsAt (goal : Goal) (name : Named) (place : ℕ) (part : Formula) : Type 0 where
  pub within : place < length (parts goal)
  pub is : part_at (parts goal) place ≡ part
  pub rest : parts (without_named name goal) ≡ without (parts goal) place

-- a hypothesis of the kind
abbrev pub HypNamed : Goal → Named → Kind → Formula → Type 0
HypNamed goal name kind.Spat f = IsNamed goal name (Some f) None None
HypNamed goal name kind.Int f = IsNamed goal name None (Some f) None

-- what may be used any number of times stands before the spatial ones
abbrev pub IsBefore : Goal → Kind → ℕ → Type 0
IsBefore goal kind.Spat place = Unit {0}
IsBefore goal kind.Int place = place < length (shared goal)

pub record IsHypAt (goal : Goal) (name : Named) (place : ℕ) (k : Kind) (f : Formula) : Type 0 where
  pub named : HypNamed goal name k f
  pub before : IsBefore goal k place
  pub at : IsAt goal name place (of_kind k f)

pub record IsFactAt (goal : Goal) (name : Named) (place : ℕ) (p : Pure) : Type 0 where
  pub named : IsNamed goal name None None (Some p)
  pub before : place < length (shared goal)
  pub at : IsAt goal name place (Assert p)

abbrev pub LookedUp : Goal → Named → Option Lookup → Type 0
LookedUp goal name None = IsNamed goal name None None None
LookedUp goal name (Some (Hyp place k f)) = IsHypAt goal name place k f
LookedUp goal name (Some (Fact place p)) = IsFactAt goal name place p
