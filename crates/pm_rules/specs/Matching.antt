-- What is known of the letters while formulas are compared with shapes.
use Rattle.std.specs.Prelude.{◌≡◌, Option, None, Some}
use Rattle.std.specs.Option.{option_copied}
use Rattle.pm_logic.specs.declared.formula.Pure.{Pure}
use Rattle.pm_logic.specs.declared.formula.Formula.{Formula}
use Rattle.pm_rules.specs.declared.matching.Found.{Found}
use Rattle.pm_rules.specs.PureShapes.{PureShape, pure_instance}
use Rattle.pm_rules.specs.Shapes.{Letters, Shape, instance}

-- what the letters that were met stand for
pub record Known : Type 0 where
  pub first : Option Formula
  pub second : Option Formula
  pub third : Option Formula
  pub fourth : Option Formula
  pub pure_first : Option Pure
  pub pure_second : Option Pure

abbrev pub known : Found → Known
known e = record { first = option_copied e.first; second = option_copied e.second; third = option_copied e.third; fourth = option_copied e.fourth; pure_first = option_copied e.pure_first; pure_second = option_copied e.pure_second }

abbrev pub known_of : Option Found → Option Known
known_of None = None
known_of (Some e) = Some (known e)

-- where something is known, it is this
abbrev pub Stands : {A : Type 0} → Option A → A → Type 0
Stands None a = Unit {0}
Stands (Some b) a = b ≡ a

-- the letters stand for what is known
pub record Agrees (s : Letters) (k : Known) : Type 0 where
  pub first : Stands k.first (s.formula 0)
  pub second : Stands k.second (s.formula 1)
  pub third : Stands k.third (s.formula 2)
  pub fourth : Stands k.fourth (s.formula 3)
  pub pure_first : Stands k.pure_first (s.pure 0)
  pub pure_second : Stands k.pure_second (s.pure 1)

-- what is known afterwards is what was known before, and the claim
pub record Adds (k : Known) (claim : Letters → Type 0) (k' : Known) : Type 0 where
  pub to : (s : Letters) → Agrees s k' → Agrees s k × claim s
  pub from : (s : Letters) → Agrees s k → claim s → Agrees s k'

-- no letters that stand for what is known meet the claim
pub record Denies (k : Known) (claim : Letters → Type 0) : Type 0 where
  pub none : (s : Letters) → Agrees s k → claim s → ⊥

abbrev pub Learns : Known → (Letters → Type 0) → Option Known → Type 0
Learns k claim None = Denies k claim
Learns k claim (Some k') = Adds k claim k'

-- the formula is an instance of the shape
abbrev pub Matches : Known → Shape → Formula → Option Known → Type 0
Matches k x f r = Learns k (λ s. f ≡ instance s x) r

abbrev pub PureMatches : Known → PureShape → Pure → Option Known → Type 0
PureMatches k x f r = Learns k (λ s. f ≡ pure_instance s.pure x) r

-- a letter's place, where f is met at it
abbrev pub Meets : {A : Type 0} → Option A → A → Option A → Type 0
Meets old a None = ¬ Stands old a
Meets old a (Some b) = (b ≡ a) × Stands old a

abbrev pub nothing : Known
nothing = record { first = None; second = None; third = None; fourth = None; pure_first = None; pure_second = None }
