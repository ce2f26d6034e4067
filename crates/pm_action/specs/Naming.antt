-- Goals in which names can be looked up.
use Rattle.std.specs.Prelude.{◌<◌, ◌≤◌, ◌^◌, not, List, [], ◌∷◌, length, map, if◌then◌else◌}
use Rattle.std.specs.Str.{bytes_eq}
use Rattle.pm_goal.specs.declared.goal.Hyp.{Hyp}
use Rattle.pm_goal.specs.declared.goal.Fact.{Fact}
use Rattle.pm_goal.specs.declared.goal.Goal.{Goal}
use Rattle.pm_table.specs.Works.{Named}
use Rattle.pm_table.specs.Stepping.{times}

-- so few of each kind that their places fit
pub record IsFindable (goal : Goal) : Type 0 where
  pub vars : length goal.vars < 2 ^ 32
  pub pures : length goal.pures < 2 ^ 32
  pub ints : length goal.ints < 2 ^ 32
  pub spats : length goal.spats < 2 ^ 32

-- no two hypotheses have one name
abbrev pub HypsDiffer : List Hyp → Type 0
HypsDiffer hs = (name : Named) → times name (map (λ h. h.name) hs) ≤ 1

abbrev pub FactsDiffer : List Fact → Type 0
FactsDiffer fs = (name : Named) → times name (map (λ f. f.name) fs) ≤ 1

-- the hypothesis, where it has another name
abbrev pub other_hyp : Named → Hyp → List Hyp
other_hyp name h = if not (bytes_eq name h.name) then h ∷ [] else []

abbrev pub other_fact : Named → Fact → List Fact
other_fact name f = if not (bytes_eq name f.name) then f ∷ [] else []
