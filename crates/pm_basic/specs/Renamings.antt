-- Contexts in which a name becomes another.
use Rattle.std.specs.Prelude.{◌≡◌, List, map}
use Rattle.pm_goal.specs.declared.goal.Hyp.{Hyp}
use Rattle.pm_goal.specs.declared.goal.Fact.{Fact}
use Rattle.pm_table.specs.Stepping.{times}
use Rattle.pm_table.specs.Works.{Named, hyp, fact}
use Rattle.pm_table.specs.Basic.{renamed}

abbrev pub renamed_hyp : (h k : Named) → Hyp → Hyp
renamed_hyp h k g = hyp (renamed h k g.name) g.formula

abbrev pub renamed_fact : (h k : Named) → Fact → Fact
renamed_fact h k f = fact (renamed h k f.name) f.pure

-- no hypothesis has the name
abbrev pub NoHyp : Named → List Hyp → Type 0
NoHyp name hs = times name (map (λ g. g.name) hs) ≡ 0

abbrev pub NoFact : Named → List Fact → Type 0
NoFact name fs = times name (map (λ f. f.name) fs) ≡ 0
