-- The core is a part that adds nothing, is its own core, and grows with the resource.
use Rattle.std.proofs.Common.{◌≡◌, ℤ, refl, sym, ◌∙◌}
use Rattle.pm_model.specs.Resource.{Res, Joins, Extends, nothing, core}
use Rattle.pm_model.specs.Laws.{IsCore}
use Rattle.pm_model.proofs.Joins.{compatible_empty, plus_empty, nothing_joins, extends_refl, extends_left}

pub core_joins : (r : Res) → Joins (core r) r r
unfolding core
core_joins r = nothing_joins r

pub core_twice : (r : Res) (l : ℤ) → (core (core r)).at l ≡ (core r).at l
unfolding core
core_twice r l = refl

pub core_grows : {r s : Res} → Extends r s → Extends (core r) (core s)
unfolding core
core_grows e = extends_refl nothing

-- ---- what follows, whatever the core is

pub core_extends : (r : Res) → Extends (core r) r
core_extends r = extends_left (core_joins r)

-- the core joins itself
-- the core of the core is no less
pub core_within : (r : Res) → Extends (core r) (core (core r))
unfolding nothing
core_within r = record {
  rest = nothing;
  joins = record {
    fits = λ l. compatible_empty ((core r).at l);
    sums = λ l. core_twice r l ∙ sym (plus_empty ((core r).at l));
  };
}

pub is_core : (r : Res) → IsCore r
is_core r = record { joins = core_joins r; twice = core_twice r; grows = λ s e. core_grows e }
