-- A goal from which steps begin.
use Rattle.std.proofs.Common.{◌≡◌, [], refl, sym, subst, ◌∙◌, arith}
use Rattle.pm_logic.specs.declared.formula.Pure.TheVariants.{True}
use Rattle.pm_logic.specs.declared.formula.Formula.{Formula}
use Rattle.pm_logic.specs.declared.formula.Formula.TheVariants.{Pure as Fact}
use Rattle.pm_logic.specs.Scope.{ScopedIn, PureScoped, CallsFit}
use Rattle.pm_logic.specs.Size.{nodes_of, pure_nodes, depth_of, pure_depth}
use Rattle.pm_goal.specs.declared.goal.Goal.{Goal}
use Rattle.pm_table.specs.Limits.{resting}
use Rattle.pm_sweep.specs.Standing.{IsSoundWork}

-- over no hypotheses
abbrev bare : Formula → Goal
bare f = record { vars = []; pures = []; ints = []; spats = []; concl = f }

bare_sound : IsSoundWork (resting (bare (Fact True)))
unfolding nodes_of pure_nodes depth_of pure_depth ScopedIn PureScoped CallsFit
bare_sound = record {
  fit = record { within = refl; apart = λ name. omega arith };
  over = record { list = [] };
  scoped = record { goal = record { pures = tt; ints = tt; spats = tt; concl = record { indices = tt; calls = tt } }; held = tt };
}

-- a goal by its parts
abbrev parts_of : Goal → Goal
parts_of g = record { vars = g.vars; pures = g.pures; ints = g.ints; spats = g.spats; concl = g.concl }

by_parts : (g : Goal) → g ≡ parts_of g
by_parts g = refl

pub truth_alone : (g : Goal) → g.vars ≡ [] → g.pures ≡ [] → g.ints ≡ [] → g.spats ≡ [] → g.concl ≡ Fact True → IsSoundWork (resting g)
truth_alone g vars pures ints spats concl =
    let same : parts_of g ≡ bare (Fact True) = rw (vars, pures, ints, spats, concl) refl in
    let is : g ≡ bare (Fact True) = by_parts g ∙ same in
    subst (λ (h : Goal). IsSoundWork (resting h)) (sym is) bare_sound
