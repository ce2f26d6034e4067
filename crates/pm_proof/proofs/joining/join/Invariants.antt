use Rattle.std.proofs.Common.{◌≡◌, [], ◌∷◌, map, reverse, length}
use Rattle.pm_rules.specs.declared.rules.Entail.{Entail}
use Rattle.pm_proof.specs.Trees.{conclusion}
use Rattle.pm_proof.specs.Joins.{Leads, joined}
use Rattle.pm_proof.proofs.Joins.{joined_onto}
use Rattle.pm_proof.proofs.joining.join.Given as goal

abbrev pub invariant-loop-step : goal.invariant-loop-step
invariant-loop-step l = record {
  leads : (g : Entail) × Leads (g ∷ []) l.steps.items (map conclusion (reverse l.finished.items));
  tree : joined_onto (reverse l.finished.items) l.steps.items ≡ joined l.fn.steps.items;
}

abbrev pub decreases-loop-step : goal.decreases-loop-step
decreases-loop-step l = length l.steps.items
