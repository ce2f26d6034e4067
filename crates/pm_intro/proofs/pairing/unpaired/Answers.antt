use Rattle.pm_intro.proofs.Said.{parts_gap, both_says, both_at}
use Rattle.std.proofs.Common.{ℕ, ◌+◌, [], ◌∷◌, ◌∙◌, length, sym, ap, subst}
use Rattle.pm_logic.specs.declared.formula.Formula.TheViews as view
use Rattle.pm_proof.specs.Trees.{entail}
use Rattle.pm_schemes.specs.Sketches.{deepest}
use Rattle.pm_intro.specs.Closing.{Closes}
use Rattle.pm_intro.proofs.pairing.unpaired.Goals as goal

pub swapped-requires : goal.swapped-requires
swapped-requires c = parts_gap c.args.held.now.kind (length c.args.work.now.goal.vars) c.args.held.now.formula c.in_ok-whole.whole c.in_ok-first.first c.in_ok-second.second c.args.entry c.in_ok-whole.ensures c.in_ok-first.ensures c.in_ok-second.ensures c.requires.says ∙ ap (λ (k : ℕ). entail k c.in_ok-whole.whole (view.Sep c.in_ok-first.first c.in_ok-second.second)) (sym c.len-vars.ensures)

pub unpair_held-requires-clause-proof : goal.unpair_held-requires-clause-proof
unpair_held-requires-clause-proof c = both_says c.args.work.now c.args.held.now c.requires.last c.args.entry c.in_ok-whole.whole c.in_ok-first.first c.in_ok-second.second c.in_ok-by.by c.last_place.result c.last_place.ensures c.in_ok-whole.ensures c.requires.says (subst (λ (k : ℕ). Closes c.args.entry.proof (entail k c.in_ok-whole.whole (view.Sep c.in_ok-second.second c.in_ok-first.first)) 2 (deepest (c.in_ok-whole.whole ∷ c.in_ok-first.first ∷ c.in_ok-second.second ∷ []) [] + 1) k c.in_ok-by.by) c.len-vars.ensures c.in_ok-by.ensures)

pub returns : goal.returns
returns c = both_at c.args.work.now c.args.held.now c.requires.last c.args.entry c.in_ok-whole.whole c.in_ok-first.first c.in_ok-second.second c.in_ok-by.by c.in_ok-proof.proof c.last_place.result c.last_place.ensures c.in_ok-whole.ensures c.in_ok-first.ensures c.in_ok-second.ensures c.requires.says (subst (λ (k : ℕ). Closes c.args.entry.proof (entail k c.in_ok-whole.whole (view.Sep c.in_ok-second.second c.in_ok-first.first)) 2 (deepest (c.in_ok-whole.whole ∷ c.in_ok-first.first ∷ c.in_ok-second.second ∷ []) [] + 1) k c.in_ok-by.by) c.len-vars.ensures c.in_ok-by.ensures) c.in_ok-proof.ensures
