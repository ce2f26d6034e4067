use Rattle.std.proofs.Common.{ℕ, ◌+◌, [], ◌∷◌, ap, subst, ◌∙◌}
use Rattle.pm_logic.specs.declared.formula.Formula.TheViews as view
use Rattle.pm_rules.specs.declared.rules.Entail.{Entail}
use Rattle.pm_proof.specs.Trees.{entail}
use Rattle.pm_proof.specs.Known.{Proves, Every}
use Rattle.pm_schemes.specs.Sketches.{deepest}
use Rattle.pm_intro.proofs.Said.{one_left, first_at}
use Rattle.pm_intro.proofs.pairing.first_kept.Goals as goal

pub replace_at_held-requires-clause-same_vars : goal.replace_at_held-requires-clause-same_vars
replace_at_held-requires-clause-same_vars c = ap (λ (e : Entail). e.vars) c.in_ok-by.ensures.concludes ∙ c.len-vars.ensures

pub replace_at_held-requires-clause-left : goal.replace_at_held-requires-clause-left
replace_at_held-requires-clause-left c =
    let w = c.args.work.now in
    let a = c.args.a.now in
    let b = c.args.b.now in
    let d = deepest (a ∷ b ∷ []) [] + 1 in
    one_left w c.args.held.now c.requires.last a b a c.in_ok-by.by c.last_place.result 1 d c.requires.is c.last_place.ensures
    (subst (λ (k : ℕ). Proves Every (entail k (view.And a b) a) [] 1 d k c.in_ok-by.by) c.len-vars.ensures c.in_ok-by.ensures)

pub returns : goal.returns
returns c =
    let w = c.args.work.now in
    let a = c.args.a.now in
    let b = c.args.b.now in
    let d = deepest (a ∷ b ∷ []) [] + 1 in
    first_at w c.args.held.now c.requires.last a b c.in_ok-by.by c.in_ok-proof.proof c.last_place.result c.requires.is c.last_place.ensures
    (subst (λ (k : ℕ). Proves Every (entail k (view.And a b) a) [] 1 d k c.in_ok-by.by) c.len-vars.ensures c.in_ok-by.ensures) c.in_ok-proof.ensures
