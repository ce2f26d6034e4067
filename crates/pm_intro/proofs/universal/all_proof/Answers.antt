use Rattle.std.proofs.Common.{ℕ, ◌+◌, max, [], ◌∷◌, subst}
use Rattle.pm_logic.specs.declared.formula.Formula.TheViews as view
use Rattle.pm_logic.specs.Substitution.{shift_of}
use Rattle.pm_proof.specs.Trees.{entail, side_depth}
use Rattle.pm_proof.specs.Known.{Proves, Every}
use Rattle.pm_intro.proofs.Shifting.{star_bounded}
use Rattle.pm_intro.proofs.Generals.{all_acts}
use Rattle.pm_intro.proofs.universal.all_proof.Goals as goal

pub generalize-requires-clause-bounded : goal.generalize-requires-clause-bounded
generalize-requires-clause-bounded c = star_bounded c.args.work.now c.in_ok-star.star c.requires.handed c.in_ok-star.ensures

pub returns : goal.returns
returns c =
    let b = c.args.b.now in
    let st = c.in_ok-star.star in
    all_acts c.args.name.now c.args.work.now b c.requires.concl st c.in_ok-proof.proof c.in_ok-star.ensures
    (subst (λ (k : ℕ). Proves Every (entail k st (view.All b)) (entail (k + 1) (shift_of st) b ∷ []) 1 (max (side_depth (entail k st (view.All b))) (side_depth (entail (k + 1) (shift_of st) b))) (k + 1) c.in_ok-proof.proof) c.len-vars.ensures c.in_ok-proof.ensures)
