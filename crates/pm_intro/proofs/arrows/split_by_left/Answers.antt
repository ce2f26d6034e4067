use Rattle.std.proofs.Common.{ℕ, ◌+◌, [], ◌∷◌, sym, subst}
use Rattle.pm_logic.specs.declared.formula.Formula.TheViews as view
use Rattle.pm_proof.specs.Trees.{entail}
use Rattle.pm_schemes.specs.Sketches.{deepest}
use Rattle.pm_classes.specs.Entries.{HasProof, IsHanded as IsFormulaHanded}
use Rattle.pm_intro.specs.Closing.{Closes}
use Rattle.pm_intro.proofs.LeftSides.{left_handed, split_left}
use Rattle.pm_intro.proofs.arrows.split_by_left.Goals as goal

pub own_box-requires-clause-handed : goal.own_box-requires-clause-handed
own_box-requires-clause-handed c = subst (λ (k : ℕ). IsFormulaHanded k c.args.a.now) (sym c.len-vars.ensures) (left_handed c.args.work.now c.args.a.now c.args.b.now c.requires.concl c.requires.handed)

pub returns : goal.returns
returns c =
    let a = c.args.a.now in
    let st = c.in_ok-star.star in
    let own = subst (λ (k : ℕ). HasProof k a (entail k a (view.Pers a)) c.in_ok-own.own) c.len-vars.ensures c.in_ok-own.ensures in
    let closes = subst (λ (k : ℕ). Closes c.in_ok-own.own (entail k (view.And st a) (view.Sep a st)) 10 (deepest (a ∷ st ∷ []) [] + 2) k c.in_ok-proof.proof) c.len-vars.ensures c.in_ok-proof.ensures in
    split_left c.args.work.now a c.args.b.now st c.in_ok-own.own c.in_ok-proof.proof c.requires.concl c.in_ok-star.ensures own closes
