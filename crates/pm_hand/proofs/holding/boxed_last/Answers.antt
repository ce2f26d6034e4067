use Rattle.std.proofs.Common.{◌+◌, [], ◌∷◌, ap₂, subst, ◌∙◌}
use Rattle.pm_logic.specs.declared.formula.Formula.TheVariants.{Pure as Assert}
use Rattle.pm_logic.specs.declared.formula.Formula.TheViews as view
use Rattle.pm_goal.specs.declared.work.Kind.TheVariants as kind
use Rattle.pm_proof.specs.Trees.{entail}
use Rattle.pm_proof.specs.Known.{Proves, Every}
use Rattle.pm_schemes.specs.Sketches.{deepest}
use Rattle.pm_table.specs.Works.{hold}
use Rattle.pm_hand.proofs.Handing.{boxed_left, boxed_known}
use Rattle.pm_hand.proofs.holding.boxed_last.Goals as goal

pub replace_at_held-requires-clause-left : goal.replace_at_held-requires-clause-left
replace_at_held-requires-clause-left c =
    boxed_left c.args.work.now c.in_ok-middle.middle c.args.pure.now c.count.result c.in_ok-by.by _ _ _
    (c.in_ok-middle.ensures ∙ ap₂ (λ q x. hold kind.Spat (Assert q) x) c.in_ok-copy_pure.ensures c.in_ok-copy_work.ensures) c.count.ensures c.in_ok-by.ensures

pub returns : goal.returns
returns c =
    boxed_known c.args.work.now c.in_ok-middle.middle c.args.pure.now c.count.result c.in_ok-by.by c.in_ok-proof.proof
    (c.in_ok-middle.ensures ∙ ap₂ (λ q x. hold kind.Spat (Assert q) x) c.in_ok-copy_pure.ensures c.in_ok-copy_work.ensures) c.count.ensures
    (subst (λ v. Proves Every (entail v (Assert c.args.pure.now) (view.Pers (Assert c.args.pure.now))) [] 1 (deepest [] (c.args.pure.now ∷ []) + 2) v c.in_ok-by.by) c.len.ensures c.in_ok-by.ensures)
    c.in_ok-proof.ensures
