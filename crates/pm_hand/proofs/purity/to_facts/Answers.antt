use Rattle.std.proofs.Common.{◌≡◌, length, ap, ◌∙◌}
use Rattle.pm_logic.specs.declared.formula.Formula.TheVariants.{Pure as Assert}
use Rattle.pm_goal.specs.declared.work.Kind.TheVariants as kind
use Rattle.pm_goal.specs.declared.work.Work.{Work}
use Rattle.pm_hand.specs.Changed.{relast}
use Rattle.pm_hand.proofs.Relasts.{some_last}
use Rattle.pm_hand.proofs.Known.{known_moves}
use Rattle.pm_hand.proofs.purity.to_facts.Goals as goal

pub returns : goal.returns
returns c =
    let l = some_last c.args.work.now c.requires.some in
    let middle_is : c.in_ok-middle.middle ≡ relast c.args.work.now kind.Spat (Assert c.args.pure.now) = c.in_ok-middle.ensures ∙ ap (λ q. relast c.args.work.now kind.Spat (Assert q)) c.in_ok-copy_pure.ensures in
    known_moves c.args.work.now c.in_ok-middle.middle l.0 c.args.name.now c.args.pure.now c.last_place.result c.len-place.result c.in_ok-proof.proof l.1 middle_is c.last_place.ensures
    (c.len-place.ensures ∙ ap (λ (x : Work). length x.goal.pures) middle_is) c.in_ok-proof.ensures
