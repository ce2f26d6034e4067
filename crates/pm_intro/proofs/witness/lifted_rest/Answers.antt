use Rattle.std.proofs.Common.{sym, subst}
use Rattle.pm_goal.specs.declared.work.Work.{Work}
use Rattle.pm_intro.specs.Variables.{IsLiftable}
use Rattle.pm_intro.proofs.Handed.{has_last}
use Rattle.pm_intro.proofs.Shifting.{concl_bounded, rest_liftable}
use Rattle.pm_intro.proofs.Openings.{lifted_as}
use Rattle.pm_intro.proofs.witness.lifted_rest.Goals as goal

pub shift-requires : goal.shift-requires
shift-requires c = concl_bounded c.args.work.now c.requires.handed

pub lift-requires : goal.lift-requires
lift-requires c =
    let l = has_last c.args.work.now c.requires.some in
    subst (λ (x : Work). IsLiftable x) (sym c.in_ok-rest.ensures) (rest_liftable c.args.work.now l.0 l.1 c.requires.handed)

pub returns : goal.returns
returns c = lifted_as c.args.work.now c.in_ok-rest.rest c.in_ok-lifted.lifted c.args.name.now c.in_ok-concl.concl c.in_ok-rest.ensures c.in_ok-concl.ensures c.in_ok-lifted.ensures
