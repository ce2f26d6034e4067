use Rattle.std.proofs.Common.{length, subst}
use Rattle.pm_logic.specs.declared.formula.Formula.TheVariants.{Pure as Assert}
use Rattle.pm_goal.specs.declared.work.Kind.TheVariants as kind
use Rattle.pm_goal.specs.Left.{left_of_work}
use Rattle.pm_star.specs.Stars.{work_parts, MovesBy}
use Rattle.pm_hand.specs.Changed.{relast}
use Rattle.pm_hand.proofs.Known.{leads}
use Rattle.pm_hand.proofs.purity.moved.Goals as goal

pub returns : goal.returns
returns c =
    let w = c.args.work.now in
    leads w c.args.held.now c.args.name.now c.args.pure.now c.args.by c.in_ok-first.first c.in_ok-second.second c.in_ok-proof.proof c.requires.last c.requires.says
    (subst (λ q. MovesBy c.args.by (length w.goal.vars) (length (work_parts w)) (left_of_work w) (left_of_work (relast w kind.Spat (Assert q))) c.in_ok-first.first) c.in_ok-copy_pure.ensures c.in_ok-first.ensures)
    c.in_ok-second.ensures c.in_ok-proof.ensures.follows c.in_ok-proof.ensures.proves
