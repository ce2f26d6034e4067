use Rattle.std.proofs.Common.{◌+◌, ◌*◌, length, subst}
use Rattle.pm_logic.specs.declared.formula.Formula.TheVariants.{Pure as Assert}
use Rattle.pm_goal.specs.declared.work.Kind.TheVariants as kind
use Rattle.pm_star.specs.Stars.{work_parts}
use Rattle.pm_table.specs.Works.{hold}
use Rattle.pm_hand.specs.Changed.{Brings}
use Rattle.pm_hand.proofs.Handing.{fact_lent}
use Rattle.pm_hand.proofs.taking.fact_doubled.Goals as goal

pub returns : goal.returns
returns c =
    let w = c.args.work.now in
    fact_lent w c.args.pure.now c.in_ok-first.first c.in_ok-second.second c.in_ok-proof.proof
    (subst (λ q. Brings w (hold kind.Spat (Assert q) w) (200 * length (work_parts w) + 201) c.in_ok-first.first) c.in_ok-copy_pure.ensures c.in_ok-first.ensures)
    c.in_ok-second.ensures c.in_ok-proof.ensures.proves
