use Rattle.std.proofs.Common.{◌+◌, ◌*◌, length, ap, arith, ◌∙◌}
use Rattle.pm_logic.specs.declared.formula.Formula.TheVariants.{Pure as Assert}
use Rattle.pm_goal.specs.declared.work.Kind.TheVariants as kind
use Rattle.pm_star.specs.Stars.{work_parts}
use Rattle.pm_table.specs.Works.{hold}
use Rattle.pm_hand.proofs.Handing.{brings_gives}
use Rattle.pm_hand.proofs.taking.lend_fact.Goals as goal

pub returns : goal.returns
returns c =
    brings_gives c.args.work.now (hold kind.Int (Assert c.args.pure) c.args.work.now) c.in_ok-new.new (300 * length (work_parts c.args.work.now) + 403) c.in_ok-moved.moved c.by_move.result
    (c.in_ok-new.ensures ∙ ap (hold kind.Int (Assert c.args.pure)) c.in_ok-copy_work.ensures) (omega arith) c.in_ok-moved.ensures c.by_move.ensures
