use Rattle.pm_print.proofs.Joined.{four}
use Rattle.pm_print.proofs.LineCases.{predicate_is}
use Rattle.pm_print.proofs.lines.add_definition.Goals as goal

pub returns : goal.returns
returns c = four _ _ _ _ _ _ _ _ _ _ _ c.in_ok-add_head.ensures c.in_ok-add_list.ensures c.in_ok-add_sign.ensures c.add_whole.ensures (predicate_is c.args.preds.now c.args.pred.now c.args.vars.now c.requires.names)
