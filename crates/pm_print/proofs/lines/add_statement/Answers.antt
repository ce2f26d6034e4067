use Rattle.pm_print.proofs.Joined.{three}
use Rattle.pm_print.proofs.LineCases.{lemma_is}
use Rattle.pm_print.proofs.lines.add_statement.Goals as goal

pub returns : goal.returns
returns c = three _ _ _ _ _ _ _ _ _ c.in_ok-add_head.ensures c.in_ok-add_sign.ensures c.add_whole.ensures (lemma_is c.args.preds.now c.args.name.now c.args.f.now c.args.vars.now c.requires.names)
