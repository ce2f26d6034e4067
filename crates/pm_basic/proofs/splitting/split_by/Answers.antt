use Rattle.std.proofs.Common.{◌∙◌, ap, arith}
use Rattle.pm_table.specs.Limits.{resting}
use Rattle.pm_basic.proofs.Splits.{split_ends}
use Rattle.pm_basic.proofs.splitting.split_by.Goals as goal

pub joined-requires-clause-few : goal.joined-requires-clause-few
joined-requires-clause-few c = omega (arith, c.requires.handed.few)

pub joined-requires-clause-closing : goal.joined-requires-clause-closing
joined-requires-clause-closing c = c.requires.entry.concludes

pub returns : goal.returns
returns c =
    split_ends c.args.work.now c.requires.nothing c.args.entry c.at_rest-left_work.result c.at_rest-right_work.result c.in_ok-proof.proof c.finish_two.result c.requires.entry
    (c.at_rest-left_work.ensures ∙ ap resting c.in_ok-left.ensures) (c.at_rest-right_work.ensures ∙ ap resting c.in_ok-right.ensures) c.in_ok-proof.ensures c.finish_two.ensures
