use Rattle.pm_dtext.proofs.Lists.{numbers_last}
use Rattle.pm_dtext.proofs.table_lines.numbers.Goals as goal

pub returns : goal.returns
returns c = rw (numbers_last c.args.most c.args.bytes.now c.loop-i.numbers c.loop-i._i c.loop-i.rest.now c.loop-i.invariant c.loop-i-test.false) c.closed-2.ensures
