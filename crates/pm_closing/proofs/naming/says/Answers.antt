use Rattle.pm_closing.proofs.Exacts.{says_so, says_nothing}
use Rattle.pm_closing.proofs.naming.says.Goals as goal

pub returns-in-Pure : goal.returns-in-Pure
returns-in-Pure c = says_so c.args.concl.now c.in-Pure.said c.args.pure.now c.same_pure.result c.in-Pure.is c.same_pure.ensures

pub returns-in_default : goal.returns-in_default
returns-in_default c = says_nothing c.args.concl.now c.args.pure.now c.in_default.not-Pure
