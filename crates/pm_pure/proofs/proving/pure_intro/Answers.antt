use Rattle.pm_pure.proofs.Facts.{entry_follows, intro_done, intro_refused}
use Rattle.pm_pure.proofs.proving.pure_intro.Goals as goal

pub enter-requires-clause-entry : goal.enter-requires-clause-entry
enter-requires-clause-entry c = entry_follows c.args.work.now c.len-vars.result c.in_ok-found.found c.len-vars.ensures c.in_ok-found.ensures c.in-Some.entry c.in-Some.is

pub returns-in-Some : goal.returns-in-Some
returns-in-Some c = intro_done c.args.work.now c.len-vars.result c.in_ok-found.found c.len-vars.ensures c.in_ok-found.ensures c.in-Some.entry c.enter.result c.requires.nothing c.in-Some.is c.enter.ensures

pub returns-in-None : goal.returns-in-None
returns-in-None c = intro_refused c.args.work.now c.len-vars.result c.in_ok-found.found c.len-vars.ensures c.in_ok-found.ensures c.refuse_plain.result c.requires.nothing c.in-None.is c.refuse_plain.ensures
