use Rattle.pm_basic.proofs.Endings.{concl_scoped, concl_small}
use Rattle.pm_basic.proofs.Splits.{split_halves, split_done, split_refused}
use Rattle.pm_basic.proofs.splitting.split.Goals as goal

pub halves_of-requires : goal.halves_of-requires
halves_of-requires c = record {
  scoped = concl_scoped c.len-vars.result c.args.work.now c.len-vars.ensures c.requires.handed;
  within = concl_small c.len-vars.result c.args.work.now c.len-vars.ensures c.requires.handed;
}

pub split_by-requires-clause-entry : goal.split_by-requires-clause-entry
split_by-requires-clause-entry c = split_halves c.args.work.now c.requires.nothing c.len-vars.result _ c.len-vars.ensures c.in_ok-entry.ensures c.in-Some.entry c.in-Some.is

pub returns-in-Some : goal.returns-in-Some
returns-in-Some c = split_done c.args.work.now c.requires.nothing c.len-vars.result _ c.len-vars.ensures c.in_ok-entry.ensures c.in-Some.entry c.split_by.result c.in-Some.is c.split_by.ensures

pub returns-in-None : goal.returns-in-None
returns-in-None c = split_refused c.args.work.now c.requires.nothing c.len-vars.result _ c.len-vars.ensures c.in_ok-entry.ensures c.refuse_plain.result c.in-None.is c.refuse_plain.ensures
