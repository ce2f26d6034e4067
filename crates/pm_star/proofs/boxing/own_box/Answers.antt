use Rattle.std.proofs.Common.{refl}
use Rattle.pm_star.proofs.UnderBox.{box_own, fact_own}
use Rattle.pm_star.proofs.boxing.own_box.Goals as goal

pub returns-in_ok-proof-in-Pure : goal.returns-in_ok-proof-in-Pure
returns-in_ok-proof-in-Pure c = fact_own c.args.vars c.args.x.now c.in-Pure.fact c.in-Pure.fact c.in_ok-proof-in-Pure.proof c.in-Pure.is refl c.in_ok-proof-in-Pure.ensures

pub returns-in_ok-proof-in-Pers : goal.returns-in_ok-proof-in-Pers
returns-in_ok-proof-in-Pers c = box_own c.args.vars c.args.x.now c.in-Pers.a c.get.result.now c.in_ok-proof-in-Pers.proof c.in-Pers.is c.get.ensures c.in_ok-proof-in-Pers.ensures
