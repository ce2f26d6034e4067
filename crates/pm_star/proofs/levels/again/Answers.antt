use Rattle.std.proofs.Common.{refl}
use Rattle.pm_star.proofs.Leveling.{box_done, fact_done}
use Rattle.pm_star.proofs.levels.again.Goals as goal

pub returns-in_ok-proof-in-Pure : goal.returns-in_ok-proof-in-Pure
returns-in_ok-proof-in-Pure c = fact_done c.args.vars c.args.x.now c.in-Pure.fact c.in-Pure.fact c.args.rest.now c.in_ok-proof-in-Pure.proof c.in-Pure.is refl c.in_ok-proof-in-Pure.ensures

pub returns-in_ok-proof-in-Pers : goal.returns-in_ok-proof-in-Pers
returns-in_ok-proof-in-Pers c = box_done c.args.vars c.args.x.now c.in-Pers.a c.get.result.now c.args.rest.now c.in_ok-proof-in-Pers.proof c.in-Pers.is c.get.ensures c.in_ok-proof-in-Pers.ensures
