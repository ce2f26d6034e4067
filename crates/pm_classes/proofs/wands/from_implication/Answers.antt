use Rattle.pm_classes.proofs.Calls.{wand_imp, wand_imp_none, both_ways}
use Rattle.pm_logic.specs.Classes.{IsPersistent}
use Rattle.pm_classes.proofs.wands.from_implication.Goals as goal

pub returns-then-not-persistent : goal.returns-then-not-persistent
returns-then-not-persistent c = let isnt : IsPersistent c.args.a.now → ⊥ = λ h. both_ways c.persistent.result (c.persistent.ensures.1 h) c.if-not-persistent.true in wand_imp_none c.args.vars c.args.a.now c.args.b.now isnt

pub returns : goal.returns
returns c = wand_imp c.args.vars c.args.a.now c.args.b.now c.in_ok-entry.entry (c.persistent.ensures.0 c.if-not-persistent.false) c.in_ok-entry.ensures.first c.in_ok-entry.ensures.second c.in_ok-entry.ensures.proof
