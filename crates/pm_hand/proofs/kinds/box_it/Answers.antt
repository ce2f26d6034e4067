use Rattle.std.proofs.Common.{subst, sym, length}
use Rattle.pm_classes.specs.Entries.{IsHanded, PersistentAnswer}
use Rattle.pm_hand.proofs.Kinded.{entry_handed}
use Rattle.pm_hand.proofs.kinds.box_it.Goals as goal

pub into_persistent-requires : goal.into_persistent-requires
into_persistent-requires c =
    subst (λ v. IsHanded v c.args.held.now.formula) (sym c.len-vars.ensures) (entry_handed c.args.work.now c.args.held.now c.requires.handed c.requires.last)

pub enter-requires-clause-entry : goal.enter-requires-clause-entry
enter-requires-clause-entry c =
    let found = subst (λ v. PersistentAnswer v c.args.held.now.formula c.in_ok-found.found) c.len-vars.ensures c.in_ok-found.ensures in
    subst (PersistentAnswer (length c.args.work.now.goal.vars) c.args.held.now.formula) c.in-Some.is found
