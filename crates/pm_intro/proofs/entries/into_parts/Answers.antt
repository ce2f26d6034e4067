use Rattle.pm_intro.proofs.ByKind.{int_parts, spat_parts}
use Rattle.pm_intro.proofs.entries.into_parts.Goals as goal

pub returns-in_ok-entry-in-Spat : goal.returns-in_ok-entry-in-Spat
returns-in_ok-entry-in-Spat c = spat_parts c.args.held.now.kind c.args.vars c.args.held.now.formula c.in_ok-entry-in-Spat.entry c.in-Spat.is c.in_ok-entry-in-Spat.ensures

pub returns-in_ok-entry-in-Int : goal.returns-in_ok-entry-in-Int
returns-in_ok-entry-in-Int c = int_parts c.args.held.now.kind c.args.vars c.args.held.now.formula c.in_ok-entry-in-Int.entry c.in-Int.is c.in_ok-entry-in-Int.ensures
