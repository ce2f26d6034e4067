use Rattle.std.proofs.Common.{subst, Option}
use Rattle.pm_classes.specs.declared.entry.Pair.{Pair}
use Rattle.pm_classes.specs.Entries.{OrAnswer}
use Rattle.pm_intro.proofs.ByKind.{no_cases, spat_cases, int_cases, or_proof}
use Rattle.pm_intro.proofs.entries.into_cases.Goals as goal

pub returns-in_default : goal.returns-in_default
returns-in_default c = no_cases c.args.held.now.kind c.args.vars c.args.held.now.formula (subst (λ (o : Option Pair). OrAnswer c.args.vars c.args.held.now.formula o) c.in_default.is c.in_ok-entry.ensures)

pub returns-in-Spat : goal.returns-in-Spat
returns-in-Spat c = spat_cases c.args.held.now.kind c.args.vars c.args.held.now.formula c.in-Some.entry c.in-Spat.is (subst (λ (o : Option Pair). OrAnswer c.args.vars c.args.held.now.formula o) c.in-Some.is c.in_ok-entry.ensures)

pub box_cases-requires : goal.box_cases-requires
box_cases-requires c = or_proof c.args.vars c.args.held.now.formula c.in-Some.entry (subst (λ (o : Option Pair). OrAnswer c.args.vars c.args.held.now.formula o) c.in-Some.is c.in_ok-entry.ensures)

pub returns-in_ok-boxed-in-Int : goal.returns-in_ok-boxed-in-Int
returns-in_ok-boxed-in-Int c = int_cases c.args.held.now.kind c.args.vars c.args.held.now.formula c.in-Some.entry c.in_ok-boxed-in-Int.boxed c.in-Int.is (subst (λ (o : Option Pair). OrAnswer c.args.vars c.args.held.now.formula o) c.in-Some.is c.in_ok-entry.ensures) c.in_ok-boxed-in-Int.ensures.first c.in_ok-boxed-in-Int.ensures.second c.in_ok-boxed-in-Int.ensures.proof
