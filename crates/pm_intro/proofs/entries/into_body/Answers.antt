use Rattle.std.proofs.Common.{subst, Option}
use Rattle.pm_classes.specs.declared.entry.One.{One}
use Rattle.pm_classes.specs.Entries.{ExistAnswer}
use Rattle.pm_intro.proofs.ByKind.{no_body, spat_body, int_body, exist_proof}
use Rattle.pm_intro.proofs.entries.into_body.Goals as goal

pub returns-in_default : goal.returns-in_default
returns-in_default c = no_body c.args.held.now.kind c.args.vars c.args.held.now.formula (subst (λ (o : Option One). ExistAnswer c.args.vars c.args.held.now.formula o) c.in_default.is c.in_ok-entry.ensures)

pub returns-in-Spat : goal.returns-in-Spat
returns-in-Spat c = spat_body c.args.held.now.kind c.args.vars c.args.held.now.formula c.in-Some.entry c.in-Spat.is (subst (λ (o : Option One). ExistAnswer c.args.vars c.args.held.now.formula o) c.in-Some.is c.in_ok-entry.ensures)

pub box_body-requires : goal.box_body-requires
box_body-requires c = exist_proof c.args.vars c.args.held.now.formula c.in-Some.entry (subst (λ (o : Option One). ExistAnswer c.args.vars c.args.held.now.formula o) c.in-Some.is c.in_ok-entry.ensures)

pub returns-in_ok-boxed-in-Int : goal.returns-in_ok-boxed-in-Int
returns-in_ok-boxed-in-Int c = int_body c.args.held.now.kind c.args.vars c.args.held.now.formula c.in-Some.entry c.in_ok-boxed-in-Int.boxed c.in-Int.is (subst (λ (o : Option One). ExistAnswer c.args.vars c.args.held.now.formula o) c.in-Some.is c.in_ok-entry.ensures) c.in_ok-boxed-in-Int.ensures.formula c.in_ok-boxed-in-Int.ensures.proof
