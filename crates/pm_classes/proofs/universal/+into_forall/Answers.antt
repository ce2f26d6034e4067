use Rattle.pm_logic.specs.declared.formula.Formula.{the_lemmas}
use Rattle.std.proofs.Common.{rules, None, Some, refl, sym, ◌∙◌}
use Rattle.pm_classes.specs.Classes.{into_forall}
use Rattle.pm_classes.specs.Entries.{forall_says}
use Rattle.pm_classes.proofs.Done.{one_at}
use Rattle.pm_classes.proofs.Calls.{forall_all_done, forall_later, forall_later_none, forall_pers, forall_pers_none, forall_rest}
use Rattle.pm_classes.proofs.Bodies.{body_handed}
use Rattle.pm_classes.proofs.Handed.{later_part, pers_part}
use Rattle.pm_classes.proofs.universal.+into_forall.Goals as goal

pub into_forall-requires : goal.into_forall-requires
into_forall-requires t c = (search (rules, the_lemmas), later_part c.args.vars c.args.f.now c.in-Later.a c.get-in-Later.result.now c.in-Later.is c.get-in-Later.ensures c.requires)

pub returns-in_default-2 : goal.returns-in_default-2
returns-in_default-2 t c = forall_later_none c.args.vars c.args.f.now c.in-Later.a c.get-in-Later.result.now c.in-Later.is c.get-in-Later.ensures (one_at into_forall (forall_says c.args.vars) c.args.vars c.get-in-Later.result.now c.get-in-Later.result.now c.in_ok-entry-in-Later.field-0 None (refl) c.in_default-2.is c.in_ok-entry-in-Later.ensures)

pub later_inward-requires : goal.later_inward-requires
later_inward-requires t c = body_handed c.args.vars c.get-in-Later.result.now c.in-Some.entry (later_part c.args.vars c.args.f.now c.in-Later.a c.get-in-Later.result.now c.in-Later.is c.get-in-Later.ensures c.requires) (one_at into_forall (forall_says c.args.vars) c.args.vars c.get-in-Later.result.now c.get-in-Later.result.now c.in_ok-entry-in-Later.field-0 (Some c.in-Some.entry) (refl) c.in-Some.is c.in_ok-entry-in-Later.ensures)

pub into_forall-requires-in-Pers : goal.into_forall-requires-in-Pers
into_forall-requires-in-Pers t c = (search (rules, the_lemmas), pers_part c.args.vars c.args.f.now c.in-Pers.a c.get-in-Pers.result.now c.in-Pers.is c.get-in-Pers.ensures c.requires)

pub returns-in_default-3 : goal.returns-in_default-3
returns-in_default-3 t c = forall_pers_none c.args.vars c.args.f.now c.in-Pers.a c.get-in-Pers.result.now c.in-Pers.is c.get-in-Pers.ensures (one_at into_forall (forall_says c.args.vars) c.args.vars c.get-in-Pers.result.now c.get-in-Pers.result.now c.in_ok-entry-in-Pers.field-0 None (refl) c.in_default-3.is c.in_ok-entry-in-Pers.ensures)

pub pers_inward-requires : goal.pers_inward-requires
pers_inward-requires t c = body_handed c.args.vars c.get-in-Pers.result.now c.in-Some-2.entry (pers_part c.args.vars c.args.f.now c.in-Pers.a c.get-in-Pers.result.now c.in-Pers.is c.get-in-Pers.ensures c.requires) (one_at into_forall (forall_says c.args.vars) c.args.vars c.get-in-Pers.result.now c.get-in-Pers.result.now c.in_ok-entry-in-Pers.field-0 (Some c.in-Some-2.entry) (refl) c.in-Some-2.is c.in_ok-entry-in-Pers.ensures)

pub returns-in_ok-entry-in-All : goal.returns-in_ok-entry-in-All
returns-in_ok-entry-in-All t c = forall_all_done c.args.vars c.args.f.now c.in-All.a c.get.result.now c.in_ok-entry-in-All.entry c.in-All.is c.get.ensures c.in_ok-entry-in-All.ensures.formula c.in_ok-entry-in-All.ensures.proof

pub returns-in_ok-entry-in-Later-2 : goal.returns-in_ok-entry-in-Later-2
returns-in_ok-entry-in-Later-2 t c = forall_later c.args.vars c.args.f.now c.in-Later.a c.get-in-Later-2.result.now c.in-Some.entry c.in_ok-entry-in-Later-2.entry c.in_ok-inward-in-Later.inward c.in-Later.is c.get-in-Later-2.ensures (one_at into_forall (forall_says c.args.vars) c.args.vars c.get-in-Later.result.now c.get-in-Later-2.result.now c.in_ok-entry-in-Later.field-0 (Some c.in-Some.entry) (c.get-in-Later.ensures ∙ sym c.get-in-Later-2.ensures) c.in-Some.is c.in_ok-entry-in-Later.ensures) c.in_ok-inward-in-Later.ensures c.in_ok-entry-in-Later-2.ensures.formula c.in_ok-entry-in-Later-2.ensures.proof

pub returns-in_ok-entry-in-Pers-2 : goal.returns-in_ok-entry-in-Pers-2
returns-in_ok-entry-in-Pers-2 t c = forall_pers c.args.vars c.args.f.now c.in-Pers.a c.get-in-Pers-2.result.now c.in-Some-2.entry c.in_ok-entry-in-Pers-2.entry c.in_ok-inward-in-Pers.inward c.in-Pers.is c.get-in-Pers-2.ensures (one_at into_forall (forall_says c.args.vars) c.args.vars c.get-in-Pers.result.now c.get-in-Pers-2.result.now c.in_ok-entry-in-Pers.field-0 (Some c.in-Some-2.entry) (c.get-in-Pers.ensures ∙ sym c.get-in-Pers-2.ensures) c.in-Some-2.is c.in_ok-entry-in-Pers.ensures) c.in_ok-inward-in-Pers.ensures c.in_ok-entry-in-Pers-2.ensures.formula c.in_ok-entry-in-Pers-2.ensures.proof

pub returns-in_default : goal.returns-in_default
returns-in_default t c = forall_rest c.args.vars c.args.f.now c.in_default.not-All c.in_default.not-Later c.in_default.not-Pers
