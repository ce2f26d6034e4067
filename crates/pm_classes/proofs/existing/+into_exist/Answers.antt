use Rattle.std.proofs.Common.{None, Some, refl, sym, ◌∙◌}
use Rattle.pm_classes.specs.Classes.{into_exist}
use Rattle.pm_classes.specs.Entries.{exist_says}
use Rattle.pm_classes.proofs.Done.{one_at}
use Rattle.pm_classes.proofs.Calls.{exist_ex_done, exist_later, exist_later_none, exist_pers, exist_pers_none, exist_rest}
use Rattle.pm_classes.proofs.existing.+into_exist.Goals as goal

pub returns-in_default-2 : goal.returns-in_default-2
returns-in_default-2 t c = exist_later_none c.args.vars c.args.f.now c.in-Later.a c.get-in-Later.result.now c.in-Later.is c.get-in-Later.ensures (one_at into_exist (exist_says c.args.vars) c.args.vars c.get-in-Later.result.now c.get-in-Later.result.now c.in_ok-entry-in-Later.field-0 None (refl) c.in_default-2.is c.in_ok-entry-in-Later.ensures)

pub returns-in_default-3 : goal.returns-in_default-3
returns-in_default-3 t c = exist_pers_none c.args.vars c.args.f.now c.in-Pers.a c.get-in-Pers.result.now c.in-Pers.is c.get-in-Pers.ensures (one_at into_exist (exist_says c.args.vars) c.args.vars c.get-in-Pers.result.now c.get-in-Pers.result.now c.in_ok-entry-in-Pers.field-0 None (refl) c.in_default-3.is c.in_ok-entry-in-Pers.ensures)

pub returns-in_ok-entry-in-Ex : goal.returns-in_ok-entry-in-Ex
returns-in_ok-entry-in-Ex t c = exist_ex_done c.args.vars c.args.f.now c.in-Ex.a c.get.result.now c.in_ok-entry-in-Ex.entry c.in-Ex.is c.get.ensures c.in_ok-entry-in-Ex.ensures.formula c.in_ok-entry-in-Ex.ensures.proof

pub returns-in_ok-entry-in-Later-2 : goal.returns-in_ok-entry-in-Later-2
returns-in_ok-entry-in-Later-2 t c = exist_later c.args.vars c.args.f.now c.in-Later.a c.get-in-Later-2.result.now c.in-Some.entry c.in_ok-entry-in-Later-2.entry c.in-Later.is c.get-in-Later-2.ensures (one_at into_exist (exist_says c.args.vars) c.args.vars c.get-in-Later.result.now c.get-in-Later-2.result.now c.in_ok-entry-in-Later.field-0 (Some c.in-Some.entry) (c.get-in-Later.ensures ∙ sym c.get-in-Later-2.ensures) c.in-Some.is c.in_ok-entry-in-Later.ensures) c.in_ok-entry-in-Later-2.ensures.formula c.in_ok-entry-in-Later-2.ensures.proof

pub returns-in_ok-entry-in-Pers-2 : goal.returns-in_ok-entry-in-Pers-2
returns-in_ok-entry-in-Pers-2 t c = exist_pers c.args.vars c.args.f.now c.in-Pers.a c.get-in-Pers-2.result.now c.in-Some-2.entry c.in_ok-entry-in-Pers-2.entry c.in-Pers.is c.get-in-Pers-2.ensures (one_at into_exist (exist_says c.args.vars) c.args.vars c.get-in-Pers.result.now c.get-in-Pers-2.result.now c.in_ok-entry-in-Pers.field-0 (Some c.in-Some-2.entry) (c.get-in-Pers.ensures ∙ sym c.get-in-Pers-2.ensures) c.in-Some-2.is c.in_ok-entry-in-Pers.ensures) c.in_ok-entry-in-Pers-2.ensures.formula c.in_ok-entry-in-Pers-2.ensures.proof

pub returns-in_default : goal.returns-in_default
returns-in_default t c = exist_rest c.args.vars c.args.f.now c.in_default.not-Ex c.in_default.not-Later c.in_default.not-Pers
