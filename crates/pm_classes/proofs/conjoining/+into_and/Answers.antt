use Rattle.std.proofs.Common.{None, Some, refl, sym, ◌∙◌}
use Rattle.pm_classes.specs.Classes.{into_and}
use Rattle.pm_classes.specs.Entries.{and_says}
use Rattle.pm_classes.proofs.Done.{pair_at}
use Rattle.pm_classes.proofs.Calls.{and_sep_done, and_and_done, and_later, and_later_none, and_pers, and_pers_none, and_rest}
use Rattle.pm_classes.proofs.conjoining.+into_and.Goals as goal

pub returns-in_default-2 : goal.returns-in_default-2
returns-in_default-2 t c = and_later_none c.args.vars c.args.f.now c.in-Later.a c.get-in-Later.result.now c.in-Later.is c.get-in-Later.ensures (pair_at into_and (and_says c.args.vars) c.args.vars c.get-in-Later.result.now c.get-in-Later.result.now c.in_ok-entry-in-Later.field-0 None (refl) c.in_default-2.is c.in_ok-entry-in-Later.ensures)

pub returns-in_default-3 : goal.returns-in_default-3
returns-in_default-3 t c = and_pers_none c.args.vars c.args.f.now c.in-Pers.a c.get-in-Pers.result.now c.in-Pers.is c.get-in-Pers.ensures (pair_at into_and (and_says c.args.vars) c.args.vars c.get-in-Pers.result.now c.get-in-Pers.result.now c.in_ok-entry-in-Pers.field-0 None (refl) c.in_default-3.is c.in_ok-entry-in-Pers.ensures)

pub returns-in_ok-entry-in-Sep : goal.returns-in_ok-entry-in-Sep
returns-in_ok-entry-in-Sep t c = and_sep_done c.args.vars c.args.f.now c.in-Sep.a c.in-Sep.b c.get.result.now c.get-in-Sep.result.now c.in_ok-entry-in-Sep.entry c.in-Sep.is c.get.ensures c.get-in-Sep.ensures c.in_ok-entry-in-Sep.ensures.first c.in_ok-entry-in-Sep.ensures.second c.in_ok-entry-in-Sep.ensures.proof

pub returns-in_ok-entry-in-And : goal.returns-in_ok-entry-in-And
returns-in_ok-entry-in-And t c = and_and_done c.args.vars c.args.f.now c.in-And.a c.in-And.b c.get-in-And.result.now c.get-in-And-2.result.now c.in_ok-entry-in-And.entry c.in-And.is c.get-in-And.ensures c.get-in-And-2.ensures c.in_ok-entry-in-And.ensures.first c.in_ok-entry-in-And.ensures.second c.in_ok-entry-in-And.ensures.proof

pub returns-in_ok-entry-in-Later-2 : goal.returns-in_ok-entry-in-Later-2
returns-in_ok-entry-in-Later-2 t c = and_later c.args.vars c.args.f.now c.in-Later.a c.get-in-Later-2.result.now c.in-Some.entry c.in_ok-entry-in-Later-2.entry c.in-Later.is c.get-in-Later-2.ensures (pair_at into_and (and_says c.args.vars) c.args.vars c.get-in-Later.result.now c.get-in-Later-2.result.now c.in_ok-entry-in-Later.field-0 (Some c.in-Some.entry) (c.get-in-Later.ensures ∙ sym c.get-in-Later-2.ensures) c.in-Some.is c.in_ok-entry-in-Later.ensures) c.in_ok-entry-in-Later-2.ensures.first c.in_ok-entry-in-Later-2.ensures.second c.in_ok-entry-in-Later-2.ensures.proof

pub returns-in_ok-entry-in-Pers-2 : goal.returns-in_ok-entry-in-Pers-2
returns-in_ok-entry-in-Pers-2 t c = and_pers c.args.vars c.args.f.now c.in-Pers.a c.get-in-Pers-2.result.now c.in-Some-2.entry c.in_ok-entry-in-Pers-2.entry c.in-Pers.is c.get-in-Pers-2.ensures (pair_at into_and (and_says c.args.vars) c.args.vars c.get-in-Pers.result.now c.get-in-Pers-2.result.now c.in_ok-entry-in-Pers.field-0 (Some c.in-Some-2.entry) (c.get-in-Pers.ensures ∙ sym c.get-in-Pers-2.ensures) c.in-Some-2.is c.in_ok-entry-in-Pers.ensures) c.in_ok-entry-in-Pers-2.ensures.first c.in_ok-entry-in-Pers-2.ensures.second c.in_ok-entry-in-Pers-2.ensures.proof

pub returns-in_default : goal.returns-in_default
returns-in_default t c = and_rest c.args.vars c.args.f.now c.in_default.not-Sep c.in_default.not-And c.in_default.not-Pure c.in_default.not-Later c.in_default.not-Pers
