use Rattle.std.proofs.Common.{None, Some, refl, sym, ◌∙◌}
use Rattle.pm_classes.specs.Classes.{from_pure}
use Rattle.pm_classes.specs.Entries.{from_pure_says}
use Rattle.pm_classes.proofs.Done.{pure_at}
use Rattle.pm_classes.proofs.Calls.{to_fact_done, to_rest, to_sep_done, to_sep_first, to_sep_second, to_and_done, to_and_first, to_and_second, to_or_done, to_or_first, to_or_second, to_pers_done, to_pers_none, to_later_done, to_later_none, to_upd_done, to_upd_none}
use Rattle.pm_classes.proofs.from_pures.+from_pure.Goals as goal

pub returns-in_default-2 : goal.returns-in_default-2
returns-in_default-2 t c = to_sep_first c.args.vars c.args.f.now c.in-Sep.a c.in-Sep.b c.get.result.now c.in-Sep.is c.get.ensures (pure_at from_pure (from_pure_says c.args.vars) c.args.vars c.get.result.now c.get.result.now c.in_ok-x-in-Sep.field-0 None (refl) c.in_default-2.is c.in_ok-x-in-Sep.ensures)

pub returns-in_default-3 : goal.returns-in_default-3
returns-in_default-3 t c = to_sep_second c.args.vars c.args.f.now c.in-Sep.a c.in-Sep.b c.get-in-Sep.result.now c.in-Sep.is c.get-in-Sep.ensures (pure_at from_pure (from_pure_says c.args.vars) c.args.vars c.get-in-Sep.result.now c.get-in-Sep.result.now c.in_ok-y-in-Sep.field-0 None (refl) c.in_default-3.is c.in_ok-y-in-Sep.ensures)

pub returns-in_ok-entry-in-Sep : goal.returns-in_ok-entry-in-Sep
returns-in_ok-entry-in-Sep t c = to_sep_done c.args.vars c.args.f.now c.in-Sep.a c.in-Sep.b c.get-in-Sep-2.result.now c.get-in-Sep-3.result.now c.in-Some.x c.in-Some-2.y c.in_ok-entry-in-Sep.entry c.in-Sep.is c.get-in-Sep-2.ensures c.get-in-Sep-3.ensures (pure_at from_pure (from_pure_says c.args.vars) c.args.vars c.get.result.now c.get-in-Sep-2.result.now c.in_ok-x-in-Sep.field-0 (Some c.in-Some.x) (c.get.ensures ∙ sym c.get-in-Sep-2.ensures) c.in-Some.is c.in_ok-x-in-Sep.ensures) (pure_at from_pure (from_pure_says c.args.vars) c.args.vars c.get-in-Sep.result.now c.get-in-Sep-3.result.now c.in_ok-y-in-Sep.field-0 (Some c.in-Some-2.y) (c.get-in-Sep.ensures ∙ sym c.get-in-Sep-3.ensures) c.in-Some-2.is c.in_ok-y-in-Sep.ensures) c.in_ok-entry-in-Sep.ensures.pure c.in_ok-entry-in-Sep.ensures.proof

pub returns-in_default-4 : goal.returns-in_default-4
returns-in_default-4 t c = to_and_first c.args.vars c.args.f.now c.in-And.a c.in-And.b c.get-in-And.result.now c.in-And.is c.get-in-And.ensures (pure_at from_pure (from_pure_says c.args.vars) c.args.vars c.get-in-And.result.now c.get-in-And.result.now c.in_ok-x-in-And.field-0 None (refl) c.in_default-4.is c.in_ok-x-in-And.ensures)

pub returns-in_default-5 : goal.returns-in_default-5
returns-in_default-5 t c = to_and_second c.args.vars c.args.f.now c.in-And.a c.in-And.b c.get-in-And-2.result.now c.in-And.is c.get-in-And-2.ensures (pure_at from_pure (from_pure_says c.args.vars) c.args.vars c.get-in-And-2.result.now c.get-in-And-2.result.now c.in_ok-y-in-And.field-0 None (refl) c.in_default-5.is c.in_ok-y-in-And.ensures)

pub returns-in_ok-entry-in-And : goal.returns-in_ok-entry-in-And
returns-in_ok-entry-in-And t c = to_and_done c.args.vars c.args.f.now c.in-And.a c.in-And.b c.get-in-And-3.result.now c.get-in-And-4.result.now c.in-Some-3.x c.in-Some-4.y c.in_ok-entry-in-And.entry c.in-And.is c.get-in-And-3.ensures c.get-in-And-4.ensures (pure_at from_pure (from_pure_says c.args.vars) c.args.vars c.get-in-And.result.now c.get-in-And-3.result.now c.in_ok-x-in-And.field-0 (Some c.in-Some-3.x) (c.get-in-And.ensures ∙ sym c.get-in-And-3.ensures) c.in-Some-3.is c.in_ok-x-in-And.ensures) (pure_at from_pure (from_pure_says c.args.vars) c.args.vars c.get-in-And-2.result.now c.get-in-And-4.result.now c.in_ok-y-in-And.field-0 (Some c.in-Some-4.y) (c.get-in-And-2.ensures ∙ sym c.get-in-And-4.ensures) c.in-Some-4.is c.in_ok-y-in-And.ensures) c.in_ok-entry-in-And.ensures.pure c.in_ok-entry-in-And.ensures.proof

pub returns-in_default-6 : goal.returns-in_default-6
returns-in_default-6 t c = to_or_first c.args.vars c.args.f.now c.in-Or.a c.in-Or.b c.get-in-Or.result.now c.in-Or.is c.get-in-Or.ensures (pure_at from_pure (from_pure_says c.args.vars) c.args.vars c.get-in-Or.result.now c.get-in-Or.result.now c.in_ok-x-in-Or.field-0 None (refl) c.in_default-6.is c.in_ok-x-in-Or.ensures)

pub returns-in_default-7 : goal.returns-in_default-7
returns-in_default-7 t c = to_or_second c.args.vars c.args.f.now c.in-Or.a c.in-Or.b c.get-in-Or-2.result.now c.in-Or.is c.get-in-Or-2.ensures (pure_at from_pure (from_pure_says c.args.vars) c.args.vars c.get-in-Or-2.result.now c.get-in-Or-2.result.now c.in_ok-y-in-Or.field-0 None (refl) c.in_default-7.is c.in_ok-y-in-Or.ensures)

pub returns-in_ok-entry-in-Or : goal.returns-in_ok-entry-in-Or
returns-in_ok-entry-in-Or t c = to_or_done c.args.vars c.args.f.now c.in-Or.a c.in-Or.b c.get-in-Or-3.result.now c.get-in-Or-4.result.now c.in-Some-5.x c.in-Some-6.y c.in_ok-entry-in-Or.entry c.in-Or.is c.get-in-Or-3.ensures c.get-in-Or-4.ensures (pure_at from_pure (from_pure_says c.args.vars) c.args.vars c.get-in-Or.result.now c.get-in-Or-3.result.now c.in_ok-x-in-Or.field-0 (Some c.in-Some-5.x) (c.get-in-Or.ensures ∙ sym c.get-in-Or-3.ensures) c.in-Some-5.is c.in_ok-x-in-Or.ensures) (pure_at from_pure (from_pure_says c.args.vars) c.args.vars c.get-in-Or-2.result.now c.get-in-Or-4.result.now c.in_ok-y-in-Or.field-0 (Some c.in-Some-6.y) (c.get-in-Or-2.ensures ∙ sym c.get-in-Or-4.ensures) c.in-Some-6.is c.in_ok-y-in-Or.ensures) c.in_ok-entry-in-Or.ensures.pure c.in_ok-entry-in-Or.ensures.proof

pub returns-in_default-8 : goal.returns-in_default-8
returns-in_default-8 t c = to_pers_none c.args.vars c.args.f.now c.in-Pers.a c.get-in-Pers.result.now c.in-Pers.is c.get-in-Pers.ensures (pure_at from_pure (from_pure_says c.args.vars) c.args.vars c.get-in-Pers.result.now c.get-in-Pers.result.now c.in_ok-entry-in-Pers.field-0 None (refl) c.in_default-8.is c.in_ok-entry-in-Pers.ensures)

pub returns-in_ok-entry-in-Pers-2 : goal.returns-in_ok-entry-in-Pers-2
returns-in_ok-entry-in-Pers-2 t c = to_pers_done c.args.vars c.args.f.now c.in-Pers.a c.get-in-Pers-2.result.now c.in-Some-7.entry c.in_ok-entry-in-Pers-2.entry c.in-Pers.is c.get-in-Pers-2.ensures (pure_at from_pure (from_pure_says c.args.vars) c.args.vars c.get-in-Pers.result.now c.get-in-Pers-2.result.now c.in_ok-entry-in-Pers.field-0 (Some c.in-Some-7.entry) (c.get-in-Pers.ensures ∙ sym c.get-in-Pers-2.ensures) c.in-Some-7.is c.in_ok-entry-in-Pers.ensures) c.in_ok-entry-in-Pers-2.ensures.pure c.in_ok-entry-in-Pers-2.ensures.proof

pub returns-in_default-9 : goal.returns-in_default-9
returns-in_default-9 t c = to_later_none c.args.vars c.args.f.now c.in-Later.a c.get-in-Later.result.now c.in-Later.is c.get-in-Later.ensures (pure_at from_pure (from_pure_says c.args.vars) c.args.vars c.get-in-Later.result.now c.get-in-Later.result.now c.in_ok-entry-in-Later.field-0 None (refl) c.in_default-9.is c.in_ok-entry-in-Later.ensures)

pub returns-in_ok-entry-in-Later-2 : goal.returns-in_ok-entry-in-Later-2
returns-in_ok-entry-in-Later-2 t c = to_later_done c.args.vars c.args.f.now c.in-Later.a c.get-in-Later-2.result.now c.in-Some-8.entry c.in_ok-entry-in-Later-2.entry c.in-Later.is c.get-in-Later-2.ensures (pure_at from_pure (from_pure_says c.args.vars) c.args.vars c.get-in-Later.result.now c.get-in-Later-2.result.now c.in_ok-entry-in-Later.field-0 (Some c.in-Some-8.entry) (c.get-in-Later.ensures ∙ sym c.get-in-Later-2.ensures) c.in-Some-8.is c.in_ok-entry-in-Later.ensures) c.in_ok-entry-in-Later-2.ensures.pure c.in_ok-entry-in-Later-2.ensures.proof

pub returns-in_default-10 : goal.returns-in_default-10
returns-in_default-10 t c = to_upd_none c.args.vars c.args.f.now c.in-Upd.a c.get-in-Upd.result.now c.in-Upd.is c.get-in-Upd.ensures (pure_at from_pure (from_pure_says c.args.vars) c.args.vars c.get-in-Upd.result.now c.get-in-Upd.result.now c.in_ok-entry-in-Upd.field-0 None (refl) c.in_default-10.is c.in_ok-entry-in-Upd.ensures)

pub returns-in_ok-entry-in-Upd-2 : goal.returns-in_ok-entry-in-Upd-2
returns-in_ok-entry-in-Upd-2 t c = to_upd_done c.args.vars c.args.f.now c.in-Upd.a c.get-in-Upd-2.result.now c.in-Some-9.entry c.in_ok-entry-in-Upd-2.entry c.in-Upd.is c.get-in-Upd-2.ensures (pure_at from_pure (from_pure_says c.args.vars) c.args.vars c.get-in-Upd.result.now c.get-in-Upd-2.result.now c.in_ok-entry-in-Upd.field-0 (Some c.in-Some-9.entry) (c.get-in-Upd.ensures ∙ sym c.get-in-Upd-2.ensures) c.in-Some-9.is c.in_ok-entry-in-Upd.ensures) c.in_ok-entry-in-Upd-2.ensures.pure c.in_ok-entry-in-Upd-2.ensures.proof

pub returns-in_ok-entry-in-Pure : goal.returns-in_ok-entry-in-Pure
returns-in_ok-entry-in-Pure t c = to_fact_done c.args.vars c.args.f.now c.in-Pure.fact c.in_ok-entry-in-Pure.entry c.in-Pure.is c.in_ok-entry-in-Pure.ensures.pure c.in_ok-entry-in-Pure.ensures.proof

pub returns-in_default : goal.returns-in_default
returns-in_default t c = to_rest c.args.vars c.args.f.now c.in_default.not-Pure c.in_default.not-Sep c.in_default.not-And c.in_default.not-Or c.in_default.not-Pers c.in_default.not-Later c.in_default.not-Upd
