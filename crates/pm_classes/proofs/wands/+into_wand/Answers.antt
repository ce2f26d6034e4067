use Rattle.std.proofs.Common.{None, Some, refl, sym, ◌∙◌}
use Rattle.pm_classes.specs.Classes.{into_wand}
use Rattle.pm_classes.specs.Entries.{wand_says}
use Rattle.pm_classes.proofs.Done.{pair_at}
use Rattle.pm_classes.proofs.Calls.{wand_wand_done, wand_later, wand_later_none, wand_pers, wand_pers_none, wand_rest}
use Rattle.pm_classes.proofs.wands.+into_wand.Goals as goal

pub returns-in_default-2 : goal.returns-in_default-2
returns-in_default-2 t c = wand_later_none c.args.vars c.args.f.now c.in-Later.a c.get-in-Later.result.now c.in-Later.is c.get-in-Later.ensures (pair_at into_wand (wand_says c.args.vars) c.args.vars c.get-in-Later.result.now c.get-in-Later.result.now c.in_ok-entry-in-Later.field-0 None (refl) c.in_default-2.is c.in_ok-entry-in-Later.ensures)

pub returns-in_default-3 : goal.returns-in_default-3
returns-in_default-3 t c = wand_pers_none c.args.vars c.args.f.now c.in-Pers.a c.get-in-Pers.result.now c.in-Pers.is c.get-in-Pers.ensures (pair_at into_wand (wand_says c.args.vars) c.args.vars c.get-in-Pers.result.now c.get-in-Pers.result.now c.in_ok-entry-in-Pers.field-0 None (refl) c.in_default-3.is c.in_ok-entry-in-Pers.ensures)

pub returns-in_ok-entry-in-Wand : goal.returns-in_ok-entry-in-Wand
returns-in_ok-entry-in-Wand t c = wand_wand_done c.args.vars c.args.f.now c.in-Wand.a c.in-Wand.b c.get.result.now c.get-in-Wand.result.now c.in_ok-entry-in-Wand.entry c.in-Wand.is c.get.ensures c.get-in-Wand.ensures c.in_ok-entry-in-Wand.ensures.first c.in_ok-entry-in-Wand.ensures.second c.in_ok-entry-in-Wand.ensures.proof

pub returns-in_ok-entry-in-Later-2 : goal.returns-in_ok-entry-in-Later-2
returns-in_ok-entry-in-Later-2 t c = wand_later c.args.vars c.args.f.now c.in-Later.a c.get-in-Later-2.result.now c.in-Some.entry c.in_ok-entry-in-Later-2.entry c.in-Later.is c.get-in-Later-2.ensures (pair_at into_wand (wand_says c.args.vars) c.args.vars c.get-in-Later.result.now c.get-in-Later-2.result.now c.in_ok-entry-in-Later.field-0 (Some c.in-Some.entry) (c.get-in-Later.ensures ∙ sym c.get-in-Later-2.ensures) c.in-Some.is c.in_ok-entry-in-Later.ensures) c.in_ok-entry-in-Later-2.ensures.first c.in_ok-entry-in-Later-2.ensures.second c.in_ok-entry-in-Later-2.ensures.proof

pub returns-in_ok-entry-in-Pers-2 : goal.returns-in_ok-entry-in-Pers-2
returns-in_ok-entry-in-Pers-2 t c = wand_pers c.args.vars c.args.f.now c.in-Pers.a c.get-in-Pers-2.result.now c.in-Some-2.entry c.in_ok-entry-in-Pers-2.entry c.in-Pers.is c.get-in-Pers-2.ensures (pair_at into_wand (wand_says c.args.vars) c.args.vars c.get-in-Pers.result.now c.get-in-Pers-2.result.now c.in_ok-entry-in-Pers.field-0 (Some c.in-Some-2.entry) (c.get-in-Pers.ensures ∙ sym c.get-in-Pers-2.ensures) c.in-Some-2.is c.in_ok-entry-in-Pers.ensures) c.in_ok-entry-in-Pers-2.ensures.first c.in_ok-entry-in-Pers-2.ensures.second c.in_ok-entry-in-Pers-2.ensures.proof

pub returns-in_default : goal.returns-in_default
returns-in_default t c = wand_rest c.args.vars c.args.f.now c.in_default.not-Wand c.in_default.not-Imp c.in_default.not-Later c.in_default.not-Pers
