use Rattle.pm_logic.specs.declared.formula.Formula.{the_lemmas}
use Rattle.std.proofs.Common.{rules, sym, ◌∙◌}
use Rattle.pm_classes.proofs.Calls.{boxed_at, boxed_pure, boxed_pers, boxed_later_done, boxed_sep_done, boxed_and_done, boxed_or_done, persists_not}
use Rattle.pm_classes.proofs.Handed.{sep_left, sep_right, and_left, and_right, or_left, or_right, all_body, ex_body, later_part, sep_left_persists, sep_right_persists, and_left_persists, and_right_persists, or_left_persists, or_right_persists, all_body_persists, ex_body_persists, later_part_persists}
use Rattle.pm_classes.proofs.persistence.+persists.Goals as goal

pub persists-requires : goal.persists-requires
persists-requires t c = (search (rules, the_lemmas), (sep_left c.args.vars c.args.f.now c.in-Sep.a c.in-Sep.b c.get.result.now c.in-Sep.is c.get.ensures c.requires.handed, sep_left_persists c.args.f.now c.in-Sep.a c.in-Sep.b c.get.result.now c.in-Sep.is c.get.ensures c.requires.persistent))

pub persists-requires-in-Sep : goal.persists-requires-in-Sep
persists-requires-in-Sep t c = (search (rules, the_lemmas), (sep_right c.args.vars c.args.f.now c.in-Sep.a c.in-Sep.b c.get-in-Sep.result.now c.in-Sep.is c.get-in-Sep.ensures c.requires.handed, sep_right_persists c.args.f.now c.in-Sep.a c.in-Sep.b c.get-in-Sep.result.now c.in-Sep.is c.get-in-Sep.ensures c.requires.persistent))

pub persists-requires-in-And : goal.persists-requires-in-And
persists-requires-in-And t c = (search (rules, the_lemmas), (and_left c.args.vars c.args.f.now c.in-And.a c.in-And.b c.get-in-And.result.now c.in-And.is c.get-in-And.ensures c.requires.handed, and_left_persists c.args.f.now c.in-And.a c.in-And.b c.get-in-And.result.now c.in-And.is c.get-in-And.ensures c.requires.persistent))

pub persists-requires-in-And-2 : goal.persists-requires-in-And-2
persists-requires-in-And-2 t c = (search (rules, the_lemmas), (and_right c.args.vars c.args.f.now c.in-And.a c.in-And.b c.get-in-And-2.result.now c.in-And.is c.get-in-And-2.ensures c.requires.handed, and_right_persists c.args.f.now c.in-And.a c.in-And.b c.get-in-And-2.result.now c.in-And.is c.get-in-And-2.ensures c.requires.persistent))

pub persists-requires-in-Or : goal.persists-requires-in-Or
persists-requires-in-Or t c = (search (rules, the_lemmas), (or_left c.args.vars c.args.f.now c.in-Or.a c.in-Or.b c.get-in-Or.result.now c.in-Or.is c.get-in-Or.ensures c.requires.handed, or_left_persists c.args.f.now c.in-Or.a c.in-Or.b c.get-in-Or.result.now c.in-Or.is c.get-in-Or.ensures c.requires.persistent))

pub persists-requires-in-Or-2 : goal.persists-requires-in-Or-2
persists-requires-in-Or-2 t c = (search (rules, the_lemmas), (or_right c.args.vars c.args.f.now c.in-Or.a c.in-Or.b c.get-in-Or-2.result.now c.in-Or.is c.get-in-Or-2.ensures c.requires.handed, or_right_persists c.args.f.now c.in-Or.a c.in-Or.b c.get-in-Or-2.result.now c.in-Or.is c.get-in-Or-2.ensures c.requires.persistent))

pub persists-requires-in-All : goal.persists-requires-in-All
persists-requires-in-All t c = (search (rules, the_lemmas), (all_body c.args.vars c.args.f.now c.in-All.a c.get-in-All.result.now c.in-All.is c.get-in-All.ensures c.requires.handed, all_body_persists c.args.f.now c.in-All.a c.get-in-All.result.now c.in-All.is c.get-in-All.ensures c.requires.persistent))

pub boxed_all-requires-clause-handed : goal.boxed_all-requires-clause-handed
boxed_all-requires-clause-handed t c = all_body c.args.vars c.args.f.now c.in-All.a c.get-in-All-2.result.now c.in-All.is c.get-in-All-2.ensures c.requires.handed

pub persists-requires-in-Ex : goal.persists-requires-in-Ex
persists-requires-in-Ex t c = (search (rules, the_lemmas), (ex_body c.args.vars c.args.f.now c.in-Ex.a c.get-in-Ex.result.now c.in-Ex.is c.get-in-Ex.ensures c.requires.handed, ex_body_persists c.args.f.now c.in-Ex.a c.get-in-Ex.result.now c.in-Ex.is c.get-in-Ex.ensures c.requires.persistent))

pub boxed_ex-requires-clause-handed : goal.boxed_ex-requires-clause-handed
boxed_ex-requires-clause-handed t c = ex_body c.args.vars c.args.f.now c.in-Ex.a c.get-in-Ex-2.result.now c.in-Ex.is c.get-in-Ex-2.ensures c.requires.handed

pub persists-requires-in-Later : goal.persists-requires-in-Later
persists-requires-in-Later t c = (search (rules, the_lemmas), (later_part c.args.vars c.args.f.now c.in-Later.a c.get-in-Later.result.now c.in-Later.is c.get-in-Later.ensures c.requires.handed, later_part_persists c.args.f.now c.in-Later.a c.get-in-Later.result.now c.in-Later.is c.get-in-Later.ensures c.requires.persistent))

pub unreachable-requires : goal.unreachable-requires
unreachable-requires t c = persists_not c.args.f.now c.in_default.not-Pure c.in_default.not-Sep c.in_default.not-And c.in_default.not-Or c.in_default.not-All c.in_default.not-Ex c.in_default.not-Later c.in_default.not-Pers c.requires.persistent

pub returns-in_ok-proof-in-Pure : goal.returns-in_ok-proof-in-Pure
returns-in_ok-proof-in-Pure t c = boxed_pure c.args.vars c.args.f.now c.in-Pure.fact c.in_ok-proof-in-Pure.proof c.in-Pure.is c.in_ok-proof-in-Pure.ensures

pub returns-in_ok-proof-in-Sep : goal.returns-in_ok-proof-in-Sep
returns-in_ok-proof-in-Sep t c = boxed_sep_done c.args.vars c.args.f.now c.in-Sep.a c.in-Sep.b c.get-in-Sep-2.result.now c.get-in-Sep-3.result.now c.in_ok-first-in-Sep.first c.in_ok-second-in-Sep.second c.in_ok-proof-in-Sep.proof c.in-Sep.is c.get-in-Sep-2.ensures c.get-in-Sep-3.ensures (boxed_at c.args.vars c.get.result.now c.get-in-Sep-2.result.now c.in_ok-first-in-Sep.first (c.get.ensures ∙ sym c.get-in-Sep-2.ensures) c.in_ok-first-in-Sep.ensures) (boxed_at c.args.vars c.get-in-Sep.result.now c.get-in-Sep-3.result.now c.in_ok-second-in-Sep.second (c.get-in-Sep.ensures ∙ sym c.get-in-Sep-3.ensures) c.in_ok-second-in-Sep.ensures) c.in_ok-proof-in-Sep.ensures

pub returns-in_ok-proof-in-And : goal.returns-in_ok-proof-in-And
returns-in_ok-proof-in-And t c = boxed_and_done c.args.vars c.args.f.now c.in-And.a c.in-And.b c.get-in-And-3.result.now c.get-in-And-4.result.now c.in_ok-first-in-And.first c.in_ok-second-in-And.second c.in_ok-proof-in-And.proof c.in-And.is c.get-in-And-3.ensures c.get-in-And-4.ensures (boxed_at c.args.vars c.get-in-And.result.now c.get-in-And-3.result.now c.in_ok-first-in-And.first (c.get-in-And.ensures ∙ sym c.get-in-And-3.ensures) c.in_ok-first-in-And.ensures) (boxed_at c.args.vars c.get-in-And-2.result.now c.get-in-And-4.result.now c.in_ok-second-in-And.second (c.get-in-And-2.ensures ∙ sym c.get-in-And-4.ensures) c.in_ok-second-in-And.ensures) c.in_ok-proof-in-And.ensures

pub returns-in_ok-proof-in-Or : goal.returns-in_ok-proof-in-Or
returns-in_ok-proof-in-Or t c = boxed_or_done c.args.vars c.args.f.now c.in-Or.a c.in-Or.b c.get-in-Or-3.result.now c.get-in-Or-4.result.now c.in_ok-first-in-Or.first c.in_ok-second-in-Or.second c.in_ok-proof-in-Or.proof c.in-Or.is c.get-in-Or-3.ensures c.get-in-Or-4.ensures (boxed_at c.args.vars c.get-in-Or.result.now c.get-in-Or-3.result.now c.in_ok-first-in-Or.first (c.get-in-Or.ensures ∙ sym c.get-in-Or-3.ensures) c.in_ok-first-in-Or.ensures) (boxed_at c.args.vars c.get-in-Or-2.result.now c.get-in-Or-4.result.now c.in_ok-second-in-Or.second (c.get-in-Or-2.ensures ∙ sym c.get-in-Or-4.ensures) c.in_ok-second-in-Or.ensures) c.in_ok-proof-in-Or.ensures

pub returns-in_ok-proof-in-Later : goal.returns-in_ok-proof-in-Later
returns-in_ok-proof-in-Later t c = boxed_later_done c.args.vars c.args.f.now c.in-Later.a c.get-in-Later-2.result.now c.in_ok-inner-in-Later.inner c.in_ok-proof-in-Later.proof c.in-Later.is c.get-in-Later-2.ensures (boxed_at c.args.vars c.get-in-Later.result.now c.get-in-Later-2.result.now c.in_ok-inner-in-Later.inner (c.get-in-Later.ensures ∙ sym c.get-in-Later-2.ensures) c.in_ok-inner-in-Later.ensures) c.in_ok-proof-in-Later.ensures

pub returns-in_ok-proof-in-Pers : goal.returns-in_ok-proof-in-Pers
returns-in_ok-proof-in-Pers t c = boxed_pers c.args.vars c.args.f.now c.in-Pers.a c.get-in-Pers.result.now c.in_ok-proof-in-Pers.proof c.in-Pers.is c.get-in-Pers.ensures c.in_ok-proof-in-Pers.ensures
