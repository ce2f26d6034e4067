use Rattle.std.proofs.Common.{◌<◌, ◌^◌, length, insert, sym, ◌∙◌, ap, subst}
use Rattle.pm_logic.specs.declared.formula.Formula.TheVariants.{Pts}
use Rattle.pm_logic.specs.declared.formula.TheConstants.{UNIT}
use Rattle.pm_star.specs.Stars.{work_parts}
use Rattle.pm_hand.proofs.Sizes.{few_vars}
use Rattle.pm_heap.proofs.Written.{rest_vars, new_vars, new_concl, update_says, place_low, put_more, front_place, write_meets, write_alike, write_done}
use Rattle.pm_heap.proofs.writing.write_proof.Goals as goal

pub run_update-requires-clause-few : goal.run_update-requires-clause-few
run_update-requires-clause-few c = subst (λ n. n < 2 ^ 32) (sym (rest_vars c.args.work.now c.in_ok-rest.rest c.args.name.now c.in_ok-rest.ensures)) (few_vars c.args.work.now c.requires.handed)

pub run_update-requires-clause-update : goal.run_update-requires-clause-update
run_update-requires-clause-update c =
    update_says c.args.work.now c.in_ok-rest.rest c.args.name.now c.len-vars.result (Pts c.args.loc.now UNIT c.args.val.now) (Pts c.args.loc.now UNIT c.args.term.now) c.in_ok-old.old c.in_ok-part.part c.in_ok-update.update c.in_ok-rest.ensures c.len-vars.ensures c.in_ok-old.ensures c.in_ok-part.ensures c.in_ok-update.ensures.concludes

pub run_update-requires-clause-vars : goal.run_update-requires-clause-vars
run_update-requires-clause-vars c = new_vars c.args.work.now c.in_ok-rest.rest c.args.new.now c.args.name.now (Pts c.args.loc.now UNIT c.args.term.now) c.in_ok-rest.ensures c.requires.new

pub run_update-requires-clause-concl : goal.run_update-requires-clause-concl
run_update-requires-clause-concl c = new_concl c.args.work.now c.args.new.now c.args.name.now (Pts c.args.loc.now UNIT c.args.term.now) c.args.q.now c.requires.new c.requires.concl

pub run_update-requires-clause-within : goal.run_update-requires-clause-within
run_update-requires-clause-within c = place_low c.args.work.now c.in_ok-rest.rest c.args.name.now c.args.place (Pts c.args.loc.now UNIT c.args.val.now) c.requires.at c.in_ok-rest.ensures

pub run_update-requires-clause-more : goal.run_update-requires-clause-more
run_update-requires-clause-more c =
    put_more c.args.work.now c.in_ok-rest.rest c.args.new.now c.args.name.now c.args.place (Pts c.args.loc.now UNIT c.args.val.now) (Pts c.args.loc.now UNIT c.args.term.now) c.requires.nothing c.requires.at c.in_ok-rest.ensures c.requires.new
    ∙ ap (insert (work_parts c.in_ok-rest.rest) c.args.place) (sym c.in_ok-part.ensures)

pub bring_front_held-requires-clause-place : goal.bring_front_held-requires-clause-place
bring_front_held-requires-clause-place c = front_place c.args.work.now c.args.name.now c.args.place (Pts c.args.loc.now UNIT c.args.val.now) c.requires.at

pub compose-requires-clause-vars : goal.compose-requires-clause-vars
compose-requires-clause-vars c =
    write_alike c.args.work.now c.in_ok-rest.rest c.args.new.now c.args.name.now c.args.place c.args.loc.now c.args.val.now c.args.term.now c.args.q.now c.requires.nothing c.requires.at c.in_ok-rest.ensures c.requires.new c.requires.concl
    c.in_ok-old.old c.in_ok-front.front c.in_ok-updated.updated c.in_ok-front.ensures c.in_ok-updated.ensures.concludes

pub compose-requires-clause-meet : goal.compose-requires-clause-meet
compose-requires-clause-meet c =
    write_meets c.args.work.now c.in_ok-rest.rest c.args.new.now c.args.name.now c.args.place c.args.loc.now c.args.val.now c.args.term.now c.args.q.now c.requires.nothing c.requires.at c.in_ok-rest.ensures c.requires.new c.requires.concl
    c.in_ok-old.old c.in_ok-part.part c.in_ok-front.front c.in_ok-update.update c.in_ok-updated.updated c.in_ok-old.ensures c.in_ok-front.ensures c.in_ok-updated.ensures.concludes

pub returns : goal.returns
returns c =
    write_done c.args.work.now c.in_ok-rest.rest c.args.new.now c.args.name.now c.args.place c.args.loc.now c.args.val.now c.args.term.now c.args.q.now c.requires.nothing c.requires.at c.in_ok-rest.ensures c.requires.new c.requires.concl
    c.len-vars.result c.in_ok-old.old c.in_ok-part.part c.in_ok-front.front c.in_ok-update.update c.in_ok-updated.updated c.in_ok-proof.proof c.in_ok-old.ensures c.in_ok-part.ensures c.len-vars.ensures c.in_ok-front.ensures c.in_ok-update.ensures
    c.in_ok-updated.ensures c.in_ok-proof.ensures.proves
