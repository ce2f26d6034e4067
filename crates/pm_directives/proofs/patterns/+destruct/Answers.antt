use Rattle.std.proofs.Common.{true, [], ◌∷◌, rules}
use Rattle.pm_patterns.specs.declared.pattern.Pat.{the_lemmas}
use Rattle.pm_table.specs.Running.{after}
use Rattle.pm_table.specs.Destructs as destructs
use Rattle.pm_table.specs.Patterns.{opening, turn, destruct}
use Rattle.pm_sweep.proofs.Following.{stands_after}
use Rattle.pm_directives.proofs.Allowed.{pair_built, either_built, int_built, spat_built, pair_run, either_run, int_run, spat_run, not_built, built_never}
use Rattle.pm_directives.proofs.Chained.{at_same, then_one, first_ends, then_two, second_ends}
use Rattle.pm_directives.proofs.patterns.+destruct.Goals as goal

pub returns-in_err-opened-in-Pair : goal.returns-in_err-opened-in-Pair
returns-in_err-opened-in-Pair t c =
    first_ends c.args.standing (destruct c.args.pat.now c.args.standing.goals) (turn 2 (destructs.pair c.get-first.result.now c.get-second.result.now) c.args.standing.goals) (λ qs. after (destruct c.get-first.result.now qs) (destruct c.get-second.result.now)) c.from_residual.result c.in_err-opened-in-Pair.field-0.0
    (pair_run c.args.pat.now c.in-Pair.a c.in-Pair.b c.get-first.result.now c.get-second.result.now c.args.standing.goals c.in-Pair.is c.get-first.ensures c.get-second.ensures) (search rules) c.in_err-opened-in-Pair.ensures

pub destruct-requires : goal.destruct-requires
destruct-requires t c = (search (rules, the_lemmas), ((pair_built c.args.pat.now c.in-Pair.a c.in-Pair.b c.get-first.result.now c.get-second.result.now c.in-Pair.is c.get-first.ensures c.get-second.ensures c.requires.built).0, stands_after c.args.standing c.in_ok-opened-in-Pair.opened (turn 2 (destructs.pair c.get-first.result.now c.get-second.result.now) c.args.standing.goals) c.requires.standing c.in_ok-opened-in-Pair.ensures))

pub returns-in_err-halved-in-Pair : goal.returns-in_err-halved-in-Pair
returns-in_err-halved-in-Pair t c =
    second_ends c.args.standing (destruct c.args.pat.now c.args.standing.goals) (turn 2 (destructs.pair c.get-first.result.now c.get-second.result.now) c.args.standing.goals) c.in_ok-opened-in-Pair.opened (destruct c.get-first.result.now) (destruct c.get-second.result.now) c.from_residual-in_err-halved-in-Pair.result c.in_err-halved-in-Pair.field-0.0
    (pair_run c.args.pat.now c.in-Pair.a c.in-Pair.b c.get-first.result.now c.get-second.result.now c.args.standing.goals c.in-Pair.is c.get-first.ensures c.get-second.ensures) (search rules) c.in_ok-opened-in-Pair.ensures c.in_err-halved-in-Pair.ensures

pub destruct-requires-in-Pair : goal.destruct-requires-in-Pair
destruct-requires-in-Pair t c =
    let opens = stands_after c.args.standing c.in_ok-opened-in-Pair.opened (turn 2 (destructs.pair c.get-first.result.now c.get-second.result.now) c.args.standing.goals) c.requires.standing c.in_ok-opened-in-Pair.ensures in
    (search (rules, the_lemmas), ((pair_built c.args.pat.now c.in-Pair.a c.in-Pair.b c.get-first.result.now c.get-second.result.now c.in-Pair.is c.get-first.ensures c.get-second.ensures c.requires.built).1, stands_after c.in_ok-opened-in-Pair.opened c.in_ok-halved-in-Pair.halved (destruct c.get-first.result.now c.in_ok-opened-in-Pair.opened.goals) opens c.in_ok-halved-in-Pair.ensures))

pub returns-in_ok-halved-in-Pair : goal.returns-in_ok-halved-in-Pair
returns-in_ok-halved-in-Pair t c =
    then_two c.args.standing (destruct c.args.pat.now c.args.standing.goals) (turn 2 (destructs.pair c.get-first.result.now c.get-second.result.now) c.args.standing.goals) c.in_ok-opened-in-Pair.opened c.in_ok-halved-in-Pair.halved (destruct c.get-first.result.now) (destruct c.get-second.result.now) c.destruct-in-Pair.result
    (pair_run c.args.pat.now c.in-Pair.a c.in-Pair.b c.get-first.result.now c.get-second.result.now c.args.standing.goals c.in-Pair.is c.get-first.ensures c.get-second.ensures) c.in_ok-opened-in-Pair.ensures c.in_ok-halved-in-Pair.ensures c.destruct-in-Pair.ensures

pub returns-in_err-opened-in-Either : goal.returns-in_err-opened-in-Either
returns-in_err-opened-in-Either t c =
    first_ends c.args.standing (destruct c.args.pat.now c.args.standing.goals) (turn 2 destructs.either c.args.standing.goals) (λ qs. after (destruct c.get-left.result.now qs) (destruct c.get-right.result.now)) c.from_residual-in_err-opened-in-Either.result c.in_err-opened-in-Either.field-0.0
    (either_run c.args.pat.now c.in-Either.a c.in-Either.b c.get-left.result.now c.get-right.result.now c.args.standing.goals c.in-Either.is c.get-left.ensures c.get-right.ensures) (search rules) c.in_err-opened-in-Either.ensures

pub destruct-requires-in-Either : goal.destruct-requires-in-Either
destruct-requires-in-Either t c = (search (rules, the_lemmas), ((either_built c.args.pat.now c.in-Either.a c.in-Either.b c.get-left.result.now c.get-right.result.now c.in-Either.is c.get-left.ensures c.get-right.ensures c.requires.built).0, stands_after c.args.standing c.in_ok-opened-in-Either.opened (turn 2 destructs.either c.args.standing.goals) c.requires.standing c.in_ok-opened-in-Either.ensures))

pub returns-in_err-halved-in-Either : goal.returns-in_err-halved-in-Either
returns-in_err-halved-in-Either t c =
    second_ends c.args.standing (destruct c.args.pat.now c.args.standing.goals) (turn 2 destructs.either c.args.standing.goals) c.in_ok-opened-in-Either.opened (destruct c.get-left.result.now) (destruct c.get-right.result.now) c.from_residual-in_err-halved-in-Either.result c.in_err-halved-in-Either.field-0.0
    (either_run c.args.pat.now c.in-Either.a c.in-Either.b c.get-left.result.now c.get-right.result.now c.args.standing.goals c.in-Either.is c.get-left.ensures c.get-right.ensures) (search rules) c.in_ok-opened-in-Either.ensures c.in_err-halved-in-Either.ensures

pub destruct-requires-in-Either-2 : goal.destruct-requires-in-Either-2
destruct-requires-in-Either-2 t c =
    let opens = stands_after c.args.standing c.in_ok-opened-in-Either.opened (turn 2 destructs.either c.args.standing.goals) c.requires.standing c.in_ok-opened-in-Either.ensures in
    (search (rules, the_lemmas), ((either_built c.args.pat.now c.in-Either.a c.in-Either.b c.get-left.result.now c.get-right.result.now c.in-Either.is c.get-left.ensures c.get-right.ensures c.requires.built).1, stands_after c.in_ok-opened-in-Either.opened c.in_ok-halved-in-Either.halved (destruct c.get-left.result.now c.in_ok-opened-in-Either.opened.goals) opens c.in_ok-halved-in-Either.ensures))

pub returns-in_ok-halved-in-Either : goal.returns-in_ok-halved-in-Either
returns-in_ok-halved-in-Either t c =
    then_two c.args.standing (destruct c.args.pat.now c.args.standing.goals) (turn 2 destructs.either c.args.standing.goals) c.in_ok-opened-in-Either.opened c.in_ok-halved-in-Either.halved (destruct c.get-left.result.now) (destruct c.get-right.result.now) c.destruct-in-Either-2.result
    (either_run c.args.pat.now c.in-Either.a c.in-Either.b c.get-left.result.now c.get-right.result.now c.args.standing.goals c.in-Either.is c.get-left.ensures c.get-right.ensures) c.in_ok-opened-in-Either.ensures c.in_ok-halved-in-Either.ensures c.destruct-in-Either-2.ensures

pub returns-in_err-opened-in-Int : goal.returns-in_err-opened-in-Int
returns-in_err-opened-in-Int t c =
    first_ends c.args.standing (destruct c.args.pat.now c.args.standing.goals) (turn 1 (opening (true ∷ []) destructs.to_int) c.args.standing.goals) (destruct c.get-boxed.result.now) c.from_residual-in_err-opened-in-Int.result c.in_err-opened-in-Int.field-0.0
    (int_run c.args.pat.now c.in-Int.a c.get-boxed.result.now c.args.standing.goals c.in-Int.is c.get-boxed.ensures) (search rules) c.in_err-opened-in-Int.ensures

pub destruct-requires-in-Int : goal.destruct-requires-in-Int
destruct-requires-in-Int t c = (search (rules, the_lemmas), (int_built c.args.pat.now c.in-Int.a c.get-boxed.result.now c.in-Int.is c.get-boxed.ensures c.requires.built, stands_after c.args.standing c.in_ok-opened-in-Int.opened (turn 1 (opening (true ∷ []) destructs.to_int) c.args.standing.goals) c.requires.standing c.in_ok-opened-in-Int.ensures))

pub returns-in_ok-opened-in-Int : goal.returns-in_ok-opened-in-Int
returns-in_ok-opened-in-Int t c =
    then_one c.args.standing (destruct c.args.pat.now c.args.standing.goals) (turn 1 (opening (true ∷ []) destructs.to_int) c.args.standing.goals) c.in_ok-opened-in-Int.opened (destruct c.get-boxed.result.now) c.destruct-in-Int.result
    (int_run c.args.pat.now c.in-Int.a c.get-boxed.result.now c.args.standing.goals c.in-Int.is c.get-boxed.ensures) c.in_ok-opened-in-Int.ensures c.destruct-in-Int.ensures

pub returns-in_err-opened-in-Spat : goal.returns-in_err-opened-in-Spat
returns-in_err-opened-in-Spat t c =
    first_ends c.args.standing (destruct c.args.pat.now c.args.standing.goals) (turn 1 (opening (true ∷ []) destructs.to_spat) c.args.standing.goals) (destruct c.get-spatial.result.now) c.from_residual-in_err-opened-in-Spat.result c.in_err-opened-in-Spat.field-0.0
    (spat_run c.args.pat.now c.in-Spat.a c.get-spatial.result.now c.args.standing.goals c.in-Spat.is c.get-spatial.ensures) (search rules) c.in_err-opened-in-Spat.ensures

pub destruct-requires-in-Spat : goal.destruct-requires-in-Spat
destruct-requires-in-Spat t c = (search (rules, the_lemmas), (spat_built c.args.pat.now c.in-Spat.a c.get-spatial.result.now c.in-Spat.is c.get-spatial.ensures c.requires.built, stands_after c.args.standing c.in_ok-opened-in-Spat.opened (turn 1 (opening (true ∷ []) destructs.to_spat) c.args.standing.goals) c.requires.standing c.in_ok-opened-in-Spat.ensures))

pub returns-in_ok-opened-in-Spat : goal.returns-in_ok-opened-in-Spat
returns-in_ok-opened-in-Spat t c =
    then_one c.args.standing (destruct c.args.pat.now c.args.standing.goals) (turn 1 (opening (true ∷ []) destructs.to_spat) c.args.standing.goals) c.in_ok-opened-in-Spat.opened (destruct c.get-spatial.result.now) c.destruct-in-Spat.result
    (spat_run c.args.pat.now c.in-Spat.a c.get-spatial.result.now c.args.standing.goals c.in-Spat.is c.get-spatial.ensures) c.in_ok-opened-in-Spat.ensures c.destruct-in-Spat.ensures

pub unreachable-requires : goal.unreachable-requires
unreachable-requires t c = built_never c.args.pat.now (not_built c.args.pat.now c.in_default.not-Name c.in_default.not-Fresh c.in_default.not-Drop c.in_default.not-Frame c.in_default.not-Pair c.in_default.not-Either c.in_default.not-Absurd c.in_default.not-PureName c.in_default.not-PureFresh c.in_default.not-Int c.in_default.not-Spat) c.requires.built

pub returns-in-Name : goal.returns-in-Name
unfolding destruct
returns-in-Name t c = at_same destruct c.args.standing c.args.pat.now _ c.turn.result c.in-Name.is c.turn.ensures

pub returns-in-Fresh : goal.returns-in-Fresh
unfolding destruct
returns-in-Fresh t c = at_same destruct c.args.standing c.args.pat.now _ c.turn-in-Fresh.result c.in-Fresh.is c.turn-in-Fresh.ensures

pub returns-in-Drop : goal.returns-in-Drop
unfolding destruct
returns-in-Drop t c = at_same destruct c.args.standing c.args.pat.now _ c.turn-in-Drop.result c.in-Drop.is c.turn-in-Drop.ensures

pub returns-in-Absurd : goal.returns-in-Absurd
unfolding destruct
returns-in-Absurd t c = at_same destruct c.args.standing c.args.pat.now _ c.turn-in-Absurd.result c.in-Absurd.is c.turn-in-Absurd.ensures

pub returns-in-PureName : goal.returns-in-PureName
unfolding destruct
returns-in-PureName t c = at_same destruct c.args.standing c.args.pat.now _ c.turn-in-PureName.result c.in-PureName.is c.turn-in-PureName.ensures

pub returns-in-PureFresh : goal.returns-in-PureFresh
unfolding destruct
returns-in-PureFresh t c = at_same destruct c.args.standing c.args.pat.now _ c.turn-in-PureFresh.result c.in-PureFresh.is c.turn-in-PureFresh.ensures

pub returns-in-Frame : goal.returns-in-Frame
unfolding destruct
returns-in-Frame t c = at_same destruct c.args.standing c.args.pat.now _ c.turn-in-Frame.result c.in-Frame.is c.turn-in-Frame.ensures
