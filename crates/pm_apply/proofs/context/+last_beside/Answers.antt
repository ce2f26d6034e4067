use Rattle.std.proofs.Common.{◌≡◌, ◌<◌, ◌-◌, ◌^◌, length, refl, arith, ap, sym, ◌∙◌}
use Rattle.pm_rules.specs.declared.rules.Entail.{Entail}
use Rattle.pm_goal.specs.Left.{of_kind}
use Rattle.pm_table.specs.Limits.{hypotheses}
use Rattle.pm_apply.proofs.Besides.{front_beside, some_held, made_fewer, made_hypotheses, made_vars, made_last, made_meets, made_beside}
use Rattle.pm_apply.proofs.context.+last_beside.Goals as goal

pub returns-then-len-eq1 : goal.returns-then-len-eq1
returns-then-len-eq1 t c =
    let one : length c.args.work.now.held ≡ 1 = omega (arith, c.if-len-eq1.true, c.len.ensures) in
    front_beside c.args.work.now c.args.held.now c.last_place-place.result c.in_ok-proof.proof c.requires.last one c.last_place-place.ensures c.in_ok-proof.ensures

pub last_beside-requires : goal.last_beside-requires
last_beside-requires t c =
    let several : 1 < length c.args.work.now.held = omega (arith, c.if-len-eq1.false, c.len.ensures, some_held c.args.work.now c.args.held.now c.requires.last) in
    let w = c.args.work.now in
    let l = c.args.held.now in
    let falls : length c.in_ok-rest.rest.held < t = omega (arith, made_fewer w c.in_ok-rest.rest l c.requires.last several c.in_ok-rest.ensures, c.decreases) in
    let vars : length c.in_ok-rest.rest.goal.vars < 2 ^ 32 = omega (arith, made_vars w c.in_ok-rest.rest l c.requires.last several c.in_ok-rest.ensures, c.requires.vars) in
    let few : hypotheses c.in_ok-rest.rest < 2 ^ 32 = omega (arith, made_hypotheses w c.in_ok-rest.rest l c.requires.last several c.in_ok-rest.ensures, c.requires.few) in
    (falls, (vars, (few, made_last w c.in_ok-rest.rest l c.requires.last several c.in_ok-rest.ensures)))

pub compose-requires-clause-meet : goal.compose-requires-clause-meet
compose-requires-clause-meet t c =
    let several : 1 < length c.args.work.now.held = omega (arith, c.if-len-eq1.false, c.len.ensures, some_held c.args.work.now c.args.held.now c.requires.last) in
    made_meets c.args.work.now c.in_ok-rest.rest c.args.held.now c.requires.last several c.in_ok-rest.ensures (of_kind c.args.held.now.kind c.args.held.now.formula) c.last_place-place.result (c.last_place-place.result - 1) c.in_ok-lost.lost c.in_ok-beside.beside c.last_place-place.ensures refl c.in_ok-lost.ensures c.in_ok-beside.ensures

pub returns : goal.returns
returns t c =
    let several : 1 < length c.args.work.now.held = omega (arith, c.if-len-eq1.false, c.len.ensures, some_held c.args.work.now c.args.held.now c.requires.last) in
    made_beside c.args.work.now c.in_ok-rest.rest c.args.held.now c.requires.last several c.in_ok-rest.ensures (of_kind c.args.held.now.kind c.args.held.now.formula) c.last_place-place.result (c.last_place-place.result - 1) c.in_ok-lost.lost c.in_ok-beside.beside c.in_ok-proof-2.proof c.last_place-place.ensures refl c.in_ok-lost.ensures c.in_ok-beside.ensures c.in_ok-proof-2.ensures.proves
