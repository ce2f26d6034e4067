use Rattle.pm_classes.proofs.Combined.{other_units, val_levels, agreed_first, agreed_second, agreed_third, agreed_proves, second_hole, third_hole, fourth_hole}
use Rattle.pm_classes.proofs.combining.agreed.Goals as goal

pub replace-requires-clause-right : goal.replace-requires-clause-right
replace-requires-clause-right c = other_units c.args.vars c.args.loc.now c.args.units c.args.more c.args.val.now c.requires.left

pub replace-requires-clause-levels : goal.replace-requires-clause-levels
replace-requires-clause-levels c = val_levels c.args.loc.now c.args.units c.args.more c.args.val.now c.requires.levels

pub fill-step-requires-2 : goal.fill-step-requires-2
fill-step-requires-2 c =
    let e1 = agreed_first c.args.vars c.args.loc.now c.args.units c.args.val.now c.args.more c.args.new.now c.in_ok-step.step c.fill-step.result c.in_ok-same_location.same_location c.in_ok-step.ensures c.in_ok-same_location.ensures c.fill-step.ensures.proves in
    second_hole c.args.vars c.args.loc.now c.args.units c.args.val.now c.args.more c.args.new.now c.fill-step.result c.in_ok-reversed.reversed e1 c.in_ok-reversed.ensures

pub fill-step-requires-3 : goal.fill-step-requires-3
fill-step-requires-3 c =
    let e1 = agreed_first c.args.vars c.args.loc.now c.args.units c.args.val.now c.args.more c.args.new.now c.in_ok-step.step c.fill-step.result c.in_ok-same_location.same_location c.in_ok-step.ensures c.in_ok-same_location.ensures c.fill-step.ensures.proves in
    let e2 = agreed_second c.args.vars c.args.loc.now c.args.units c.args.val.now c.args.more c.args.new.now c.fill-step.result c.fill-step-2.result c.in_ok-reversed.reversed e1 c.in_ok-reversed.ensures c.fill-step-2.ensures.proves in
    third_hole c.args.vars c.args.loc.now c.args.units c.args.val.now c.args.more c.args.new.now c.fill-step-2.result c.in_ok-replaced.replaced e2 c.in_ok-replaced.ensures

pub fill-requires : goal.fill-requires
fill-requires c =
    let e1 = agreed_first c.args.vars c.args.loc.now c.args.units c.args.val.now c.args.more c.args.new.now c.in_ok-step.step c.fill-step.result c.in_ok-same_location.same_location c.in_ok-step.ensures c.in_ok-same_location.ensures c.fill-step.ensures.proves in
    let e2 = agreed_second c.args.vars c.args.loc.now c.args.units c.args.val.now c.args.more c.args.new.now c.fill-step.result c.fill-step-2.result c.in_ok-reversed.reversed e1 c.in_ok-reversed.ensures c.fill-step-2.ensures.proves in
    let e3 = agreed_third c.args.vars c.args.loc.now c.args.units c.args.val.now c.args.more c.args.new.now c.fill-step-2.result c.fill-step-3.result c.in_ok-replaced.replaced e2 c.in_ok-replaced.ensures c.fill-step-3.ensures.proves in
    fourth_hole c.args.vars c.args.loc.now c.args.units c.args.val.now c.args.more c.args.new.now c.fill-step-3.result c.in_ok-together.together e3 c.in_ok-together.ensures

pub returns : goal.returns
returns c =
    let e1 = agreed_first c.args.vars c.args.loc.now c.args.units c.args.val.now c.args.more c.args.new.now c.in_ok-step.step c.fill-step.result c.in_ok-same_location.same_location c.in_ok-step.ensures c.in_ok-same_location.ensures c.fill-step.ensures.proves in
    let e2 = agreed_second c.args.vars c.args.loc.now c.args.units c.args.val.now c.args.more c.args.new.now c.fill-step.result c.fill-step-2.result c.in_ok-reversed.reversed e1 c.in_ok-reversed.ensures c.fill-step-2.ensures.proves in
    let e3 = agreed_third c.args.vars c.args.loc.now c.args.units c.args.val.now c.args.more c.args.new.now c.fill-step-2.result c.fill-step-3.result c.in_ok-replaced.replaced e2 c.in_ok-replaced.ensures c.fill-step-3.ensures.proves in
    agreed_proves c.args.vars c.args.loc.now c.args.units c.args.val.now c.args.more c.args.new.now c.fill-step-3.result c.fill.result c.in_ok-together.together e3 c.in_ok-together.ensures c.fill.ensures.proves
