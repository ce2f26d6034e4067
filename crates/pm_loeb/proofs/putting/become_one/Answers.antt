use Rattle.std.proofs.Common.{◌∙◌, ap}
use Rattle.pm_table.specs.Limits.{resting}
use Rattle.pm_loeb.proofs.Exchanged.{meets, puts}
use Rattle.pm_loeb.proofs.putting.become_one.Goals as goal

pub move_on-requires-clause-meet : goal.move_on-requires-clause-meet
move_on-requires-clause-meet c =
    meets c.args.work.now c.args.name.now c.args.spot.now c.requires.nothing c.requires.there c.args.new.now c.args.by c.in_ok-part.part c.in_ok-moved.moved c.at_rest-made.result
    (c.at_rest-made.ensures ∙ ap resting c.in_ok-goal.ensures) c.requires.says c.in_ok-part.ensures c.in_ok-moved.ensures

pub returns : goal.returns
returns c =
    puts c.args.work.now c.args.name.now c.args.spot.now c.requires.nothing c.requires.there c.args.new.now c.args.by c.in_ok-part.part c.in_ok-moved.moved c.at_rest-made.result c.move_on.result
    (c.at_rest-made.ensures ∙ ap resting c.in_ok-goal.ensures) c.requires.says c.in_ok-part.ensures c.in_ok-moved.ensures c.move_on.ensures
