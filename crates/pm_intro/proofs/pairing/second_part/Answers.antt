use Rattle.std.proofs.Common.{true, false, [], ◌∷◌, refl, ap, length}
use Rattle.pm_goal.specs.declared.work.Work.{Work}
use Rattle.pm_goal.specs.declared.work.Kind.TheVariants.{Spat}
use Rattle.pm_table.specs.Destructs as table
use Rattle.pm_table.specs.Works.{holding}
use Rattle.pm_intro.specs.Hands.{hand_at, kept}
use Rattle.pm_intro.proofs.OpenEnds.{becomes_says, opens_answer}
use Rattle.pm_intro.proofs.pairing.second_part.Goals as goal

pub by_move_open-requires-clause-vars : goal.by_move_open-requires-clause-vars
by_move_open-requires-clause-vars c = ap (λ (x : Work). length x.goal.vars) c.in_ok-new.ensures

pub by_move_open-requires-clause-concl : goal.by_move_open-requires-clause-concl
by_move_open-requires-clause-concl c = ap (λ (x : Work). x.goal.concl) c.in_ok-new.ensures

pub by_move_open-requires-clause-moved : goal.by_move_open-requires-clause-moved
by_move_open-requires-clause-moved c =
    let w = c.args.work.now in
    becomes_says w c.in_ok-new.new (kept w (holding Spat c.args.b.now ∷ [])) c.in_ok-moved.moved c.in_ok-new.ensures c.in_ok-moved.ensures

pub returns : goal.returns
returns c =
    let w = c.args.work.now in
    opens_answer (false ∷ true ∷ []) w c.in_ok-new.new (kept w (holding Spat c.args.b.now ∷ [])) c.in_ok-moved.moved (table.second_part w (hand_at w c.args.held.now) c.args.b.now) c.by_move_open.result c.in_ok-new.ensures refl c.in_ok-moved.ensures c.by_move_open.ensures
