use Rattle.std.specs.Prelude.{[], ◌∷◌}
use Rattle.pm_intro.proofs.Entering.{opens_to}
use Rattle.pm_intro.proofs.ending.by_move_open.Goals as goal

pub returns : goal.returns
returns c = opens_to (c.args.first ∷ c.args.second ∷ []) c.args.work.now c.args.new c.args.moved c.in_ok-wanted.wanted c.in_ok-proof.proof c.finish_open.result c.requires.vars c.requires.concl c.requires.moved c.in_ok-wanted.ensures c.in_ok-proof.ensures.proves c.finish_open.ensures
