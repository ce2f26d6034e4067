use Rattle.std.proofs.Common.{[], ◌∷◌, ◌++◌, ◌∙◌, ap}
use Rattle.pm_apply.proofs.Onward.{last_hole, last_done}
use Rattle.pm_apply.proofs.reaching.by_last.Goals as goal

pub fill-proof-requires : goal.fill-proof-requires
fill-proof-requires c = last_hole c.args.vars c.args.whole.now c.args.shared.now c.args.r.now c.args.entry c.in_ok-step.step c.requires c.in_ok-step.ensures

pub returns : goal.returns
returns c =
    last_done c.args.vars c.args.whole.now c.args.shared.now c.args.r.now c.args.entry c.in_ok-step.step c.fill-proof.result c.push.new.self c.requires c.in_ok-step.ensures c.fill-proof.ensures.proves
    (c.in_ok-push.ensures.ok ∙ ap (λ ps. ps ++ c.args.entry.first ∷ []) c.new-premises.ensures)
