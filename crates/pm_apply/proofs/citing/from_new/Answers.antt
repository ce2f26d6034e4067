use Rattle.std.proofs.Common.{◌≡◌, ◌∙◌, ap, length, arith}
use Rattle.pm_logic.specs.declared.formula.Formula.TheViews as view
use Rattle.pm_star.specs.Stars.{work_parts}
use Rattle.pm_action.proofs.Heights.{parts_are}
use Rattle.pm_apply.proofs.Citations.{sunk_meets, sunk_vars, from_new_done}
use Rattle.pm_apply.proofs.citing.from_new.Goals as goal

pub compose-requires-clause-meet : goal.compose-requires-clause-meet
compose-requires-clause-meet c =
    sunk_meets c.args.work.now c.args.new.now c.args.f.now c.in_ok-boxed.boxed _ c.in_ok-sunk.sunk c.in_ok-hole.hole c.requires.new (c.in_ok-boxed.ensures ∙ ap view.Pers c.in_ok-copy.ensures)
    (omega (arith, parts_are c.args.work.now, c.len.ensures, c.len-2.ensures, c.len-3.ensures, c.len-4.ensures)) c.in_ok-sunk.ensures c.in_ok-hole.ensures

pub returns : goal.returns
returns c =
    from_new_done c.args.work.now c.args.new.now c.args.f.now c.in_ok-boxed.boxed _ c.in_ok-sunk.sunk c.in_ok-hole.hole c.in_ok-proof.proof c.requires.new (c.in_ok-boxed.ensures ∙ ap view.Pers c.in_ok-copy.ensures)
    (omega (arith, parts_are c.args.work.now, c.len.ensures, c.len-2.ensures, c.len-3.ensures, c.len-4.ensures)) c.in_ok-sunk.ensures c.in_ok-hole.ensures c.in_ok-proof.ensures.proves
