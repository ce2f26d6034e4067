use Rattle.std.proofs.Common.{refl}
use Rattle.pm_logic.specs.declared.formula.Formula.TheViews as view
use Rattle.pm_classes.proofs.Sizes.{depth_and, nodes_and}
use Rattle.pm_frame.proofs.Two.{and_first_done, and_second_done, and_both_done}
use Rattle.pm_frame.proofs.sides.conjoined.Goals as goal

pub returns-then-gone : goal.returns-then-gone
returns-then-gone c = and_first_done c.args.vars c.args.r.now c.args.a.now c.args.b.now (view.And c.args.a.now c.args.b.now) c.args.x.framed c.args.y.framed (record { rest = c.args.y.framed.rest; proof = c.in_ok-proof.proof }) c.args.x.gone c.args.y.gone (record { nodes = nodes_and c.args.a.now c.args.b.now; levels = depth_and c.args.a.now c.args.b.now }) c.requires.first c.requires.second c.if-gone.true refl c.in_ok-proof.ensures

pub returns-then-other_gone : goal.returns-then-other_gone
returns-then-other_gone c = and_second_done c.args.vars c.args.r.now c.args.a.now c.args.b.now (view.And c.args.a.now c.args.b.now) c.args.x.framed c.args.y.framed (record { rest = c.args.x.framed.rest; proof = c.in_ok-proof-2.proof }) c.args.x.gone c.args.y.gone (record { nodes = nodes_and c.args.a.now c.args.b.now; levels = depth_and c.args.a.now c.args.b.now }) c.requires.first c.requires.second c.if-gone.false c.if-other_gone.true refl c.in_ok-proof-2.ensures

pub returns : goal.returns
returns c = and_both_done c.args.vars c.args.r.now c.args.a.now c.args.b.now (view.And c.args.a.now c.args.b.now) c.args.x.framed c.args.y.framed (record { rest = c.in_ok-rest.rest; proof = c.in_ok-proof-3.proof }) c.args.x.gone c.args.y.gone (record { nodes = nodes_and c.args.a.now c.args.b.now; levels = depth_and c.args.a.now c.args.b.now }) c.requires.first c.requires.second c.if-gone.false c.if-other_gone.false c.in_ok-rest.ensures c.in_ok-proof-3.ensures
