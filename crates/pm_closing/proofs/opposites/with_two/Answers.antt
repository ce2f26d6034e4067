use Rattle.pm_closing.proofs.Opposed.{wants_second, wants_mid, fills_two}
use Rattle.pm_closing.proofs.opposites.with_two.Goals as goal

pub fill-requires : goal.fill-requires
fill-requires c = wants_second c.args.step c.args.a c.args.b c.requires

pub fill-requires-2 : goal.fill-requires-2
fill-requires-2 c = wants_mid c.args.step c.args.a c.args.b c.fill.result c.requires c.fill.ensures.tree

pub returns : goal.returns
returns c = fills_two c.args.step c.args.a c.args.b c.fill.result c.fill-2.result c.fill.ensures.proves c.fill-2.ensures.proves
