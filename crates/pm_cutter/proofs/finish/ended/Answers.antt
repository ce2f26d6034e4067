use Rattle.pm_cutter.specs.Machine.{mode_of}
use Rattle.pm_cutter.proofs.Ending.{held_fits, ended_none, ended_on, ended_last}
use Rattle.pm_cutter.proofs.finish.ended.Goals as goal

pub left-requires-in-On : goal.left-requires-in-On
left-requires-in-On c = held_fits (mode_of c.args.mode) c.in-On.next c.args.at c.in-Some.b c.args.held c.as_slice-in-On.result.now c.requires.held c.in-On.ensures.value c.as_slice-in-On.ensures

pub returns-in-None : goal.returns-in-None
returns-in-None c = ended_none (mode_of c.args.mode) c.args.at c.args.held c.as_slice.result.now c.args.waiting _ c.in-None.is c.left.ensures c.as_slice.ensures

pub returns-in-On : goal.returns-in-On
returns-in-On c = ended_on (mode_of c.args.mode) c.in-On.next c.args.at c.in-Some.b c.args.held c.as_slice-in-On.result.now c.args.waiting _ c.in-Some.is c.in-On.ensures.value c.left-in-On.ensures c.as_slice-in-On.ensures

pub returns-in-Finished : goal.returns-in-Finished
returns-in-Finished c = ended_last (mode_of c.args.mode) c.args.at c.in-Some.b c.in-Finished.start c.in-Finished.end c.args.held c.args.waiting c.in-Some.is c.in-Finished.ensures.value
